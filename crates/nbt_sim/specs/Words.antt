-- The words of a script (our profile).
use Rattle.std.specs.Prelude.{◌≡◌, ℕ, ◌≤◌, ◌<◌, ◌^◌, Bool, true, false, List, ◌++◌, codes}
use Rattle.std.specs.Fmt.{decimal}
use Rattle.nbt_name.specs.declared.addr.Kind.{Kind}
use Rattle.nbt_lease.specs.Config.{last_moment}
use Rattle.nbt_show.specs.Holders.{kind_word}
use Rattle.nbt_text.specs.Number.{SpellsNumber}
use Rattle.nbt_sim.specs.declared.verb.Verb.{Verb}
use Rattle.nbt_sim.specs.declared.verb.Verb.TheVariants.{Config, At, Advance, Start, Crash, Resume, Ask, Release, Resolve, Status, Poll, Deliver, Stranger, Beside, Holders, Kept, Timely}

-- ---- the words of a line

-- what a line begins with
abbrev pub verb_word : Verb → List ℕ
verb_word Config = codes "config"
verb_word At = codes "at"
verb_word Advance = codes "advance"
verb_word Start = codes "start"
verb_word Crash = codes "crash"
verb_word Resume = codes "resume"
verb_word Ask = codes "ask"
verb_word Release = codes "release"
verb_word Resolve = codes "resolve"
verb_word Status = codes "status"
verb_word Poll = codes "poll"
verb_word Deliver = codes "deliver"
verb_word Stranger = codes "stranger"
verb_word Beside = codes "beside"
verb_word Holders = codes "holders"
verb_word Kept = codes "kept"
verb_word Timely = codes "timely"

-- nodes are `n1` to `n8`
pub record SpellsNode (word : List ℕ) (number : ℕ) : Type 0 where
  pub some : 1 ≤ number
  pub few : number ≤ 8
  pub word_is : word ≡ codes "n" ++ decimal number

abbrev pub SpellsServer : List ℕ → Unit {0} → Type 0
SpellsServer word _ = word ≡ codes "s"

-- an end is the server, whose number is 0, or a node
pub data SpellsEnd : List ℕ → ℕ → Type 0 where
  the_server : SpellsEnd (codes "s") 0
  a_node : (word : List ℕ) (number : ℕ) → SpellsNode word number → SpellsEnd word number

abbrev pub SpellsKind : List ℕ → Kind → Type 0
SpellsKind word kind = word ≡ kind_word kind

-- seconds are a number of 32 bits
pub record SpellsSeconds (word : List ℕ) (seconds : ℕ) : Type 0 where
  pub number : SpellsNumber word seconds
  pub fits : seconds < 2 ^ 32

-- a moment is no later than the last one
pub record SpellsMoment (word : List ℕ) (moment : ℕ) : Type 0 where
  pub number : SpellsNumber word moment
  pub fits : moment ≤ last_moment

-- ---- the words of what is printed

abbrev pub kept_word : (kept : Bool) → List ℕ
kept_word true = codes "kept"
kept_word false = codes "broken"

abbrev pub timely_word : (timely : Bool) → List ℕ
timely_word true = codes "timely"
timely_word false = codes "untimely"
