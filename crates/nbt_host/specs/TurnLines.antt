-- What a host prints of a turn (our profile).
use Rattle.std.specs.Prelude.{◌≡◌, ℕ, Bool, true, false, nat_eq, is_some, ◌||◌, List, [], ◌∷◌, ◌++◌, Option, Some, None, codes}
use Rattle.std.specs.Bool.{then_some}
use Rattle.std.specs.Fmt.{decimal}
use Rattle.std.specs.List.{list_any}
use Rattle.nbt_name.specs.Wire.{NameValue}
use Rattle.nbt_name.specs.declared.addr.Addr.{Addr}
use Rattle.nbt_text.specs.Address.{address_text}
use Rattle.nbt_text.specs.Lines.{newline}
use Rattle.nbt_host.specs.declared.asked.Asked.{Asked}
use Rattle.nbt_host.specs.declared.goal.Goal.{Goal}
use Rattle.nbt_host.specs.declared.goal.Refusal.{Refusal}
use Rattle.nbt_host.specs.declared.news.News.{News}
use Rattle.nbt_host.specs.declared.news.News.TheVariants as n
use Rattle.nbt_log.specs.Dates.{IsTimeText}
use Rattle.nbt_host.specs.Events.{IsLine}
use Rattle.nbt_host.specs.declared.event.Event.{Event}
use Rattle.nbt_host.specs.declared.event.Event.TheVariants as e

-- that a hold lapsed
abbrev pub lapse_of : Bool → Option Event
lapse_of lapsed = then_some lapsed e.Lapsed

-- What came; a renewal with a log alone. What the server says of a name that is given back is told at the end.
abbrev pub news_of : (log : Bool) → Option News → Option Event
news_of log None = None
news_of log (Some (n.Granted seconds)) = Some (e.Granted seconds)
news_of log (Some (n.Untimed seconds)) = Some (e.Untimed seconds)
news_of log (Some (n.Brief seconds)) = Some (e.Brief seconds)
news_of log (Some (n.Renewed seconds)) = then_some log (e.Renewed seconds)
news_of log (Some n.Doubted) = Some e.Doubted
news_of log (Some (n.Refused rcode)) = Some (e.Refused rcode)
news_of log (Some n.Lost) = Some e.Lost
news_of log (Some (n.Freed rcode)) = None

-- after the first refusal of a row, that the name is asked for again
abbrev pub again_of : Option News → Option Refusal → Option Event
again_of (Some (n.Refused rcode)) (Some last) = then_some (nat_eq last.times 1) e.AsksAgain
again_of news refusal = None

abbrev pub IsLineIf : (second : ℕ) → NameValue → Option Event → List ℕ → Type 0
IsLineIf second name None line = line ≡ []
IsLineIf second name (Some event) line = IsLine second name event line

-- The lines of a name: that its hold lapsed, what came, and that it is asked for again.
pub record TellsGoal (second : ℕ) (log : Bool) (goal : Goal) (text : List ℕ) : Type 0 where
  pub lapse : List ℕ
  pub news : List ℕ
  pub again : List ℕ
  pub lapse_is : IsLineIf second goal.want.name (lapse_of goal.lapsed) lapse
  pub news_is : IsLineIf second goal.want.name (news_of log goal.news) news
  pub again_is : IsLineIf second goal.want.name (again_of goal.news goal.refusal) again
  pub text_is : text ≡ lapse ++ news ++ again

-- The lines of each name, in the list's order.
pub data TellsAll {A : Type 0} (tells : A → List ℕ → Type 0) : List A → List ℕ → Type 0 where
  of_none : TellsAll tells [] []
  of_next : (names : List A) (name : A) (text more : List ℕ) → TellsAll tells names text → tells name more → TellsAll tells (names ++ name ∷ []) (text ++ more)

-- that the machine slept
abbrev pub IsSleepLine : (second : ℕ) → (slept : Bool) → List ℕ → Type 0
IsSleepLine second false line = line ≡ []
IsSleepLine second true line = (time : List ℕ) × IsTimeText second time × (line ≡ time ++ codes " slept, or its clock was set: asks anew" ++ newline)

-- that no reply has come of the server
abbrev pub IsSilenceLine : (second : ℕ) → (server : Addr) → (silent : Bool) → List ℕ → Type 0
IsSilenceLine second server false line = line ≡ []
IsSilenceLine second server true line = (time : List ℕ) × IsTimeText second time × (line ≡ time ++ codes " no reply yet from " ++ address_text server ++ newline)

abbrev pub tells_silence : Goal → Bool
tells_silence goal = goal.silent

-- what is printed of a turn
pub record TellsTurn (second : ℕ) (log : Bool) (server : Addr) (slept : Bool) (goals : List Goal) (text : List ℕ) : Type 0 where
  pub sleep : List ℕ
  pub silence : List ℕ
  pub names : List ℕ
  pub sleep_is : IsSleepLine second slept sleep
  pub silence_is : IsSilenceLine second server (list_any tells_silence goals) silence
  pub names_are : TellsAll (TellsGoal second log) goals names
  pub text_is : text ≡ sleep ++ silence ++ names

-- something is printed of a name, and of a turn
abbrev pub is_told : (log : Bool) → Goal → Bool
is_told log goal = goal.lapsed || is_some (news_of log goal.news)

abbrev pub has_lines : (log slept : Bool) → List Goal → Bool
has_lines log slept goals = slept || (list_any tells_silence goals || list_any (is_told log) goals)

-- for how long a server was silent
abbrev pub span_text : (seconds : ℕ) → List ℕ
span_text seconds = codes " for " ++ decimal seconds ++ codes " s: goes on with "

-- that a server was silent for so many seconds, and who is asked from then on
abbrev pub IsGoingOnLine : (second seconds : ℕ) → (server next : Addr) → List ℕ → Type 0
IsGoingOnLine second seconds server next line = (time : List ℕ) × IsTimeText second time
    × (line ≡ time ++ codes " no reply from " ++ address_text server ++ span_text seconds ++ address_text next ++ newline)

-- the same, if another server is asked
abbrev pub IsChangeLine : (second seconds : ℕ) → (server : Addr) → Option Asked → List ℕ → Type 0
IsChangeLine second seconds server None line = line ≡ []
IsChangeLine second seconds server (Some next) line = IsGoingOnLine second seconds server next.server line
