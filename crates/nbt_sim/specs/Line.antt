-- What a line of a script says (our profile).
use Rattle.std.specs.Prelude.{◌≡◌, ℕ, List, ◌∷◌}
use Rattle.std.specs.Global.{Vec}
use Rattle.nbt_name.specs.declared.addr.Addr.{Addr}
use Rattle.nbt_text.specs.Address.{SpellsAddress}
use Rattle.nbt_text.specs.NameText.{SpellsName}
use Rattle.nbt_text.specs.Number.{SpellsNumber}
use Rattle.nbt_text.specs.Lines.{SpellsOctets, IsPassedOver, words as words_of}
use Rattle.nbt_world.specs.declared.event.Event.TheVariants as event
use Rattle.nbt_sim.specs.declared.instruction.Instruction.{Instruction}
use Rattle.nbt_sim.specs.declared.instruction.Line.{Line}
use Rattle.nbt_sim.specs.declared.instruction.Line.TheVariants as line
use Rattle.nbt_sim.specs.declared.instruction.Instruction.TheVariants as instruction
use Rattle.nbt_sim.specs.declared.verb.Verb.{Verb}
use Rattle.nbt_sim.specs.declared.verb.Verb.TheVariants.{Config, At, Advance, Start, Crash, Resume, Ask, Release, Resolve, Status, Poll, Deliver, Stranger, Beside, Holders, Kept, Timely}
use Rattle.nbt_sim.specs.Arguments.{NoMore, Then, SpellsWorld, SpellsMoves, first, second, third, fourth}
use Rattle.nbt_sim.specs.Words.{verb_word, SpellsNode, SpellsServer, SpellsEnd, SpellsKind, SpellsSeconds, SpellsMoment}

-- The words spell values, of which an instruction is made.
pub record Makes {A : Type 0} (Spell : List (List ℕ) → A → Type 0) (make : A → Instruction) (words : List (List ℕ)) (i : Instruction) : Type 0 where
  pub values : A
  pub spelled : Spell words values
  pub instruction_is : i ≡ make values

-- the octets of a datagram
abbrev pub SpellsDatagram : List ℕ → Vec ℕ → Type 0
SpellsDatagram word octets = SpellsOctets word octets.items

-- ADDRESS E HEX: where a datagram comes from, the end that it is for, and its octets
abbrev pub SpellsComing : List (List ℕ) → Addr × (ℕ × (Vec ℕ × Unit {0})) → Type 0
SpellsComing = Then SpellsAddress (Then SpellsEnd (Then SpellsDatagram NoMore))

-- What the words after a verb say, in their order: `config LIFE LONGEST ROWS NODES`, `at MS`, `advance MS S N1 ..`, where
-- MS is of the true clock, S of the server's, and the others are of the nodes', `start E`, `crash E`, `resume s`,
-- `ask NODE NAME KIND TTL`, `release NODE NAME`, `resolve NODE NAME`, `status NODE ADDRESS NAME`, `poll NODE`,
-- `deliver K`, `stranger ADDRESS E HEX`, `beside ADDRESS E HEX`, `holders NAME`, `kept`, `timely`.
abbrev pub SaysOf : Verb → List (List ℕ) → Instruction → Type 0
SaysOf Config = Makes SpellsWorld (λ v. instruction.Config v.0 v.1)
SaysOf At = Makes (Then SpellsMoment NoMore) (λ v. instruction.At (first v))
SaysOf Advance = Makes (Then SpellsNumber SpellsMoves) (λ v. instruction.Advance v.0 v.1)
SaysOf Start = Makes (Then SpellsEnd NoMore) (λ v. instruction.Happens (event.Start (first v)))
SaysOf Crash = Makes (Then SpellsEnd NoMore) (λ v. instruction.Happens (event.Crash (first v)))
SaysOf Resume = Makes (Then SpellsServer NoMore) (λ v. instruction.Happens event.Resume)
SaysOf Ask = Makes (Then SpellsNode (Then SpellsName (Then SpellsKind (Then SpellsSeconds NoMore)))) (λ v. instruction.Happens (event.Ask (first v) (second v) (third v) (fourth v)))
SaysOf Release = Makes (Then SpellsNode (Then SpellsName NoMore)) (λ v. instruction.Happens (event.Release (first v) (second v)))
SaysOf Resolve = Makes (Then SpellsNode (Then SpellsName NoMore)) (λ v. instruction.Happens (event.Resolve (first v) (second v)))
SaysOf Status = Makes (Then SpellsNode (Then SpellsAddress (Then SpellsName NoMore))) (λ v. instruction.Happens (event.NameStatus (first v) (second v) (third v)))
SaysOf Poll = Makes (Then SpellsNode NoMore) (λ v. instruction.Happens (event.Poll (first v)))
SaysOf Deliver = Makes (Then SpellsNumber NoMore) (λ v. instruction.Happens (event.Deliver (first v)))
SaysOf Stranger = Makes SpellsComing (λ v. instruction.Happens (event.Stranger (first v) (second v) (third v)))
SaysOf Beside = Makes SpellsComing (λ v. instruction.Happens (event.Beside (first v) (second v) (third v)))
SaysOf Holders = Makes (Then SpellsName NoMore) (λ v. instruction.Holders (first v))
SaysOf Kept = Makes NoMore (λ v. instruction.Kept)
SaysOf Timely = Makes NoMore (λ v. instruction.Timely)

-- What the words of a line say.
pub data Says : List (List ℕ) → Instruction → Type 0 where
  says : (verb : Verb) (rest : List (List ℕ)) (i : Instruction) → SaysOf verb rest i → Says (verb_word verb ∷ rest) i

-- What stands in a line.
abbrev pub LineIs : List ℕ → Line → Type 0
LineIs text line.Blank = IsPassedOver text
LineIs text (line.Says i) = (¬ IsPassedOver text) × Says (words_of text) i
LineIs text line.Unreadable = (¬ IsPassedOver text) × ((i : Instruction) → ¬ Says (words_of text) i)
