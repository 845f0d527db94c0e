-- What a script prints: its lines, one after the other, each in the world that those before it made (our profile).
use Rattle.std.specs.Prelude.{◌≡◌, ℕ, ◌+◌, ◌-◌, ◌<◌, ◌≤◌, ◌↔◌, List, [], ◌∷◌, ◌++◌, length, slice_get, slice_index_or, replicate, Contains, Option, Some, None, Bool, true, false, codes}
use Rattle.std.specs.Fmt.{decimal}
use Rattle.arrayvec.specs.ArrayVec.{ArrayVec}
use Rattle.nbt_name.specs.declared.addr.Addr.{Addr}
use Rattle.nbt_name.specs.declared.addr.Kind.{Kind}
use Rattle.nbt_name.specs.Wire.{NameValue}
use Rattle.nbt_lease.specs.Config.{ConfigValue}
use Rattle.nbt_node.specs.Numbers.{ask_fault_number, ask_fault_word, release_fault_number, release_fault_word, lookup_fault_number, lookup_fault_word}
use Rattle.nbt_node.specs.declared.fault.AskFault.{AskFault}
use Rattle.nbt_node.specs.declared.fault.ReleaseFault.{ReleaseFault}
use Rattle.nbt_node.specs.declared.fault.LookupFault.{LookupFault}
use Rattle.nbt_text.specs.NameText.{PrintsName}
use Rattle.nbt_text.specs.Lines.{newline, verdict_line, IsPassedOver, words}
use Rattle.nbt_world.specs.World.{WorldValue, IsEnd, IsFresh}
use Rattle.nbt_world.specs.Step.{Step}
use Rattle.nbt_world.specs.Safety.{holding}
use Rattle.nbt_world.specs.declared.ends.Holder.{Holder}
use Rattle.nbt_world.specs.declared.event.Event.{Event}
use Rattle.nbt_world.specs.declared.event.Event.TheVariants.{Tick, Advance, Ask, Release, Resolve, NameStatus}
use Rattle.nbt_world.specs.declared.event.Outcome.{Outcome}
use Rattle.nbt_world.specs.declared.event.Outcome.TheVariants as o
use Rattle.nbt_sim.specs.declared.report.Report.{Report}
use Rattle.nbt_sim.specs.declared.report.Report.TheVariants as report
use Rattle.nbt_sim.specs.declared.script.Played.{Played}
use Rattle.nbt_sim.specs.declared.script.Played.TheVariants as played
use Rattle.nbt_sim.specs.declared.instruction.Instruction.{Instruction}
use Rattle.nbt_sim.specs.declared.instruction.Instruction.TheVariants as instruction
use Rattle.nbt_sim.specs.Line.{Says}
use Rattle.nbt_show.specs.Holders.{kind_word}
use Rattle.nbt_sim.specs.Words.{kept_word, timely_word}

-- ---- the world of a script

-- the server is at 127.0.0.1:137, and node I at 127.0.0.(I+1):137
abbrev pub place : (number : ℕ) → Addr
place number = record { ip = 0x7F000001 + number; port = 137 }

-- the server's address and those of the nodes
pub record ArePlaces (addrs : List Addr) (nodes : ℕ) : Type 0 where
  pub count : length addrs ≡ nodes + 1
  pub places : (number : ℕ) → number ≤ nodes → slice_get addrs number ≡ Some (place number)

-- A world has 1 to 8 nodes.
abbrev pub AreFew : (nodes : ℕ) → Type 0
AreFew nodes = (1 ≤ nodes) × (nodes ≤ 8)

-- There is one number for each end of the world.
abbrev pub AreForEnds : WorldValue → (moves : List ℕ) → Type 0
AreForEnds world moves = (number : ℕ) → (number < length moves) ↔ IsEnd world.ends number

-- Which instruction can be done: `config` where there is no world, and each other one in a world; the true clock doesn't
-- go back, and the clocks go on by one number for each end.
abbrev pub Fits : Option WorldValue → Instruction → Type 0
Fits None (instruction.Config config nodes) = AreFew nodes
Fits None _ = ⊥
Fits (Some world) (instruction.Config config nodes) = ⊥
Fits (Some world) (instruction.At moment) = world.now.clock ≤ moment
Fits (Some world) (instruction.Advance ms moves) = AreForEnds world moves.items
Fits (Some world) (instruction.Happens event) = Unit {0}
Fits (Some world) (instruction.Holders name) = Unit {0}
Fits (Some world) instruction.Kept = Unit {0}
Fits (Some world) instruction.Timely = Unit {0}

-- ---- what is printed

-- the fault with which a call of a node is refused: its number, and its word
pub data NamesRefusal : Event → (number : ℕ) → List ℕ → Type 0 where
  of_ask : (node : ℕ) (name : NameValue) (kind : Kind) (ttl : ℕ) (fault : AskFault) → NamesRefusal (Ask node name kind ttl) (ask_fault_number fault) (ask_fault_word fault)
  of_release : (node : ℕ) (name : NameValue) (fault : ReleaseFault) → NamesRefusal (Release node name) (release_fault_number fault) (release_fault_word fault)
  of_resolve : (node : ℕ) (name : NameValue) (fault : LookupFault) → NamesRefusal (Resolve node name) (lookup_fault_number fault) (lookup_fault_word fault)
  of_status : (node : ℕ) (to : Addr) (name : NameValue) (fault : LookupFault) → NamesRefusal (NameStatus node to name) (lookup_fault_number fault) (lookup_fault_word fault)

-- the line of what came of an event, without its end
pub data PrintsOutcome (event : Event) : Outcome → List ℕ → Type 0 where
  done : PrintsOutcome event o.Done (codes "ok")
  sent : (k : ℕ) → PrintsOutcome event (o.Sent k) (codes "sent " ++ decimal k)
  refused : (number : ℕ) (word : List ℕ) → NamesRefusal event number word → PrintsOutcome event (o.Refused number) (codes "refused " ++ decimal number ++ codes " " ++ word)
  nothing : PrintsOutcome event o.Nothing (codes "none")
  down : PrintsOutcome event o.Down (codes "down")
  nobody : PrintsOutcome event o.Nobody (codes "nobody")
  lost : PrintsOutcome event o.Lost (codes "lost")
  taken : PrintsOutcome event o.Taken (codes "taken")

-- the nodes that hold a name, with their kinds, in order of their numbers
pub record AreHolders (world : WorldValue) (name : NameValue) (holders : List Holder) : Type 0 where
  pub exactly : (number : ℕ) (kind : Kind) → Contains holders (record { node = number; kind = kind }) ↔ (holding world number name ≡ Some kind)
  pub in_order : (i j : ℕ) (d : Holder) → i < j → j < length holders → (slice_index_or holders i d).node < (slice_index_or holders j d).node

abbrev pub holder_text : Holder → List ℕ
holder_text holder = codes "n" ++ decimal holder.node ++ codes " " ++ kind_word holder.kind

abbrev pub other_holders_text : List Holder → List ℕ
other_holders_text [] = []
other_holders_text (holder ∷ others) = codes ", " ++ holder_text holder ++ other_holders_text others

abbrev pub holders_text : List Holder → List ℕ
holders_text [] = codes "none"
holders_text (holder ∷ others) = holder_text holder ++ other_holders_text others

-- the line of who holds a name
abbrev pub holders_line : (name : List ℕ) → List Holder → List ℕ
holders_line name holders = codes "holders " ++ name ++ codes ": " ++ holders_text holders ++ newline

-- What an instruction prints of which this came.
pub data Prints : Instruction → Report → List ℕ → Type 0 where
  prints_nothing : (i : Instruction) → Prints i report.Quiet []
  prints_outcome : (event : Event) (outcome : Outcome) (text : List ℕ) → PrintsOutcome event outcome text → Prints (instruction.Happens event) (report.Event outcome) (text ++ newline)
  prints_holders : (name : NameValue) (printed : List ℕ) (holders : ArrayVec Holder) → PrintsName name printed → Prints (instruction.Holders name) (report.Holders holders) (holders_line printed holders.items)
  prints_kept : (i : Instruction) (kept : Bool) → Prints i (report.Kept kept) (kept_word kept ++ newline)
  prints_timely : (i : Instruction) (timely : Bool) → Prints i (report.Timely timely) (timely_word timely ++ newline)

-- ---- what is done

-- the nine entries of an event, of which those of ends that the world hasn't are 0
abbrev pub entries : (moves : List ℕ) → List ℕ
entries moves = moves ++ replicate (9 - length moves) 0

-- What an instruction makes of a script's world, and what comes of it.
pub data Does : Option WorldValue → Instruction → Option WorldValue → Report → Type 0 where
  begins : (config : ConfigValue) (nodes : ℕ) (addrs : List Addr) (world : WorldValue) → AreFew nodes → ArePlaces addrs nodes → IsFresh config addrs world
      → Does None (instruction.Config config nodes) (Some world) report.Quiet
  goes_on : (moment : ℕ) (world next : WorldValue) → world.now.clock ≤ moment → Step world (Tick (moment - world.now.clock)) o.Done next → next.now.clock ≡ moment
      → Does (Some world) (instruction.At moment) (Some next) report.Quiet
  drifts : (ms : ℕ) (moves : ArrayVec ℕ) (world next : WorldValue) → AreForEnds world moves.items → Step world (Advance ms (entries moves.items)) o.Done next
      → Does (Some world) (instruction.Advance ms moves) (Some next) report.Quiet
  happens : (event : Event) (outcome : Outcome) (world next : WorldValue) → Step world event outcome next → Does (Some world) (instruction.Happens event) (Some next) (report.Event outcome)
  looks_up : (name : NameValue) (holders : ArrayVec Holder) (world : WorldValue) → AreHolders world name holders.items → Does (Some world) (instruction.Holders name) (Some world) (report.Holders holders)
  looks_back : (world : WorldValue) → Does (Some world) instruction.Kept (Some world) (report.Kept world.kept)
  tells_timely : (world : WorldValue) → Does (Some world) instruction.Timely (Some world) (report.Timely world.timely)

-- The words say nothing, or what can't be done in this world.
pub data IsUnreadable (world : Option WorldValue) (words : List (List ℕ)) : Type 0 where
  says_nothing : ((i : Instruction) → ¬ Says words i) → IsUnreadable world words
  says_what_does_not_fit : (i : Instruction) → Says words i → ¬ Fits world i → IsUnreadable world words

-- What came of a line, what it makes of a script's world, and what it prints.
pub data PlaysLine (world : Option WorldValue) (line : List ℕ) : Played → Option WorldValue → List ℕ → Type 0 where
  is_blank : IsPassedOver line → PlaysLine world line played.Blank world []
  is_done : (i : Instruction) (came : Report) (next : Option WorldValue) (text : List ℕ) → ¬ (IsPassedOver line) → Says (words line) i → Does world i next came → Prints i came text
      → PlaysLine world line (played.Done i came) next text
  is_unreadable : (next : Option WorldValue) → ¬ (IsPassedOver line) → IsUnreadable world (words line) → PlaysLine world line played.Unreadable next []

-- What is printed of lines, of which the first has this number, and whether each could be read: the first one that
-- couldn't is named by its number, and ends the script.
pub data Plays : (number : ℕ) → Option WorldValue → List (List ℕ) → Bool → List ℕ → Type 0 where
  ends : (number : ℕ) (world : Option WorldValue) → Plays number world [] true []
  passes_over : (number : ℕ) (world : Option WorldValue) (line : List ℕ) (rest : List (List ℕ)) (well : Bool) (text : List ℕ) → IsPassedOver line
      → Plays (number + 1) world rest well text → Plays number world (line ∷ rest) well text
  does : (number : ℕ) (world next : Option WorldValue) (line : List ℕ) (rest : List (List ℕ)) (i : Instruction) (came : Report) (well : Bool) (text more : List ℕ) → ¬ (IsPassedOver line) → Says (words line) i
      → Does world i next came → Prints i came text → Plays (number + 1) next rest well more → Plays number world (line ∷ rest) well (text ++ more)
  stops : (number : ℕ) (world : Option WorldValue) (line : List ℕ) (rest : List (List ℕ)) → ¬ (IsPassedOver line) → IsUnreadable world (words line)
      → Plays number world (line ∷ rest) false (verdict_line number (codes "unreadable"))
