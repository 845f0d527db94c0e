-- Lines that wait for the reader of a log (our profile).
use Rattle.std.specs.Prelude.{◌≡◌, ◌≢◌, ℕ, ◌+◌, ◌-◌, ◌^◌, nat_eq, min, if◌then◌else◌, List, [], ◌++◌, Option, codes}
use Rattle.std.specs.Fmt.{decimal}
use Rattle.std.specs.Io.KnownBytes.{Appends, append_known}
use Rattle.nbt_text.specs.Lines.{newline}

-- what the writer didn't take yet, and how many lines were dropped meanwhile
pub record OutboxValue : Type 0 where
  pub waiting : List ℕ
  pub dropped : ℕ

abbrev pub new_outbox : OutboxValue
new_outbox = record { waiting = []; dropped = 0 }

-- how many lines were dropped, if some were
abbrev pub note : (dropped : ℕ) → List ℕ
note dropped = if nat_eq dropped 0 then [] else codes ".. " ++ decimal dropped ++ codes " lines dropped: the reader of the log was slow, or it could not be written" ++ newline

-- one more line was dropped; they are counted up to 2^64 - 1
abbrev pub one_dropped : (dropped : ℕ) → ℕ
one_dropped dropped = min (dropped + 1) (2 ^ 64 - 1)

-- A line is added, behind the note of those that were dropped before; while something waits it is dropped, and counted. Where there is no
-- line, nothing is added.
pub data Adds (old : OutboxValue) (line : List ℕ) : (added : List ℕ) → OutboxValue → Type 0 where
  is_added : (rest : List ℕ) → line ≢ [] → Adds old line (note old.dropped ++ line) (record { waiting = rest; dropped = 0 })
  is_none : (rest : List ℕ) → line ≡ [] → Adds old line [] (record { waiting = rest; dropped = old.dropped })
  is_dropped : (rest : List ℕ) → line ≢ [] → rest ≢ [] → Adds old line [] (record { waiting = rest; dropped = one_dropped old.dropped })

-- Where the writer failed, or memory was refused, a line is added all the same; or it is dropped, and counted, though nothing may wait.
pub data AddsOrDrops (old : OutboxValue) (line : List ℕ) : (added : List ℕ) → OutboxValue → Type 0 where
  adds : (added : List ℕ) (new : OutboxValue) → Adds old line added new → AddsOrDrops old line added new
  drops : (rest : List ℕ) → line ≢ [] → AddsOrDrops old line [] (record { waiting = rest; dropped = one_dropped old.dropped })

-- What was written and what waits, taken together, grow by what is added: no octet is lost, doubled or moved.
abbrev pub Sends : (old : OutboxValue) → (line : List ℕ) → (old_text : Option (List ℕ)) → OutboxValue → (text : Option (List ℕ)) → Type 0
Sends old line old_text new text = (added : List ℕ) × Adds old line added new × Appends (append_known old_text old.waiting) (append_known text new.waiting) added

-- So it is too where the writer failed, or memory was refused.
abbrev pub SendsOrDrops : (old : OutboxValue) → (line : List ℕ) → (old_text : Option (List ℕ)) → OutboxValue → (text : Option (List ℕ)) → Type 0
SendsOrDrops old line old_text new text = (added : List ℕ) × AddsOrDrops old line added new × Appends (append_known old_text old.waiting) (append_known text new.waiting) added
