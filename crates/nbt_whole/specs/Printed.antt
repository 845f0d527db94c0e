-- What the log of a name server has after some events (our profile).
use Rattle.std.specs.Prelude.{◌≡◌, ◌≢◌, ℕ, ◌+◌, ◌-◌, ◌^◌, ◌≤◌, min, Bool, List, [], ◌∷◌, ◌++◌, Option, Some, None}
use Rattle.std.specs.Io.KnownBytes.{Appends, append_known}
use Rattle.nbt_port.specs.PortCalls.{Chain}
use Rattle.nbt_log.specs.Limiting.{LimitersValue}
use Rattle.nbt_log.specs.declared.dates.Dates.{Dates}
use Rattle.nbt_log.specs.declared.entry.Entry.{Entry}
use Rattle.nbt_nbns.specs.Logging.{LoggerValue, Logs, IsUnmade}
use Rattle.nbt_nbns.specs.Outboxes.{note, one_dropped}
use Rattle.nbt_whole.specs.Watched.{Watched, Event, acted, was_shown, were_fixed, Happens}

-- ---- the lines

-- A showing has a line, which may be empty: that of its entry, by the dates then, as the limits of the log's kinds of lines are by then. Where memory
-- was refused as the line was made, it isn't known (`None`).
abbrev pub IsLineOf : (broadcasts : Bool) → (dates : Dates) → (now : ℕ) → Option Entry → (old : LimitersValue) → (line : Option (List ℕ)) → (new : LimitersValue) → Type 0
IsLineOf broadcasts dates now entry old None new = IsUnmade broadcasts old now entry new
IsLineOf broadcasts dates now entry old (Some line) new = Logs broadcasts old dates now entry line new

-- one for each showing, in their order
abbrev pub AreLines : (broadcasts : Bool) → (first : Watched) → (events : List Event) → (last : Watched) → Chain Happens first events last → (old : LimitersValue) → List (Option (List ℕ)) → (new : LimitersValue) → Type 0
AreLines broadcasts first [] last chain old lines new = (lines ≡ []) × (new ≡ old)
AreLines broadcasts first (acted entry ∷ events) last chain old lines new = AreLines broadcasts chain.0 events last chain.2 old lines new
AreLines broadcasts first (was_shown shown ∷ events) last chain old lines new =
    (line : Option (List ℕ)) × (others : List (Option (List ℕ))) × (mid : LimitersValue) × (lines ≡ line ∷ others) × IsLineOf broadcasts chain.0.journal.dates shown.at shown.entry old line mid × AreLines broadcasts chain.0 events last chain.2 mid others new
AreLines broadcasts first (were_fixed capitals ∷ events) last chain old lines new = AreLines broadcasts chain.0 events last chain.2 old lines new

-- What a log has of these lines, in their order: each is printed, behind a note of how many were dropped since the last one that was, or it is dropped, and
-- counted. One that isn't known is dropped, and of an empty one there is nothing. `before` were dropped before them without a note, `still` are in the end, and
-- `dropped` of these lines are dropped.
pub data IsLog : (before : ℕ) → List (Option (List ℕ)) → (text : List ℕ) → (still dropped : ℕ) → Type 0 where
  ends : (before : ℕ) → IsLog before [] [] before 0
  is_empty : (before : ℕ) (others : List (Option (List ℕ))) (text : List ℕ) (still dropped : ℕ) → IsLog before others text still dropped → IsLog before (Some [] ∷ others) text still dropped
  is_printed : (before : ℕ) (line : List ℕ) (others : List (Option (List ℕ))) (text : List ℕ) (still dropped : ℕ) → line ≢ [] → IsLog 0 others text still dropped
      → IsLog before (Some line ∷ others) ((note before ++ line) ++ text) still dropped
  is_dropped : (before : ℕ) (line : Option (List ℕ)) (others : List (Option (List ℕ))) (text : List ℕ) (still dropped : ℕ) → line ≢ Some [] → IsLog (one_dropped before) others text still dropped
      → IsLog before (line ∷ others) text still (dropped + 1)

-- ---- the law

-- The log after some events: what was written of it and what waits, taken together, grew by what a log has of their lines, and those that were dropped are counted.
pub record Prints (first : Watched) (events : List Event) (last : Watched) (chain : Chain Happens first events last) (old : LoggerValue) : Type 0 where
  pub new : LoggerValue
  pub lines : List (Option (List ℕ))
  pub text : List ℕ
  pub dropped : ℕ
  pub is_there : last.journal.log ≡ Some new
  pub are_lines : AreLines old.broadcasts first events last chain old.limiters lines new.limiters
  pub is_log : IsLog old.outbox.dropped lines text new.outbox.dropped dropped
  pub grows : Appends (append_known first.text old.outbox.waiting) (append_known last.text new.outbox.waiting) text
  pub counted : (count : ℕ) → first.journal.tally.lines_dropped ≡ min count (2 ^ 64 - 1) → old.outbox.dropped ≤ first.journal.tally.lines_dropped → last.journal.tally.lines_dropped ≡ min (count + dropped) (2 ^ 64 - 1)

-- So it is after any events, whether memory sufficed, and whether the log could be written, or not.
abbrev pub EachLineIsPrintedOrCounted : Type 0
EachLineIsPrintedOrCounted = (first last : Watched) (events : List Event) (chain : Chain Happens first events last) → (old : LoggerValue) → first.journal.log ≡ Some old → Prints first events last chain old
