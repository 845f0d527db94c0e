-- Which lines are printed (our profile).
use Rattle.std.specs.Prelude.{◌≡◌, ℕ, Bool, List, [], Option, Some, None}
use Rattle.nbt_log.specs.Dates.{second_at}
use Rattle.nbt_log.specs.Kinds.{told_kind}
use Rattle.nbt_log.specs.Limiting.{LimitersValue, LimitsKind, limiters_at}
use Rattle.nbt_log.specs.Lines.{IsLine}
use Rattle.nbt_log.specs.Summary.{SumsUp}
use Rattle.nbt_log.specs.declared.dates.Dates.{Dates}
use Rattle.nbt_log.specs.declared.entry.Entry.{Entry}
use Rattle.nbt_log.specs.declared.entry.LineKind.{LineKind}
use Rattle.nbt_nbns.specs.Outboxes.{OutboxValue, new_outbox, one_dropped, Sends, SendsOrDrops}

-- whether broadcasts are printed, what is remembered of the lines of each kind, and what waits to be written
pub record LoggerValue : Type 0 where
  pub broadcasts : Bool
  pub limiters : LimitersValue
  pub outbox : OutboxValue

abbrev pub new_logger : (broadcasts : Bool) → (most : ℕ) → LoggerValue
new_logger broadcasts most = record { broadcasts = broadcasts; limiters = limiters_at most; outbox = new_outbox }

-- A turn in which nothing was done, and what has no kind, have no line; then those that were left out before are summed up. Every
-- other line is printed as the limit of its kind allows, with the count of those that were left out.
pub data Logs (broadcasts : Bool) (old : LimitersValue) (dates : Dates) (now : ℕ) : Option Entry → List ℕ → LimitersValue → Type 0 where
  nothing : (line : List ℕ) (new : LimitersValue) → SumsUp (second_at dates now) old now line new → Logs broadcasts old dates now None line new
  untold : (entry : Entry) (line : List ℕ) (new : LimitersValue) → told_kind broadcasts entry ≡ None → SumsUp (second_at dates now) old now line new → Logs broadcasts old dates now (Some entry) line new
  told : (entry : Entry) (kind : LineKind) (left_out : ℕ) (line : List ℕ) (new : LimitersValue) → told_kind broadcasts entry ≡ Some kind → LimitsKind old kind now (Some left_out) new
      → IsLine (second_at dates now) left_out entry line → Logs broadcasts old dates now (Some entry) line new
  left_out : (entry : Entry) (kind : LineKind) (new : LimitersValue) → told_kind broadcasts entry ≡ Some kind → LimitsKind old kind now None new → Logs broadcasts old dates now (Some entry) [] new

-- Memory was refused as a line was made, so it isn't known. The limit of its kind went on as for a line that is printed, and how many were
-- left out before it is lost with it. What the limits are after a summary that was refused isn't said.
pub data IsUnmade (broadcasts : Bool) (old : LimitersValue) (now : ℕ) : Option Entry → LimitersValue → Type 0 where
  no_summary : (new : LimitersValue) → IsUnmade broadcasts old now None new
  no_summary_beside : (entry : Entry) (new : LimitersValue) → told_kind broadcasts entry ≡ None → IsUnmade broadcasts old now (Some entry) new
  no_line : (entry : Entry) (kind : LineKind) (left_out : ℕ) (new : LimitersValue) → told_kind broadcasts entry ≡ Some kind → LimitsKind old kind now (Some left_out) new
      → IsUnmade broadcasts old now (Some entry) new

-- The line, if there is one, is handed to the writer behind what waits.
pub record Prints (old : LoggerValue) (dates : Dates) (now : ℕ) (entry : Option Entry) (old_text : Option (List ℕ)) (new : LoggerValue) (text : Option (List ℕ)) : Type 0 where
  pub line : List ℕ
  pub logs : Logs old.broadcasts old.limiters dates now entry line new.limiters
  pub sends : Sends old.outbox line old_text new.outbox text
  pub broadcasts_stay : new.broadcasts ≡ old.broadcasts

-- Where memory is refused as the line is made, it is dropped, and counted; what waits stays.
abbrev pub drops_one : LoggerValue → LimitersValue → LoggerValue
drops_one old limiters = record old { limiters = limiters; outbox = record old.outbox { dropped = one_dropped old.outbox.dropped } }

-- Where the log can't be written, or memory is refused, the line is handed to the writer all the same, or it is dropped, and counted.
pub data PrintsOrDrops (old : LoggerValue) (dates : Dates) (now : ℕ) (entry : Option Entry) (old_text : Option (List ℕ)) : (new : LoggerValue) → (text : Option (List ℕ)) → Type 0 where
  is_made : (line : List ℕ) (new : LoggerValue) (text : Option (List ℕ)) → Logs old.broadcasts old.limiters dates now entry line new.limiters → SendsOrDrops old.outbox line old_text new.outbox text
      → new.broadcasts ≡ old.broadcasts → PrintsOrDrops old dates now entry old_text new text
  is_unmade : (limiters : LimitersValue) → IsUnmade old.broadcasts old.limiters now entry limiters → PrintsOrDrops old dates now entry old_text (drops_one old limiters) old_text
