-- The line that tells how many lines of a kind were left out, where no other line of that kind follows (our profile).
use Rattle.std.specs.Prelude.{◌≡◌, ℕ, ◌+◌, nat_lt, nat_le, ◌&&◌, ◌||◌, Bool, if◌then◌else◌, List, [], ◌∷◌, ◌++◌, length, slice_index, Option, Some, None, codes}
use Rattle.std.specs.Fmt.{decimal}
use Rattle.nbt_lease.specs.Config.{milliseconds}
use Rattle.nbt_text.specs.Lines.{newline}
use Rattle.nbt_log.specs.Dates.{IsTimeText}
use Rattle.nbt_log.specs.Limiting.{LimiterValue, LimitersValue, limiter_of, LimitsKind}
use Rattle.nbt_log.specs.declared.entry.LineKind.{LineKind}
use Rattle.nbt_log.specs.declared.entry.LineKind.TheVariants as kind

-- A kind is due where lines of it were left out, and one may be printed.
abbrev pub is_due : LimiterValue → (now : ℕ) → Bool
is_due one now = nat_lt 0 one.left_out && nat_lt 0 one.most && (nat_lt (length one.told) one.most || nat_le (slice_index one.told 0 + milliseconds 1) now)

-- the kinds, in their order
abbrev pub kinds : List LineKind
kinds = kind.Granted ∷ kind.Renewed ∷ kind.Refused ∷ kind.Released ∷ kind.NotReleased ∷ kind.Unanswered ∷ kind.Foreign ∷ kind.Malformed ∷ kind.Broadcast ∷ []

abbrev pub first_due : LimitersValue → (now : ℕ) → List LineKind → Option LineKind
first_due all now [] = None
first_due all now (of ∷ more) = if is_due (limiter_of all of) now then Some of else first_due all now more

-- what lines of a kind say that was done
abbrev pub verb_of : LineKind → List ℕ
verb_of kind.Granted = codes "granted"
verb_of kind.Renewed = codes "renewed"
verb_of kind.Refused = codes "refused"
verb_of kind.Released = codes "released"
verb_of kind.NotReleased = codes "release refused"
verb_of kind.Unanswered = codes "unanswered"
verb_of kind.Foreign = codes "foreign"
verb_of kind.Malformed = codes "malformed"
verb_of kind.Broadcast = codes "broadcast"

-- how many lines of a kind were left out, as ` .. 1200 more refused`
abbrev pub more_text : LineKind → (left_out : ℕ) → List ℕ
more_text of left_out = codes " .. " ++ decimal left_out ++ codes " more " ++ verb_of of ++ newline

abbrev pub IsSummary : (second : ℕ) → LineKind → (left_out : ℕ) → List ℕ → Type 0
IsSummary second of left_out line = (time : List ℕ) × IsTimeText second time × (line ≡ time ++ more_text of left_out)

-- What is printed where there is no other line: the summary of the first kind that is due. It is a line of that kind.
pub data SumsUp (second : ℕ) (old : LimitersValue) (now : ℕ) : List ℕ → LimitersValue → Type 0 where
  none_due : first_due old now kinds ≡ None → SumsUp second old now [] old
  one_due : (of : LineKind) (left_out : ℕ) (line : List ℕ) (new : LimitersValue) → first_due old now kinds ≡ Some of → LimitsKind old of now (Some left_out) new
      → IsSummary second of left_out line → SumsUp second old now line new
