-- Which time of day it is at which moment, and its text (our profile; RFC 3339).
use Rattle.std.specs.Prelude.{◌≡◌, ℕ, ◌+◌, ◌-◌, ◌*◌, ◌/◌, min, nat_le, ◌&&◌, Bool, false, if◌then◌else◌, None, pos, List, ◌++◌}
use Rattle.jiff_core.specs.declared.civil.datetime.DateTime.{DateTime}
use Rattle.jiff_core.specs.DateTime.{civil_nanos}
use Rattle.jiff_fmt.specs.Text.{datetime_text, zulu_text}
use Rattle.nbt_log.specs.declared.dates.Dates.{Dates}

-- the second since 1970 in which a moment lies
abbrev pub second_at : Dates → (at : ℕ) → ℕ
second_at dates at = (dates.time + at - dates.moment) / 1000

-- so many milliseconds a reading may be from what is thought of the time of day
abbrev pub near : ℕ
near = 2000

-- the last second that has a text, of the year 9999
abbrev pub last_second : ℕ
last_second = 253402207200

-- the time of day at a moment is what is thought, or near it
abbrev pub is_near : Dates → (moment time : ℕ) → Bool
is_near dates moment time = nat_le (dates.time + moment) (time + dates.moment + near) && nat_le (time + dates.moment) (dates.time + moment + near)

-- what is thought after a reading of the time of day: the same where that is near, else the reading
abbrev pub followed : Dates → (moment time : ℕ) → Dates
followed dates moment time = if is_near dates moment time then dates else record { moment = moment; time = time }

-- The date and the time of a second since 1970 in UTC, as 2026-11-24T09:12:03Z; of one after the last, the last.
pub record IsTimeText (second : ℕ) (text : List ℕ) : Type 0 where
  pub shown : DateTime
  pub shown_is : civil_nanos shown ≡ pos (min second last_second * 1000000000)
  pub text_is : text ≡ datetime_text false 84 None shown ++ zulu_text false
