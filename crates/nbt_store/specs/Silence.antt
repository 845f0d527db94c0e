-- By which clock a server goes on with what is kept, or why it is silent (our profile).
use Rattle.std.specs.Prelude.{◌≡◌, ◌≤◌, ℕ, ◌+◌, ◌-◌, ◌*◌, ◌&&◌, not, max, nat_eq, nat_le, Bool, Result, Ok, Err, if◌then◌else◌}
use Rattle.std.specs.Str.{bytes_eq}
use Rattle.nbt_lease.specs.Config.{ConfigValue, last_moment}
use Rattle.nbt_store.specs.declared.form.Form.{Form}
use Rattle.nbt_store.specs.declared.form.Form.TheVariants.{Two, Three}
use Rattle.nbt_store.specs.declared.header.Header.{Header}
use Rattle.nbt_store.specs.declared.silence.Onward.{Onward}
use Rattle.nbt_store.specs.declared.silence.Seen.{Seen}
use Rattle.nbt_store.specs.declared.silence.Silence.{Silence}
use Rattle.nbt_store.specs.declared.silence.Silence.TheVariants as why
use Rattle.nbt_store.specs.declared.times.Times.{Times}

-- so long a server may have served after the last time of its file
abbrev pub unseen : ℕ
unseen = 1000

-- clocks can show all times and a second more
abbrev pub can_be_told : Header → Times → Seen → Bool
can_be_told h t s = nat_le (t.last + unseen) last_moment && (nat_le h.ahead last_moment && nat_le (s.monotonic + unseen) last_moment)

-- The times are those of a server: it began no later than the last of them, the time of day was read no later, and clocks can show them.
abbrev pub has_sound_times : Header → Times → Seen → Bool
has_sound_times h t s = (nat_le h.start t.last && nat_le t.seen t.last) && can_be_told h t s

-- From one reading of both clocks to another they went on by the same, within 200 ms and a thousandth.
abbrev pub bears_out : (time day new_time new_day : ℕ) → Bool
bears_out time day new_time new_day =
    nat_le (1000 * new_day + 1001 * time) (1000 * day + 1001 * new_time + 200000) && nat_le (1000 * new_time + 1001 * day) (1000 * time + 1001 * new_day + 200000)

-- In the boot of the file the server's clock reads what the machine's does, so much ahead, where it isn't before the last time of the file
-- and the time of day bears it out.
abbrev pub is_same_clock : Header → Times → Seen → Bool
is_same_clock h t s = (bytes_eq h.boot s.boot.now && nat_le t.last (s.monotonic + h.ahead)) && (nat_le (s.monotonic + h.ahead) last_moment && bears_out t.seen t.day (s.monotonic + h.ahead) s.day)

-- How much time passed since the last time of the file, as the time of day shows it: that was read no later than so long ago.
abbrev pub passed_since : Times → Seen → ℕ
passed_since t s = (s.day + (s.monotonic - s.before)) - (t.day + (t.last - t.seen))

-- The same by the clock that shows the most: in the boot of the file the machine's clock shows it too.
abbrev pub passed_at_most : Header → Times → Seen → ℕ
passed_at_most h t s = if bytes_eq h.boot s.boot.now then max (s.monotonic + h.ahead - t.last) (passed_since t s) else passed_since t s

abbrev pub by_same_clock : Header → Times → Seen → Onward
by_same_clock h t s = record { shift = 0; ahead = h.ahead; reads = s.monotonic + h.ahead; serves = s.monotonic + h.ahead; passed = passed_at_most h t s }

-- Else the clock goes on from the last time of the file, and where the machine's is further, all times of the file count as so much later.
abbrev pub by_new_clock : Header → Times → Seen → Onward
by_new_clock h t s = record { shift = s.monotonic - t.last; ahead = t.last - s.monotonic; reads = max t.last s.monotonic; serves = max t.last s.monotonic + unseen; passed = passed_at_most h t s }

-- of the older form that isn't known: it has no times of changes
abbrev pub by_form : Form → Header → Times → Seen → Result Onward Silence
by_form Two h t s = Err why.Older
by_form Three h t s = Ok (by_new_clock h t s)

-- The same, unless the server is to be silent then.
abbrev pub by_other_clock : Form → Header → Times → Seen → (silent_after_boot : Bool) → Result Onward Silence
by_other_clock form h t s silent_after_boot =
    if silent_after_boot && not (bytes_eq h.boot s.boot.now) then Err why.OtherBoot
    else if silent_after_boot then Err why.Apart
    else by_form form h t s

-- By which clock a server goes on with what the header is of; or why it doesn't go on. The first reason counts.
abbrev pub going_on : Form → Header → Times → ConfigValue → Seen → (silent_after_boot : Bool) → Result Onward Silence
going_on form h t config s silent_after_boot =
    if not (nat_eq h.life config.life) then Err why.OtherLife
    else if not (nat_eq h.longest config.longest) then Err why.OtherLongest
    else if not (nat_le h.rows config.rows) then Err why.OtherRows
    else if not (has_sound_times h t s) then Err why.BadTimes
    else if is_same_clock h t s then Ok (by_same_clock h t s)
    else by_other_clock form h t s silent_after_boot

-- What holds of such a clock: it reads no less than the last time of the file, counted so much later, and serves no earlier than that; so
-- what was served until then is past. And it is the machine's, so much ahead.
pub record IsInTime (h : Header) (t : Times) (s : Seen) (o : Onward) : Type 0 where
  pub begun : h.start ≤ t.last
  pub later : t.last + o.shift ≤ o.reads
  pub serves : o.reads ≤ o.serves
  pub told : o.serves ≤ last_moment
  pub machine : o.reads ≡ s.monotonic + o.ahead
