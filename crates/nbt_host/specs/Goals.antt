-- What a host keeps of each name that it wants, and what it tells of it (our profile).
use Rattle.std.specs.Prelude.{ℕ, ◌+◌, ◌-◌, ◌*◌, ◌^◌, Bool, true, false, ◌&&◌, ◌||◌, not, nat_eq, nat_le, nat_lt, is_some, min, if◌then◌else◌, Option, Some, None}
use Rattle.std.specs.Bool.{then_some}
use Rattle.nbt_lease.specs.Config.{ConfigValue, granted, milliseconds}
use Rattle.nbt_lease.specs.Drift.{hold, quiet}
use Rattle.nbt_name.specs.Wire.{same_name}
use Rattle.nbt_node.specs.Node.{NodeValue, holds}
use Rattle.nbt_node.specs.Standing.{standing}
use Rattle.nbt_node.specs.Transaction.{retry_timeout}
use Rattle.nbt_node.specs.declared.standing.Standing.{Standing}
use Rattle.nbt_node.specs.declared.standing.Standing.TheVariants.{Asking}
use Rattle.nbt_client.specs.declared.turning.Want.{Want}
use Rattle.nbt_host.specs.declared.goal.Goal.{Goal}
use Rattle.nbt_host.specs.declared.goal.Refusal.{Refusal}
use Rattle.nbt_host.specs.declared.goal.Stage.{Stage}
use Rattle.nbt_host.specs.declared.goal.Stage.TheVariants.{Wanted, Leaving, Released, Left, Doubtful}
use Rattle.nbt_host.specs.declared.news.News.{News}
use Rattle.nbt_host.specs.declared.news.News.TheVariants.{Granted, Untimed, Brief, Renewed, Doubted, Refused, Lost, Freed}
use Rattle.nbt_host.specs.declared.news.Notice.{Notice}

-- a want of which nothing is known
abbrev pub fresh : Want → Goal
fresh want = record { want = want; stage = Wanted; left = 0; refusal = None; held = false; brief = false; doubted = false; asked = false; unheard = false; silent = false; lapsed = false; news = None }

-- A host asks for a name by its seconds, and never by 0: for the longest lease of its limits where none are wanted, and for no
-- longer one.
abbrev pub in_full : ConfigValue → Want → Want
in_full config want = record want { ttl = granted config.longest want.ttl }

abbrev pub wanted : ConfigValue → Want → Goal
wanted config want = fresh (in_full config want)

-- what is wanted stays, and how far the host is with it; all else is forgotten
abbrev pub anew : Goal → Goal
anew goal = record (fresh goal.want) { stage = goal.stage; left = goal.left }

-- ---- refusals

-- After so many refusals in a row a name is asked for again: after 5 s, after twice as long with each further one, but after
-- 5 min at most.
abbrev pub back_off : (times : ℕ) → ℕ
back_off times = min (milliseconds 5 * 2 ^ (times - 1)) (milliseconds 300)

-- how many they are with one more; 255 stands for more
abbrev pub times_after : Option Refusal → ℕ
times_after None = 1
times_after (Some r) = min (r.times + 1) 255

-- a name may be asked for where no refusal stands, or its time has passed
abbrev pub may_ask : (now : ℕ) → Option Refusal → Bool
may_ask now None = true
may_ask now (Some r) = nat_le (r.at + back_off r.times) now

-- the last refusal was with this RCODE
abbrev pub is_known : (rcode : ℕ) → Option Refusal → Bool
is_known rcode None = false
is_known rcode (Some r) = nat_eq r.rcode rcode

-- ---- the first look of a turn

abbrev pub is_held : NodeValue → (now : ℕ) → Goal → Bool
is_held node now goal = is_some (holds node goal.want.name now)

-- a registration of it is pending
abbrev pub is_asking : Option Standing → Bool
is_asking (Some Asking) = true
is_asking standing = false

abbrev pub is_asked : NodeValue → (now : ℕ) → Goal → Bool
is_asked node now goal = is_asking (standing node goal.want.name now)

-- A registration that was pending and isn't any more, without a reply, had all its sendings. That is told once until a reply comes.
abbrev pub is_silent : (is_asked : Bool) → Goal → Bool
is_silent is_asked goal = goal.asked && (not is_asked && not goal.unheard)

-- the name was not given back
abbrev pub is_kept : Stage → Bool
is_kept Wanted = true
is_kept Leaving = true
is_kept Released = false
is_kept (Left rcode) = false
is_kept Doubtful = false

-- A name that is to be given back is so once it is held.
abbrev pub stage_at : (is_held : Bool) → Stage → Stage
stage_at true Leaving = Released
stage_at is_held stage = stage

-- when that is, or was
abbrev pub left_at : (now : ℕ) → (is_held : Bool) → Stage → (left : ℕ) → ℕ
left_at now true Leaving left = now
left_at now is_held stage left = left

-- A name that was held at the last look, was not given back, and isn't held at the moment, has lapsed. Of a hold that was known to be
-- too short that isn't told.
abbrev pub seen_at : (now : ℕ) → (is_held is_asked : Bool) → Goal → Goal
seen_at now is_held is_asked goal =
    record goal {
      stage = stage_at is_held goal.stage;
      left = left_at now is_held goal.stage goal.left;
      held = is_held;
      lapsed = goal.held && (not is_held && (is_kept goal.stage && not goal.brief));
      news = None;
      asked = is_asked;
      silent = is_silent is_asked goal;
      unheard = goal.unheard || is_silent is_asked goal;
    }

abbrev pub seen : NodeValue → (now : ℕ) → Goal → Goal
seen node now goal = seen_at now (is_held node now goal) (is_asked node now goal) goal

-- ---- what came for a name, which is then held or isn't

-- A hold of so many seconds ends before its refresh may be sent, which is once the name has rested since its request.
abbrev pub is_brief : ConfigValue → (seconds : ℕ) → Bool
is_brief config seconds = nat_le (hold seconds) (quiet config.life + 1)

-- What is told of a grant: of one that is too short that it is, once in a row of them. Of a reply that says no time, to a request that
-- did, it is told.
abbrev pub told_grant : (is_brief was_brief : Bool) → (seconds : ℕ) → News → Option News
told_grant true true seconds news = None
told_grant true false seconds news = Some (Brief seconds)
told_grant false was_brief seconds news = Some news

-- A grant ends the refusals. It is told only where the name is held.
abbrev pub granted_for : ConfigValue → (is_held : Bool) → (seconds : ℕ) → News → Goal → Goal
granted_for config false seconds news goal = record goal { refusal = None; held = false; doubted = false; asked = false; unheard = false; news = None }
granted_for config true seconds news goal =
    record goal { refusal = None; held = true; doubted = false; asked = false; unheard = false; brief = is_brief config seconds; news = told_grant (is_brief config seconds) goal.brief seconds news }

-- The server knows of the release where it confirms it, and where it denies the first request. A denial of a repeated one says nothing:
-- the one before may have been confirmed, and the name may be another's since.
abbrev pub freed_stage : (now left rcode : ℕ) → Stage
freed_stage now left rcode = if nat_eq rcode 0 || nat_lt now (left + retry_timeout) then Left rcode else Doubtful

-- That the server said, unasked, that it isn't held is told once until its refresh is granted.
abbrev pub doubted_at : (is_held : Bool) → Goal → Goal
doubted_at is_held goal = if is_held && not goal.doubted then record goal { doubted = true; news = Some Doubted } else goal

-- A renewal is told only where the name is held. A refusal is told once, and again where its RCODE changes.
abbrev pub heard : ConfigValue → (now : ℕ) → (is_held : Bool) → News → Goal → Goal
heard config now is_held (Granted seconds) goal = granted_for config is_held seconds (Granted seconds) goal
heard config now is_held (Untimed seconds) goal = granted_for config is_held seconds (if nat_eq goal.want.ttl 0 then Granted seconds else Untimed seconds) goal
heard config now is_held (Brief seconds) goal = granted_for config is_held seconds (Brief seconds) goal
heard config now is_held (Renewed seconds) goal = record goal { doubted = false; asked = false; unheard = false; news = then_some is_held (Renewed seconds) }
heard config now is_held (Refused rcode) goal =
    record goal { refusal = Some (record { rcode = rcode; times = times_after goal.refusal; at = now }); brief = false; asked = false; unheard = false; news = then_some (not (is_known rcode goal.refusal)) (Refused rcode) }
heard config now is_held Lost goal = record goal { held = false; brief = false; doubted = false; asked = false; unheard = false; news = Some Lost }
heard config now is_held Doubted goal = doubted_at is_held goal
heard config now is_held (Freed rcode) goal = record goal { stage = freed_stage now goal.left rcode; news = Some (Freed rcode) }

-- the goals of that name, and every other
abbrev pub heard_by : ConfigValue → NodeValue → (now : ℕ) → Option Notice → Goal → Goal
heard_by config node now None goal = goal
heard_by config node now (Some notice) goal = if same_name notice.name goal.want.name then heard config now (is_held node now goal) notice.news goal else goal
