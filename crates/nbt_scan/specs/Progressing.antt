-- How far a scan has come, and what it does at a moment (our profile).
use Rattle.std.specs.Prelude.{◌⊎◌, ℕ, ◌<◌, ◌+◌, ◌-◌, ◌*◌, ◌/◌, Bool, true, false, ◌||◌, nat_eq, nat_lt, if◌then◌else◌, List, length}
use Rattle.std.specs.List.{list_all}
use Rattle.nbt_scan.specs.declared.plan.Plan.{Plan}
use Rattle.nbt_scan.specs.declared.progress.Progress.{Progress}
use Rattle.nbt_scan.specs.declared.progress.Step.{Step}
use Rattle.nbt_scan.specs.declared.progress.Step.TheVariants.{Wait, Ask, Again, Over}
use Rattle.nbt_scan.specs.declared.scan.Scan.{Scan}

-- the first pass, begun at a moment
abbrev pub begun : Plan → (now : ℕ) → Progress
begun plan now = record { left = plan.tries - 1; began = now; place = 0; last = now }

-- When the address at its place is due: so many of them a second, from the pass's beginning. Also one that has replied keeps its place.
abbrev pub due_at : Plan → Progress → ℕ
due_at plan p = p.began + p.place * 1000 / plan.rate

-- when its pass is over, once all its addresses were passed
abbrev pub quiet_at : Plan → Progress → ℕ
quiet_at plan p = p.last + plan.wait

-- What it does: the next address, if it is due; behind the last one the next pass, if the wait is over and there is one.
abbrev pub step_at : Plan → (now : ℕ) → Progress → Step
step_at plan now p = if nat_lt p.place (length plan.ips.items)
    then (if nat_lt now (due_at plan p) then Wait else Ask)
    else (if nat_lt now (quiet_at plan p) then Wait else (if nat_eq p.left 0 then Over else Again))

-- past one more address
abbrev pub past : (now : ℕ) → Progress → Progress
past now p = record p { place = p.place + 1; last = now }

-- in the next pass
abbrev pub again : (now : ℕ) → Progress → Progress
again now p = record { left = p.left - 1; began = now; place = 0; last = now }

-- The address at a place was passed, in this pass or in one before it.
abbrev pub WasPassed : Plan → Progress → (place : ℕ) → Type 0
WasPassed plan progress place = (place < progress.place) ⊎ (progress.left + 1 < plan.tries)

-- all addresses have replied
abbrev pub all_replied : List Bool → Bool
all_replied replied = list_all (λ reply. reply) replied

abbrev pub is_end : Step → Bool
is_end Over = true
is_end _ = false

-- It is over once all have replied, or with its last pass.
abbrev pub is_over : Plan → (now : ℕ) → Scan → Bool
is_over plan now scan = all_replied scan.replied || is_end (step_at plan now scan.progress)
