-- What a turn does, and turns up to the end.
use Rattle.std.proofs.Common.{◌≡◌, ℕ, ◌+◌, true, false, List, [], ◌∷◌, ◌++◌, Option, sym, subst, ◌∙◌, arith, length-append, refl}
use Rattle.nbt_port.specs.PortCalls.{PortCall}
use Rattle.nbt_port.proofs.Chains.{chain_on}
use Rattle.nbt_scan.specs.declared.form.Layout.{Layout}
use Rattle.nbt_scan.specs.declared.plan.Plan.{Plan}
use Rattle.nbt_scan.specs.declared.scan.Scan.{Scan}
use Rattle.nbt_scan.specs.declared.sheet.Kept.{Kept}
use Rattle.nbt_scan.specs.Progressing.{step_at, is_over}
use Rattle.nbt_scan.specs.Scanning.{Scanning, Timed, Takes, ends_over, ends_spent, turns_most, Scans}
use Rattle.nbt_scan.specs.Inner.Steps.{Acted, WasHeard, Went, Passed}

-- ---- the calls of a turn

pub went_on : {P : Type 0} (does : P → PortCall → P → Type 0) (plan : Plan) (ids : List ℕ) (layout : Layout) (now : ℕ) (a b c : Scanning P) → Acted does plan ids now (step_at plan now a.scan.progress) a b → WasHeard does plan ids layout b c
    → Went does plan ids layout now a c
went_on does plan ids layout now a b c x y = (
  record { now = now; sending = x.0; hearing = y.hearing; reply = y.reply },
  refl,
  record { acted = b; acts = x.1; receives = y.receives; hears = y.hears; progress_stays = y.progress_stays; tells = y.tells },
)

-- ---- turns

module _ {P C : Type 0} (does : P → PortCall → P → Type 0) (tells : C → ℕ → C → Type 0) (plan : Plan) (ids : List ℕ) (layout : Layout) (count : ℕ) (old : Timed P C) (a : Scanning P) (b c : C) (now : ℕ)
    (x : Passed does tells plan ids layout count old (record { clock = b; here = a })) (told : tells b now c) where
  pub passed_on : (d : Scanning P) → is_over plan now a.scan ≡ false → Went does plan ids layout now a d → Passed does tells plan ids layout (count + 1) old (record { clock = c; here = d })
  passed_on d on y = (
    x.0 ++ y.0 ∷ [],
    chain_on (Takes does tells plan ids layout) old (record { clock = b; here = a }) (record { clock = c; here = d }) x.0 y.0 x.1
        (record { told = subst (λ (n : ℕ). tells b n c) (sym y.1) told; goes_on = subst (λ (n : ℕ). is_over plan n a.scan ≡ false) (sym y.1) on; goes = y.2 }),
    omega (arith, length-append x.0 (y.0 ∷ []), x.2),
  )

  pub over_at_last : is_over plan now a.scan ≡ true → Scans does tells plan ids layout old (record { clock = c; here = a })
  over_at_last over = record { turns = x.0; mid = record { clock = b; here = a }; takes = x.1; ends = ends_over now c told over }

pub spent_at_last : {P C : Type 0} (does : P → PortCall → P → Type 0) (tells : C → ℕ → C → Type 0) (plan : Plan) (ids : List ℕ) (layout : Layout) (count : ℕ) (old new : Timed P C)
    → Passed does tells plan ids layout count old new → count ≡ turns_most → Scans does tells plan ids layout old new
spent_at_last does tells plan ids layout count old new x all = record { turns = x.0; mid = new; takes = x.1; ends = ends_spent (x.2 ∙ all) }

-- ---- the same from equal beginnings

pub scans_so : {P C : Type 0} (does : P → PortCall → P → Type 0) (tells : C → ℕ → C → Type 0) (plan : Plan) (ids : List ℕ) (layout : Layout) (read : C) (port : P) (text : Option (List ℕ)) (new : Timed P C) (scan first : Scan) (kept none : List Kept)
    → scan ≡ first → kept ≡ none → Scans does tells plan ids layout (record { clock = read; here = record { port = port; scan = scan; sheet = record { kept = kept; text = text } } }) new
    → Scans does tells plan ids layout (record { clock = read; here = record { port = port; scan = first; sheet = record { kept = none; text = text } } }) new
scans_so {P} {C} does tells plan ids layout read port text new scan first kept none c d x =
    let at : List Kept → Scan → Timed P C = λ (k : List Kept) (s : Scan). record { clock = read; here = record { port = port; scan = s; sheet = record { kept = k; text = text } } } in
    subst (λ (s : Scan). Scans does tells plan ids layout (at none s) new) c
    (subst (λ (k : List Kept). Scans does tells plan ids layout (at k scan) new) d x)
