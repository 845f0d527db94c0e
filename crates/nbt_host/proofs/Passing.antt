-- The calls of a turn, and turns up to the end.
use Rattle.std.proofs.Common.{◌≡◌, ℕ, ◌+◌, ◌<◌, true, false, List, [], ◌∷◌, ◌++◌, sym, subst, ◌∙◌, arith, length-append}
use Rattle.std.specs.List.{list_any}
use Rattle.nbt_host.specs.declared.release.Release.{Release}
use Rattle.nbt_name.specs.declared.addr.Addr.{Addr}
use Rattle.nbt_port.specs.PortCalls.{PortCall, receive_failed}
use Rattle.nbt_port.proofs.Chains.{chain_on}
use Rattle.nbt_host.specs.Releases.{is_due, is_open}
use Rattle.nbt_host.specs.ReleaseTurns.{Releasing, Fails, loses_receive, Giving, Takes, is_over, is_spent, Releases, Breaks}
use Rattle.nbt_host.specs.Inner.ReleaseSteps.{Reached, Heard, Went, Passed}

-- ---- the calls of a turn

pub went_on : {P : Type 0} (does : P → PortCall → P → Type 0) (server : Addr) (own now : ℕ) (a b c : Releasing P) → Reached does server own now a b → list_any (is_due now) b.releases ≡ false → Heard does server b c
    → Went does server own now a c
went_on does server own now a b c x none y = (x.0, y.0, record { asked = b; sends = x.1; none_due = none; receives = y.1; hears = y.2 })

pub lost_at_receive : {P : Type 0} (does : P → PortCall → P → Type 0) (server : Addr) (own now : ℕ) (a b : Releasing P) (q : P) (rs : List Release) → Reached does server own now a b → list_any (is_due now) b.releases ≡ false
    → does b.port receive_failed q × (rs ≡ b.releases) → Fails does server own now a (record { port = q; releases = rs })
lost_at_receive does server own now a b q rs x none y = subst (λ (zs : List Release). Fails does server own now a (record { port = q; releases = zs })) (sym y.1) (loses_receive x.0 b q x.1 none y.0)

-- ---- turns

module _ {P C : Type 0} (does : P → PortCall → P → Type 0) (tells : C → ℕ → C → Type 0) (server : Addr) (own count : ℕ) (old : Giving P C) (a : Releasing P) (b c : C) (now : ℕ)
    (x : Passed does tells server own count old (record { clock = b; here = a })) (told : tells b now c) where
  pub passed_on : (d : Releasing P) → list_any (is_open now) a.releases ≡ true → Went does server own now a d → Passed does tells server own (count + 1) old (record { clock = c; here = d })
  passed_on d some y = (
    x.0 ++ record { now = now; sending = y.0; hearing = y.1 } ∷ [],
    chain_on (Takes does tells server own) old (record { clock = b; here = a }) (record { clock = c; here = d }) x.0 (record { now = now; sending = y.0; hearing = y.1 }) x.1 (record { told = told; some_open = some; goes = y.2 }),
    omega (arith, length-append x.0 (record { now = now; sending = y.0; hearing = y.1 } ∷ []), x.2),
  )

  pub over_at_last : (most : ℕ) → list_any (is_open now) a.releases ≡ false → Releases does tells server own most old (record { clock = c; here = a })
  over_at_last most none = record { turns = x.0; mid = record { clock = b; here = a }; takes = x.1; ends = is_over now c told none }

  pub broken_at_last : (most : ℕ) (d : Releasing P) → count < most → list_any (is_open now) a.releases ≡ true → Fails does server own now a d → Breaks does tells server own most old (record { clock = c; here = d })
  broken_at_last most d fewer some y = record {
    turns = x.0;
    begun = record { clock = b; here = a };
    now = now;
    takes = x.1;
    told = told;
    some_open = some;
    fails = y;
    fewer = omega (arith, x.2, fewer);
  }

pub spent_at_last : {P C : Type 0} (does : P → PortCall → P → Type 0) (tells : C → ℕ → C → Type 0) (server : Addr) (own count most : ℕ) (old new : Giving P C)
    → Passed does tells server own count old new → count ≡ most → Releases does tells server own most old new
spent_at_last does tells server own count most old new x all = record { turns = x.0; mid = new; takes = x.1; ends = is_spent (x.2 ∙ all) }
