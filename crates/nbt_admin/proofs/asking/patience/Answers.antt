use Rattle.std.proofs.Common.{◌≡◌, ℕ, List, inl, inr}
use Rattle.std.specs.Prelude.{◌⊎◌}
use Rattle.nbt_args.specs.Refusal.{IsWrongUsage}
use Rattle.nbt_args.specs.declared.refusal.Refusal.{Refusal}
use Rattle.nbt_args.specs.declared.refusal.Refusal.TheVariants as r
use Rattle.nbt_admin.specs.Failures.{failure_of_usage, out_of_memory, IsUsage}
use Rattle.nbt_admin.specs.Times.{SpellsWait, SpellsPatience}
use Rattle.nbt_admin.specs.declared.failure.Failure.{Failure}
use Rattle.nbt_admin.proofs.asking.patience.Goals as goal

-- a wait that is none is wrong usage, unless memory is out
no_wait : (tries wait : List ℕ) (refusal : Refusal) (failure : Failure) → ((time : ℕ) → ¬ SpellsWait wait time) → IsWrongUsage refusal → failure ≡ failure_of_usage refusal
    → (failure ≡ out_of_memory) ⊎ (((patience : ℕ) → ¬ SpellsPatience tries wait patience) × IsUsage failure)
no_wait tries wait (r.Help text) failure none usage is = absurd usage
no_wait tries wait (r.Wrong text) failure none usage is = rw is (inr ((λ patience spelled. none spelled.last spelled.spells), tt))
no_wait tries wait r.Memory failure none usage is = inl is

pub returns-in-None : goal.returns-in-None
returns-in-None c = no_wait c.args.tries.now c.args.wait.now c.bad_value.result c.from.result
    (λ time spelled. c.in-None.ensures.none time (spelled.0, (rw c.least.ensures spelled.1.0, rw c.most.ensures spelled.1.1)))
    c.bad_value.ensures c.from.ensures
