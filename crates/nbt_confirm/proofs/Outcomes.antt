-- What an answer can do, case by case; and that few requests wait.
use Rattle.std.proofs.Common.{◌≡◌, refl, inl, inr}
use Rattle.std.specs.Prelude.{◌⊎◌}
use Rattle.nbt_confirm.specs.declared.outcome.Answer.{Answer}
use Rattle.nbt_confirm.specs.declared.outcome.Answer.TheVariants.{Listed, Unlisted, Silent}
use Rattle.nbt_confirm.specs.declared.outcome.Outcome.TheVariants as o
use Rattle.nbt_confirm.specs.declared.request.Awaits.{Awaits}
use Rattle.nbt_confirm.specs.declared.request.Awaits.TheVariants as a
use Rattle.nbt_confirm.specs.Waiting.{outcome_of}

pub grants : (awaits : Awaits) (answer : Answer) → outcome_of awaits answer ≡ o.Grant → ((awaits ≡ a.AfterLease) ⊎ (awaits ≡ a.Sender)) × (answer ≡ Listed)
grants a.AfterLease Listed is = (inl refl, refl)
grants a.AfterLease Unlisted is = absurd cc
grants a.AfterLease Silent is = absurd cc
grants a.Sender Listed is = (inr refl, refl)
grants a.Sender Unlisted is = absurd cc
grants a.Sender Silent is = absurd cc
grants a.Holder Listed is = absurd cc
grants a.Holder Unlisted is = absurd cc
grants a.Holder Silent is = absurd cc
grants a.Requester Listed is = absurd cc
grants a.Requester Unlisted is = absurd cc
grants a.Requester Silent is = absurd cc
grants a.Source Listed is = absurd cc
grants a.Source Unlisted is = absurd cc
grants a.Source Silent is = absurd cc
grants a.Reach Listed is = absurd cc
grants a.Reach Unlisted is = absurd cc
grants a.Reach Silent is = absurd cc
grants (a.LeaseEnd until) answer is = absurd cc

pub adds : (awaits : Awaits) (answer : Answer) → outcome_of awaits answer ≡ o.Further → (awaits ≡ a.Holder) × (answer ≡ Listed)
adds a.Holder Listed is = (refl, refl)
adds a.Holder Unlisted is = absurd cc
adds a.Holder Silent is = absurd cc
adds a.AfterLease Listed is = absurd cc
adds a.AfterLease Unlisted is = absurd cc
adds a.AfterLease Silent is = absurd cc
adds a.Sender Listed is = absurd cc
adds a.Sender Unlisted is = absurd cc
adds a.Sender Silent is = absurd cc
adds a.Requester Listed is = absurd cc
adds a.Requester Unlisted is = absurd cc
adds a.Requester Silent is = absurd cc
adds a.Source Listed is = absurd cc
adds a.Source Unlisted is = absurd cc
adds a.Source Silent is = absurd cc
adds a.Reach Listed is = absurd cc
adds a.Reach Unlisted is = absurd cc
adds a.Reach Silent is = absurd cc
adds (a.LeaseEnd until) answer is = absurd cc

pub refuses : (answer : Answer) → (outcome_of a.Requester answer ≡ o.Refuse) ⊎ (answer ≡ Listed)
refuses Listed = inr refl
refuses Unlisted = inl refl
refuses Silent = inl refl

pub reaches : (awaits : Awaits) (answer : Answer) → outcome_of awaits answer ≡ o.Reached → (awaits ≡ a.Reach) × (answer ≡ Listed)
reaches a.Reach Listed is = (refl, refl)
reaches a.Reach Unlisted is = absurd cc
reaches a.Reach Silent is = absurd cc
reaches a.Holder Listed is = absurd cc
reaches a.Holder Unlisted is = absurd cc
reaches a.Holder Silent is = absurd cc
reaches a.AfterLease Listed is = absurd cc
reaches a.AfterLease Unlisted is = absurd cc
reaches a.AfterLease Silent is = absurd cc
reaches a.Sender Listed is = absurd cc
reaches a.Sender Unlisted is = absurd cc
reaches a.Sender Silent is = absurd cc
reaches a.Requester Listed is = absurd cc
reaches a.Requester Unlisted is = absurd cc
reaches a.Requester Silent is = absurd cc
reaches a.Source Listed is = absurd cc
reaches a.Source Unlisted is = absurd cc
reaches a.Source Silent is = absurd cc
reaches (a.LeaseEnd until) answer is = absurd cc
