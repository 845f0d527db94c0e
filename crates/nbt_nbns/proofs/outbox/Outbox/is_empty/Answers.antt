use Rattle.std.proofs.Common.{◌≡◌, [], length, sym, ap, subst, ◌∙◌, eq-eqb}
use Rattle.std.proofs.lemmas.Bool.{eqb-true}
use Rattle.std.specs.String.{string_bytes}
use Rattle.nbt_nbns.specs.Outboxes.{OutboxValue}
use Rattle.nbt_nbns.proofs.Outgoing.{all_taken, not_all_taken}
use Rattle.nbt_nbns.proofs.outbox.Outbox.is_empty.Goals as goal

pub returns : goal.returns
returns c =
    let start = c.self.inside.start in
    let octets = string_bytes c.self.inside.text in
    let is : length c.as_bytes.result.now ≡ length octets = ap length c.as_bytes.ensures.value in (
      λ t. subst (λ (o : OutboxValue). o.waiting ≡ []) c.self.view_is (all_taken start octets (eqb-true start (length c.as_bytes.result.now) t ∙ is)),
      λ none. eq-eqb start (length c.as_bytes.result.now) (not_all_taken start octets c.self.invariant (ap (λ (o : OutboxValue). o.waiting) c.self.view_is ∙ none) ∙ sym is),
    )
