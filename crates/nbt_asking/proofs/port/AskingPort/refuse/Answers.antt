use Rattle.std.proofs.Common.{◌≡◌, ap, sym, ◌∙◌}
use Rattle.nbt_packet.specs.declared.message.Registration.{Registration}
use Rattle.nbt_asking.specs.Attending.{leaves, left_before}
use Rattle.nbt_asking.proofs.Doing.{one_some}
use Rattle.nbt_asking.proofs.port.AskingPort.refuse.Goals as goal

pub returns-in_default : goal.returns-in_default
returns-in_default g c = left_before (λ r claims unique. c.in_default.not-Some r ((c.claim_in.ensures r).1 claims))

pub returns-in_default-kind : goal.returns-in_default-kind
returns-in_default-kind g c = left_before (λ r claims unique.
    let same : c.in-Some.claim ≡ r = one_some c.in-Some.claim r (sym c.in-Some.is ∙ (c.claim_in.ensures r).1 claims) in
    c.in_default-kind.not-Unique (ap (λ (x : Registration). x.kind) same ∙ unique))

pub returns : goal.returns
returns g c =
    let left = rw (c.as_slice.ensures.value, c.write_refusal.ensures) at c.send_back.ensures in
    rw (← c.self.view_is) (leaves c.in-Some.claim c.send_back.new.beneath ((c.claim_in.ensures c.in-Some.claim).0 c.in-Some.is) c.in-Unique.is left)
