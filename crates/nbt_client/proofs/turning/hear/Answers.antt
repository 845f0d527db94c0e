use Rattle.std.proofs.Common.{[], ◌∷◌, refl}
use Rattle.nbt_port.specs.PortCalls.{sent}
use Rattle.nbt_client.specs.Turning.{hears_back}
use Rattle.nbt_port.proofs.Chains.{chain_one}
use Rattle.nbt_client.proofs.Sending.{heard_reply, heard_other}
use Rattle.nbt_client.proofs.turning.hear.Goals as goal

pub returns-in_default-clause-ok : goal.returns-in_default-clause-ok
returns-in_default-clause-ok g c =
    let e = c.in_default.ensures in
    ([], rw e.err.0 (hears_back c.args.from c.args.octets.now (e.refused.0 refl)), refl)

pub returns-in_ok-send-in-Reply-clause-ok : goal.returns-in_ok-send-in-Reply-clause-ok
returns-in_ok-send-in-Reply-clause-ok g c =
    let d = c.in_ok-send-in-Reply.ensures.does in
    let f = c.as_slice.ensures.value in (
      sent c.args.from c.on_datagram.new.out.items ∷ [],
      heard_reply c.args.now c.args.node.now c.on_datagram.new.self c.args.from c.args.octets.now c.on_datagram.new.out.items c.in-Ok.event c.in-Reply.is c.in-Ok.ensures.ok,
      chain_one g.P.Port.does c.args.port.now (sent c.args.from c.on_datagram.new.out.items) c.send.new.self (rw f at d),
    )

pub returns-in_default-event : goal.returns-in_default-event
returns-in_default-event g c =
    let heard = heard_other c.args.now c.args.node.now c.on_datagram.new.self c.args.from c.args.octets.now c.on_datagram.new.out.items c.in-Ok.event c.seen_of.result c.in_default-event.not-Reply c.seen_of.ensures c.in-Ok.ensures.ok in
    record { ok = ([], heard, refl); err = tt; device = refl }
