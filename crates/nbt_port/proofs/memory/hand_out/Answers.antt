use Rattle.std.proofs.Common.{arith, ◌≡◌, ◌≤◌, length, ◌+◌, take, ◌∙◌, sym}
use Rattle.std.proofs.lemmas.List.{length-take}
use Rattle.nbt_port.proofs.Remembering.{hands_nothing, hands_none, handed, fitted}
use Rattle.nbt_port.proofs.memory.hand_out.Goals as goal

pub returns-in_default : goal.returns-in_default
returns-in_default c = hands_nothing c.args.incoming.now.items c.pop_front.new.self.items c.clear.new.self.items c.in_default.ensures.items c.in_default.ensures.rest c.clear.ensures

pub returns-in_err-datagram : goal.returns-in_err-datagram
returns-in_err-datagram c =
    let h = c.in_err-datagram.was in
    let i = c.from_residual.ensures in
    hands_none c.args.incoming.now.items c.pop_front.new.self.items c.clear.new.self.items c.in-Some.front c.from_residual.result c.in-Some.ensures.items h i c.clear.ensures

pub returns : goal.returns
returns c =
    let e = c.try_extend_from_slice.ensures in
    let is = rw c.in_ok-datagram.was at c.in-Some.ensures.items in
    let none = c.clear.ensures in
    let cut = length-take c.min-most.result c.deref.result.now in
    let most = c.min-most.ensures in
    let small : length c.clear.new.self.items + length (take c.min-most.result c.deref.result.now) ≤ 2048 = rw (none, cut) (omega (arith, most)) in
    let took = fitted c.try_extend_from_slice.result e.variant.1 small e.ok in
    let octets = rw none at took in
    let d = c.in_ok-datagram.datagram in
    let len : c.len.result ≡ length c.deref.result.now = c.len.ensures ∙ sym c.deref.ensures.len in
    handed c.args.incoming.now.items c.pop_front.new.self.items d c.deref.result.now c.try_extend_from_slice.new.self.items c.min-most.result is c.deref.ensures.value (rw len at most) octets
