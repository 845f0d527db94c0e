use Rattle.std.proofs.Common.{◌≡◌, ℕ, ◌+◌, ◌-◌, ◌<◌, ◌≤◌, [], ◌∷◌, length, ap, arith}
use Rattle.nbt_dgram.specs.declared.dgram.Names.{Names}
use Rattle.nbt_dgram.specs.declared.dgram.Part.TheVariants.{First}
use Rattle.nbt_dgram.specs.Dgram.{DgramValue}
use Rattle.nbt_dgram.specs.Text.{names_text}
use Rattle.nbt_dgram.specs.Fragments.{one, size_of}
use Rattle.nbt_dgram.proofs.Cutting.{one_is_split, cut_is_split}
use Rattle.nbt_dgram.proofs.splitting.split.Goals as goal

pub returns-then-payload-room-clause-split : goal.returns-then-payload-room-clause-split
returns-then-payload-room-clause-split c =
    let names : Names = record { source = c.args.source.now; destination = c.args.destination.now } in
    let put = rw (c.copy.ensures, c.copy-2.ensures) at c.packet.ensures in
    let count = rw (c.copy.ensures, c.copy-2.ensures) at c.names_len-room.ensures.value in
    let fits : size_of (one c.args.delivery names c.args.payload.now) ≤ 576 = omega (arith, count, c.names_len-room.ensures.bound, c.if-payload-room.true) in
    one_is_split c.args.delivery c.args.id c.args.own names c.args.payload.now _
    (rw (c.push.ensures.items, c.new-packets.ensures) (ap (λ (d : DgramValue). d ∷ []) put)) fits

pub returns-clause-split : goal.returns-clause-split
returns-clause-split c =
    let names : Names = record { source = c.args.source.now; destination = c.args.destination.now } in
    let room : ℕ = 562 - c.names_len-room.result in
    let first = rw (c.copy.ensures, c.copy-2.ensures, c.split_at.ensures.front) at c.packet-2.ensures in
    let second = rw c.split_at.ensures.back at c.packet-3.ensures in
    let count = rw (c.copy.ensures, c.copy-2.ensures) at c.names_len-room.ensures.value in
    let within : room ≤ length c.args.payload.now = omega (arith, c.if-payload-room.false) in
    let above : 576 < size_of (one c.args.delivery names c.args.payload.now) = omega (arith, count, c.names_len-room.ensures.bound, c.if-payload-room.false) in
    let exact : 14 + length (names_text (First names)) + room ≡ 576 = omega (arith, count, c.names_len-room.ensures.bound) in
    cut_is_split c.args.delivery c.args.id c.args.own names c.args.payload.now room _ within
    (rw (c.push-3.ensures.items, c.push-2.ensures.items, c.new-packets.ensures) (λ i. first i ∷ second i ∷ [])) above exact
