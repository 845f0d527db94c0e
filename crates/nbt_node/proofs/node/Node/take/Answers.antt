use Rattle.std.proofs.Common.{◌≡◌, None, ap, subst, inl, inr}
use Rattle.nbt_packet.specs.Message.{MessageValue, found, not_found, status, message_of}
use Rattle.nbt_node.specs.Datagrams.{Ends, Idles, idles}
use Rattle.nbt_node.specs.Moves.{told_of, finds, finds_none, lists, nothing}
use Rattle.nbt_node.proofs.node.Node.take.Goals as goal

pub returns-in-Registered : goal.returns-in-Registered
returns-in-Registered g c = rw c.in-Registered.is c.take_registered.ensures

pub returns-in-Released : goal.returns-in-Released
returns-in-Released g c = rw c.in-Released.is (c.take_released.ensures c.in-Released.kind c.in-Released.addr)

pub returns-in-Wait : goal.returns-in-Wait
returns-in-Wait g c = rw c.in-Wait.is c.take_wait.ensures

pub returns-in-Found : goal.returns-in-Found
returns-in-Found g c =
    let is : message_of c.args.message.now ≡ found c.in-Found.id c.in-Found.name c.in-Found.ttl c.in-Found.entries.now c.in-Found.cut = ap message_of c.in-Found.is in
    rw c.in-Found.is (subst (λ (m : MessageValue). Ends c.args.self.now c.args.now c.args.from m (finds c.in-Found.entries.now c.in-Found.cut) c.end_lookup.new.self None (told_of c.end_lookup.result)) is c.end_lookup.ensures)

pub returns-in-NotFound : goal.returns-in-NotFound
returns-in-NotFound g c =
    let is : message_of c.args.message.now ≡ not_found c.in-NotFound.id c.in-NotFound.rcode c.in-NotFound.name = ap message_of c.in-NotFound.is in
    rw c.in-NotFound.is (subst (λ (m : MessageValue). Ends c.args.self.now c.args.now c.args.from m finds_none c.end_lookup-in-NotFound.new.self None (told_of c.end_lookup-in-NotFound.result)) is c.end_lookup-in-NotFound.ensures)

pub returns-in-Status : goal.returns-in-Status
returns-in-Status g c =
    let is : message_of c.args.message.now ≡ status c.in-Status.id c.in-Status.name c.in-Status.names.now = ap message_of c.in-Status.is in
    rw c.in-Status.is (subst (λ (m : MessageValue). Ends c.args.self.now c.args.now c.args.from m (lists c.in-Status.names.now) c.end_lookup-in-Status.new.self None (told_of c.end_lookup-in-Status.result)) is c.end_lookup-in-Status.ensures)

pub returns-in-Registration : goal.returns-in-Registration
returns-in-Registration g c =
    let only : Idles c.args.self.now c.args.now c.settle.new.self None nothing = idles c.settle.new.self c.settle.ensures.node in
    elim c.in-Registration.is [
      | inl a ↦ rw a.1 only
      | inr behind ↦ elim behind [
        | inl a ↦ rw a.1 only
        | inr behind ↦ elim behind [
          | inl a ↦ rw a.1 only
          | inr behind ↦ elim behind [ inl a ↦ rw a.4 only | inr a ↦ rw a.2 only ]
        ]
      ]
    ]
