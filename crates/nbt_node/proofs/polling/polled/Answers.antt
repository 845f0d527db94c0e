use Rattle.std.proofs.Common.{sym, refl}
use Rattle.nbt_packet.specs.Message.{registration, refresh, release}
use Rattle.nbt_node.specs.Moves.{claim, asks_again, gives_back_again}
use Rattle.nbt_node.proofs.polling.polled.Goals as goal

pub returns-else-not-is_next-clause-sending : goal.returns-else-not-is_next-clause-sending
returns-else-not-is_next-clause-sending c = record {
  moves = λ node id_is life_is. (
    registration (claim node c.in-Asking.pending.id c.args.name.now c.in-Asking.kind c.in-Asking.ttl),
    rw c.again.ensures refl,
    rw (c.in-Asking.is, c.again.ensures, ← id_is)
        (asks_again c.in-Asking.kind c.in-Asking.ttl _ c.in-Asking.pending (sym c.if-not-is_next.ensures)),
  );
  name_is = c.copy.ensures;
}

pub returns-else-not-is_next-2-clause-sending : goal.returns-else-not-is_next-2-clause-sending
returns-else-not-is_next-2-clause-sending c = record {
  moves = λ node id_is life_is. (
    release c.in-Releasing.pending.id c.args.name.now c.in-Releasing.kind node.addr.ip,
    rw c.again-in-Releasing.ensures refl,
    rw (c.in-Releasing.is, c.again-in-Releasing.ensures, ← id_is)
        (gives_back_again c.in-Releasing.kind _ c.in-Releasing.pending (sym c.if-not-is_next-2.ensures)),
  );
  name_is = c.copy-in-Releasing.ensures;
}

pub returns-in-None-clause-due : goal.returns-in-None-clause-due
returns-in-None-clause-due c = rw c.in-Held.is (c.in-None.ensures.due c.in-Held.kind c.in-Held.ttl c.in-Held.until)

pub returns-in-Some-clause-due : goal.returns-in-Some-clause-due
returns-in-Some-clause-due c = rw c.in-Held.is (c.in-Some.ensures.due c.in-Held.kind c.in-Held.ttl c.in-Held.until)

pub returns-in-Some-clause-sending : goal.returns-in-Some-clause-sending
returns-in-Some-clause-sending c = record {
  moves = λ node id_is life_is.
      (refresh (claim node c.in-Some.next.0.id c.args.name.now c.in-Held.kind c.in-Held.ttl), refl, rw c.in-Held.is (c.in-Some.ensures.moves node c.args.name.now c.in-Held.kind c.in-Held.ttl c.in-Held.until id_is life_is));
  name_is = c.copy-in-Held.ensures;
}
