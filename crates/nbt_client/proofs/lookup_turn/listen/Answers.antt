use Rattle.std.proofs.Common.{Ok, Option, refl, subst}
use Rattle.std.proofs.lemmas.Result.{err_from_is_err_and}
use Rattle.nbt_node.specs.Moves.{nothing}
use Rattle.nbt_port.specs.declared.port.Route.{Route}
use Rattle.nbt_port.specs.PortCalls.{came, nothing_came, receiving}
use Rattle.nbt_client.specs.Lookups.{Hears, hears_nothing}
use Rattle.nbt_client.proofs.lookup_turn.listen.Goals as goal

pub returns-in-Some-clause-ok : goal.returns-in-Some-clause-ok
returns-in-Some-clause-ok g c =
    let h = c.hear.ensures in
    record {
      second = c.now-now.result;
      hearing = came c.in-Some.from c.receive.new.octets.items;
      told = h.0;
      hears = subst (λ octets. Hears c.now-now.result c.args.node.now (came c.in-Some.from octets) h.0 c.hear.new.node) c.as_slice.ensures.value h.1;
      ended_is = h.2;
      by = λ ends. (c.in-Some.from, refl);
      port_did = subst (λ (from : Option Route). g.P.Port.does c.args.port.now (receiving (Ok from) c.receive.new.octets.items) c.receive.new.self) c.in-Some.is c.in_ok-from.ensures.does;
      clock_told = c.now-now.ensures;
    }

pub returns-in-None-clause-ok : goal.returns-in-None-clause-ok
returns-in-None-clause-ok g c = record {
  second = c.now-now.result;
  hearing = nothing_came;
  told = nothing;
  hears = hears_nothing;
  ended_is = refl;
  by = λ ends. absurd cc;
  port_did = subst (λ (from : Option Route). g.P.Port.does c.args.port.now (receiving (Ok from) c.receive.new.octets.items) c.receive.new.self) c.in-None.is c.in_ok-from.ensures.does;
  clock_told = c.now-now.ensures;
}

pub returns-in_err-from-clause-err : goal.returns-in_err-from-clause-err
returns-in_err-from-clause-err g c =
    let p = err_from_is_err_and c.from_residual.result c.from_residual.ensures.1 in
    rw p.1 (c.in_err-from.ensures.does, refl, refl)
