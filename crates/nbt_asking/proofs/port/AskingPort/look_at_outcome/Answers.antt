use Rattle.std.proofs.Common.{◌≡◌, [], ap, ◌∙◌, refl}
use Rattle.std.specs.List.{find}
use Rattle.nbt_confirm.specs.Further.{is_next}
use Rattle.nbt_waits.specs.Doing.{Done, done_by, sent}
use Rattle.nbt_asking.specs.Attending.{lets_be, passes}
use Rattle.nbt_asking.proofs.Doing.{passes_quietly}
use Rattle.nbt_asking.proofs.Looking.{held_or_refused}
use Rattle.nbt_asking.proofs.port.AskingPort.look_at_outcome.Goals as goal

pub returns-then-is_active : goal.returns-then-is_active
returns-then-is_active g c =
    held_or_refused g.P.Port.does c.args.table.now c.args.now c.args.came c.args.octets.now c.args.outcome.now c.args.self.now c.hold_back.new.self c.hold_back.result (c.is_active.ensures.0 c.if-is_active.true) c.hold_back.ensures.held c.hold_back.ensures.refused

pub returns-in_default : goal.returns-in_default
returns-in_default g c = lets_be (λ active. let yes = c.is_active.ensures.1 active in let never = c.if-is_active.false in absurd cc) c.in_default.ensures.none

pub returns : goal.returns
returns g c =
    let claim = c.in-Some.claim.now in
    let none : sent c.pass_on-settled.result.leaving [] ≡ [] =
    ap (λ (d : Done). d.sends) c.pass_on-settled.ensures ∙ passes_quietly (find (is_next c.args.now claim.name claim.addr) c.self.inside.desk.asking.further) c.args.now claim.name c.self.inside.desk.asking in
    rw (← c.self.view_is) (passes claim c.note.new.self c.in-Some.ensures.some.0 c.in-Some.ensures.some.1
    (rw c.note.ensures (record { done = done_by c.pass_on-settled.result [] c.pass_on-settled.new.self; did = c.pass_on-settled.ensures; port_did = rw none refl; new_is = refl })))
