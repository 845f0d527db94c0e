use Rattle.nbt_c.proofs.Common.{◌≡◌, Some, None, refl, sym, ◌∙◌, ask_refusal, Sends, ask, Asks, above, moved, given}
use Rattle.nbt_c.specs.Nodes as is
use Rattle.nbt_c.proofs.node.ask.Goals as goal

pub returns-in_default : goal.returns-in_default
returns-in_default c = given (Asks c.args.node.now c.args.now c.args.name.now c.args.kind c.args.ttl) refl refl c.clear.ensures (is.Asks.has_no_moment (above c.in_default.ensures.found))

pub returns-in_default-lend : goal.returns-in_default-lend
returns-in_default-lend c = given (Asks c.args.node.now c.args.now c.args.name.now c.args.kind c.args.ttl) refl refl c.clear.ensures (is.Asks.has_no_name (c.in-Some.ensures.found.0 refl) c.in_default-lend.ensures.none)

pub returns-in_default-kind_of : goal.returns-in_default-kind_of
returns-in_default-kind_of c =
    given (Asks c.args.node.now c.args.now c.args.name.now c.args.kind c.args.ttl) refl refl c.clear.ensures (is.Asks.has_no_kind (c.in-Some.ensures.found.0 refl) c.in-Some-lend.ensures.read.0 (sym c.kind_of.ensures ∙ c.in_default-kind_of.is))

pub returns-in-Ok : goal.returns-in-Ok
returns-in-Ok c =
    let at = c.in-Some.ensures.value in let read = c.in-Some-lend.ensures.read in
    is.Asks.asks c.in-Some-kind_of.kind c.ask.new.self c.ask.new.out.items (c.in-Some.ensures.found.0 refl) read.0 (sym c.in-Some-kind_of.ensures)
    (moved (λ m name. ask_refusal c.args.node.now m name ≡ None) at read.1 (sym c.in-Ok.ensures.refused))
    (moved (λ m name. Sends c.args.node.now m name (ask c.in-Some-kind_of.kind c.args.ttl) c.ask.new.self c.ask.new.out.items) at read.1 c.in-Ok.ensures.ok)

pub returns-in-Err : goal.returns-in-Err
returns-in-Err c =
    let at = c.in-Some.ensures.value in let read = c.in-Some-lend.ensures.read in
    given (Asks c.args.node.now c.args.now c.args.name.now c.args.kind c.args.ttl) c.number.ensures c.in-Err.ensures.err.0 c.in-Err.ensures.err.1
    (is.Asks.is_refused c.in-Some-kind_of.kind c.in-Err.fault (c.in-Some.ensures.found.0 refl) read.0 (sym c.in-Some-kind_of.ensures) (moved (λ m name. ask_refusal c.args.node.now m name ≡ Some c.in-Err.fault) at read.1 (sym c.in-Err.ensures.refused)))
