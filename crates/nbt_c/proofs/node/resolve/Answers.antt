use Rattle.nbt_c.proofs.Common.{◌≡◌, Some, None, refl, sym, resolve_refusal, Opens, Entries, Resolves, above, moved, given}
use Rattle.nbt_c.specs.Nodes as is
use Rattle.nbt_c.proofs.node.resolve.Goals as goal

pub returns-in_default : goal.returns-in_default
returns-in_default c = given (Resolves c.args.node.now c.args.now c.args.name.now) refl refl c.clear.ensures (is.Resolves.has_no_moment (above c.in_default.ensures.found))

pub returns-in_default-lend : goal.returns-in_default-lend
returns-in_default-lend c = given (Resolves c.args.node.now c.args.now c.args.name.now) refl refl c.clear.ensures (is.Resolves.has_no_name (c.in-Some.ensures.found.0 refl) c.in_default-lend.ensures.none)

pub returns-in-Ok : goal.returns-in-Ok
returns-in-Ok c =
    let at = c.in-Some.ensures.value in let read = c.in-Some-lend.ensures.read in
    is.Resolves.resolves c.resolve.new.self c.resolve.new.out.items (c.in-Some.ensures.found.0 refl) read.0
    (moved (λ m name. resolve_refusal c.args.node.now m name ≡ None) at read.1 (sym c.in-Ok.ensures.refused))
    (moved (λ m name. Opens c.args.node.now m name c.args.node.now.server Entries c.resolve.new.self c.resolve.new.out.items) at read.1 c.in-Ok.ensures.ok)

pub returns-in-Err : goal.returns-in-Err
returns-in-Err c =
    let at = c.in-Some.ensures.value in let read = c.in-Some-lend.ensures.read in
    given (Resolves c.args.node.now c.args.now c.args.name.now) c.number.ensures c.in-Err.ensures.err.0 c.in-Err.ensures.err.1
    (is.Resolves.is_refused c.in-Err.fault (c.in-Some.ensures.found.0 refl) read.0 (moved (λ m name. resolve_refusal c.args.node.now m name ≡ Some c.in-Err.fault) at read.1 (sym c.in-Err.ensures.refused)))
