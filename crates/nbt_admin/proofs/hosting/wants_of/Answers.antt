use Rattle.std.proofs.Common.{arith, inl, inr, subst, Ok, Err}
use Rattle.std.proofs.lemmas.Result.{err_from_is_err_and, IfErr-weaker}
use Rattle.nbt_name.specs.declared.addr.Kind.TheVariants.{Unique, Group}
use Rattle.nbt_admin.specs.Hosting.{ReadsWant}
use Rattle.nbt_admin.specs.Reading.{Each}
use Rattle.nbt_admin.proofs.Each.{from_none}
use Rattle.nbt_admin.proofs.hosting.wants_of.Goals as goal

pub returns-in_err-alone-clause-failure : goal.returns-in_err-alone-clause-failure
returns-in_err-alone-clause-failure c =
    let p = err_from_is_err_and c.from_residual.result c.from_residual.ensures.1 in
    rw (p.1, p.2) (inr (inr (tt, (omega arith, inr (inl (from_none (ReadsWant c.args.texts.now.exact c.args.texts.now.scope.now Unique) c.new.result.items c.as_slice.result.now c.args.texts.now.names.items (Err c.in_err-alone.field-0.0) c.new.ensures.items c.as_slice.ensures.value c.in_err-alone.ensures.failure))))))

pub returns-clause-failure : goal.returns-clause-failure
returns-clause-failure c =
    let texts = c.args.texts.now in
    let alone = c.in_ok-alone.alone.items in
    IfErr-weaker c.read_each-2.result _ _
    (λ failure fails. inr (inr (
      tt,
      (
        omega arith,
        inr (inr (
          alone,
          (
            from_none (ReadsWant texts.exact texts.scope.now Unique) c.new.result.items c.as_slice.result.now texts.names.items (Ok alone) c.new.ensures.items c.as_slice.ensures.value c.in_ok-alone.ensures.read,
            subst (λ groups. Each (ReadsWant texts.exact texts.scope.now Group) alone groups (Err failure)) c.as_slice-2.ensures.value fails,
          ),
        )),
      ),
    )))
    c.read_each-2.ensures.failure
