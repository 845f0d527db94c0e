use Rattle.std.proofs.Common.{Bool, false, refl, subst, sym}
use Rattle.nbt_serve.specs.Sharing.{SharesBy}
use Rattle.nbt_serve.specs.Inner.Sharing.{AdmitsBy}
use Rattle.nbt_serve.specs.declared.share.Admission.{Admission}
use Rattle.nbt_serve.proofs.Shares.{settled, taken_back}
use Rattle.nbt_serve.proofs.share.Share.settle.Goals as goal

pub returns-then-changed : goal.returns-then-changed
returns-then-changed c = λ room now octets first admits handled. settled room now c.args.client octets first c.args.self.now c.args.admission c.args.changed (λ is. c.if-changed.true) admits handled

pub returns-then-not-is_counted : goal.returns-then-not-is_counted
returns-then-not-is_counted c = λ room now octets first admits handled.
    settled room now c.args.client octets first c.args.self.now c.args.admission c.args.changed (λ is. let e = c.if-not-is_counted.ensures.1 is in absurd cc) admits handled

pub returns : goal.returns
returns c = λ room now octets first admits handled.
    let t = c.take_back.ensures in
    let counted = subst (λ (a : Admission). AdmitsBy room now c.args.client octets first a c.args.self.now) (c.if-not-is_counted.ensures.0 refl) admits in
    subst (λ (b : Bool). SharesBy room now c.args.client octets first false b c.take_back.new.self) (sym c.if-changed.false)
    (taken_back first c.args.self.now c.take_back.new.self now c.args.client room octets t.made t.second t.limit t.barred counted)
