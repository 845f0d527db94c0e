use Rattle.std.proofs.Common.{refl}
use Rattle.nbt_serve.specs.Inner.Sharing.{is_let_in, is_kept_out}
use Rattle.nbt_serve.proofs.share.Share.admit_by.Goals as goal

pub returns-then-is_let_in : goal.returns-then-is_let_in
returns-then-is_let_in c = is_let_in c.admit.result c.admit.new.self (c.if-is_let_in.ensures.0 refl) c.admit.ensures

pub returns : goal.returns
returns c = rw c.bar.ensures (is_kept_out (λ let_in. let e = c.if-is_let_in.ensures.1 let_in in absurd cc))
