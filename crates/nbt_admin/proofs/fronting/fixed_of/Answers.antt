use Rattle.std.proofs.Common.{inr, subst}
use Rattle.nbt_front.specs.Files.{FileFails}
use Rattle.nbt_admin.proofs.Fixed.{fixed_fails}
use Rattle.nbt_admin.proofs.fronting.fixed_of.Goals as goal

pub returns-in-Err-Line-clause-failure : goal.returns-in-Err-Line-clause-failure
returns-in-Err-Line-clause-failure g c =
    inr (fixed_fails c.args.path c.in-Some.path (record { path = c.in_ok-from_str-in-Err-Line.field-0; number = c.in-Err-Line.number; fault = c.in-Err-Line.fault; other = c.seen_in.result }) c.as_slice.result.now c.in-Some.is
    (subst (λ fault. FileFails c.as_slice.result.now fault) c.in-Err-Line.field-0-is c.in-Err-Line.ensures.fault))
