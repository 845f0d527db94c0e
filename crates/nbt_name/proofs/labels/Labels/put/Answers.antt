use Rattle.std.proofs.Common.{length, ap, arith}
use Rattle.nbt_name.proofs.Common.{length-append}
use Rattle.nbt_name.proofs.labels.Labels.put.Goals as goal

pub unwrap-requires : goal.unwrap-requires
unwrap-requires g c =
    c.try_extend_from_slice.ensures.variant.1 (omega (
      arith,
      ap length c.labels.invariant,
      ap length c.in-Some.ensures.label.0,
      length-append c.labels.out.items c.labels.labels,
      length-append c.in-Some.label.now c.next.new.self,
      length-append c.args.out.now.items c.args.self,
      c.requires,
    ))
