use Rattle.std.proofs.Common.{◌≡◌, ◌++◌, ◌-◌, length, refl}
use Rattle.std.specs.Prelude.{replicate}
use Rattle.std.proofs.lemmas.List.{drop-replicate}
use Rattle.nbt_text.specs.SuffixedNames.{blank, cased}
use Rattle.nbt_text.proofs.Filling.{filled_is}
use Rattle.nbt_text.proofs.suffixed_reading.filled.Goals as goal

pub returns : goal.returns
returns c =
    let whole : c.apply.new.octets ≡ cased c.args.case (c.args.front.now ++ replicate (16 - length c.args.front.now) (blank c.args.front.now)) =
    rw (c.apply.ensures, c.as_mut_slice.ensures.value, c.copy_from_slice.ensures.after, c.blank-octets.ensures, drop-replicate (length c.args.front.now) 16 (blank c.args.front.now)) refl in
    rw whole (filled_is c.args.case c.args.front.now c.args.suffix c.requires)
