use Rattle.nbt_c.proofs.Common.{◌++◌, true≢false, sym, refl, inr, arith, length-append, encode_lower, lower_digits, prefix}
use Rattle.hex.proofs.HexLemmas.{length-encode_with}
use Rattle.nbt_c.proofs.words.put_label.Goals as goal

pub returns-else-stands_as_it_is : goal.returns-else-stands_as_it_is
returns-else-stands_as_it_is c =
    let label = c.args.label.now in (
      prefix ++ encode_lower label,
      c.put_hexadecimal.ensures,
      inr (λ stands. true≢false (sym (c.if-stands_as_it_is.ensures.1 stands)), refl),
      omega (arith, length-append prefix (encode_lower label), length-encode_with lower_digits label),
    )
