use Rattle.std.proofs.Common.{◌≡◌, ◌++◌, drop}
use Rattle.std.specs.String.{string_bytes}
use Rattle.nbt_nbns.specs.Begin.{more_addresses_text}
use Rattle.nbt_nbns.proofs.first_line.write_more.Given as goal

abbrev pub invariant-loop-address : goal.invariant-loop-address
invariant-loop-address l = string_bytes l.out ++ more_addresses_text (drop l.address-index l.addresses) ≡ string_bytes l.fn.out ++ more_addresses_text l.fn.addresses
