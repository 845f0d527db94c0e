use Rattle.std.proofs.Common.{[], ◌∷◌, refl}
use Rattle.nbt_text.proofs.Deciding.{if_none, not_sized}
use Rattle.nbt_text.proofs.suffixed_reading.octet_of.Goals as goal

pub returns-in_err-octets-clause-none : goal.returns-in_err-octets-clause-none
returns-in_err-octets-clause-none c = if_none _ c.from_residual.result (λ none octet d. not_sized c.args.digits.now (octet ∷ []) 1 c.from_hex.result c.ok.result c.from_hex.ensures c.ok.ensures.value c.in_err-octets.was d refl)
