use Rattle.nbt_text.proofs.Deciding.{if_none, not_sized}
use Rattle.nbt_text.proofs.suffixed_reading.sixteen_of.Goals as goal

pub returns-clause-none : goal.returns-clause-none
returns-clause-none c = if_none _ c.ok.result (λ none octets d len. not_sized c.args.digits.now octets 16 c.from_hex.result c.ok.result c.from_hex.ensures c.ok.ensures.value none d len)
