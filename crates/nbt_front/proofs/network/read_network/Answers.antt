use Rattle.nbt_front.proofs.Rulings.{at_none}
use Rattle.nbt_front.proofs.Splits.{found_network, no_bits, no_ip}
use Rattle.nbt_front.proofs.network.read_network.Goals as goal

pub returns-clause-found : goal.returns-clause-found
returns-clause-found c = found_network c.args.text.now c.split_at_first.result.0.now c.split_at_first.result.1 c.in_ok-ip.ip c.in_ok-bits.bits c.split_at_first.ensures.whole c.split_at_first.ensures.first c.in_ok-bits.ensures.found c.in_ok-ip.ensures.found

pub returns-in_err-bits-clause-none : goal.returns-in_err-bits-clause-none
returns-in_err-bits-clause-none c = at_none c.from_residual.result (no_bits c.args.text.now c.split_at_first.result.0.now c.split_at_first.result.1 c.split_at_first.ensures.whole c.split_at_first.ensures.first c.in_err-bits.ensures.none)

pub returns-in_err-ip-clause-none : goal.returns-in_err-ip-clause-none
returns-in_err-ip-clause-none c = at_none c.from_residual-in_err-ip.result (no_ip c.args.text.now c.split_at_first.result.0.now c.split_at_first.result.1 c.split_at_first.ensures.whole c.split_at_first.ensures.first c.in_err-ip.ensures.none)
