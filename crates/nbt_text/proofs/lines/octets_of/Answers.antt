use Rattle.nbt_text.specs.Lines.{no_octets, in_digits}
use Rattle.nbt_text.proofs.lines.octets_of.Goals as goal

pub returns-then-is_dash : goal.returns-then-is_dash
returns-then-is_dash c = rw (c.is_dash.ensures.0 c.if-is_dash.true, c.new.ensures.items) no_octets

pub returns-in-Ok : goal.returns-in-Ok
returns-in-Ok c = in_digits c.args.word.now c.in-Ok.octets.items c.in-Ok.ensures.ok
