use Rattle.std.proofs.Common.{length}
use Rattle.std.specs.String.{string_bytes}
use Rattle.nbt_show.proofs.Sessions.{Between}
use Rattle.nbt_show.specs.SessionText.{PrintsPacketLine}
use Rattle.nbt_show.proofs.session_text.write_session.Given as goal

abbrev pub invariant-packets : goal.invariant-packets
invariant-packets l = Between PrintsPacketLine l.fn.octets l.rest (string_bytes l.fn.out) (string_bytes l.out) l.pieces

abbrev pub decreases-packets : goal.decreases-packets
decreases-packets l = length l.rest
