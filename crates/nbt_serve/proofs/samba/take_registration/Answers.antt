use Rattle.std.proofs.Common.{ap, refl}
use Rattle.std.specs.Prelude.{slice_set}
use Rattle.nbt_serve.proofs.SambaTaken.{met_is_taken}
use Rattle.nbt_serve.proofs.samba.take_registration.Goals as goal

pub returns-in_default-clause-taken : goal.returns-in_default-clause-taken
returns-in_default-clause-taken c = (λ e. absurd cc, λ t. absurd (c.in_default.ensures.none refl t.0 t.1))

pub returns-then-not-is_taken-clause-taken : goal.returns-then-not-is_taken-clause-taken
returns-then-not-is_taken-clause-taken c =
    let octets = c.args.octets.now in
    met_is_taken octets (slice_set octets 2 c.registration_octet.result) (ap (slice_set octets 2) c.registration_octet.ensures) (c.one_message_spelled.ensures octets)
    c.in-Some.asked c.in-Some.ensures.asks c.is_met-is_taken.result c.is_met-is_taken.ensures

pub returns-else-not-is_taken-clause-taken : goal.returns-else-not-is_taken-clause-taken
returns-else-not-is_taken-clause-taken c =
    let octets = c.args.octets.now in
    met_is_taken octets (slice_set octets 2 c.registration_octet.result) (ap (slice_set octets 2) c.registration_octet.ensures) (c.one_message_spelled.ensures octets)
    c.in-Some.asked c.in-Some.ensures.asks c.is_met-is_taken.result c.is_met-is_taken.ensures
