use Rattle.nbt_net.proofs.Addressed.{as_with_one, none_hold, as_with_several, comes_from_each, rest_stay}
use Rattle.nbt_net.proofs.laws.a_server_may_have_several_addresses.Goals as goal

pub returns-clause-one : goal.returns-clause-one
returns-clause-one c = λ config addrs happenings now server hosts net. as_with_one net

pub returns-clause-timely : goal.returns-clause-timely
returns-clause-timely c = λ config addrs happenings now server hosts are net timely.
    let one = as_with_one net in none_hold one (c.lives_are_safe.ensures.timely config addrs happenings now server one.others are one.net timely)

pub returns-clause-kept : goal.returns-clause-kept
returns-clause-kept c = λ config addrs happenings now server hosts are net kept.
    let one = as_with_one net in none_hold one (c.lives_are_safe.ensures.kept config addrs happenings now server one.others are one.net kept)

pub returns-clause-several : goal.returns-clause-several
returns-clause-several c = λ config addrs happenings now server hosts net asked servers. as_with_several net asked servers

pub returns-clause-comes : goal.returns-clause-comes
returns-clause-comes c = comes_from_each

pub returns-clause-rest : goal.returns-clause-rest
returns-clause-rest c = rest_stay
