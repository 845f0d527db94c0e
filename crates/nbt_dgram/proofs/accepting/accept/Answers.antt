use Rattle.std.proofs.Common.{◌≡◌, ℕ, List, rules, refl, ap}
use Rattle.nbt_name.specs.declared.addr.Addr.{Addr}
use Rattle.nbt_node.specs.Node.{NodeValue}
use Rattle.nbt_dgram.specs.Dgram.{fragment_of, body_of, dgram_of, fragment, DgramIs, FragmentValue, DgramValue}
use Rattle.nbt_dgram.specs.Joiner.{JoinerValue}
use Rattle.nbt_dgram.specs.Accepting.{AcceptValue, Accepts, unreadable, error_told, lookup_ignored, broadcast_ignored, is_put}
use Rattle.nbt_dgram.specs.Inner.Accepting.{PutsUp, to_all, to_some}
use Rattle.nbt_dgram.proofs.accepting.accept.Goals as goal

pub returns-in_default : goal.returns-in_default
returns-in_default g c = rw c.clear.ensures (unreadable c.in_default.field-0 ((c.in_default.ensures.fault c.in_default.field-0).0 refl))

pub put_up-requires : goal.put_up-requires
put_up-requires g c = (search rules, (search rules, ((fragment_of c.in-Fragment.fragment, ap body_of c.in-Fragment.is), c.clear.ensures)))

of_put : (old : JoinerValue) (now : ℕ) (node : NodeValue) (own : Addr) (octets : List ℕ) (d : DgramValue) (n : ℕ) (f : FragmentValue) (outcome : AcceptValue) (sent : List ℕ) (new : JoinerValue)
    → DgramIs octets d n → d.body ≡ fragment f → PutsUp old now node own d f.delivery outcome sent new → Accepts old now node own octets outcome sent new
of_put old now node own octets d n f _ _ _ is body (to_all all) = broadcast_ignored d n f is body all
of_put old now node own octets d n f _ _ _ is body (to_some joined outcome sent new not puts hands) = is_put d n f joined outcome sent new is body not puts hands

pub returns-in-Fragment : goal.returns-in-Fragment
returns-in-Fragment g c =
    of_put c.args.joiner.now c.args.now c.args.node.now c.args.own c.args.octets.now (dgram_of c.in-Ok.dgram) c.in-Ok.field-0-1 (fragment_of c.in-Fragment.fragment) _ _ _ ((c.in-Ok.ensures.dgram _ _).0 refl) (ap body_of c.in-Fragment.is) c.put_up.ensures

pub returns-in-Error : goal.returns-in-Error
returns-in-Error g c = rw c.clear.ensures (error_told (dgram_of c.in-Ok.dgram) c.in-Ok.field-0-1 c.in-Error.code ((c.in-Ok.ensures.dgram _ _).0 refl) (ap body_of c.in-Error.is))

pub returns-in-Lookup : goal.returns-in-Lookup
returns-in-Lookup g c =
    rw c.clear.ensures (lookup_ignored (dgram_of c.in-Ok.dgram) c.in-Ok.field-0-1 c.in-Lookup.field-0 c.in-Lookup.field-1 ((c.in-Ok.ensures.dgram _ _).0 refl) (ap body_of c.in-Lookup.is))
