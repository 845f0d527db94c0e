-- What a receive was, and what is made of it.
use Rattle.std.proofs.Common.{◌≡◌, ◌≢◌, ℕ, true, false, ◌&&◌, eqb, List, map, refl, sym, subst, ap, ◌∙◌, Ok, Some, None}
use Rattle.std.specs.Prelude.{Option}
use Rattle.std.proofs.lemmas.Bool.{and_parts, eqb-true, eq-eqb, false≢true}
use Rattle.nbt_name.specs.declared.addr.Addr.{Addr}
use Rattle.nbt_packet.specs.Message.{MessageValue}
use Rattle.nbt_node.specs.Datagrams.{Says}
use Rattle.nbt_port.specs.declared.port.Route.{Route}
use Rattle.nbt_port.specs.PortCalls.{PortCall, receiving}
use Rattle.nbt_host.specs.declared.release.Release.{Release}
use Rattle.nbt_host.specs.Releases.{answered}
use Rattle.nbt_host.specs.ReleaseTurns.{Hears, hears_nothing, hears_other, hears_server}
use Rattle.nbt_host.specs.Inner.ReleaseSteps.{Heard}

-- ---- addresses, as the code compares them

addr_same : (a b : Addr) → (eqb a.ip b.ip && eqb a.port b.port) ≡ true → a ≡ b
addr_same a b e =
    let parts = and_parts (eqb a.ip b.ip) (eqb a.port b.port) e in
    λ i. record { ip = eqb-true a.ip b.ip parts.0 i; port = eqb-true a.port b.port parts.1 i }

addr_other : (a b : Addr) → (eqb a.ip b.ip && eqb a.port b.port) ≡ false → a ≢ b
addr_other a b off e = false≢true (sym off ∙ rw (eq-eqb a.ip b.ip (ap (λ (x : Addr). x.ip) e), eq-eqb a.port b.port (ap (λ (x : Addr). x.port) e)) refl)

-- ---- a datagram, or none

pub took_nothing : (server : Addr) (from : Option Route) (octets : List ℕ) (rs : List Release) → from ≡ None → Hears server rs (receiving (Ok from) octets) rs
took_nothing server from octets rs is = subst (λ (f : Option Route). Hears server rs (receiving (Ok f) octets) rs) (sym is) hears_nothing

pub took_other : (server : Addr) (from : Option Route) (x : Route) (octets : List ℕ) (rs : List Release) → from ≡ Some x → (eqb x.peer.ip server.ip && eqb x.peer.port server.port) ≡ false
    → Hears server rs (receiving (Ok from) octets) rs
took_other server from x octets rs is other = subst (λ (f : Option Route). Hears server rs (receiving (Ok f) octets) rs) (sym is) (hears_other x octets (addr_other x.peer server other))

pub took_all : (server : Addr) (from : Option Route) (x : Route) (octets : List ℕ) (message : Option MessageValue) (rs : List Release) → from ≡ Some x → (eqb x.peer.ip server.ip && eqb x.peer.port server.port) ≡ true
    → Says octets message → Hears server rs (receiving (Ok from) octets) (map (answered message) rs)
took_all server from x octets message rs is same says =
    subst (λ (f : Option Route). Hears server rs (receiving (Ok f) octets) (map (answered message) rs)) (sym is) (hears_server x octets message (addr_same x.peer server same) says)

-- ---- the receive

pub heard : {P : Type 0} (does : P → PortCall → P → Type 0) (server : Addr) (p q : P) (rs ss : List Release) (from : Option Route) (octets lent : List ℕ) → lent ≡ octets
    → Hears server rs (receiving (Ok from) lent) ss → does p (receiving (Ok from) octets) q → Heard does server (record { port = p; releases = rs }) (record { port = q; releases = ss })
heard does server p q rs ss from octets lent same hears did = (receiving (Ok from) octets, did, subst (λ (o : List ℕ). Hears server rs (receiving (Ok from) o) ss) same hears)
