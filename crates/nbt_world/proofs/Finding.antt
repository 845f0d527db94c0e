-- The end at a place or with an address, as a loop over the nodes finds it or passes it by.
use Rattle.std.proofs.Common.{◌≡◌, ◌≢◌, ℕ, zero, suc, ◌+◌, ◌-◌, ◌<◌, ◌≤◌, true, false, ◌&&◌, eqb, List, [], ◌∷◌, length, get_or, Option, Some, None, refl, sym, ap, ◌∙◌, arith, add-one, below_more}
use Rattle.std.specs.Prelude.{slice_get}
use Rattle.std.specs.Option.{option_map}
use Rattle.std.proofs.lemmas.Bool.{and_parts, eqb-true, eq-eqb, false≢true}
use Rattle.std.proofs.lemmas.Option.{slice_get_read, slice_get-get_or, slice_get_within, slice_get_past, same_Some, none-some}
use Rattle.nbt_name.specs.declared.addr.Addr.{Addr}
use Rattle.nbt_name.specs.declared.addr.Kind.{Kind}
use Rattle.nbt_name.specs.Wire.{NameValue}
use Rattle.nbt_node.specs.Node.{NodeValue}
use Rattle.nbt_world.specs.declared.ends.NodeEnd.{NodeEnd}
use Rattle.nbt_world.specs.declared.ends.Ends.{Ends}
use Rattle.nbt_world.specs.declared.clocks.Clocks.{Clocks}
use Rattle.nbt_world.specs.Drift.{reading}
use Rattle.nbt_world.specs.World.{IsAmong, addr_at, addr_of, node_of}
use Rattle.nbt_world.specs.Safety.{held_by}
use Rattle.nbt_world.proofs.Places.{place_from, Reads, node_read}

-- ---- addresses, as the code compares them

pub addr_same : (a b : Addr) → (eqb a.ip b.ip && eqb a.port b.port) ≡ true → a ≡ b
addr_same a b e =
    let parts = and_parts (eqb a.ip b.ip) (eqb a.port b.port) e in
    λ i. record { ip = eqb-true a.ip b.ip parts.0 i; port = eqb-true a.port b.port parts.1 i }

addr_other : (a b : Addr) → (eqb a.ip b.ip && eqb a.port b.port) ≡ false → a ≢ b
addr_other a b off e = false≢true (sym off ∙ rw (eq-eqb a.ip b.ip (ap (λ (x : Addr). x.ip) e), eq-eqb a.port b.port (ap (λ (x : Addr). x.port) e)) refl)

-- ---- the node at a place

pub in_place : (nodes : List NodeEnd) (i : ℕ) (a : Addr) → addr_at nodes i ≡ Some a → i < length nodes
in_place [] i a e = absurd (none-some a e)
in_place (x ∷ xs) zero a e = omega arith
in_place (x ∷ xs) (suc i) a e = let lt = in_place xs i a e in omega arith

-- the loop reads this end at that place
pub addr_here : (nodes : List NodeEnd) (i : ℕ) (end : NodeEnd) → i < length nodes → end ≡ get_or nodes i end → addr_at nodes i ≡ Some end.addr
addr_here nodes i end lt read = ap (λ (o : Option NodeEnd). option_map (λ (e : NodeEnd). e.addr) o) (slice_get_read nodes (length nodes) i end refl lt read)

pub found_here : (nodes : List NodeEnd) (i : ℕ) (end : NodeEnd) (addr : Addr) → i < length nodes → end ≡ get_or nodes i end → (eqb end.addr.ip addr.ip && eqb end.addr.port addr.port) ≡ true → addr_at nodes i ≡ Some addr
found_here nodes i end addr lt read same = addr_here nodes i end lt read ∙ ap (λ (a : Addr). Some a) (addr_same end.addr addr same)

pub none_more : (nodes : List NodeEnd) (i : ℕ) (end : NodeEnd) (addr : Addr) → ((k : ℕ) → k < i → addr_at nodes k ≢ Some addr) → i < length nodes → end ≡ get_or nodes i end
    → (eqb end.addr.ip addr.ip && eqb end.addr.port addr.port) ≡ false → (k : ℕ) → k < i + 1 → addr_at nodes k ≢ Some addr
none_more nodes i end addr before lt read off =
    below_more (λ (k : ℕ). addr_at nodes k ≢ Some addr) i before (λ e. addr_other end.addr addr off (same_Some end.addr addr (sym (addr_here nodes i end lt read) ∙ e)))

pub none_at_all : (nodes : List NodeEnd) (i : ℕ) (addr : Addr) → ((k : ℕ) → k < i → addr_at nodes k ≢ Some addr) → length nodes ≤ i → (k : ℕ) → addr_at nodes k ≢ Some addr
none_at_all nodes i addr before le k e = before k (let lt = in_place nodes k addr e in omega arith) e

-- ---- a node with 32 bits of an address

abbrev pub NoIpBelow : (nodes : List NodeEnd) (ip i : ℕ) → Type 0
NoIpBelow nodes ip i = (k : ℕ) → k < i → (addr : Addr) → addr_at nodes k ≡ Some addr → addr.ip ≢ ip

pub no_ip_more : (nodes : List NodeEnd) (i : ℕ) (end : NodeEnd) (ip : ℕ) → NoIpBelow nodes ip i → i < length nodes → end ≡ get_or nodes i end → end.addr.ip ≢ ip → NoIpBelow nodes ip (i + 1)
no_ip_more nodes i end ip before lt read off =
    below_more (λ (k : ℕ). (addr : Addr) → addr_at nodes k ≡ Some addr → addr.ip ≢ ip) i before
    (λ addr e same. off (ap (λ (a : Addr). a.ip) (same_Some end.addr addr (sym (addr_here nodes i end lt read) ∙ e)) ∙ same))

pub no_ip : (nodes : List NodeEnd) (i ip : ℕ) → NoIpBelow nodes ip i → length nodes ≤ i → ((k : ℕ) × (addr : Addr) × (addr_at nodes k ≡ Some addr) × (addr.ip ≡ ip)) → ⊥
no_ip nodes i ip before le h = before h.0 (let lt = in_place nodes h.0 h.1 h.2 in omega arith) h.1 h.2 h.3

-- ---- the same of addresses alone

abbrev pub NoAddrBelow : (addrs : List Addr) (ip i : ℕ) → Type 0
NoAddrBelow addrs ip i = (k : ℕ) → k < i → (a : Addr) → slice_get addrs k ≡ Some a → a.ip ≢ ip

pub no_addr_more : (addrs : List Addr) (i ip : ℕ) (none : Addr) → NoAddrBelow addrs ip i → i < length addrs → (get_or addrs i none).ip ≢ ip → NoAddrBelow addrs ip (i + 1)
no_addr_more addrs i ip none before lt off =
    below_more (λ (k : ℕ). (a : Addr) → slice_get addrs k ≡ Some a → a.ip ≢ ip) i before
    (λ a e same. off (ap (λ (x : Addr). x.ip) (same_Some (get_or addrs i none) a (sym (slice_get-get_or addrs i none lt) ∙ e)) ∙ same))

pub no_addr : (addrs : List Addr) (i ip : ℕ) → NoAddrBelow addrs ip i → length addrs ≤ i → IsAmong ip addrs → ⊥
no_addr addrs i ip before le h = before h.0 (let lt = slice_get_within addrs h.0 h.1 h.2 in omega arith) h.1 h.2 h.3

-- ---- the end with an address

pub not_found : (ends : Ends) (nodes : List NodeEnd) (addr : Addr) → (eqb ends.server_addr.ip addr.ip && eqb ends.server_addr.port addr.port) ≡ false → nodes ≡ ends.nodes.items → ((k : ℕ) → addr_at nodes k ≢ Some addr)
    → (number : ℕ) → addr_of ends number ≢ Some addr
not_found ends nodes addr off same none zero e = addr_other ends.server_addr addr off (same_Some ends.server_addr addr e)
not_found ends nodes addr off same none (suc k) e = none k (ap (λ (xs : List NodeEnd). addr_at xs k) same ∙ e)

pub found_at : (ends : Ends) (nodes : List NodeEnd) (addr : Addr) (i : ℕ) → nodes ≡ ends.nodes.items → addr_at nodes i ≡ Some addr → addr_of ends (i + 1) ≡ Some addr
found_at ends nodes addr i same e = rw add-one (sym (ap (λ (xs : List NodeEnd). addr_at xs i) same) ∙ e)

-- ---- the address of the end of a number that isn't the server's

pub addr_got : (ends : Ends) (n : ℕ) (nodes : List NodeEnd) (end : NodeEnd) → n ≢ 0 → nodes ≡ ends.nodes.items → n - 1 < length nodes → end ≡ get_or nodes (n - 1) end → Some end.addr ≡ addr_of ends n
addr_got ends n nodes end ne same lt read =
    place_from (λ (m : ℕ). Some end.addr ≡ addr_of ends m) n ne (sym (addr_here nodes (n - 1) end lt read) ∙ ap (λ (xs : List NodeEnd). addr_at xs (n - 1)) same)

pub no_addr_got : (ends : Ends) (n : ℕ) (nodes : List NodeEnd) → n ≢ 0 → nodes ≡ ends.nodes.items → length nodes ≤ n - 1 → None ≡ addr_of ends n
no_addr_got ends n nodes ne same past =
    place_from (λ (m : ℕ). None ≡ addr_of ends m) n ne
    (sym (ap (λ (o : Option NodeEnd). option_map (λ (e : NodeEnd). e.addr) o) (slice_get_past nodes (n - 1) past)) ∙ ap (λ (xs : List NodeEnd). addr_at xs (n - 1)) same)

-- ---- what the node of a number holds by its reading

pub read_holding : {ends : Ends} {n : ℕ} {nodes : List NodeEnd} {end : NodeEnd} (clocks : Clocks) (name : NameValue) (moment : ℕ) (result : Option Kind) → Reads ends n nodes end → moment ≡ reading clocks n
    → result ≡ held_by end.node name moment → result ≡ held_by (node_of ends n) name (reading clocks n)
read_holding {n = n} {end = end} clocks name moment result reads now is =
    is ∙ ap (λ (m : ℕ). held_by end.node name m) now ∙ ap (λ (o : Option NodeValue). held_by o name (reading clocks n)) (ap (λ (e : NodeEnd). e.node) reads.read ∙ sym (node_read reads))
