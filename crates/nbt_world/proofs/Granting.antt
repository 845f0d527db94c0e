-- What the server makes of claims: a lease of whoever still wants the name stays, a grant covers the claim that its reply
-- makes, and stands beside no other but as a group's.
use Rattle.std.proofs.Common.{◌≡◌, ◌≢◌, ℕ, zero, suc, ◌+◌, ◌*◌, ◌≤◌, List, Option, Some, refl, sym, ap, subst, ◌∙◌, arith, inl, inr}
use Rattle.std.specs.Prelude.{Contains, ◌⊎◌, ◌↔◌, Result, Ok, Err}
use Rattle.std.proofs.lemmas.Bool.{cases_eq}
use Rattle.nbt_name.specs.declared.addr.Kind.{Kind}
use Rattle.nbt_name.specs.declared.addr.Kind.TheVariants.{Group}
use Rattle.nbt_name.specs.Wire.{NameValue}
use Rattle.nbt_packet.specs.declared.message.Registration.{Registration}
use Rattle.nbt_packet.specs.Message.{MessageValue, registered}
use Rattle.nbt_packet.specs.Spelling.{Spells}
use Rattle.nbt_lease.specs.declared.fault.GrantFault.{GrantFault}
use Rattle.nbt_lease.specs.declared.fault.GrantFault.TheVariants.{Active, TableFull, GroupFull, OutOfMemory}
use Rattle.nbt_lease.specs.declared.lease.Grant.{Grant}
use Rattle.nbt_lease.specs.declared.lease.Lease.{Lease}
use Rattle.nbt_lease.specs.declared.lease.Released.{Released}
use Rattle.nbt_lease.specs.Config.{ConfigValue, granted}
use Rattle.nbt_lease.specs.Lease.{Leases, TableValue, leases_at, at_name, IsSound}
use Rattle.nbt_lease.specs.Rules.{Asked as Asking, Grants, GrantCase, active, renews, group_full, table_full, begins, IsGranted, Releases}
use Rattle.nbt_server.specs.Serving.{ServerValue, asked_in, AsksFor, by_registration, by_refresh, speaks_from, Serves, ServesOctets}
use Rattle.nbt_server.specs.Serving as serving
use Rattle.nbt_world.specs.Inner.Kept.{IsRequest, AsksAs, IsLeased}
use Rattle.nbt_world.proofs.Drifting.{HoldLaw}
use Rattle.nbt_name.proofs.Same.{names_apart}

-- the laws of leases that this rests on
pub record LeaseLaws : Type 0 where
  pub elsewhere : (name other : NameValue) (leases : List Lease) (others : Leases) → other ≢ name → at_name name leases others other ≡ others other
  pub here : (name : NameValue) (leases : List Lease) (others : Leases) → at_name name leases others name ≡ leases
  pub others_granted : (table : TableValue) (now : ℕ) (name : NameValue) (a : Asking) (result : Result Grant GrantFault) (after : Leases) (lease : Lease) → Grants table now name a result after → lease.addr ≢ a.addr
      → Contains (leases_at now table.rows name) lease ↔ Contains (after name) lease
  pub others_released : (table : TableValue) (now : ℕ) (name : NameValue) (addr : ℕ) (result : Released) (after : Leases) (lease : Lease) → Releases table now name addr result after → lease.addr ≢ addr
      → Contains (leases_at now table.rows name) lease ↔ Contains (after name) lease
  pub stands : (table : TableValue) (now : ℕ) (name : NameValue) (a : Asking) (grant : Grant) (after : Leases) → IsSound table.config now (leases_at now table.rows) → Grants table now name a (Ok grant) after
      → (lease : Lease) × IsGranted table now name a grant (after name) lease
  pub granted_sound : (table : TableValue) (now : ℕ) (name : NameValue) (a : Asking) (result : Result Grant GrantFault) (after : Leases) → IsSound table.config now (leases_at now table.rows) → Grants table now name a result after
      → IsSound table.config now after
  pub released_sound : (table : TableValue) (now : ℕ) (name : NameValue) (addr : ℕ) (result : Released) (after : Leases) → IsSound table.config now (leases_at now table.rows) → Releases table now name addr result after
      → IsSound table.config now after
  pub holds : HoldLaw
  pub beside : (table : TableValue) (now : ℕ) (name : NameValue) (a : Asking) (grant : Grant) (after : Leases) (other : Lease) → Grants table now name a (Ok grant) after
      → Contains (leases_at now table.rows name) other → other.addr ≢ a.addr → (other.kind ≡ Group) × (a.kind ≡ Group)

-- ---- a lease that stays

-- leases of another name stay
at_other : LeaseLaws → {name q : NameValue} {after : Leases} {ip : ℕ} {kind : Kind} {till : ℕ} (leases : List Lease) (before : Leases) → after ≡ at_name name leases before → q ≢ name → IsLeased (before q) ip kind till → IsLeased (after q) ip kind till
at_other laws {name} {q} {ip = ip} {kind} {till} leases before after_is ne is =
    subst (λ (ls : List Lease). IsLeased ls ip kind till) (sym (ap (λ (f : Leases). f q) after_is ∙ laws.elsewhere name q leases before ne)) is

-- a refusal leaves the leases
refused_same : {config : ConfigValue} {now count : ℕ} {a : Asking} {leases left : List Lease} {fault : GrantFault} → GrantCase config now count a leases (Err fault) left → left ≡ leases
refused_same (active off) = refl
refused_same (group_full ok none full) = refl
refused_same (table_full ok none few full) = refl

-- the seconds of a grant
granted_seconds : {config : ConfigValue} {now count : ℕ} {a : Asking} {leases left : List Lease} {grant : Grant} → GrantCase config now count a leases (Ok grant) left → grant.seconds ≡ granted config.longest a.ttl
granted_seconds (renews ok before after lease is own) = refl
granted_seconds (begins ok none few room) = refl

-- the asker's own lease, of the asked kind, ends no earlier
own_kept : LeaseLaws → {table : TableValue} {now : ℕ} {name : NameValue} {a : Asking} {after : Leases} {kind : Kind} {till : ℕ} (result : Result Grant GrantFault) → IsSound table.config now (leases_at now table.rows)
    → Grants table now name a result after → kind ≡ a.kind → IsLeased (leases_at now table.rows name) a.addr kind till → IsLeased (after name) a.addr kind till
own_kept laws {table} {now} {name} {a} {after} {kind} (Ok grant) sound grants same is =
    let s = laws.stands table now name a grant after sound grants in
    let g = s.1 in
    let lasts = is.lasts in
    let longer = g.no_earlier _ is.among refl in
    record { end = (s.0).end; among = subst (λ (l : Lease). Contains (after name) l) (as_written s.0 g.addr_is (g.kind_is ∙ sym same)) g.stands; lasts = omega arith }
  where
    as_written : (l : Lease) → l.addr ≡ a.addr → l.kind ≡ kind → l ≡ record { addr = a.addr; kind = kind; end = l.end }
    as_written l p q = λ i. record { addr = p i; kind = q i; end = l.end }
own_kept laws {table} {now} {name} {a} {kind = kind} {till} (Err fault) sound grants same is =
    subst (λ (ls : List Lease). IsLeased ls a.addr kind till)
    (sym (ap (λ (f : Leases). f name) grants.after_is ∙ laws.here name grants.leases (leases_at now table.rows) ∙ refused_same grants.rule)) is

grants_keep : LeaseLaws → {table : TableValue} {now : ℕ} {name : NameValue} {a : Asking} {result : Result Grant GrantFault} {after : Leases} → IsSound table.config now (leases_at now table.rows) → Grants table now name a result after
    → (q : NameValue) {ip : ℕ} {kind : Kind} {till : ℕ} → (q ≡ name → ip ≡ a.addr → kind ≡ a.kind) → IsLeased (leases_at now table.rows q) ip kind till → IsLeased (after q) ip kind till
grants_keep laws {table} {now} {name} {a} {result} {after} sound grants q {ip} {kind} {till} same is = by_name (names_apart q name)
  where
    by_addr : q ≡ name → (ip ≡ a.addr) ⊎ (ip ≡ a.addr → ⊥) → IsLeased (leases_at now table.rows name) ip kind till → IsLeased (after name) ip kind till
    by_addr e (inl own) is =
        subst (λ (x : ℕ). IsLeased (after name) x kind till) (sym own) (own_kept laws result sound grants (same e own) (subst (λ (x : ℕ). IsLeased (leases_at now table.rows name) x kind till) own is))
    by_addr e (inr ne) is = record { end = is.end; among = (laws.others_granted table now name a result after _ grants ne).0 is.among; lasts = is.lasts }

    by_name : (q ≡ name) ⊎ (q ≢ name) → IsLeased (after q) ip kind till
    by_name (inl e) =
        subst (λ (n : NameValue). IsLeased (after n) ip kind till) (sym e) (by_addr e (cases_eq ip a.addr) (subst (λ (n : NameValue). IsLeased (leases_at now table.rows n) ip kind till) e is))
    by_name (inr ne) = at_other laws grants.leases (leases_at now table.rows) grants.after_is ne is

releases_keep : LeaseLaws → {table : TableValue} {now : ℕ} {name : NameValue} {addr : ℕ} {result : Released} {after : Leases} → Releases table now name addr result after
    → (q : NameValue) {ip : ℕ} {kind : Kind} {till : ℕ} → (q ≡ name → ip ≡ addr → ⊥) → IsLeased (leases_at now table.rows q) ip kind till → IsLeased (after q) ip kind till
releases_keep laws {table} {now} {name} {addr} {result} {after} releases q {ip} {kind} {till} other is = by_name (names_apart q name)
  where
    by_name : (q ≡ name) ⊎ (q ≢ name) → IsLeased (after q) ip kind till
    by_name (inl e) =
        let was = subst (λ (n : NameValue). IsLeased (leases_at now table.rows n) ip kind till) e is in
        subst (λ (n : NameValue). IsLeased (after n) ip kind till) (sym e)
        (record { end = was.end; among = (laws.others_released table now name addr result after _ releases (other e)).0 was.among; lasts = was.lasts })
    by_name (inr ne) = at_other laws releases.leases (leases_at now table.rows) releases.after_is ne is

-- a request asks for the kind that the registration in it has
asks_kind : {q : NameValue} {kind : Kind} {m : MessageValue} {r : Registration} → AsksFor m r → r.name ≡ q → (IsRequest q m → AsksAs kind m) → r.kind ≡ kind
asks_kind (serving.by_registration x) e asked = asked e
asks_kind (serving.by_refresh x) e asked = asked e

-- A lease of an end that wants the name, and whose requests are for its kind, stays, whatever the server is asked.
serves_keep : LeaseLaws → {table : TableValue} {now ip : ℕ} {m : MessageValue} {reply : Option MessageValue} {after : Leases} → IsSound table.config now (leases_at now table.rows) → Serves table now ip m reply after
    → (q : NameValue) {own : ℕ} {kind : Kind} {till : ℕ} → (own ≡ ip → IsRequest q m → AsksAs kind m) → IsLeased (leases_at now table.rows q) own kind till → IsLeased (after q) own kind till
serves_keep laws sound (serving.registers x r result l asks is grants) q asked leased = grants_keep laws sound grants q (λ e same. sym (asks_kind asks (sym e) (asked (same ∙ is.0)))) leased
serves_keep laws sound (serving.refuses x r asks is) q asked leased = leased
serves_keep laws sound (serving.refuses_overwrite r) q asked leased = leased
serves_keep laws sound (serving.releases id name k addr result l is releases) q asked leased = releases_keep laws releases q (λ e same. asked (same ∙ is.0) (sym e)) leased
serves_keep laws sound (serving.refuses_release id name k addr is) q asked leased = leased
serves_keep laws sound (serving.finds id name end least) q asked leased = leased
serves_keep laws sound (serving.finds_none id name none) q asked leased = leased
serves_keep laws sound (serving.passes_over x is) q asked leased = leased

pub octets_keep : LeaseLaws → {server : ServerValue} {now ip : ℕ} {octets : List ℕ} {reply : Option MessageValue} {after : Leases} → IsSound server.table.config now (leases_at now server.table.rows) → ServesOctets server now ip octets reply after
    → (q : NameValue) {own : ℕ} {kind : Kind} {till : ℕ} → ((m : MessageValue) → Spells octets m → own ≡ ip → IsRequest q m → AsksAs kind m) → IsLeased (leases_at now server.table.rows q) own kind till → IsLeased (after q) own kind till
octets_keep laws sound (serving.is_silent early) q asked leased = leased
octets_keep laws sound (serving.is_no_message none) q asked leased = leased
octets_keep laws sound (serving.turns_away m speaks spells over) q asked leased = leased
octets_keep laws sound (serving.serves m p l speaks spells room does) q asked leased = serves_keep laws sound does q (asked m spells) leased

-- ---- a grant

-- seconds that were granted are granted for as long, and for the longest at most
granted_again : (longest ttl : ℕ) → granted longest (granted longest ttl) ≤ granted longest ttl
granted_again longest ttl = no_more (granted longest ttl) (none longest ttl)
  where
    no_more : (seconds : ℕ) → (seconds ≡ 0 → longest ≡ 0) → granted longest seconds ≤ seconds
    no_more zero ends = let e = ends refl in omega arith
    no_more (suc n) ends = omega arith

    none : (most t : ℕ) → granted most t ≡ 0 → most ≡ 0
    none most zero e = e
    none most (suc t) e = omega arith

pub granted_most : (longest ttl : ℕ) → granted longest ttl ≤ longest
granted_most longest zero = omega arith
granted_most longest (suc t) = omega arith

-- what a positive reply gives: a lease for as long as the reply says, beside none but as a group's
pub record Gives (now longest ip ttl : ℕ) (before after : List Lease) (kind : Kind) : Type 0 where
  pub leased : IsLeased after ip kind (now + 1000 * granted longest ttl)
  pub beside : (other : Lease) → Contains before other → other.addr ≢ ip → (other.kind ≡ Group) × (kind ≡ Group)

granted_gives : LeaseLaws → {table : TableValue} {now : ℕ} {grant : Grant} {after : Leases} (r : Registration) → IsSound table.config now (leases_at now table.rows) → Grants table now r.name (asked_in r) (Ok grant) after
    → Gives now table.config.longest r.addr grant.seconds (leases_at now table.rows r.name) (after r.name) r.kind
granted_gives laws {table} {now} {grant} {after} r sound grants = record { leased = leased; beside = λ other c ne. laws.beside table now r.name (asked_in r) grant after other grants c ne }
  where
    as_written : (l : Lease) → l.addr ≡ r.addr → l.kind ≡ r.kind → l ≡ record { addr = r.addr; kind = r.kind; end = l.end }
    as_written l p q = λ i. record { addr = p i; kind = q i; end = l.end }

    leased : IsLeased (after r.name) r.addr r.kind (now + 1000 * granted table.config.longest grant.seconds)
    leased =
        let s = laws.stands table now r.name (asked_in r) grant after sound grants in
        let g = s.1 in
        let long = g.as_granted in
        let seconds = granted_seconds grants.rule in
        let again : granted table.config.longest grant.seconds ≤ granted table.config.longest r.ttl =
        subst (λ (x : ℕ). granted table.config.longest x ≤ granted table.config.longest r.ttl) (sym seconds) (granted_again table.config.longest r.ttl) in
        record { end = (s.0).end; among = subst (λ (l : Lease). Contains (after r.name) l) (as_written s.0 g.addr_is g.kind_is) g.stands; lasts = omega arith }

-- a positive reply is that of a grant
fault_positive : (fault : GrantFault) → serving.fault_rcode fault ≡ 0 → ⊥
fault_positive Active e = cc
fault_positive TableFull e = cc
fault_positive GroupFull e = cc
fault_positive OutOfMemory e = cc

rcode_is : (n k : ℕ) (r x : Registration) → Some (registered n r) ≡ Some (registered k x) → n ≡ k
rcode_is n k r x e = cc

registration_is : (n k : ℕ) (r x : Registration) → Some (registered n r) ≡ Some (registered k x) → r ≡ x
registration_is n k r x e = cc

serves_gives : LeaseLaws → {table : TableValue} {now ip : ℕ} {m : MessageValue} {reply : Option MessageValue} {after : Leases} {x : Registration} {q : NameValue} {kind : Kind} → IsSound table.config now (leases_at now table.rows)
    → Serves table now ip m reply after → reply ≡ Some (registered 0 x) → x.name ≡ q → (IsRequest q m → AsksAs kind m) → Gives now table.config.longest ip x.ttl (leases_at now table.rows q) (after q) kind
serves_gives laws {table} {now} {ip} {after = after} {x} {q} {kind} sound (serving.registers k r (Ok grant) l asks is grants) e name asked =
    let one = registration_is 0 0 (record r { ttl = grant.seconds }) x e in
    let named : r.name ≡ q = ap (λ (y : Registration). y.name) one ∙ name in
    let of_kind : r.kind ≡ kind = asks_kind asks named asked in
    subst (λ (n : NameValue). Gives now table.config.longest ip x.ttl (leases_at now table.rows n) (after n) kind) named
    (subst (λ (j : Kind). Gives now table.config.longest ip x.ttl (leases_at now table.rows r.name) (after r.name) j) of_kind
    (subst (λ (t : ℕ). Gives now table.config.longest ip t (leases_at now table.rows r.name) (after r.name) r.kind) (ap (λ (y : Registration). y.ttl) one)
    (subst (λ (i : ℕ). Gives now table.config.longest i grant.seconds (leases_at now table.rows r.name) (after r.name) r.kind) is.0 (granted_gives laws r sound grants))))
serves_gives laws {x = x} sound (serving.registers k r (Err fault) l asks is grants) e name asked = absurd (fault_positive fault (rcode_is (serving.fault_rcode fault) 0 (record r { ttl = 0 }) x e))
serves_gives laws sound (serving.refuses k r asks is) e name asked = absurd cc
serves_gives laws sound (serving.refuses_overwrite r) e name asked = absurd cc
serves_gives laws sound (serving.releases id n k addr result l is releases) e name asked = absurd cc
serves_gives laws sound (serving.refuses_release id n k addr is) e name asked = absurd cc
serves_gives laws sound (serving.finds id n end least) e name asked = absurd cc
serves_gives laws sound (serving.finds_none id n none) e name asked = absurd cc
serves_gives laws sound (serving.passes_over k is) e name asked = absurd cc

-- a server that gives something speaks
pub octets_give : LeaseLaws → {server : ServerValue} {now ip : ℕ} {octets : List ℕ} {reply : Option MessageValue} {after : Leases} {x : Registration} {q : NameValue} {kind : Kind} → IsSound server.table.config now (leases_at now server.table.rows)
    → ServesOctets server now ip octets reply after → reply ≡ Some (registered 0 x) → x.name ≡ q → ((m : MessageValue) → Spells octets m → IsRequest q m → AsksAs kind m)
    → (speaks_from server ≤ now) × Gives now server.table.config.longest ip x.ttl (leases_at now server.table.rows q) (after q) kind
octets_give laws sound (serving.is_silent early) e name asked = absurd cc
octets_give laws sound (serving.is_no_message none) e name asked = absurd cc
octets_give laws sound (serving.turns_away m speaks spells over) e name asked = let positive : 2 ≡ 0 = rcode_is 2 0 _ _ e in absurd cc
octets_give laws sound (serving.serves m p l speaks spells room does) e name asked = (speaks, serves_gives laws sound does e name (asked m spells))
