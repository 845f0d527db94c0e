-- Claims stay covered, and beside one another, when the server takes a datagram: a claim is an old one, or the grant of
-- this reply covers it.
use Rattle.std.proofs.Common.{◌≡◌, ◌≢◌, ℕ, ◌+◌, ◌*◌, ◌<◌, ◌≤◌, List, Option, Some, refl, sym, ap, subst, ◌∙◌, arith, inl, inr}
use Rattle.std.specs.Prelude.{IsTrue, ◌⊎◌}
use Rattle.nbt_name.specs.declared.addr.Addr.{Addr}
use Rattle.nbt_name.specs.declared.addr.Kind.{Kind}
use Rattle.nbt_name.specs.declared.addr.Kind.TheVariants.{Group}
use Rattle.nbt_name.specs.Wire.{NameValue}
use Rattle.nbt_packet.specs.declared.message.Registration.{Registration}
use Rattle.nbt_packet.specs.Message.{MessageValue, registration, overwrite, refresh, release, query, status_request, registered, released, found, not_found, status, wait}
use Rattle.nbt_packet.specs.Spelling.{Spells}
use Rattle.nbt_lease.specs.declared.lease.Lease.{Lease}
use Rattle.nbt_lease.specs.Config.{ConfigValue, granted, milliseconds}
use Rattle.nbt_lease.specs.Drift.{hold}
use Rattle.nbt_lease.specs.Lease.{Leases, leases_at, AreSound, IsSound}
use Rattle.nbt_server.specs.Serving.{ServerValue, speaks_from}
use Rattle.nbt_node.specs.Node.{NodeValue}
use Rattle.nbt_world.specs.declared.clocks.Clocks.{Clocks}
use Rattle.nbt_world.specs.declared.network.Datagram.{Datagram}
use Rattle.nbt_world.specs.Drift.{reading}
use Rattle.nbt_world.specs.World.{WorldValue, addr_of, node_of, latest, with_server}
use Rattle.nbt_server.specs.Calls.{ServerTakes}
use Rattle.nbt_world.specs.Step.{MovesName}
use Rattle.nbt_world.specs.Inner.Kept.{IsRequest, AsksAs, Replied, known, Wants, Claims, has, may_get, IsLeased, Covers, ClaimsIn, IsCoveredIn, ClaimsKept, Invariant}
use Rattle.nbt_world.proofs.Claiming.{claims_want}
use Rattle.nbt_world.proofs.Drifting.{hold_over}
use Rattle.nbt_world.proofs.Keeping.{Grows, server_addr_with, server_node_with}
use Rattle.nbt_world.proofs.Covering.{covered_as, replied_still, server_claims}
use Rattle.nbt_world.specs.Inner.Handing.{Origin, listed, strange, harmless}
use Rattle.nbt_world.proofs.Granting.{LeaseLaws, Gives, granted_most, octets_keep, octets_give}

-- the end of this number, which is at this address, asks for the name as this kind, or holds it
record WantsAt (w : WorldValue) (n : ℕ) (a : Addr) (q : NameValue) (kind : Kind) : Type 0 where
  at : addr_of w.ends n ≡ Some a
  wants : Wants (known (node_of w.ends n) q) kind

-- a request moves a name
pub request_moves : (name : NameValue) (m : MessageValue) → IsRequest name m → MovesName m
request_moves name (registration r) is = tt
request_moves name (overwrite r) is = tt
request_moves name (refresh r) is = tt
request_moves name (release id n kind addr) is = tt
request_moves name (query id n) is = is
request_moves name (status_request id n) is = is
request_moves name (registered rcode r) is = absurd is
request_moves name (released id rcode n kind addr) is = is
request_moves name (found id n ttl entries cut) is = is
request_moves name (not_found id rcode n) is = is
request_moves name (status id n names) is = is
request_moves name (wait id n ttl) is = is

-- what it has asked with these octets is the name as its kind
asked_kind : {w : WorldValue} {from to : Addr} {octets : List ℕ} {n : ℕ} {a : Addr} {q : NameValue} {kind : Kind} → Invariant w → IsTrue w.timely → Origin w from to octets → WantsAt w n a q kind
    → (m : MessageValue) → Spells octets m → a.ip ≡ from.ip → IsRequest q m → AsksAs kind m
asked_kind {n = n} {a} kept on (strange off) want m spells same is = absurd (off (n, a, want.at, same))
asked_kind {q = q} kept on (harmless off) want m spells same is = absurd (off (m, spells, request_moves q m is))
asked_kind {n = n} {a} {q} {kind} kept on (listed d c f t o delivered) want m spells same is =
    (kept.requests on n a q want.at).one_kind kind d.moment m want.wants
    (record { datagram = d; among = c; sender = ap (λ (x : Addr). x.ip) f ∙ sym same; moment_is = refl; spelled = subst (λ (xs : List ℕ). Spells xs m) (sym o) spells; request = is }) delivered

-- whether leases are sound depends on the longest lease alone
pub sound_by : (one other : ConfigValue) (now : ℕ) (leases : Leases) → one.longest ≡ other.longest → IsSound one now leases → IsSound other now leases
sound_by one other now leases same sound = λ name. subst (λ (n : ℕ). AreSound (now + milliseconds n) (leases name)) same (sound name)

-- The server took a datagram, and sent its reply, if any.
pub record Took (w : WorldValue) (server new : ServerValue) (from to : Addr) (octets : List ℕ) (reply : Option MessageValue) (sent : List Datagram) : Type 0 where
  pub kept : Invariant w
  pub on : IsTrue w.timely
  pub up : latest w.ends ≡ Some server
  pub longest_is : server.table.config.longest ≡ w.config.longest
  pub sound : IsSound server.table.config (reading w.now 0) (leases_at (reading w.now 0) server.table.rows)
  pub origin : Origin w from to octets
  pub takes : ServerTakes server (reading w.now 0) from.ip octets reply new
  pub grows : Grows w.sent sent
  pub more : (a : Addr) (q : NameValue) (moment : Clocks) (message : MessageValue) → Replied sent w.ends.server_addr a q moment message
      → Replied w.sent w.ends.server_addr a q moment message ⊎ ((moment ≡ w.now) × (from ≡ a) × (reply ≡ Some message))

-- what the reply gives an end, if it is positive and about a name that the end wants
record Given (w : WorldValue) (from : Addr) (reply : Option MessageValue) (sent : List Datagram) (n : ℕ) (a : Addr) (q : NameValue) (kind : Kind) : Type 0 where
  moment : Clocks
  r : Registration
  now_is : moment ≡ w.now
  to_is : from ≡ a
  reply_is : reply ≡ Some (registered 0 r)
  replied : Replied sent w.ends.server_addr a q moment (registered 0 r)
  want : WantsAt w n a q kind

-- a claim afterwards: an old one, or what this reply gives
data Claimed (w : WorldValue) (from : Addr) (reply : Option MessageValue) (sent : List Datagram) (n : ℕ) (a : Addr) (q : NameValue) (kind : Kind) (end : ℕ) : Type 0 where
  before : ClaimsIn w n a q kind end → Claimed w from reply sent n a q kind end
  given : (g : Given w from reply sent n a q kind) → end ≤ reading g.moment n + hold (granted w.config.longest g.r.ttl) → Claimed w from reply sent n a q kind end

claimed : {w : WorldValue} {server new : ServerValue} {from to : Addr} {octets : List ℕ} {reply : Option MessageValue} {sent : List Datagram} {n : ℕ} {a : Addr} {q : NameValue} {kind : Kind} {end : ℕ} → Took w server new from to octets reply sent
    → addr_of w.ends n ≡ Some a → Claims w.config.longest w.config.life w.now.clock (Replied sent w.ends.server_addr a q) (known (node_of w.ends n) q) kind end → Claimed w from reply sent n a q kind end
claimed took p (has j e h) = before (has j e h)
claimed {w} {from = from} {reply = reply} {sent} {n} {a} {q} took p (may_get j first moment r o replied d) = go (took.more a q moment (registered 0 r) replied)
  where
    go : Replied w.sent w.ends.server_addr a q moment (registered 0 r) ⊎ ((moment ≡ w.now) × (from ≡ a) × (reply ≡ Some (registered 0 r)))
        → Claimed w from reply sent n a q j (first + hold (granted w.config.longest r.ttl))
    go (inl old) = before (may_get j first moment r o old d)
    go (inr e) =
        let at : reading moment n ≡ reading w.now n = ap (λ (c : Clocks). reading c n) e.0 in
        let claim : Claims w.config.longest w.config.life w.now.clock (Replied sent w.ends.server_addr a q) (known (node_of w.ends n) q) j (first + hold (granted w.config.longest r.ttl)) = may_get j first moment r o replied d in
        let begun = (took.kept.replies took.on n a q p).begun j first o in
        given (record { moment = moment; r = r; now_is = e.0; to_is = e.1; reply_is = e.2; replied = replied; want = record { at = p; wants = claims_want claim } }) (omega arith)

gives : LeaseLaws → {w : WorldValue} {server new : ServerValue} {from to : Addr} {octets : List ℕ} {reply : Option MessageValue} {sent : List Datagram} {n : ℕ} {a : Addr} {q : NameValue} {kind : Kind} → Took w server new from to octets reply sent
    → (g : Given w from reply sent n a q kind)
    → (speaks_from server ≤ reading w.now 0) × Gives (reading w.now 0) w.config.longest a.ip g.r.ttl (leases_at (reading w.now 0) server.table.rows q) (leases_at (reading w.now 0) new.table.rows q) kind
gives laws {w} {server} {new} {a = a} {q} {kind} took g =
    subst (λ (n : ℕ). (speaks_from server ≤ reading w.now 0) × Gives (reading w.now 0) n a.ip g.r.ttl (leases_at (reading w.now 0) server.table.rows q) (leases_at (reading w.now 0) new.table.rows q) kind) took.longest_is
    (subst (λ (x : Addr). (speaks_from server ≤ reading w.now 0) × Gives (reading w.now 0) server.table.config.longest x.ip g.r.ttl (leases_at (reading w.now 0) server.table.rows q) (leases_at (reading w.now 0) new.table.rows q) kind) g.to_is
    (octets_give laws took.sound took.takes.serves g.reply_is g.replied.reply (λ m spells is. asked_kind took.kept took.on took.origin g.want m spells (ap (λ (x : Addr). x.ip) (sym g.to_is)) is)))

-- what backs an old claim backs it still
backs_still : LeaseLaws → {w : WorldValue} {server new : ServerValue} {from to : Addr} {octets : List ℕ} {reply : Option MessageValue} {sent : List Datagram} {n : ℕ} {a : Addr} {q : NameValue} {kind : Kind} {till : ℕ} → Took w server new from to octets reply sent
    → WantsAt w n a q kind → Covers (reading w.now 0) (Some server) a.ip q kind till → Covers (reading w.now 0) (Some new) a.ip q kind till
backs_still laws {q = q} took want (inl leased) = inl (octets_keep laws took.sound took.takes.serves q (asked_kind took.kept took.on took.origin want) leased)
backs_still laws {server = server} {new} took want (inr silent) =
    let start = took.takes.start in
    let longest : new.table.config.longest ≡ server.table.config.longest = ap (λ (c : ConfigValue). c.longest) took.takes.config in
    inr (omega arith)

pub served_claims : LeaseLaws → {w : WorldValue} {server new : ServerValue} {from to : Addr} {octets : List ℕ} {reply : Option MessageValue} {sent : List Datagram} → Took w server new from to octets reply sent
    → ClaimsKept (record w { ends = with_server w.ends (Some new) w.ends.crashed; sent = sent })
served_claims laws {w} {server} {new} {from} {reply = reply} {sent} took = record {
  covered = λ n a q kind end p c lt. let at = sym (server_addr_with w.ends (Some new) w.ends.crashed n) ∙ p in covered n a q kind end at lt (is_claimed n a q kind end at c);
  beside = λ i j a b q k l d e ne p s c x f y.
      let at = sym (server_addr_with w.ends (Some new) w.ends.crashed i) ∙ p in
      let by = sym (server_addr_with w.ends (Some new) w.ends.crashed j) ∙ s in
      beside i j a b q k l d e ne at by x y (is_claimed i a q k d at c) (is_claimed j b q l e by f);
}
  where
    is_claimed : (n : ℕ) (a : Addr) (q : NameValue) (kind : Kind) (end : ℕ) → addr_of w.ends n ≡ Some a → ClaimsIn (record w { ends = with_server w.ends (Some new) w.ends.crashed; sent = sent }) n a q kind end
        → Claimed w from reply sent n a q kind end
    is_claimed n a q kind end p c =
        claimed took p
        (subst (λ (z : Option NodeValue). Claims w.config.longest w.config.life w.now.clock (Replied sent w.ends.server_addr a q) (known z q) kind end) (server_node_with w.ends (Some new) w.ends.crashed n) c)

    backed : (a : Addr) (q : NameValue) (kind : Kind) (till : ℕ) → Covers (reading w.now 0) (latest w.ends) a.ip q kind till → Covers (reading w.now 0) (Some server) a.ip q kind till
    backed a q kind till b = subst (λ (s : Option ServerValue). Covers (reading w.now 0) s a.ip q kind till) took.up b

    covered : (n : ℕ) (a : Addr) (q : NameValue) (kind : Kind) (end : ℕ) → addr_of w.ends n ≡ Some a → reading w.now n < end → Claimed w from reply sent n a q kind end
        → IsCoveredIn (record w { ends = with_server w.ends (Some new) w.ends.crashed; sent = sent }) n a q kind end
    covered n a q kind end p lt (before c) =
        let is = (took.kept.claims took.on).covered n a q kind end p c lt in
        covered_as (replied_still took.grows) is (backs_still laws took (record { at = p; wants = claims_want c }) (backed a q kind (reading is.moment 0 + 1000 * is.seconds) is.backed))
    covered n a q kind end p lt (given g ends) =
        let leased = ((gives laws took g).1).leased in
        record {
          moment = g.moment;
          message = registered 0 g.r;
          replied_is = g.replied;
          seconds = granted w.config.longest g.r.ttl;
          within = granted_most w.config.longest g.r.ttl;
          counted = ends;
          backed = inl (record { end = leased.end; among = leased.among; lasts = let lasts = leased.lasts in let now : reading g.moment 0 ≡ reading w.now 0 = ap (λ (c : Clocks). reading c 0) g.now_is in omega arith });
        }

    -- a grant, and an old claim of another node
    grant_beside : {i j : ℕ} {a b : Addr} {q : NameValue} {k l : Kind} {e : ℕ} → i ≢ j → Given w from reply sent i a q k → addr_of w.ends j ≡ Some b → reading w.now j < e → ClaimsIn w j b q l e → (l ≡ Group) × (k ≡ Group)
    grant_beside {i} {j} {a} {b} {q} {k} {l} {e} ne g s y c =
        let gave = gives laws took g in
        let cover = (took.kept.claims took.on).covered j b q l e s c y in
        let counted = cover.counted in
        go gave.0 gave.1 (reading cover.moment 0 + 1000 * cover.seconds)
        (hold_over laws.holds took.kept.clocks took.on took.kept.sent j (b, s) cover.replied_is cover.seconds (omega arith))
        (backed b q l (reading cover.moment 0 + 1000 * cover.seconds) cover.backed)
      where
        go : speaks_from server ≤ reading w.now 0 → Gives (reading w.now 0) w.config.longest a.ip g.r.ttl (leases_at (reading w.now 0) server.table.rows q) (leases_at (reading w.now 0) new.table.rows q) k → (till : ℕ) → reading w.now 0 < till
            → Covers (reading w.now 0) (Some server) b.ip q l till → (l ≡ Group) × (k ≡ Group)
        go speaks gave till over (inl leased) = gave.beside _ leased.among (λ ip. ne (took.kept.ends.apart i j a b g.want.at s (sym ip)))
        go speaks gave till over (inr silent) = absurd (omega arith)

    beside : (i j : ℕ) (a b : Addr) (q : NameValue) (k l : Kind) (d e : ℕ) → i ≢ j → addr_of w.ends i ≡ Some a → addr_of w.ends j ≡ Some b → reading w.now i < d → reading w.now j < e
        → Claimed w from reply sent i a q k d → Claimed w from reply sent j b q l e → (k ≡ Group) × (l ≡ Group)
    beside i j a b q k l d e ne p s x y (before c) (before f) = (took.kept.claims took.on).beside i j a b q k l d e ne p s c x f y
    beside i j a b q k l d e ne p s x y (given g ends) (before f) = let both = grant_beside ne g s y f in (both.1, both.0)
    beside i j a b q k l d e ne p s x y (before c) (given g ends) = grant_beside (λ z. ne (sym z)) g p x c
    beside i j a b q k l d e ne p s x y (given g ends) (given h last) = absurd (ne (took.kept.ends.apart i j a b p s (ap (λ (z : Addr). z.ip) (sym g.to_is ∙ h.to_is))))

-- the leases are as they were, and the silence
pub still_claims : {w : WorldValue} {server new : ServerValue} → Invariant w → IsTrue w.timely → latest w.ends ≡ Some server → leases_at (reading w.now 0) new.table.rows ≡ leases_at (reading w.now 0) server.table.rows
    → new.start ≡ server.start → new.table.config.longest ≡ server.table.config.longest → {kept : Option ServerValue} → ClaimsKept (record w { ends = with_server w.ends (Some new) kept; sent = w.sent })
still_claims {w} {server} {new} kept on up leases start longest {kept = y} =
    server_claims w (Some new) y kept on (λ n a q kind end p c lt is. still a q kind (reading is.moment 0 + 1000 * is.seconds) (subst (λ (s : Option ServerValue). Covers (reading w.now 0) s a.ip q kind (reading is.moment 0 + 1000 * is.seconds)) up is.backed))
  where
    still : (a : Addr) (q : NameValue) (kind : Kind) (till : ℕ) → Covers (reading w.now 0) (Some server) a.ip q kind till → Covers (reading w.now 0) (Some new) a.ip q kind till
    still a q kind till (inl leased) = inl (subst (λ (ls : List Lease). IsLeased ls a.ip kind till) (ap (λ (f : NameValue → List Lease). f q) (sym leases)) leased)
    still a q kind till (inr silent) = inr (omega arith)
