-- Claims stay covered, and beside one another, where no claim is new and what covers them stays: when the clock goes on,
-- when one node changes, and when the server starts or crashes.
use Rattle.std.proofs.Common.{◌≡◌, ℕ, suc, ◌+◌, ◌*◌, ◌<◌, ◌≤◌, Bool, true, false, cond, List, [], ◌∷◌, Option, Some, None, refl, sym, ap, subst, ◌∙◌, arith, inl, inr}
use Rattle.std.specs.Prelude.{Contains, IsTrue, ◌⊎◌, filter}
use Rattle.std.specs.Option.{option_or}
use Rattle.std.proofs.lemmas.Bool.{lt-ltb, cases_eq}
use Rattle.std.proofs.lemmas.Option.{same_Some}
use Rattle.std.proofs.lemmas.List.Elements.{Contains-push_cases, Contains-append_cases, Contains-append_right}
use Rattle.nbt_name.specs.declared.addr.Addr.{Addr}
use Rattle.nbt_name.specs.declared.addr.Kind.{Kind}
use Rattle.nbt_name.specs.Wire.{NameValue}
use Rattle.nbt_packet.specs.Message.{MessageValue}
use Rattle.nbt_lease.specs.declared.lease.Lease.{Lease}
use Rattle.nbt_lease.specs.Config.{ConfigValue}
use Rattle.nbt_lease.specs.Lease.{Rows, is_live, leases_at}
use Rattle.nbt_server.specs.Serving.{ServerValue}
use Rattle.nbt_node.specs.declared.state.State.TheVariants.{Idle}
use Rattle.nbt_node.specs.Node.{NodeValue}
use Rattle.nbt_world.specs.declared.clocks.Clocks.{Clocks}
use Rattle.nbt_world.specs.declared.clocks.Least.{Least}
use Rattle.nbt_world.specs.declared.network.Datagram.{Datagram}
use Rattle.nbt_world.specs.Drift.{reading}
use Rattle.nbt_world.specs.World.{WorldValue, addr_of, IsEnd, node_of, latest, with_server, with_node}
use Rattle.nbt_server.specs.Calls.{ServerStarts}
use Rattle.nbt_world.specs.Inner.Kept.{Asked, Replied, known, RequestsEnded, RepliesFresh, Claims, has, may_get, Covers, IsCovered, ClaimsIn, IsCoveredIn, IsNodeOf, AreRead, IsSent, Invariant, ClaimsKept}
use Rattle.nbt_world.proofs.Knowing.{Within, knows}
use Rattle.nbt_world.proofs.Drifting.{HoldLaw, hold_over}
use Rattle.nbt_world.proofs.Claiming.{NoNewClaim, claims_fewer}
use Rattle.nbt_world.proofs.Keeping.{replied_among, Grows, Adds, no_reply_more, addr_with, node_with_other, node_with_here, node_changes, server_addr_with, server_node_with}

-- ---- what is no claim

pub down_claims : {longest life now : ℕ} {replied : Clocks → MessageValue → Type 0} {kind : Kind} {end : ℕ} → Claims longest life now replied None kind end → ⊥
down_claims (has j e w) = w
down_claims (may_get j first moment r w a d) = w

pub idle_claims : {longest life now start : ℕ} {replied : Clocks → MessageValue → Type 0} {kind : Kind} {end : ℕ} → Claims longest life now replied (knows start Idle) kind end → ⊥
idle_claims (has j e w) = w
idle_claims (may_get j first moment r w a d) = w

-- ---- no claim is new, and what covers them stays

-- more replies are there, and what backs a claim is another
pub covered_as : {longest number : ℕ} {replied more : Clocks → MessageValue → Type 0} {backs others : Kind → ℕ → Type 0} {kind : Kind} {end : ℕ} → Within replied more → (is : IsCovered longest number replied backs kind end)
    → others kind (reading is.moment 0 + 1000 * is.seconds) → IsCovered longest number more others kind end
covered_as grows is backed = record { moment = is.moment; message = is.message; replied_is = grows is.moment is.message is.replied_is; seconds = is.seconds; within = is.within; counted = is.counted; backed = backed }

pub claims_frame : (w v : WorldValue) → ((n : ℕ) (a : Addr) → addr_of w.ends n ≡ Some a → reading w.now n ≤ reading v.now n) → ((n : ℕ) → addr_of v.ends n ≡ addr_of w.ends n)
    → ((n : ℕ) (a : Addr) (name : NameValue) (kind : Kind) (end : ℕ) → addr_of w.ends n ≡ Some a → ClaimsIn v n a name kind end → reading v.now n < end → ClaimsIn w n a name kind end)
    → ((n : ℕ) (a : Addr) (name : NameValue) (kind : Kind) (end : ℕ) → addr_of w.ends n ≡ Some a → ClaimsIn w n a name kind end → reading v.now n < end → IsCoveredIn w n a name kind end → IsCoveredIn v n a name kind end)
    → ClaimsKept w → ClaimsKept v
claims_frame w v le same old still kept = record {
  covered = λ n a name kind end p c lt.
      let q = sym (same n) ∙ p in
      let was = old n a name kind end q c lt in
      let before = le n a q in
      still n a name kind end q was lt (kept.covered n a name kind end q was (omega arith));
  beside = λ i j a b name k l d e ne p q c x f y.
      let at = sym (same i) ∙ p in
      let by = sym (same j) ∙ q in
      let before = le i a at in
      let beyond = le j b by in
      kept.beside i j a b name k l d e ne at by (old i a name k d at c x) (omega arith) (old j b name l e by f y) (omega arith);
}

-- ---- the clock goes on: a lease that covers a claim lives as long

-- the law of leases that this rests on
abbrev pub LaterLive : Type 0
LaterLive = (early late : ℕ) (rows : Rows) (name : NameValue) → early ≤ late → leases_at late rows name ≡ filter (is_live late) (leases_at early rows name)

contains_filter : {X : Type 0} (p : X → Bool) (xs : List X) (x : X) → p x ≡ true → Contains xs x → Contains (filter p xs) x
contains_filter p [] x e c = let lt = c.1 in absurd (omega arith)
contains_filter p (y ∷ xs) x e c = go (contains_filter p xs x e) (Contains-append_cases (y ∷ []) xs x c)
  where
    keep : (t : Bool) → Contains (filter p xs) x → Contains (cond t (y ∷ filter p xs) (filter p xs)) x
    keep true d = Contains-append_right (y ∷ []) (filter p xs) x d
    keep false d = d

    here : (t : Bool) → t ≡ true → y ≡ x → Contains (cond t (y ∷ filter p xs) (filter p xs)) x
    here true f same = (0, omega arith, same)
    here false f same = absurd cc

    go : (Contains xs x → Contains (filter p xs) x) → Contains (y ∷ []) x ⊎ Contains xs x → Contains (cond (p y) (y ∷ filter p xs) (filter p xs)) x
    go among (inl d) = elim (Contains-push_cases [] y x d) [ inl none ↦ absurd (omega (arith, none.1)) | inr same ↦ here (p y) (ap p same ∙ e) same ]
    go among (inr d) = keep (p y) (among d)

later_backs : LaterLive → (now later : ℕ) (server : Option ServerValue) (ip : ℕ) (name : NameValue) (kind : Kind) (till : ℕ) → now ≤ later → later < till → Covers now server ip name kind till → Covers later server ip name kind till
later_backs law now later None ip name kind till le lt b = b
later_backs law now later (Some server) ip name kind till le lt (inl l) =
    let lasts = l.lasts in
    inl (record {
      end = l.end;
      among = subst (λ (ls : List Lease). Contains ls (record { addr = ip; kind = kind; end = l.end })) (sym (law now later server.table.rows name le))
          (contains_filter (is_live later) (leases_at now server.table.rows name) _ (lt-ltb later l.end (omega arith)) l.among);
      lasts = lasts;
    })
later_backs law now later (Some server) ip name kind till le lt (inr s) = inr s

pub clock_claims : LaterLive → HoldLaw → {w : WorldValue} {later : Clocks} {lower : List Least} {still_kept still_timely : Bool} → w.now.clock ≤ later.clock → ((n : ℕ) → IsEnd w.ends n → reading w.now n ≤ reading later n)
    → AreRead (record w { now = later; least = lower; kept = still_kept; timely = still_timely }) → ((d : Datagram) → Contains w.sent d → IsSent w.ends later lower d) → IsTrue still_timely
    → ClaimsKept w → ClaimsKept (record w { now = later; least = lower; kept = still_kept; timely = still_timely })
clock_claims law holds {w} {later} {lower} {still_kept} {still_timely} on_time le read all on = claims_frame w (record w { now = later; least = lower; kept = still_kept; timely = still_timely }) (λ n a p. le n (a, p)) (λ n. refl) old still
  where
    old : (n : ℕ) (a : Addr) (name : NameValue) (kind : Kind) (end : ℕ) → addr_of w.ends n ≡ Some a → ClaimsIn (record w { now = later; least = lower; kept = still_kept; timely = still_timely }) n a name kind end → reading later n < end → ClaimsIn w n a name kind end
    old n a name kind end p c lt =
        claims_fewer on_time (λ moment message r. r) c

    still : (n : ℕ) (a : Addr) (name : NameValue) (kind : Kind) (end : ℕ) → addr_of w.ends n ≡ Some a → ClaimsIn w n a name kind end → reading later n < end → IsCoveredIn w n a name kind end
        → IsCoveredIn (record w { now = later; least = lower; kept = still_kept; timely = still_timely }) n a name kind end
    still n a name kind end p c lt is =
        let counted = is.counted in
        covered_as (λ moment message r. r) is
        (later_backs law (reading w.now 0) (reading later 0) (latest w.ends) a.ip name kind (reading is.moment 0 + 1000 * is.seconds) (le 0 (w.ends.server_addr, refl)) (hold_over holds read on all n (a, p) is.replied_is is.seconds (omega arith)) is.backed)

-- ---- a node changes: what it claims, it claimed before, and what else holds of it is told name by name

pub replied_still : {old new : List Datagram} {server to : Addr} {name : NameValue} → Grows old new → Within (Replied old server to name) (Replied new server to name)
replied_still grows moment message r = replied_among r (grows r.datagram r.among)

node_claims : {w : WorldValue} {i : ℕ} {addr : Addr} {sent : List Datagram} → Adds w i addr sent → (x : Option NodeValue) → IsTrue w.timely → ((name : NameValue) → NoNewClaim w.config.longest w.config.life w.now.clock (Replied w.sent w.ends.server_addr addr name) (known (node_of w.ends (suc i)) name) (known x name))
    → ClaimsKept (record w { ends = with_node w.ends (suc i) x; sent = sent })
node_claims {w} {i} {addr} {sent} adds x on own = claims_frame w (record w { ends = with_node w.ends (suc i) x; sent = sent }) (λ n a p. omega arith) (addr_with w.ends i x) old still (adds.kept.claims on)
  where
    by : (n : ℕ) (a : Addr) (name : NameValue) (kind : Kind) (end : ℕ) → addr_of w.ends n ≡ Some a → (n ≡ suc i) ⊎ (n ≡ suc i → ⊥)
        → Claims w.config.longest w.config.life w.now.clock (Replied w.sent w.ends.server_addr a name) (known (node_of (with_node w.ends (suc i) x) n) name) kind end → ClaimsIn w n a name kind end
    by n a name kind end p (inl e) c =
        subst (λ (m : ℕ). addr_of w.ends m ≡ Some a → Claims w.config.longest w.config.life w.now.clock (Replied w.sent w.ends.server_addr a name) (known (node_of (with_node w.ends (suc i) x) m) name) kind end → ClaimsIn w m a name kind end) (sym e)
        (λ at.
        subst (λ (y : Addr). Claims w.config.longest w.config.life w.now.clock (Replied w.sent w.ends.server_addr y name) (known (node_of (with_node w.ends (suc i) x) (suc i)) name) kind end → ClaimsIn w (suc i) y name kind end) (same_Some addr a (sym adds.at ∙ at))
        (λ d. own name kind end (subst (λ (z : Option NodeValue). Claims w.config.longest w.config.life w.now.clock (Replied w.sent w.ends.server_addr addr name) (known z name) kind end) (node_with_here w.ends i x addr adds.at) d))) p c
    by n a name kind end p (inr ne) c = subst (λ (z : Option NodeValue). Claims w.config.longest w.config.life w.now.clock (Replied w.sent w.ends.server_addr a name) (known z name) kind end) (node_with_other w.ends i x n ne) c

    old : (n : ℕ) (a : Addr) (name : NameValue) (kind : Kind) (end : ℕ) → addr_of w.ends n ≡ Some a → ClaimsIn (record w { ends = with_node w.ends (suc i) x; sent = sent }) n a name kind end → reading w.now n < end → ClaimsIn w n a name kind end
    old n a name kind end p c lt =
        by n a name kind end p (cases_eq n (suc i)) (claims_fewer (omega arith) (no_reply_more adds) c)

    still : (n : ℕ) (a : Addr) (name : NameValue) (kind : Kind) (end : ℕ) → addr_of w.ends n ≡ Some a → ClaimsIn w n a name kind end → reading w.now n < end → IsCoveredIn w n a name kind end
        → IsCoveredIn (record w { ends = with_node w.ends (suc i) x; sent = sent }) n a name kind end
    still n a name kind end p c lt is = covered_as (replied_still adds.grows) is is.backed

-- What holds of one name of a node, by these limits, once the node is another and the list is this one.
pub record NameKept (config : ConfigValue) (w : WorldValue) (i : ℕ) (addr : Addr) (sent : List Datagram) (old new : Option NodeValue) (name : NameValue) : Type 0 where
  pub requests : RequestsEnded config.life (suc i) w.now.clock (reading w.now (suc i)) (Asked sent addr.ip name) (known new name)
  pub replies : RepliesFresh config.life (suc i) w.now.clock (reading w.now (suc i)) (Asked sent addr.ip name) (Replied sent w.ends.server_addr addr name) (known new name)
  pub claims : NoNewClaim config.longest config.life w.now.clock (Replied w.sent w.ends.server_addr addr name) (known old name) (known new name)

pub node_kept : {w : WorldValue} {i : ℕ} {addr : Addr} {sent : List Datagram} → Adds w i addr sent → (x : Option NodeValue) → ((node : NodeValue) → x ≡ Some node → IsNodeOf w (suc i) addr node)
    → (IsTrue w.timely → (name : NameValue) → NameKept w.config w i addr sent (node_of w.ends (suc i)) x name) → Invariant (record w { ends = with_node w.ends (suc i) x; sent = sent })
node_kept adds x is names = node_changes adds x is (λ on name. (names on name).requests) (λ on name. (names on name).replies) (λ on. node_claims adds x on (λ name. (names on name).claims))

-- ---- the server starts, and crashes: the silence lasts as long as any claim

-- the server is another, and nothing was sent
pub server_claims : (w : WorldValue) (x y : Option ServerValue) → Invariant w → IsTrue w.timely
    → ((n : ℕ) (a : Addr) (name : NameValue) (kind : Kind) (end : ℕ) → addr_of w.ends n ≡ Some a → ClaimsIn w n a name kind end → reading w.now n < end → (is : IsCoveredIn w n a name kind end) → Covers (reading w.now 0) (option_or x y) a.ip name kind (reading is.moment 0 + 1000 * is.seconds))
    → ClaimsKept (record w { ends = with_server w.ends x y; sent = w.sent })
server_claims w x y kept on backs =
    claims_frame w (record w { ends = with_server w.ends x y; sent = w.sent }) (λ n a p. omega arith) (server_addr_with w.ends x y)
    (λ n a name kind end p c lt. subst (λ (z : Option NodeValue). Claims w.config.longest w.config.life w.now.clock (Replied w.sent w.ends.server_addr a name) (known z name) kind end) (server_node_with w.ends x y n) c)
    (λ n a name kind end p c lt is. covered_as (λ moment message r. r) is (backs n a name kind end p c lt is))
    (kept.claims on)

-- the server crashes, or resumes: it is as it was
pub same_claims : (w : WorldValue) (x y : Option ServerValue) → option_or x y ≡ latest w.ends → Invariant w → IsTrue w.timely → ClaimsKept (record w { ends = with_server w.ends x y; sent = w.sent })
same_claims w x y same kept on =
    server_claims w x y kept on (λ n a name kind end p c lt is. subst (λ (s : Option ServerValue). Covers (reading w.now 0) s a.ip name kind (reading is.moment 0 + 1000 * is.seconds)) (sym same) is.backed)

pub started_claims : (w : WorldValue) (server : ServerValue) → Invariant w → IsTrue w.timely → ServerStarts w.config (reading w.now 0) server → ClaimsKept (record w { ends = with_server w.ends (Some server) None; sent = w.sent })
started_claims w server kept on new = server_claims w (Some server) None kept on backs
  where
    backs : (n : ℕ) (a : Addr) (name : NameValue) (kind : Kind) (end : ℕ) → addr_of w.ends n ≡ Some a → ClaimsIn w n a name kind end → reading w.now n < end → (is : IsCoveredIn w n a name kind end)
        → Covers (reading w.now 0) (Some server) a.ip name kind (reading is.moment 0 + 1000 * is.seconds)
    backs n a name kind end p c lt is =
        let past : reading is.moment 0 ≤ reading w.now 0 =
        subst (λ (m : Clocks). reading m 0 ≤ reading w.now 0) (is.replied_is).moment_is ((kept.sent (is.replied_is).datagram (is.replied_is).among).seen 0 (w.ends.server_addr, refl)).read in
        let within = is.within in
        let begun = new.start in
        let longest : server.table.config.longest ≡ w.config.longest = ap (λ (c : ConfigValue). c.longest) new.config_is in
        inr (omega arith)
