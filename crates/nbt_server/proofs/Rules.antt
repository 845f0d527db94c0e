-- What the code has found, as a line of the server's rules and what was done by it; and that replies have a written form, which
-- is short.
use Rattle.std.proofs.Common.{◌≡◌, true, false, ℕ, zero, suc, ◌-◌, ◌++◌, ◌*◌, ◌%◌, ◌≢◌, ◌<◌, ◌≤◌, List, [], ◌∷◌, take, length, length-append, append_assoc, append-nil, ap, ◌∙◌, Option, Some, None, Result, Ok, Err, sym, subst, refl, arith}
use Rattle.nbt_server.proofs.Common.{HasNone, IsTrue, ◌↔◌, by_registration, by_refresh, registration, refresh, none-some, same_Some, IsFull, IsOverLimit, turns_away, lt-ltb, le-ltb, length-take, All-contains, All-from_recursion, IfOk, OnErr, Bool, min, nat_lt, nat_eq, is_some, if◌then◌else◌, Kind, NameValue, Message, Registration, MessageValue, message_of, query, registered, release, released, not_found, AreWritten, entry, GrantFault, Grant, Lease, Released, Leases, TableValue, members_most, AreSound, leases_at, Grants, Releases, IsLeastEnd, Claim, Refusal, Outcome, rcode_of, not_own, refusal_by, claim, claim_in, grant_outcome, release_outcome, done_by, Does, has_reply, IsUnanswered, no_message, IsDone, AsksFor, IsOwn, IsForNodes, asked_in, refused_error, name_error, fault_rcode, found_reply, grant_reply, release_rcode, entries, Serves, registers, refuses, releases, refuses_release, finds, finds_none, ServerValue, ServesOctets, is_silent, is_no_message, serves}
use Rattle.nbt_packet.proofs.Sizes.{length-entry}
use Rattle.nbt_packet.specs.declared.message.Message.TheVariants as code
use Rattle.nbt_lease.specs.declared.fault.GrantFault.TheVariants as faults
use Rattle.nbt_lease.specs.declared.lease.Released.TheVariants as outcomes
use Rattle.nbt_server.specs.declared.outcome.Refusal.TheVariants as why
use Rattle.nbt_server.specs.declared.outcome.Outcome.TheVariants as o
use Rattle.nbt_server.specs.Serving.{refusal as refusal_reply}

-- ---- one outcome of a call

pub on_ok : {T E : Type 0} {P Q : T → Type 0} (r : Result T E) → IfOk r P → ((x : T) → P x → Q x) → IfOk r Q
on_ok (Ok x) h make = make x h
on_ok (Err e) h make = tt

pub on_err : {T E P Q : Type 0} (r : Result T E) → OnErr r P → (P → Q) → OnErr r Q
on_err (Ok x) h make = tt
on_err (Err e) h make = make h

-- ---- what was done, with the written form of the reply

-- a refusal's RCODE is that of its rule
grant_rcode : (leases : List Lease) (fault : GrantFault) → rcode_of (refusal_by leases fault) ≡ fault_rcode fault
grant_rcode leases faults.Active = refl
grant_rcode leases fault = refl

either_rcode : (star : Bool) → rcode_of (if star then why.Star else why.NotOwn) ≡ refused_error
either_rcode true = refl
either_rcode false = refl

module _ (table : TableValue) (now ip : ℕ) (r : Registration) (outcome : Outcome) (out : List ℕ) (m : MessageValue) (asks : AsksFor m r) where
  -- a registration or refresh of the sender's own is granted
  pub does_grant : (grant : Grant) (after : Leases) → IsOwn ip r.name r.addr → Grants table now r.name (asked_in r) (Ok grant) after → outcome ≡ grant_outcome (claim_in r) grant
      → AreWritten (Some (grant_reply r (Ok grant))) out → Does table now ip m outcome out after
  does_grant grant after own rule is written = (Some (grant_reply r (Ok grant)), registers m r (Ok grant) after asks own rule, is, written)

  -- or refused
  pub does_refuse : (fault : GrantFault) (refusal : Refusal) (after : Leases) → IsOwn ip r.name r.addr → Grants table now r.name (asked_in r) (Err fault) after → after ≡ leases_at now table.rows
      → refusal ≡ refusal_by (after r.name) fault → outcome ≡ o.Refused (claim_in r) refusal → AreWritten (Some (registered (rcode_of refusal) (record r { ttl = 0 }))) out → Does table now ip m outcome out after
  does_refuse fault refusal after own rule same by is written = (
    Some (grant_reply r (Err fault)),
    registers m r (Err fault) after asks own rule,
    is ∙ ap (o.Refused (claim_in r)) (by ∙ ap (λ (ls : Leases). refusal_by (ls r.name) fault) same),
    subst (λ (n : ℕ). AreWritten (Some (registered n (record r { ttl = 0 }))) out) (ap rcode_of by ∙ grant_rcode (after r.name) fault) written,
  )

  -- what is not the sender's own is refused
  pub does_refuse_other : (refusal : Refusal) → ¬ IsOwn ip r.name r.addr → refusal ≡ not_own ip r.addr → outcome ≡ o.Refused (claim_in r) refusal
      → AreWritten (Some (registered (rcode_of refusal) (record r { ttl = 0 }))) out → Does table now ip m outcome out (leases_at now table.rows)
  does_refuse_other refusal other by is written = (
    Some (refusal_reply refused_error r),
    refuses m r asks other,
    is ∙ ap (o.Refused (claim_in r)) by,
    subst (λ (n : ℕ). AreWritten (Some (registered n (record r { ttl = 0 }))) out) (ap rcode_of by ∙ either_rcode (nat_eq r.addr ip)) written,
  )

module _ (table : TableValue) (now ip id : ℕ) (c : Claim) (outcome : Outcome) (out : List ℕ) where
  -- a release of the sender's own
  pub does_release : (result : Released) (after : Leases) → IsOwn ip c.name c.addr → Releases table now c.name c.addr result after → outcome ≡ release_outcome (leases_at now table.rows c.name) c result
      → AreWritten (Some (released id (release_rcode result) c.name c.kind c.addr)) out → Does table now ip (release id c.name c.kind c.addr) outcome out after
  does_release result after own rule is written = (Some (released id (release_rcode result) c.name c.kind c.addr), releases id c.name c.kind c.addr result after own rule, is, written)

  -- one that is not
  pub does_refuse_release : (refusal : Refusal) → ¬ IsOwn ip c.name c.addr → refusal ≡ not_own ip c.addr → outcome ≡ o.NotReleased c refusal
      → AreWritten (Some (released id (rcode_of refusal) c.name c.kind c.addr)) out → Does table now ip (release id c.name c.kind c.addr) outcome out (leases_at now table.rows)
  does_refuse_release refusal other by is written = (
    Some (released id refused_error c.name c.kind c.addr),
    refuses_release id c.name c.kind c.addr other,
    is ∙ ap (o.NotReleased c) by,
    subst (λ (n : ℕ). AreWritten (Some (released id n c.name c.kind c.addr)) out) (ap rcode_of by ∙ either_rcode (nat_eq c.addr ip)) written,
  )

-- ---- the limit of a client

-- a message requests one lease
abbrev requested : MessageValue → Option Registration
requested (registration r) = Some r
requested (refresh r) = Some r
requested _ = None

is_requested : {m : MessageValue} {r : Registration} → AsksFor m r → requested m ≡ Some r
is_requested (by_registration r) = refl
is_requested (by_refresh r) = refl

pub one_requested : {m : MessageValue} {r s : Registration} → AsksFor m r → AsksFor m s → r ≡ s
one_requested {r = r} {s} a b = same_Some r s (sym (is_requested a) ∙ is_requested b)

-- what requests no lease is never over it
pub within_limit : (client_rows : Option ℕ) (table : TableValue) (now ip : ℕ) (m : MessageValue) → requested m ≡ None → ¬ IsOverLimit client_rows table now ip m
within_limit client_rows table now ip m none over = none-some over.r (sym none ∙ is_requested over.asks)

pub nodes_request_nothing : (m : MessageValue) → IsForNodes m → requested m ≡ None
nodes_request_nothing (registration r) nodes = absurd nodes
nodes_request_nothing (refresh r) nodes = absurd nodes
nodes_request_nothing m nodes = refl

-- what requests a lease is over it only if it is the sender's own, and the sender is full for it
pub over_of : (client_rows : Option ℕ) (table : TableValue) (now ip : ℕ) (r : Registration) (m : MessageValue) → AsksFor m r → IsOverLimit client_rows table now ip m → IsOwn ip r.name r.addr × IsFull client_rows table now ip r.name
over_of client_rows table now ip r m asks over =
    subst (λ (q : Registration). IsOwn ip q.name q.addr × IsFull client_rows table now ip q.name) (one_requested over.asks asks) (over.own, over.full)

pub not_over : (client_rows : Option ℕ) (table : TableValue) (now ip : ℕ) (r : Registration) (m : MessageValue) → AsksFor m r → IsTrue false ↔ IsFull client_rows table now ip r.name → ¬ IsOverLimit client_rows table now ip m
not_over client_rows table now ip r m asks is over = let e = is.1 (over_of client_rows table now ip r m asks over).1 in absurd cc

-- a name's leases, looked at one after the other: there is no lease of the address as far as it was looked
pub none_next : (ip : ℕ) (all old rest : List Lease) (lease : Lease) → old ≡ lease ∷ rest → lease.addr ≢ ip → HasNone ip old ↔ HasNone ip all → HasNone ip rest ↔ HasNone ip all
none_next ip all old rest lease is other so_far =
    let now : HasNone ip (lease ∷ rest) ↔ HasNone ip all = subst (λ (ls : List Lease). HasNone ip ls ↔ HasNone ip all) is so_far in
    (λ none. now.0 (other, none), λ none. (now.1 none).1)

pub one_there : (ip : ℕ) (all old rest : List Lease) (lease : Lease) → old ≡ lease ∷ rest → lease.addr ≡ ip → HasNone ip old ↔ HasNone ip all → ¬ HasNone ip all
one_there ip all old rest lease is own so_far none = (subst (HasNone ip) is (so_far.1 none)).0 own

pub none_there : (ip : ℕ) (all rest : List Lease) → rest ≡ [] → HasNone ip rest ↔ HasNone ip all → HasNone ip all
none_there ip all rest is so_far = so_far.0 (subst (HasNone ip) (sym is) tt)

-- ---- whether there is a reply

grant_replies : (renewed : Bool) (c : Claim) (seconds : ℕ) → has_reply (if renewed then o.Renewed c seconds else o.Granted c seconds) ≡ true
grant_replies true c seconds = refl
grant_replies false c seconds = refl

release_replies : (leases : List Lease) (c : Claim) (result : Released) → has_reply (release_outcome leases c result) ≡ true
release_replies leases c outcomes.Gone = refl
release_replies leases c result = refl

message_replies : {table : TableValue} {now ip : ℕ} {m : MessageValue} {reply : Option MessageValue} {after : Leases} (does : Serves table now ip m reply after) → has_reply (done_by does) ≡ is_some reply
message_replies (registers m r (Ok grant) after asks own rule) = grant_replies grant.renewed (claim_in r) grant.seconds
message_replies {table} {now} (releases id name kind addr result after own rule) = release_replies (leases_at now table.rows name) (claim name kind addr) result
message_replies does = refl

pub unanswered_replies : (octets : List ℕ) (outcome : Outcome) → IsUnanswered octets outcome → has_reply outcome ≡ false
unanswered_replies octets _ (no_message none) = refl
unanswered_replies octets _ is = refl

pub replies : {server : ServerValue} {now ip : ℕ} {octets : List ℕ} {reply : Option MessageValue} {after : Leases} (does : ServesOctets server now ip octets reply after) (outcome : Outcome)
    → IsDone does outcome → has_reply outcome ≡ is_some reply
replies {octets = octets} (is_silent early) outcome done = unanswered_replies octets outcome done
replies (is_no_message none) outcome done = ap has_reply done
replies (turns_away m speaks spelled over) outcome done = ap has_reply done
replies (serves m reply after speaks spelled room does) outcome done = ap has_reply done ∙ message_replies does

-- ---- messages

-- what is none of the messages that a server has a rule for
pub is_for_nodes : (m : Message) → ((r : Registration) → m ≡ code.Registration r → ⊥) → ((r : Registration) → m ≡ code.Overwrite r → ⊥) → ((r : Registration) → m ≡ code.Refresh r → ⊥)
    → ((id : ℕ) (name : NameValue) (kind : Kind) (addr : ℕ) → m ≡ code.Release id name kind addr → ⊥) → ((id : ℕ) (name : NameValue) → m ≡ code.Query id name → ⊥) → IsForNodes (message_of m)
is_for_nodes (code.Registration r) a b c d e = a r refl
is_for_nodes (code.Overwrite r) a b c d e = b r refl
is_for_nodes (code.Refresh r) a b c d e = c r refl
is_for_nodes (code.Release id name kind addr) a b c d e = d id name kind addr refl
is_for_nodes (code.Query id name) a b c d e = e id name refl
is_for_nodes m a b c d e = tt

-- ---- what a query finds

-- each entry has six octets
pub length-entries : (leases : List Lease) → length (entries leases) ≡ 6 * length leases
length-entries [] = refl
length-entries (lease ∷ rest) = omega (arith, length-append (entry lease.kind lease.addr) (entries rest), length-entry lease.kind lease.addr, length-entries rest)

-- if there is a first expiry, there is a lease
some_lease : (leases : List Lease) (end : ℕ) → IsLeastEnd leases (Some end) → 0 < length leases
some_lease [] end least = absurd (omega arith)
some_lease (lease ∷ rest) end least = omega arith

-- the entries of a name's first leases have a written form
pub entries_fit : (room : ℕ) (leases : List Lease) (end : ℕ) → 0 < room → length leases ≤ members_most → IsLeastEnd leases (Some end)
    → (0 < length (entries (take room leases))) × (length (entries (take room leases)) ≤ 6 * 10922) × (length (entries (take room leases)) % 6 ≡ 0)
entries_fit room leases end some_room most least =
    let some : 0 < length leases = some_lease leases end least in
    let count : length (take room leases) ≡ min room (length leases) = length-take room leases in
    let six : length (entries (take room leases)) ≡ 6 * length (take room leases) = length-entries (take room leases) in
    (omega arith, omega arith, omega arith)

-- and it is short
pub entries_short : (room : ℕ) (leases : List Lease) → length (entries (take room leases)) ≤ 6 * room
entries_short room leases = omega (arith, length-entries (take room leases), length-take room leases)

-- a query leaves the leases as they were, after a sweep too
module _ (table : TableValue) (now ip id : ℕ) (name : NameValue) (after : Leases) (same : after ≡ leases_at now table.rows) (outcome : Outcome) (out : List ℕ) where
  pub does_find : (end : ℕ) → IsLeastEnd (after name) (Some end) → outcome ≡ o.Found name → AreWritten (Some (found_reply id name now end (after name))) out → Does table now ip (query id name) outcome out after
  does_find end least is written =
      subst (λ (ls : Leases). IsLeastEnd (ls name) (Some end) → AreWritten (Some (found_reply id name now end (ls name))) out → Does table now ip (query id name) outcome out ls) (sym same)
      (λ least_now written_now. (Some (found_reply id name now end (leases_at now table.rows name)), finds id name end least_now, is, written_now)) least written

  pub does_find_none : after name ≡ [] → outcome ≡ o.NotFound name → AreWritten (Some (not_found id name_error (Some name))) out → Does table now ip (query id name) outcome out after
  does_find_none none is written =
      subst (λ (ls : Leases). ls name ≡ [] → Does table now ip (query id name) outcome out ls) (sym same)
      (λ none_now. (Some (not_found id name_error (Some name)), finds_none id name none_now, is, written)) none

-- the first expiry is a lease's, and none is too late
pub ends_in_time : (ls : List Lease) (latest end : ℕ) → IsLeastEnd ls (Some end) → AreSound latest ls → end ≤ latest
ends_in_time ls latest end least sound =
    let one = least.0 in
    let timely : one.1.end ≤ latest = All-contains (λ (lease : Lease). lease.end ≤ latest) ls one.1 (All-from_recursion (λ (lease : Lease). lease.end ≤ latest) ls sound.in_time) (one.0, one.2, one.3) in
    subst (λ (e : ℕ). e ≤ latest) one.4 timely

-- ---- a name's leases, listed one after the other

-- a lease is listed while more fit
pub lists_next : (room : ℕ) (written : List ℕ) (lease : Lease) (rest : List Lease) (all : List ℕ) → 0 < room → written ++ entries (take room (lease ∷ rest)) ≡ all
    → (written ++ entry lease.kind lease.addr) ++ entries (take (room - 1) rest) ≡ all
lists_next zero written lease rest all some is = absurd (omega arith)
lists_next (suc k) written lease rest all some is =
    let left : suc k - 1 ≡ k = omega arith in
    rw left (append_assoc written (entry lease.kind lease.addr) (entries (take k rest)) ∙ is)

-- if none fits, all that fit are listed
pub lists_no_more : (written : List ℕ) (room : ℕ) (rest : List Lease) (all : List ℕ) → room ≡ 0 → written ++ entries (take room rest) ≡ all → written ≡ all
lists_no_more written zero rest all none is = sym (append-nil written) ∙ is
lists_no_more written (suc k) rest all none is = absurd (omega arith)

no_entries : (room : ℕ) → entries (take room []) ≡ []
no_entries zero = refl
no_entries (suc k) = refl

-- and so they are where no lease is left
pub lists_all : (written : List ℕ) (room : ℕ) (rest : List Lease) (all : List ℕ) → rest ≡ [] → written ++ entries (take room rest) ≡ all → written ≡ all
lists_all written room rest all none is =
    sym (append-nil written) ∙ (ap (λ (es : List ℕ). written ++ es) (sym (no_entries room)) ∙ (ap (λ (ls : List Lease). written ++ entries (take room ls)) (sym none) ∙ is))

-- a list is cut if it is longer than what fits
pub is_longer : (most : ℕ) (leases : List Lease) → most < length leases → nat_lt (length (take most leases)) (length leases) ≡ true
is_longer most leases more = lt-ltb (length (take most leases)) (length leases) (omega (arith, length-take most leases))

pub is_no_longer : (most : ℕ) (leases : List Lease) → length leases ≤ most → nat_lt (length (take most leases)) (length leases) ≡ false
is_no_longer most leases all = le-ltb (length (take most leases)) (length leases) (omega (arith, length-take most leases))
