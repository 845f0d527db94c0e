-- Which name a request was about, and for which one a query asked, by what the server did.
use Rattle.std.proofs.Common.{◌≡◌, ℕ, Bool, true, false, List, refl, sym, ap, ◌∙◌, Option, None, Some, Ok, Err}
use Rattle.std.specs.Prelude.{is_some, if◌then◌else◌}
use Rattle.nbt_name.specs.Wire.{NameValue}
use Rattle.nbt_lease.specs.Lease.{Leases, TableValue, leases_at}
use Rattle.nbt_lease.specs.declared.lease.Lease.{Lease}
use Rattle.nbt_lease.specs.declared.lease.Released.{Released}
use Rattle.nbt_lease.specs.declared.lease.Released.TheVariants.{Gone, NoLease, OfOthers}
use Rattle.nbt_log.specs.declared.entry.Entry.{Entry}
use Rattle.nbt_packet.specs.Message.{MessageValue}
use Rattle.nbt_packet.specs.Spelling.{AreWritten}
use Rattle.nbt_port.specs.declared.port.Route.{Route}
use Rattle.nbt_server.specs.Serving.{ServerValue, ServesOctets, Serves, registers, refuses, refuses_overwrite, releases, refuses_release, finds, finds_none, passes_over, is_silent, is_no_message, turns_away, serves}
use Rattle.nbt_server.specs.Outcomes.{claim, claim_in, done_by, IsDone, IsUnanswered, no_message, for_nodes, request, release_outcome}
use Rattle.nbt_server.specs.declared.outcome.Claim.{Claim}
use Rattle.nbt_server.specs.declared.outcome.Outcome.{Outcome}
use Rattle.nbt_server.specs.declared.outcome.Outcome.TheVariants as did
use Rattle.nbt_store.specs.declared.change.Change.{Change}
use Rattle.nbt_serve.specs.Serving.{is_taken}
use Rattle.nbt_serve.specs.Changing.{changes_leases, name_of}
use Rattle.nbt_serve.specs.Turning.{about_of, answered, changes_in, reply_in}
use Rattle.nbt_serve.specs.Inner.Passing.{goes_where, query_in, query_of, reply_to}

-- ---- the name of the reply

granted_name : (renewed : Bool) (c : Claim) (seconds : ℕ) → name_of (if renewed then did.Renewed c seconds else did.Granted c seconds) ≡ Some c.name
granted_name true c seconds = refl
granted_name false c seconds = refl

ended_name : (leases : List Lease) (c : Claim) (result : Released) → name_of (release_outcome leases c result) ≡ Some c.name
ended_name leases c Gone = refl
ended_name leases c NoLease = refl
ended_name leases c OfOthers = refl

served_name : (table : TableValue) (now ip : ℕ) (m : MessageValue) (reply : Option MessageValue) (after : Leases) (does : Serves table now ip m reply after) → about_of reply ≡ name_of (done_by does)
served_name table now ip _ _ after (registers m r (Ok grant) _ asks own g) = sym (granted_name grant.renewed (claim_in r) grant.seconds)
served_name table now ip _ _ after (registers m r (Err fault) _ asks own g) = refl
served_name table now ip _ _ after (refuses m r asks not_own) = refl
served_name table now ip _ _ after (refuses_overwrite r) = refl
served_name table now ip _ _ after (releases id name kind addr result _ own rel) = sym (ended_name (leases_at now table.rows name) (claim name kind addr) result)
served_name table now ip _ _ after (refuses_release id name kind addr not_own) = refl
served_name table now ip _ _ after (finds id name end least) = refl
served_name table now ip _ _ after (finds_none id name none) = refl
served_name table now ip _ _ after (passes_over m nodes) = refl

silent_name : (octets : List ℕ) (outcome : Outcome) → IsUnanswered octets outcome → None ≡ name_of outcome
silent_name octets _ (no_message none) = refl
silent_name octets _ (for_nodes m spelled nodes) = refl
silent_name octets _ (request m name spelled not is) = refl

pub told_name : (server : ServerValue) (now ip : ℕ) (octets : List ℕ) (reply : Option MessageValue) (after : Leases) (outcome : Outcome) (does : ServesOctets server now ip octets reply after) → IsDone does outcome → about_of reply ≡ name_of outcome
told_name server now ip octets _ _ outcome (is_silent early) done = silent_name octets outcome done
told_name server now ip octets _ _ outcome (is_no_message none) done = ap name_of (sym done)
told_name server now ip octets _ _ outcome (turns_away m speaks spelled over) done = ap name_of (sym done)
told_name server now ip octets _ _ outcome (serves m reply after speaks spelled room does) done = served_name server.table now ip m reply after does ∙ ap name_of (sym done)

-- ---- the name of a query

granted_query : (renewed : Bool) (c : Claim) (seconds : ℕ) → query_of (if renewed then did.Renewed c seconds else did.Granted c seconds) ≡ None
granted_query true c seconds = refl
granted_query false c seconds = refl

ended_query : (leases : List Lease) (c : Claim) (result : Released) → query_of (release_outcome leases c result) ≡ None
ended_query leases c Gone = refl
ended_query leases c NoLease = refl
ended_query leases c OfOthers = refl

served_query : (table : TableValue) (now ip : ℕ) (m : MessageValue) (reply : Option MessageValue) (after : Leases) (does : Serves table now ip m reply after) → answered reply ≡ query_of (done_by does)
served_query table now ip _ _ after (registers m r (Ok grant) _ asks own g) = sym (granted_query grant.renewed (claim_in r) grant.seconds)
served_query table now ip _ _ after (registers m r (Err fault) _ asks own g) = refl
served_query table now ip _ _ after (refuses m r asks not_own) = refl
served_query table now ip _ _ after (refuses_overwrite r) = refl
served_query table now ip _ _ after (releases id name kind addr result _ own rel) = sym (ended_query (leases_at now table.rows name) (claim name kind addr) result)
served_query table now ip _ _ after (refuses_release id name kind addr not_own) = refl
served_query table now ip _ _ after (finds id name end least) = refl
served_query table now ip _ _ after (finds_none id name none) = refl
served_query table now ip _ _ after (passes_over m nodes) = refl

silent_query : (octets : List ℕ) (outcome : Outcome) → IsUnanswered octets outcome → None ≡ query_of outcome
silent_query octets _ (no_message none) = refl
silent_query octets _ (for_nodes m spelled nodes) = refl
silent_query octets _ (request m name spelled not is) = refl

pub told_query : (server : ServerValue) (now ip : ℕ) (octets : List ℕ) (reply : Option MessageValue) (after : Leases) (outcome : Outcome) (does : ServesOctets server now ip octets reply after) → IsDone does outcome → answered reply ≡ query_of outcome
told_query server now ip octets _ _ outcome (is_silent early) done = silent_query octets outcome done
told_query server now ip octets _ _ outcome (is_no_message none) done = ap query_of (sym done)
told_query server now ip octets _ _ outcome (turns_away m speaks spelled over) done = ap query_of (sym done)
told_query server now ip octets _ _ outcome (serves m reply after speaks spelled room does) done = served_query server.table now ip m reply after does ∙ ap query_of (sym done)

-- a query changes no lease
no_change_of : (outcome : Outcome) (name : NameValue) → query_of outcome ≡ Some name → changes_leases outcome ≡ false
no_change_of (did.Granted claim seconds) name is = absurd cc
no_change_of (did.Renewed claim seconds) name is = absurd cc
no_change_of (did.Released claim) name is = absurd cc
no_change_of (did.Refused claim refusal) name is = refl
no_change_of (did.NotLeased claim) name is = refl
no_change_of (did.NotReleased claim refusal) name is = refl
no_change_of (did.Found q) name is = refl
no_change_of (did.NotFound q) name is = refl
no_change_of (did.Silent q) name is = refl
no_change_of did.ForNodes name is = refl
no_change_of did.NoMessage name is = refl

none_so : (change : Option Change) → is_some change ≡ false → change ≡ None
none_so None is = refl
none_so (Some change) is = absurd cc

pub quiet_query : (entry : Option Entry) (change : Option Change) → is_some change ≡ changes_in entry → (name : NameValue) → query_in entry ≡ Some name → change ≡ None
quiet_query None change same name is = absurd cc
quiet_query (Some entry) change same name is = none_so change (same ∙ no_change_of entry.outcome name is)

-- ---- the reply to a datagram, by its written form

pub reply_is : (now : ℕ) (from : Route) (octets out : List ℕ) (r : Option MessageValue) (b : Bool) (outcome : Outcome) → b ≡ is_some r → about_of r ≡ name_of outcome → AreWritten r out
    → reply_in (is_taken now from octets r) ≡ reply_to now (name_of outcome) (goes_where b (Some from)) out
reply_is now from octets out None b outcome is named written = ap (λ (x : Bool). reply_to now (name_of outcome) (goes_where x (Some from)) out) (sym is)
reply_is now from octets out (Some m) b outcome is named written =
    ap (λ (xs : List ℕ). reply_to now (about_of (Some m)) (Some from) xs) (sym written.0)
    ∙ (ap (λ (about : Option NameValue). reply_to now about (Some from) out) named ∙ ap (λ (x : Bool). reply_to now (name_of outcome) (goes_where x (Some from)) out) (sym is))
