-- What the server did with a datagram, and the change that it is.
use Rattle.std.proofs.Common.{◌≡◌, ℕ, ◌<◌, ◌≤◌, false, not, List, [], ◌∷◌, ◌++◌, Option, Some, None, Ok, Err, refl, sym, ap, ◌∙◌, subst, ⊎_elim, arith}
use Rattle.std.specs.Prelude.{suc, Any, nat_eq, is_some, IfSome}
use Rattle.std.proofs.lemmas.Bool.{false≢true}
use Rattle.nbt_lease.specs.declared.lease.Lease.{Lease}
use Rattle.nbt_lease.specs.declared.lease.Grant.{Grant}
use Rattle.nbt_lease.specs.declared.lease.Released.{Released}
use Rattle.nbt_lease.specs.declared.fault.GrantFault.{GrantFault}
use Rattle.nbt_lease.specs.Config.{ConfigValue}
use Rattle.nbt_lease.specs.Lease.{Leases, Rows, TableValue, is_live, leases_at, live_count, at_name, AreApart}
use Rattle.nbt_lease.specs.Rules.{GrantCase, renews, begins, active, group_full, table_full, begun, renewed, ReleaseCase, gone, no_lease, of_others}
use Rattle.nbt_lease.proofs.Common.{filter, cases_Bool, cond-true, cond-false, cond_both, AllByRecursion, NameValue, same_name}
use Rattle.nbt_lease.proofs.Sound.{all_behind, apart_replaced}
use Rattle.nbt_lease.proofs.Rows.{later_is, at_same}
use Rattle.nbt_lease.proofs.Flat.{live_left}
use Rattle.nbt_lease.proofs.Others.{here}
use Rattle.nbt_lease.proofs.Cases.{not_none, one_own}
use Rattle.nbt_packet.specs.declared.message.Registration.{Registration}
use Rattle.nbt_packet.specs.Message.{MessageValue}
use Rattle.nbt_server.specs.Serving.{ServerValue, ServesOctets, Serves, asked_in, registers, refuses, refuses_overwrite, releases, refuses_release, finds, finds_none, passes_over, is_silent, is_no_message, turns_away, serves}
use Rattle.nbt_server.specs.Calls.{ServerHandles, ServerForgets}
use Rattle.nbt_server.specs.declared.fault.ServerFault.{ServerFault}
use Rattle.nbt_server.specs.declared.fault.ServerFault.TheVariants.{ClockBack, OutOfMemory}
use Rattle.nbt_server.specs.Outcomes.{claim, claim_in, grant_outcome, release_outcome, done_by, IsDone, IsUnanswered, no_message, for_nodes, request}
use Rattle.nbt_server.specs.declared.outcome.Claim.{Claim}
use Rattle.nbt_server.specs.declared.outcome.Outcome.{Outcome}
use Rattle.nbt_server.specs.declared.outcome.Outcome.TheVariants as did
use Rattle.nbt_store.specs.declared.change.Change.{Change}
use Rattle.nbt_store.specs.declared.change.Change.TheVariants.{Began, Moved, Released as Gone}
use Rattle.nbt_store.specs.Changes.{without, with_end, after, at_of, Stands}
use Rattle.nbt_serve.specs.Changing.{IsKept, after_any, changed_name, changes_leases, name_of, IsChange}
use Rattle.nbt_serve.specs.Inner.Telling.{lease_of, Tells}
use Rattle.nbt_serve.proofs.Kept.{Among, among, began_live, began_apart, released_live, moved_live, moved_apart, apart_filtered, live_later}

-- ---- what is kept has these leases at a time

pub record KeptAt (now : ℕ) (kept leases : Leases) : Type 0 where
  pub apart : (q : NameValue) → AreApart (kept q)
  pub live : (q : NameValue) → filter (is_live now) (kept q) ≡ leases q

pub kept_at : (kept : Leases) (server : ServerValue) (now : ℕ) → server.last ≤ now → IsKept kept server → KeptAt now kept (leases_at now server.table.rows)
kept_at kept server now onward k = record {
  apart = k.apart;
  live = λ q. live_later server.last now (kept q) onward ∙ (ap (filter (is_live now)) (k.live q) ∙ sym (later_is server.last now server.table.rows q onward));
}

pub is_kept : (kept : Leases) (server : ServerValue) (now : ℕ) → server.last ≡ now → KeptAt now kept (leases_at now server.table.rows) → IsKept kept server
is_kept kept server now is k = record {
  apart = k.apart;
  live = λ q. subst (λ (n : ℕ). filter (is_live n) (kept q) ≡ leases_at n server.table.rows q) (sym is) (k.live q);
}

kept_same : (now : ℕ) (kept old new : Leases) (change : Option Change) → change ≡ None → new ≡ old → KeptAt now kept old → KeptAt now (after_any change kept) new
kept_same now kept old new change none same k = subst (λ (c : Option Change). KeptAt now (after_any c kept) new) (sym none) (subst (KeptAt now kept) (sym same) k)

-- other leases of one name
kept_put : (now : ℕ) (name : NameValue) (here list : List Lease) (kept old : Leases) → AreApart here → filter (is_live now) here ≡ list → KeptAt now kept old → KeptAt now (at_name name here kept) (at_name name list old)
kept_put now name here list kept old apart is k = record {
  apart = λ q. cond_both (same_name q name) here (kept q) AreApart (λ _. apart) (λ _. k.apart q);
  live = λ q.
      ⊎_elim
      (λ named. ap (filter (is_live now)) (cond-true (same_name q name) here (kept q) named) ∙ (is ∙ sym (cond-true (same_name q name) list (old q) named)))
      (λ other. ap (filter (is_live now)) (cond-false (same_name q name) here (kept q) other) ∙ (k.live q ∙ sym (cond-false (same_name q name) list (old q) other)))
      (cases_Bool (same_name q name));
}

-- all leases that live at a time do
live_at : (now : ℕ) (rows : Rows) (q : NameValue) → AllByRecursion (λ (l : Lease). now < l.end) (leases_at now rows q)
live_at now rows q = subst (AllByRecursion (λ (l : Lease). now < l.end)) (sym (later_is now now rows q (omega arith))) (live_left now (leases_at now rows q))

-- ---- a grant

granted : (config : ConfigValue) (now count : ℕ) (r : Registration) (leases list : List Lease) (grant : Grant) (old new kept : Leases) (change : Option Change) → GrantCase config now count (asked_in r) leases (Ok grant) list
    → leases ≡ old r.name → new ≡ at_name r.name list old → AllByRecursion (λ (l : Lease). now < l.end) (new r.name) → Tells now new (grant_outcome (claim_in r) grant) change → KeptAt now kept old → KeptAt now (after_any change kept) new
granted config now count r leases list grant old new kept None (renews allowed before behind lease is own) here_is new_is live tells k =
    absurd (not_none r.addr (new r.name) before behind (renewed config now (asked_in r) lease) (ap (λ (f : Leases). f r.name) new_is ∙ here r.name list old) own tells)
granted config now count r leases list grant old new kept (Some change) (renews allowed before behind lease is own) here_is new_is live tells k =
    let fresh : Lease = renewed config now (asked_in r) lease in
    let now_here : new r.name ≡ before ++ fresh ∷ behind = ap (λ (f : Leases). f r.name) new_is ∙ here r.name list old in
    let was_here : filter (is_live now) (kept r.name) ≡ before ++ lease ∷ behind = k.live r.name ∙ (sym here_is ∙ is) in
    let apart_here : AreApart (before ++ lease ∷ behind) = subst AreApart was_here (apart_filtered (is_live now) (kept r.name) (k.apart r.name)) in
    let one = one_own r.addr before behind tells.0 tells.2 fresh tells.1 (apart_replaced before behind lease fresh refl apart_here) (sym now_here ∙ tells.3) own tells.4 in
    let lives : now < fresh.end = (all_behind (λ l. now < l.end) before (fresh ∷ behind) (subst (AllByRecursion (λ (l : Lease). now < l.end)) now_here live)).0 in
    let change_is : change ≡ Moved r.name r.addr fresh.end now = tells.5 ∙ ap (λ (l : Lease). Moved r.name r.addr l.end now) (sym one.1) in
    subst (λ (c : Change). KeptAt now (after c kept) new) (sym change_is)
    (subst (KeptAt now (at_name r.name (with_end r.addr fresh.end (kept r.name)) kept)) (sym new_is)
    (kept_put now r.name (with_end r.addr fresh.end (kept r.name)) (before ++ fresh ∷ behind) kept old (moved_apart r.addr fresh.end (kept r.name) (k.apart r.name)) (moved_live now (kept r.name) before lease behind r.addr fresh.end (k.apart r.name) was_here own lives) k))
granted config now count r leases list grant old new kept change (begins allowed none room vacant) here_is new_is live tells k =
    let fresh : Lease = begun config now (asked_in r) in
    let now_here : new r.name ≡ leases ++ fresh ∷ [] = ap (λ (f : Leases). f r.name) new_is ∙ here r.name list old in
    let lives : now < fresh.end = (all_behind (λ l. now < l.end) leases (fresh ∷ []) (subst (AllByRecursion (λ (l : Lease). now < l.end)) now_here live)).0 in
    subst (λ (c : Option Change). KeptAt now (after_any c kept) new) (sym tells)
    (subst (KeptAt now (at_name r.name (without r.addr (kept r.name) ++ fresh ∷ []) kept)) (sym new_is)
    (kept_put now r.name (without r.addr (kept r.name) ++ fresh ∷ []) (leases ++ fresh ∷ []) kept old (began_apart (kept r.name) fresh (k.apart r.name)) (began_live now (kept r.name) fresh leases (k.live r.name ∙ sym here_is) none lives) k))

refused_same : (config : ConfigValue) (now count : ℕ) (r : Registration) (leases list : List Lease) (fault : GrantFault) → GrantCase config now count (asked_in r) leases (Err fault) list → list ≡ leases
refused_same config now count r leases list fault (active _) = refl
refused_same config now count r leases list fault (group_full _ _ _) = refl
refused_same config now count r leases list fault (table_full _ _ _ _) = refl

-- ---- a release

ended : (now : ℕ) (c : Claim) (leases list : List Lease) (result : Released) (old new kept : Leases) (change : Option Change) → ReleaseCase c.addr leases result list → leases ≡ old c.name → new ≡ at_name c.name list old
    → Tells now new (release_outcome leases c result) change → KeptAt now kept old → KeptAt now (after_any change kept) new
ended now c leases list result old new kept change (gone before behind lease is own) here_is new_is tells k =
    let was_here : filter (is_live now) (kept c.name) ≡ before ++ lease ∷ behind = k.live c.name ∙ (sym here_is ∙ is) in
    subst (λ (d : Option Change). KeptAt now (after_any d kept) new) (sym tells)
    (subst (KeptAt now (at_name c.name (without c.addr (kept c.name)) kept)) (sym new_is)
    (kept_put now c.name (without c.addr (kept c.name)) (before ++ behind) kept old (apart_filtered (λ l. not (nat_eq l.addr c.addr)) (kept c.name) (k.apart c.name)) (released_live now (kept c.name) before lease behind c.addr (k.apart c.name) was_here own) k))
ended now c leases list result old new kept change (no_lease none) here_is new_is tells k = kept_same now kept old new change tells (new_is ∙ (ap (λ (ls : List Lease). at_name c.name ls old) here_is ∙ sym (at_same c.name old))) k
ended now c leases list result old new kept change (of_others some none) here_is new_is tells k = kept_same now kept old new change tells (new_is ∙ (ap (λ (ls : List Lease). at_name c.name ls old) here_is ∙ sym (at_same c.name old))) k

-- ---- a message, and octets

served : (table : TableValue) (now ip : ℕ) (m : MessageValue) (reply : Option MessageValue) (new kept : Leases) (change : Option Change) (does : Serves table now ip m reply new) → ((q : NameValue) → AllByRecursion (λ (l : Lease). now < l.end) (new q))
    → Tells now new (done_by does) change → KeptAt now kept (leases_at now table.rows) → KeptAt now (after_any change kept) new
served table now ip m reply new kept change (registers _ r (Ok grant) _ asks own g) live tells k =
    granted table.config now (live_count now table.rows) r (leases_at now table.rows r.name) g.leases grant (leases_at now table.rows) new kept change g.rule refl g.after_is (live r.name) tells k
served table now ip m reply new kept change (registers _ r (Err fault) _ asks own g) live tells k =
    kept_same now kept (leases_at now table.rows) new change tells
    (g.after_is ∙ (ap (λ (ls : List Lease). at_name r.name ls (leases_at now table.rows)) (refused_same table.config now (live_count now table.rows) r (leases_at now table.rows r.name) g.leases fault g.rule) ∙ sym (at_same r.name (leases_at now table.rows)))) k
served table now ip m reply new kept change (refuses _ r asks not_own) live tells k = kept_same now kept new new change tells refl k
served table now ip m reply new kept change (refuses_overwrite r) live tells k = kept_same now kept new new change tells refl k
served table now ip m reply new kept change (releases id name kind addr result _ own rel) live tells k =
    ended now (claim name kind addr) (leases_at now table.rows name) rel.leases result (leases_at now table.rows) new kept change rel.rule refl rel.after_is tells k
served table now ip m reply new kept change (refuses_release id name kind addr not_own) live tells k = kept_same now kept new new change tells refl k
served table now ip m reply new kept change (finds id name end least) live tells k = kept_same now kept new new change tells refl k
served table now ip m reply new kept change (finds_none id name none) live tells k = kept_same now kept new new change tells refl k
served table now ip m reply new kept change (passes_over _ nodes) live tells k = kept_same now kept new new change tells refl k

silent_none : (octets : List ℕ) (now : ℕ) (new : Leases) (outcome : Outcome) (change : Option Change) → IsUnanswered octets outcome → Tells now new outcome change → change ≡ None
silent_none octets now new outcome change (no_message _) tells = tells
silent_none octets now new outcome change (for_nodes _ _ _) tells = tells
silent_none octets now new outcome change (request _ _ _ _ _) tells = tells

told_octets : (server : ServerValue) (now ip : ℕ) (octets : List ℕ) (reply : Option MessageValue) (new kept : Leases) (outcome : Outcome) (change : Option Change) (does : ServesOctets server now ip octets reply new) → ((q : NameValue) → AllByRecursion (λ (l : Lease). now < l.end) (new q))
    → IsDone does outcome → Tells now new outcome change → KeptAt now kept (leases_at now server.table.rows) → KeptAt now (after_any change kept) new
told_octets server now ip octets reply new kept outcome change (is_silent early) live done tells k = kept_same now kept new new change (silent_none octets now new outcome change done tells) refl k
told_octets server now ip octets reply new kept outcome change (is_no_message none) live done tells k = kept_same now kept new new change (subst (λ (o : Outcome). Tells now new o change) done tells) refl k
told_octets server now ip octets reply new kept outcome change (turns_away m speaks spelled over) live done tells k =
    kept_same now kept new new change (subst (λ (o : Outcome). Tells now new o change) done tells) refl k
told_octets server now ip octets reply new kept outcome change (serves m _ _ speaks spelled room does) live done tells k =
    served server.table now ip m reply new kept change does live (subst (λ (o : Outcome). Tells now new o change) done tells) k

pub told : (old new : ServerValue) (now ip : ℕ) (octets out : List ℕ) (outcome : Outcome) (change : Option Change) → ServerHandles old now ip octets outcome out new → Tells now (leases_at now new.table.rows) outcome change
    → (kept : Leases) → IsKept kept old → IsKept (after_any change kept) new
told old new now ip octets out outcome change h tells kept k =
    is_kept (after_any change kept) new now h.takes.last
    (told_octets old now ip octets h.reply (leases_at now new.table.rows) kept outcome change h.takes.serves (live_at now new.table.rows) h.done tells (kept_at kept old now h.takes.goes_on k))

-- ---- there is a change exactly where the server changed a lease

some_granted : (config : ConfigValue) (now count : ℕ) (r : Registration) (leases list : List Lease) (grant : Grant) (old new : Leases) (change : Option Change) → GrantCase config now count (asked_in r) leases (Ok grant) list → new ≡ at_name r.name list old
    → Tells now new (grant_outcome (claim_in r) grant) change → is_some change ≡ changes_leases (grant_outcome (claim_in r) grant)
some_granted config now count r leases list grant old new None (renews allowed before behind lease is own) new_is tells =
    absurd (not_none r.addr (new r.name) before behind (renewed config now (asked_in r) lease) (ap (λ (f : Leases). f r.name) new_is ∙ here r.name list old) own tells)
some_granted config now count r leases list grant old new (Some change) (renews allowed before behind lease is own) new_is tells = refl
some_granted config now count r leases list grant old new change (begins allowed none room vacant) new_is tells = ap is_some tells

some_ended : (now : ℕ) (c : Claim) (leases list : List Lease) (result : Released) (new : Leases) (change : Option Change) → ReleaseCase c.addr leases result list
    → Tells now new (release_outcome leases c result) change → is_some change ≡ changes_leases (release_outcome leases c result)
some_ended now c leases list result new change (gone _ _ _ _ _) tells = ap is_some tells
some_ended now c leases list result new change (no_lease _) tells = ap is_some tells
some_ended now c leases list result new change (of_others _ _) tells = ap is_some tells

some_served : (table : TableValue) (now ip : ℕ) (m : MessageValue) (reply : Option MessageValue) (new : Leases) (change : Option Change) (does : Serves table now ip m reply new) → Tells now new (done_by does) change → is_some change ≡ changes_leases (done_by does)
some_served table now ip m reply new change (registers _ r (Ok grant) _ asks own g) tells =
    some_granted table.config now (live_count now table.rows) r (leases_at now table.rows r.name) g.leases grant (leases_at now table.rows) new change g.rule g.after_is tells
some_served table now ip m reply new change (registers _ r (Err fault) _ asks own g) tells = ap is_some tells
some_served table now ip m reply new change (refuses _ r asks not_own) tells = ap is_some tells
some_served table now ip m reply new change (refuses_overwrite r) tells = ap is_some tells
some_served table now ip m reply new change (releases id name kind addr result _ own rel) tells = some_ended now (claim name kind addr) (leases_at now table.rows name) rel.leases result new change rel.rule tells
some_served table now ip m reply new change (refuses_release id name kind addr not_own) tells = ap is_some tells
some_served table now ip m reply new change (finds id name end least) tells = ap is_some tells
some_served table now ip m reply new change (finds_none id name none) tells = ap is_some tells
some_served table now ip m reply new change (passes_over _ nodes) tells = ap is_some tells

some_silent : (octets : List ℕ) (now : ℕ) (new : Leases) (outcome : Outcome) (change : Option Change) → IsUnanswered octets outcome → Tells now new outcome change → is_some change ≡ changes_leases outcome
some_silent octets now new outcome change (no_message _) tells = ap is_some tells
some_silent octets now new outcome change (for_nodes _ _ _) tells = ap is_some tells
some_silent octets now new outcome change (request _ _ _ _ _) tells = ap is_some tells

some_octets : (server : ServerValue) (now ip : ℕ) (octets : List ℕ) (reply : Option MessageValue) (new : Leases) (outcome : Outcome) (change : Option Change) (does : ServesOctets server now ip octets reply new) → IsDone does outcome
    → Tells now new outcome change → is_some change ≡ changes_leases outcome
some_octets server now ip octets reply new outcome change (is_silent early) done tells = some_silent octets now new outcome change done tells
some_octets server now ip octets reply new outcome change (is_no_message none) done tells = ap is_some (subst (λ (o : Outcome). Tells now new o change) done tells) ∙ ap changes_leases (sym done)
some_octets server now ip octets reply new outcome change (turns_away m speaks spelled over) done tells = ap is_some (subst (λ (o : Outcome). Tells now new o change) done tells) ∙ ap changes_leases (sym done)
some_octets server now ip octets reply new outcome change (serves m _ _ speaks spelled room does) done tells =
    some_served server.table now ip m reply new change does (subst (λ (o : Outcome). Tells now new o change) done tells) ∙ ap changes_leases (sym done)

pub some_told : (old new : ServerValue) (now ip : ℕ) (octets out : List ℕ) (outcome : Outcome) (change : Option Change) → ServerHandles old now ip octets outcome out new → Tells now (leases_at now new.table.rows) outcome change → is_some change ≡ changes_leases outcome
some_told old new now ip octets out outcome change h tells = some_octets old now ip octets h.reply (leases_at now new.table.rows) outcome change h.takes.serves h.done tells

-- ---- its time is the server's

time_told : (now : ℕ) (leases : Leases) (outcome : Outcome) (change : Option Change) → Tells now leases outcome change → IfSome change (λ c. at_of c ≡ now)
time_told now leases outcome None tells = tt
time_told now leases (did.Granted claim seconds) (Some c) tells = let same : c ≡ Began claim.name (lease_of now claim seconds) now = cc in ap at_of same
time_told now leases (did.Renewed claim seconds) (Some c) tells = ap at_of tells.5
time_told now leases (did.Released claim) (Some c) tells = let same : c ≡ Gone claim.name claim.addr now = cc in ap at_of same
time_told now leases (did.Refused claim refusal) (Some c) tells = absurd cc
time_told now leases (did.NotLeased claim) (Some c) tells = absurd cc
time_told now leases (did.NotReleased claim refusal) (Some c) tells = absurd cc
time_told now leases (did.Found name) (Some c) tells = absurd cc
time_told now leases (did.NotFound name) (Some c) tells = absurd cc
time_told now leases (did.Silent name) (Some c) tells = absurd cc
time_told now leases did.ForNodes (Some c) tells = absurd cc
time_told now leases did.NoMessage (Some c) tells = absurd cc

-- ---- it is about the request's name

name_told : (now : ℕ) (leases : Leases) (outcome : Outcome) (change : Option Change) → Tells now leases outcome change → IfSome change (λ c. changed_name c ≡ name_of outcome)
name_told now leases outcome None tells = tt
name_told now leases (did.Granted claim seconds) (Some c) tells = let same : c ≡ Began claim.name (lease_of now claim seconds) now = cc in ap changed_name same
name_told now leases (did.Renewed claim seconds) (Some c) tells = ap changed_name tells.5
name_told now leases (did.Released claim) (Some c) tells = let same : c ≡ Gone claim.name claim.addr now = cc in ap changed_name same
name_told now leases (did.Refused claim refusal) (Some c) tells = absurd cc
name_told now leases (did.NotLeased claim) (Some c) tells = absurd cc
name_told now leases (did.NotReleased claim refusal) (Some c) tells = absurd cc
name_told now leases (did.Found name) (Some c) tells = absurd cc
name_told now leases (did.NotFound name) (Some c) tells = absurd cc
name_told now leases (did.Silent name) (Some c) tells = absurd cc
name_told now leases did.ForNodes (Some c) tells = absurd cc
name_told now leases did.NoMessage (Some c) tells = absurd cc

-- ---- a change that moves or releases a lease has one

any_in : (addr : ℕ) (before : List Lease) (lease : Lease) (behind : List Lease) → lease.addr ≡ addr → Any (λ (l : Lease). l.addr ≡ addr) (before ++ lease ∷ behind)
any_in addr [] lease behind own = (0, lease, omega arith, refl, own)
any_in addr (x ∷ before) lease behind own = let h = any_in addr before lease behind own in (suc h.0, h.1, omega (arith, h.2), h.3, h.4)

any_kept : (now addr : ℕ) (kept before : List Lease) (lease : Lease) (behind : List Lease) → filter (is_live now) kept ≡ before ++ lease ∷ behind → lease.addr ≡ addr → Any (λ (l : Lease). l.addr ≡ addr) kept
any_kept now addr kept before lease behind is own =
    let a : Among now kept before lease behind = among now kept before lease behind is in
    subst (Any (λ (l : Lease). l.addr ≡ addr)) (sym a.is) (any_in addr a.front lease a.back own)

stands_none : (kept : Leases) (change : Option Change) → change ≡ None → IfSome change (λ c. Stands c kept)
stands_none kept None none = tt
stands_none kept (Some c) none = absurd cc

stands_granted : (config : ConfigValue) (now count : ℕ) (r : Registration) (leases list : List Lease) (grant : Grant) (old new kept : Leases) (change : Option Change) → GrantCase config now count (asked_in r) leases (Ok grant) list
    → leases ≡ old r.name → Tells now new (grant_outcome (claim_in r) grant) change → KeptAt now kept old → IfSome change (λ c. Stands c kept)
stands_granted config now count r leases list grant old new kept None (renews allowed before behind lease is own) here_is tells k = tt
stands_granted config now count r leases list grant old new kept (Some c) (renews allowed before behind lease is own) here_is tells k =
    subst (λ (d : Change). Stands d kept) (sym tells.5) (any_kept now r.addr (kept r.name) before lease behind (k.live r.name ∙ (sym here_is ∙ is)) own)
stands_granted config now count r leases list grant old new kept None (begins allowed none room vacant) here_is tells k = tt
stands_granted config now count r leases list grant old new kept (Some c) (begins allowed none room vacant) here_is tells k =
    let same : c ≡ Began r.name (begun config now (asked_in r)) now = cc in subst (λ (d : Change). Stands d kept) (sym same) tt

stands_ended : (now : ℕ) (c : Claim) (leases list : List Lease) (result : Released) (old new kept : Leases) (change : Option Change) → ReleaseCase c.addr leases result list → leases ≡ old c.name
    → Tells now new (release_outcome leases c result) change → KeptAt now kept old → IfSome change (λ d. Stands d kept)
stands_ended now c leases list result old new kept None (gone before behind lease is own) here_is tells k = tt
stands_ended now c leases list result old new kept (Some d) (gone before behind lease is own) here_is tells k =
    let same : d ≡ Gone c.name c.addr now = cc in
    subst (λ (x : Change). Stands x kept) (sym same) (any_kept now c.addr (kept c.name) before lease behind (k.live c.name ∙ (sym here_is ∙ is)) own)
stands_ended now c leases list result old new kept change (no_lease none) here_is tells k = stands_none kept change tells
stands_ended now c leases list result old new kept change (of_others some none) here_is tells k = stands_none kept change tells

stands_served : (table : TableValue) (now ip : ℕ) (m : MessageValue) (reply : Option MessageValue) (new kept : Leases) (change : Option Change) (does : Serves table now ip m reply new) → Tells now new (done_by does) change → KeptAt now kept (leases_at now table.rows)
    → IfSome change (λ c. Stands c kept)
stands_served table now ip m reply new kept change (registers _ r (Ok grant) _ asks own g) tells k =
    stands_granted table.config now (live_count now table.rows) r (leases_at now table.rows r.name) g.leases grant (leases_at now table.rows) new kept change g.rule refl tells k
stands_served table now ip m reply new kept change (registers _ r (Err fault) _ asks own g) tells k = stands_none kept change tells
stands_served table now ip m reply new kept change (refuses _ r asks not_own) tells k = stands_none kept change tells
stands_served table now ip m reply new kept change (refuses_overwrite r) tells k = stands_none kept change tells
stands_served table now ip m reply new kept change (releases id name kind addr result _ own rel) tells k =
    stands_ended now (claim name kind addr) (leases_at now table.rows name) rel.leases result (leases_at now table.rows) new kept change rel.rule refl tells k
stands_served table now ip m reply new kept change (refuses_release id name kind addr not_own) tells k = stands_none kept change tells
stands_served table now ip m reply new kept change (finds id name end least) tells k = stands_none kept change tells
stands_served table now ip m reply new kept change (finds_none id name none) tells k = stands_none kept change tells
stands_served table now ip m reply new kept change (passes_over _ nodes) tells k = stands_none kept change tells

stands_octets : (server : ServerValue) (now ip : ℕ) (octets : List ℕ) (reply : Option MessageValue) (new kept : Leases) (outcome : Outcome) (change : Option Change) (does : ServesOctets server now ip octets reply new) → IsDone does outcome
    → Tells now new outcome change → KeptAt now kept (leases_at now server.table.rows) → IfSome change (λ c. Stands c kept)
stands_octets server now ip octets reply new kept outcome change (is_silent early) done tells k = stands_none kept change (silent_none octets now new outcome change done tells)
stands_octets server now ip octets reply new kept outcome change (is_no_message none) done tells k = stands_none kept change (subst (λ (o : Outcome). Tells now new o change) done tells)
stands_octets server now ip octets reply new kept outcome change (turns_away m speaks spelled over) done tells k = stands_none kept change (subst (λ (o : Outcome). Tells now new o change) done tells)
stands_octets server now ip octets reply new kept outcome change (serves m _ _ speaks spelled room does) done tells k =
    stands_served server.table now ip m reply new kept change does (subst (λ (o : Outcome). Tells now new o change) done tells) k

stands_told : (old new : ServerValue) (now ip : ℕ) (octets out : List ℕ) (outcome : Outcome) (change : Option Change) → ServerHandles old now ip octets outcome out new → Tells now (leases_at now new.table.rows) outcome change
    → (kept : Leases) → IsKept kept old → IfSome change (λ c. Stands c kept)
stands_told old new now ip octets out outcome change h tells kept k =
    stands_octets old now ip octets h.reply (leases_at now new.table.rows) kept outcome change h.takes.serves h.done tells (kept_at kept old now h.takes.goes_on k)

-- ---- so that change, or none, is what it changed

pub is_change : (outcome : Outcome) (new : ServerValue) (change : Option Change) → Tells new.last (leases_at new.last new.table.rows) outcome change → IsChange outcome new change
is_change outcome new change tells = record {
  keeps = λ old now ip octets out h. told old new now ip octets out outcome change h (tells_at now h.takes.last);
  some = λ old now ip octets out h. some_told old new now ip octets out outcome change h (tells_at now h.takes.last);
  time = time_told new.last (leases_at new.last new.table.rows) outcome change tells;
  named = name_told new.last (leases_at new.last new.table.rows) outcome change tells;
  stands = λ old now ip octets out h. stands_told old new now ip octets out outcome change h (tells_at now h.takes.last);
}
  where
    tells_at : (now : ℕ) → new.last ≡ now → Tells now (leases_at now new.table.rows) outcome change
    tells_at now is = subst (λ (n : ℕ). Tells n (leases_at n new.table.rows) outcome change) is tells

tells_none : (now : ℕ) (leases : Leases) (outcome : Outcome) → changes_leases outcome ≡ false → Tells now leases outcome None
tells_none now leases (did.Granted claim seconds) none = absurd (false≢true (sym none))
tells_none now leases (did.Renewed claim seconds) none = absurd (false≢true (sym none))
tells_none now leases (did.Released claim) none = absurd (false≢true (sym none))
tells_none now leases (did.Refused claim refusal) none = refl
tells_none now leases (did.NotLeased claim) none = refl
tells_none now leases (did.NotReleased claim refusal) none = refl
tells_none now leases (did.Found name) none = refl
tells_none now leases (did.NotFound name) none = refl
tells_none now leases (did.Silent name) none = refl
tells_none now leases did.ForNodes none = refl
tells_none now leases did.NoMessage none = refl

pub no_change : (outcome : Outcome) (new : ServerValue) → changes_leases outcome ≡ false → IsChange outcome new None
no_change outcome new none = is_change outcome new None (tells_none new.last (leases_at new.last new.table.rows) outcome none)

-- ---- a refusal

pub still_kept : (fault : ServerFault) (old new : ServerValue) (now ip : ℕ) (octets : List ℕ) → (fault ≡ ClockBack → new ≡ old) → (fault ≡ OutOfMemory → ServerForgets old now ip octets new) → (kept : Leases) → IsKept kept old → IsKept kept new
still_kept ClockBack old new now ip octets back memory kept k = subst (IsKept kept) (sym (back refl)) k
still_kept OutOfMemory old new now ip octets back memory kept k =
    let h = memory refl in
    is_kept kept new now h.last (subst (KeptAt now kept) (sym h.leases) (kept_at kept old now h.goes_on k))
