-- A query, and what else it would have had the same answer from.
use Rattle.std.proofs.Common.{◌≡◌, ℕ, ◌<◌, ◌≤◌, List, [], ◌∷◌, ◌++◌, length, map, Option, Some, Ok, Err, refl, sym, ap, ◌∙◌, subst, arith}
use Rattle.std.specs.Prelude.{suc, zero, Any, slice_index_or, filter}
use Rattle.nbt_name.proofs.Same.{same_name-other}
use Rattle.nbt_lease.specs.Config.{ConfigValue}
use Rattle.nbt_lease.specs.Lease.{Leases, is_live, leases_at, TableValue}
use Rattle.nbt_lease.proofs.Common.{cond-false, NameValue, same_name}
use Rattle.nbt_packet.specs.declared.message.Registration.{Registration}
use Rattle.nbt_packet.specs.Message.{MessageValue, query, not_found}
use Rattle.nbt_port.specs.declared.port.Route.{Route}
use Rattle.nbt_port.specs.PortCalls.{Chain}
use Rattle.nbt_packet.specs.Spelling.{Spells}
use Rattle.nbt_server.specs.Serving.{ServerValue, ServesOctets, Serves, AsksFor, by_registration, by_refresh, registers, refuses, refuses_overwrite, releases, refuses_release, finds, finds_none, passes_over, is_silent, is_no_message, turns_away, serves, speaks_from, found_reply, name_error, IsOverLimit}
use Rattle.nbt_server.specs.Calls.{ServerTakes}
use Rattle.nbt_store.specs.declared.change.Change.{Change}
use Rattle.nbt_store.specs.declared.change.Change.TheVariants.{Began, Moved, Released, Reached, Looked}
use Rattle.nbt_store.specs.Changes.{after}
use Rattle.nbt_serve.specs.Serving.{Turn, Turns, passes, takes, goes_back, has_no_memory}
use Rattle.nbt_serve.specs.Changing.{IsKept, changed_name}
use Rattle.nbt_serve.specs.Waiting.{ReplyValue, IsAbout, value_of}
use Rattle.nbt_serve.specs.Turning.{answered}
use Rattle.nbt_serve.specs.declared.waiting.Reply.{Reply}
use Rattle.nbt_serve.proofs.Told.{kept_at}

-- ---- a reply about a name, among others

any_at : {X : Type 0} (P : X → Type 0) (xs ys : List X) (k : ℕ) (x : X) → k < length xs → slice_index_or xs k x ≡ x → P x → Any P (xs ++ ys)
any_at P [] ys k x l e p = absurd (omega (arith, l))
any_at P (z ∷ zs) ys zero x l e p = (0, x, omega arith, e, p)
any_at P (z ∷ zs) ys (suc k) x l e p = let h = any_at P zs ys k x (omega (arith, l)) e p in (suc h.0, h.1, omega (arith, h.2), h.3, h.4)

pub any_front : {X : Type 0} (P : X → Type 0) (xs ys : List X) → Any P xs → Any P (xs ++ ys)
any_front P xs ys a = any_at P xs ys a.0 a.1 a.2 a.3 a.4

value_at : (name : NameValue) (replies : List Reply) (k : ℕ) (x : Reply) → k < length replies → slice_index_or replies k x ≡ x → x.about ≡ Some name → IsAbout name (map value_of replies)
value_at name [] k x l e p = absurd (omega (arith, l))
value_at name (r ∷ rs) zero x l e p = (0, value_of x, omega arith, ap value_of e, p)
value_at name (r ∷ rs) (suc k) x l e p = let h = value_at name rs k x (omega (arith, l)) e p in (suc h.0, h.1, omega (arith, h.2), h.3, h.4)

reply_at : (name : NameValue) (replies : List Reply) (k : ℕ) (v : ReplyValue) → k < length (map value_of replies) → slice_index_or (map value_of replies) k v ≡ v → v.about ≡ Some name → Any (λ (reply : Reply). reply.about ≡ Some name) replies
reply_at name [] k v l e p = absurd (omega (arith, l))
reply_at name (r ∷ rs) zero v l e p = (0, r, omega arith, refl, ap (λ (w : ReplyValue). w.about) e ∙ p)
reply_at name (r ∷ rs) (suc k) v l e p = let h = reply_at name rs k v (omega (arith, l)) e p in (suc h.0, h.1, omega (arith, h.2), h.3, h.4)

pub about_values : (name : NameValue) (replies : List Reply) → Any (λ (reply : Reply). reply.about ≡ Some name) replies → IsAbout name (map value_of replies)
about_values name replies a = value_at name replies a.0 a.1 a.2 a.3 a.4

pub about_replies : (name : NameValue) (replies : List Reply) → IsAbout name (map value_of replies) → Any (λ (reply : Reply). reply.about ≡ Some name) replies
about_replies name replies a = reply_at name replies a.0 a.1 a.2 a.3 a.4

-- ---- a change of another name

pub one_other : (change : Change) (leases : Leases) (name : NameValue) → ¬ (changed_name change ≡ Some name) → after change leases name ≡ leases name
one_other (Began n lease at) leases name other = cond-false (same_name name n) _ (leases name) (same_name-other name n (λ e. other (ap Some (sym e))))
one_other (Moved n addr end at) leases name other = cond-false (same_name name n) _ (leases name) (same_name-other name n (λ e. other (ap Some (sym e))))
one_other (Released n addr at) leases name other = cond-false (same_name name n) _ (leases name) (same_name-other name n (λ e. other (ap Some (sym e))))
one_other (Reached at) leases name other = refl
one_other (Looked day at) leases name other = refl

-- ---- servers of one run

pub record AreAlike (one other : ServerValue) : Type 0 where
  pub start : one.start ≡ other.start
  pub config : one.table.config ≡ other.table.config

alike_turn : (old new : ServerValue) (turn : Turn) → Turns old turn new → AreAlike new old
alike_turn old _ _ passes = record { start = refl; config = refl }
alike_turn old _ _ (takes now from octets reply new does) = record { start = does.start; config = does.config }
alike_turn old _ _ (goes_back now from octets early) = record { start = refl; config = refl }
alike_turn old _ _ (has_no_memory now from octets new forgets) = record { start = forgets.start; config = forgets.config }

alike_same : (s : ServerValue) → AreAlike s s
alike_same s = record { start = refl; config = refl }

pub alike_run : (turns : List Turn) (old new : ServerValue) → Chain Turns old turns new → AreAlike new old
alike_run [] old new chain = subst (λ (s : ServerValue). AreAlike s old) (sym chain) (alike_same old)
alike_run (turn ∷ turns) old new chain =
    let one = alike_turn old chain.0 turn chain.1 in
    let rest = alike_run turns chain.0 new chain.2 in
    record { start = rest.start ∙ one.start; config = rest.config ∙ one.config }

pub turn_onward : (old new : ServerValue) (turn : Turn) → Turns old turn new → old.last ≤ new.last
turn_onward old _ _ passes = omega arith
turn_onward old _ _ (takes now from octets reply new does) = let g = does.goes_on in let l = does.last in omega (arith, g, l)
turn_onward old _ _ (goes_back now from octets early) = omega arith
turn_onward old _ _ (has_no_memory now from octets new forgets) = let g = forgets.goes_on in let l = forgets.last in omega (arith, g, l)

-- ---- the same query, to a server that has the same leases of its name

not_asked : (m : MessageValue) (r : Registration) (id : ℕ) (name : NameValue) → AsksFor m r → m ≡ query id name → ⊥
not_asked _ _ id name (by_registration r) e = absurd cc
not_asked _ _ id name (by_refresh r) e = absurd cc

never_over : (rows : Option ℕ) (table : TableValue) (now ip id : ℕ) (name : NameValue) → ¬ IsOverLimit rows table now ip (query id name)
never_over rows table now ip id name over = not_asked (query id name) over.r id name over.asks refl

module _ (server other : ServerValue) (now ip : ℕ) (name : NameValue) (alike : AreAlike other server) (same : leases_at now other.table.rows name ≡ leases_at now server.table.rows name) where
  speaks_too : speaks_from server ≤ now → speaks_from other ≤ now
  speaks_too speaks = let s = alike.start in let c = ap (λ (config : ConfigValue). config.longest) alike.config in rw (s, c) speaks

  served_too : (octets : List ℕ) (m : MessageValue) (reply : Option MessageValue) (after : Leases) → answered reply ≡ Some name → speaks_from server ≤ now → Spells octets m → Serves server.table now ip m reply after
      → ServesOctets other now ip octets reply (leases_at now other.table.rows)
  served_too octets _ _ _ asks speaks spelled (registers m r (Ok grant) after for_it own rule) = absurd cc
  served_too octets _ _ _ asks speaks spelled (registers m r (Err fault) after for_it own rule) = absurd cc
  served_too octets _ _ _ asks speaks spelled (refuses m r for_it not) = absurd cc
  served_too octets _ _ _ asks speaks spelled (refuses_overwrite r) = absurd cc
  served_too octets _ _ _ asks speaks spelled (releases id q kind addr result after own rule) = absurd cc
  served_too octets _ _ _ asks speaks spelled (refuses_release id q kind addr not) = absurd cc
  served_too octets _ _ _ asks speaks spelled (finds id q end least) =
      let named : q ≡ name = cc in
      let here : leases_at now server.table.rows q ≡ leases_at now other.table.rows q = ap (leases_at now server.table.rows) named ∙ (sym same ∙ ap (leases_at now other.table.rows) (sym named)) in
      rw here
      (serves (query id q) (Some (found_reply id q now end (leases_at now other.table.rows q))) (leases_at now other.table.rows) (speaks_too speaks) spelled (never_over other.client_rows other.table now ip id q)
      (finds id q end (rw here at least)))
  served_too octets _ _ _ asks speaks spelled (finds_none id q none) =
      let named : q ≡ name = cc in
      let here : leases_at now server.table.rows q ≡ leases_at now other.table.rows q = ap (leases_at now server.table.rows) named ∙ (sym same ∙ ap (leases_at now other.table.rows) (sym named)) in
      serves (query id q) (Some (not_found id name_error (Some q))) (leases_at now other.table.rows) (speaks_too speaks) spelled (never_over other.client_rows other.table now ip id q) (finds_none id q (sym here ∙ none))
  served_too octets _ _ _ asks speaks spelled (passes_over m nodes) = absurd cc

  pub asked_too : (octets : List ℕ) (reply : Option MessageValue) (after : Leases) → answered reply ≡ Some name → ServesOctets server now ip octets reply after → ServesOctets other now ip octets reply (leases_at now other.table.rows)
  asked_too octets _ _ asks (is_silent early) = absurd cc
  asked_too octets _ _ asks (is_no_message none) = absurd cc
  asked_too octets _ _ asks (turns_away m speaks spelled over) = absurd cc
  asked_too octets _ _ asks (serves m reply after speaks spelled room does) = served_too octets m reply after asks speaks spelled does

-- it goes on from there, at the query's time
abbrev pub server_after : ServerValue → (now : ℕ) → ServerValue
server_after server now = record server { last = now }

pub taken_too : (server other new : ServerValue) (now : ℕ) (from : Route) (octets : List ℕ) (reply : Option MessageValue) (name : NameValue) → AreAlike other server → leases_at now other.table.rows name ≡ leases_at now server.table.rows name
    → other.last ≤ now → answered reply ≡ Some name → ServerTakes server now from.peer.ip octets reply new → ServerTakes other now from.peer.ip octets reply (server_after other now)
taken_too server other new now from octets reply name alike same onward asks does = record {
  goes_on = onward;
  serves = asked_too server other now from.peer.ip name alike same octets reply (leases_at now new.table.rows) asks does.serves;
  spelled = does.spelled;
  start = refl;
  last = refl;
  config = refl;
  limit = refl;
}

-- Of what is kept of two servers, the leases of a name are the same: so are those that live at a later time.
pub live_alike : (server other : ServerValue) (kept less : Leases) (now : ℕ) (name : NameValue) → IsKept kept server → IsKept less other → server.last ≤ now → other.last ≤ now → less name ≡ kept name
    → leases_at now other.table.rows name ≡ leases_at now server.table.rows name
live_alike server other kept less now name k l onward earlier same =
    sym ((kept_at less other now earlier l).live name) ∙ (ap (filter (is_live now)) same ∙ (kept_at kept server now onward k).live name)
