-- No two lines of the table of moves are about one event on one state.
use Rattle.std.proofs.Common.{◌≡◌, ◌≢◌, ℕ, Bool, true, false, cond, eqb, Option, Some, None, refl, sym, ap, ◌∙◌, inl, inr, eq-eqb, ne_eqb}
use Rattle.std.specs.Prelude.{◌⊎◌, if◌then◌else◌, nat_eq}
use Rattle.std.proofs.lemmas.Bool.{or_parts}
use Rattle.nbt_name.specs.declared.addr.Kind.{Kind}
use Rattle.nbt_name.specs.Wire.{NameValue}
use Rattle.nbt_packet.specs.declared.message.Registration.{Registration}
use Rattle.nbt_packet.specs.Message.{MessageValue, registration, refresh, release, registered, released, wait}
use Rattle.nbt_node.specs.declared.state.State.{State}
use Rattle.nbt_node.specs.declared.state.State.TheVariants.{Idle, Asking, Held, Releasing, Resting}
use Rattle.nbt_node.specs.declared.transaction.Transaction.{Transaction}
use Rattle.nbt_node.specs.Node.{NodeValue}
use Rattle.nbt_node.specs.Transaction.{opened, again, put_off, wait_until}
use Rattle.nbt_node.specs.Moves.{Move, NameEvent, ask, give_back, poll, hear, Told, nothing, is_granted, is_renewed, is_refused, is_lost, is_freed, waits, id_after, claim, has_id, matters, granted_by, held_for, granted_to, renewed_to, refused_to, loses_asked, loses_held, freed, asking_waits, giving_back_waits, refresh_waits, unmoved}

-- what comes of an event, as far as a line is about it
record Outcome : Type 0 where
  state : State
  sent : Option MessageValue
  told : Told
  next : ℕ

module _ (node : NodeValue) (now : ℕ) (name : NameValue) where
  abbrev now_in : State → Option MessageValue → Told → Outcome
  now_in state sent told = record { state = state; sent = sent; told = told; next = node.next_id }

  abbrev opening : State → MessageValue → Outcome
  opening state sent = record { state = state; sent = Some sent; told = nothing; next = id_after node.next_id }

  abbrev on_reply : State → MessageValue → Outcome
  on_reply (Asking kind ttl last p) (registered rcode r) =
      if nat_eq r.id p.id
      then (if nat_eq rcode 0 then now_in (held_for kind ttl p.first (granted_by node r) last) None (is_granted (granted_by node r)) else now_in (Resting last) None (is_refused rcode))
      else (if nat_eq rcode 7 then now_in (Resting last) None is_lost else now_in (Asking kind ttl last p) None nothing)
  on_reply (Asking kind ttl last p) (wait w n t) =
      if nat_eq w p.id then now_in (Asking kind ttl last (put_off (wait_until now t) p)) None waits else now_in (Asking kind ttl last p) None nothing
  on_reply (Held kind ttl until renew last None) (registered rcode r) =
      if nat_eq rcode 7 then now_in (Resting last) None is_lost else now_in (Held kind ttl until renew last None) None nothing
  on_reply (Held kind ttl until renew last (Some p)) (registered rcode r) =
      if nat_eq r.id p.id
      then (if nat_eq rcode 0 then now_in (held_for kind ttl p.first (granted_by node r) last) None (is_renewed (granted_by node r)) else now_in (Resting last) None is_lost)
      else (if nat_eq rcode 7 then now_in (Resting last) None is_lost else now_in (Held kind ttl until renew last (Some p)) None nothing)
  on_reply (Held kind ttl until renew last (Some p)) (wait w n t) =
      if nat_eq w p.id then now_in (Held kind ttl until renew last (Some (put_off (wait_until now t) p))) None waits else now_in (Held kind ttl until renew last (Some p)) None nothing
  on_reply (Releasing kind last p) (released w rcode n k a) =
      if nat_eq w p.id then now_in (Resting last) None (is_freed rcode) else now_in (Releasing kind last p) None nothing
  on_reply (Releasing kind last p) (wait w n t) =
      if nat_eq w p.id then now_in (Releasing kind last (put_off (wait_until now t) p)) None waits else now_in (Releasing kind last p) None nothing
  on_reply state message = now_in state None nothing

  abbrev outcome : NameEvent → State → Outcome
  outcome (ask kind ttl) Idle = opening (Asking kind ttl now (opened node.next_id now)) (registration (claim node node.next_id name kind ttl))
  outcome give_back (Held kind ttl until renew last pending) = opening (Releasing kind now (opened node.next_id now)) (release node.next_id name kind node.addr.ip)
  outcome poll (Asking kind ttl last p) = now_in (Asking kind ttl now (again now p)) (Some (registration (claim node p.id name kind ttl))) nothing
  outcome poll (Releasing kind last p) = now_in (Releasing kind now (again now p)) (Some (release p.id name kind node.addr.ip)) nothing
  outcome poll (Held kind ttl until renew last (Some p)) = now_in (Held kind ttl until renew now (Some (again now p))) (Some (refresh (claim node p.id name kind ttl))) nothing
  outcome poll (Held kind ttl until renew last None) = opening (Held kind ttl until renew now (Some (opened node.next_id now))) (refresh (claim node node.next_id name kind ttl))
  outcome (hear message) state = on_reply state message
  outcome event state = now_in state None nothing

  same_id : (n : ℕ) → eqb n n ≡ true
  same_id n = eq-eqb n n refl

  -- a reply that doesn't matter
  still : (state : State) (message : MessageValue) → matters state message ≡ false → on_reply state message ≡ now_in state None nothing
  still (Asking kind ttl last p) (registered rcode r) e = let parts = or_parts (eqb r.id p.id) (eqb rcode 7) e in rw (parts.0, parts.1) refl
  still (Asking kind ttl last p) (wait w n t) e = rw e refl
  still (Held kind ttl until renew last None) (registered rcode r) e = rw e refl
  still (Held kind ttl until renew last (Some p)) (registered rcode r) e = let parts = or_parts (eqb r.id p.id) (eqb rcode 7) e in rw (parts.0, parts.1) refl
  still (Held kind ttl until renew last (Some p)) (wait w n t) e = rw e refl
  still (Releasing kind last p) (released w rcode n k a) e = rw e refl
  still (Releasing kind last p) (wait w n t) e = rw e refl
  still state message e = refl

  lost : (kind : Kind) (ttl until renew last rcode : ℕ) (pending : Option Transaction) (r : Registration) → rcode ≢ 0 → (has_id pending r.id ≡ true) ⊎ (rcode ≡ 7)
      → on_reply (Held kind ttl until renew last pending) (registered rcode r) ≡ now_in (Resting last) None is_lost
  lost kind ttl until renew last rcode None r bad (inl never) = absurd cc
  lost kind ttl until renew last rcode None r bad (inr seven) = rw (eq-eqb rcode 7 seven) refl
  lost kind ttl until renew last rcode (Some p) r bad (inl same) = rw (same, ne_eqb rcode 0 bad) refl
  lost kind ttl until renew last rcode (Some p) r bad (inr seven) = go (eqb r.id p.id)
    where
      go : (b : Bool) → cond b (cond (eqb rcode 0) (now_in (held_for kind ttl p.first (granted_by node r) last) None (is_renewed (granted_by node r))) (now_in (Resting last) None is_lost))
          (cond (eqb rcode 7) (now_in (Resting last) None is_lost) (now_in (Held kind ttl until renew last (Some p)) None nothing)) ≡ now_in (Resting last) None is_lost
      go true = rw (ne_eqb rcode 0 bad) refl
      go false = rw (eq-eqb rcode 7 seven) refl

  is_outcome : (before : State) (event : NameEvent) (after : State) (sent : Option MessageValue) (told : Told) (next : ℕ) → Move node now name before event after sent told next
      → outcome event before ≡ record { state = after; sent = sent; told = told; next = next }
  is_outcome _ _ _ _ _ _ (granted_to kind ttl last p r same) = rw (eq-eqb r.id p.id same) refl
  is_outcome _ _ _ _ _ _ (renewed_to kind ttl until renew last p r same) = rw (eq-eqb r.id p.id same) refl
  is_outcome _ _ _ _ _ _ (refused_to kind ttl last rcode p r same bad) = rw (eq-eqb r.id p.id same, ne_eqb rcode 0 bad) refl
  is_outcome _ _ _ _ _ _ (loses_asked kind ttl last p r differs) = rw (ne_eqb r.id p.id differs) refl
  is_outcome _ _ _ _ _ _ (loses_held kind ttl until renew last rcode pending r bad why) = lost kind ttl until renew last rcode pending r bad why
  is_outcome _ _ _ _ _ _ (freed kind last rcode p n k a) = rw (same_id p.id) refl
  is_outcome _ _ _ _ _ _ (asking_waits kind ttl last p n t) = rw (same_id p.id) refl
  is_outcome _ _ _ _ _ _ (giving_back_waits kind last p n t) = rw (same_id p.id) refl
  is_outcome _ _ _ _ _ _ (refresh_waits kind ttl until renew last p n t) = rw (same_id p.id) refl
  is_outcome _ _ _ _ _ _ (unmoved state message out) = still state message out
  is_outcome _ _ _ _ _ _ _ = refl

  pub one_outcome : (before : State) (event : NameEvent) (a b : State) (m n : Option MessageValue) (t u : Told) (i j : ℕ) → Move node now name before event a m t i → Move node now name before event b n u j
      → (a ≡ b) × (m ≡ n) × (t ≡ u) × (i ≡ j)
  one_outcome event before a b m n t u i j x y =
      let same : record { state = a; sent = m; told = t; next = i } ≡ record { state = b; sent = n; told = u; next = j } = sym (is_outcome event before a m t i x) ∙ is_outcome event before b n u j y in
      (ap (λ (o : Outcome). o.state) same, ap (λ (o : Outcome). o.sent) same, ap (λ (o : Outcome). o.told) same, ap (λ (o : Outcome). o.next) same)
