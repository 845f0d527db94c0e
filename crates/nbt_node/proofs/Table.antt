-- Lines of the table of moves, from what the code knows of a state.
use Rattle.std.proofs.Common.{◌≡◌, ◌≢◌, ℕ, false, eqb, Option, Some, None, refl, sym, arith, inl, inr, ne_eqb, eq-eqb}
use Rattle.std.proofs.lemmas.Bool.Decides.{eqb_tells}
use Rattle.std.proofs.lemmas.Bool.{or_from}
use Rattle.nbt_name.specs.declared.addr.Kind.{Kind}
use Rattle.nbt_name.specs.Wire.{NameValue}
use Rattle.nbt_packet.specs.declared.message.Registration.{Registration}
use Rattle.nbt_packet.specs.Message.{MessageValue, registered, released, release}
use Rattle.nbt_lease.specs.Config.{granted}
use Rattle.nbt_node.specs.declared.state.State.{State}
use Rattle.nbt_node.specs.declared.state.State.TheVariants.{Asking, Held, Releasing, Resting}
use Rattle.nbt_node.specs.declared.transaction.Transaction.{Transaction}
use Rattle.nbt_node.specs.Node.{NodeValue}
use Rattle.nbt_node.specs.Calls.{held_kind}
use Rattle.nbt_node.specs.Transaction.{opened}
use Rattle.nbt_node.specs.Moves.{Move, hear, give_back, gives_back, id_after, Told, nothing, is_granted, is_renewed, is_refused, is_lost, matters, has_id, held_for, unmoved, granted_to, renewed_to, refused_to, loses_asked, loses_held}

pub differs : (a b : ℕ) → b ≢ a → eqb a b ≡ false
differs a b ne = ne_eqb a b (λ e. ne (sym e))

-- a name that no reply to a registration, or to a release, is about
pub not_registering : (state : State) (rcode : ℕ) (r : Registration) → ((kind : Kind) (ttl : ℕ) (last : ℕ) (p : Transaction) → state ≡ Asking kind ttl last p → ⊥)
    → ((kind : Kind) (ttl until renew last : ℕ) (pending : Option Transaction) → state ≡ Held kind ttl until renew last pending → ⊥) → matters state (registered rcode r) ≡ false
not_registering (Asking kind ttl last p) rcode r asking held = absurd (asking kind ttl last p refl)
not_registering (Held kind ttl until renew last pending) rcode r asking held = absurd (held kind ttl until renew last pending refl)
not_registering _ rcode r asking held = refl

pub not_releasing : (state : State) (id rcode : ℕ) (n : NameValue) (k : Kind) (a : ℕ) → ((kind : Kind) (last : ℕ) (p : Transaction) → state ≡ Releasing kind last p → ⊥) → matters state (released id rcode n k a) ≡ false
not_releasing (Releasing kind last p) id rcode n k a releasing = absurd (releasing kind last p refl)
not_releasing _ id rcode n k a releasing = refl

module _ (node : NodeValue) (now : ℕ) (name : NameValue) where
  -- a reply that changes nothing
  pub stays : (state after : State) (message : MessageValue) (told : Told) → after ≡ state → told ≡ nothing → matters state message ≡ false → Move node now name state (hear message) after None told node.next_id
  stays state after message told same silent out = rw (same, silent) (unmoved state message out)

  -- a reply with another id: a demand drops the name, and any other does nothing
  pub asking_demanded : (state after : State) (told : Told) (kind : Kind) (ttl last rcode : ℕ) (p : Transaction) (r : Registration) → state ≡ Asking kind ttl last p → r.id ≢ p.id
      → (rcode ≡ 7 → (after ≡ Resting last) × (told ≡ is_lost)) → (rcode ≢ 7 → (after ≡ state) × (told ≡ nothing)) → Move node now name state (hear (registered rcode r)) after None told node.next_id
  asking_demanded state after told kind ttl last rcode p r is other demand silent =
      elim (eqb_tells rcode 7) [
        | inl seven ↦ let d = demand seven.1 in rw (is, seven.1, d.0, d.1) (loses_asked kind ttl last p r other)
        | inr not_seven ↦ let s = silent not_seven.1 in stays state after (registered rcode r) told s.0 s.1 (rw is (or_from (eqb r.id p.id) (eqb rcode 7) (ne_eqb r.id p.id other) not_seven.0))
      ]

  pub held_demanded : (state after : State) (told : Told) (kind : Kind) (ttl until renew last : ℕ) (pending : Option Transaction) (rcode : ℕ) (r : Registration) → state ≡ Held kind ttl until renew last pending
      → has_id pending r.id ≡ false → (rcode ≡ 7 → (after ≡ Resting last) × (told ≡ is_lost)) → (rcode ≢ 7 → (after ≡ state) × (told ≡ nothing))
      → Move node now name state (hear (registered rcode r)) after None told node.next_id
  held_demanded state after told kind ttl until renew last pending rcode r is other demand silent =
      elim (eqb_tells rcode 7) [
        | inl seven ↦ let d = demand seven.1 in rw (is, d.0, d.1) (loses_held kind ttl until renew last rcode pending r (λ zero_is. absurd (omega (arith, seven.1, zero_is))) (inr seven.1))
        | inr not_seven ↦ let s = silent not_seven.1 in stays state after (registered rcode r) told s.0 s.1 (rw is (or_from (has_id pending r.id) (eqb rcode 7) other not_seven.0))
      ]

  pub asking_refused : (state : State) (kind : Kind) (ttl last rcode : ℕ) (p : Transaction) (r : Registration) → state ≡ Asking kind ttl last p → r.id ≡ p.id → rcode ≢ 0
      → Move node now name state (hear (registered rcode r)) (Resting last) None (is_refused rcode) node.next_id
  asking_refused state kind ttl last rcode p r is same bad = rw is (refused_to kind ttl last rcode p r same bad)

  pub held_refused : (state : State) (kind : Kind) (ttl until renew last : ℕ) (pending : Option Transaction) (p : Transaction) (rcode : ℕ) (r : Registration) → state ≡ Held kind ttl until renew last pending
      → pending ≡ Some p → r.id ≡ p.id → rcode ≢ 0 → Move node now name state (hear (registered rcode r)) (Resting last) None is_lost node.next_id
  held_refused state kind ttl until renew last pending p rcode r is one same bad =
      rw is (loses_held kind ttl until renew last rcode pending r bad (inl (rw one (eq-eqb r.id p.id same))))

  pub asking_granted : (state after : State) (kind : Kind) (ttl last rcode seconds : ℕ) (p : Transaction) (r : Registration) → state ≡ Asking kind ttl last p → r.id ≡ p.id → rcode ≡ 0
      → granted node.config.longest r.ttl ≡ seconds → after ≡ held_for kind ttl p.first seconds last
      → Move node now name state (hear (registered rcode r)) after None (is_granted seconds) node.next_id
  asking_granted state after kind ttl last rcode seconds p r is same good g held =
      rw (is, good, held, ← g) (granted_to kind ttl last p r same)

  pub held_renewed : (state after : State) (kind : Kind) (ttl until renew last : ℕ) (pending : Option Transaction) (p : Transaction) (rcode seconds : ℕ) (r : Registration) → state ≡ Held kind ttl until renew last pending
      → pending ≡ Some p → r.id ≡ p.id → rcode ≡ 0 → granted node.config.longest r.ttl ≡ seconds → after ≡ held_for kind ttl p.first seconds last
      → Move node now name state (hear (registered rcode r)) after None (is_renewed seconds) node.next_id
  held_renewed state after kind ttl until renew last pending p rcode seconds r is one same good g held =
      rw (is, one, good, held, ← g) (renewed_to kind ttl until renew last p r same)

  -- a name that is held is given back
  pub held_given_back : (state : State) (kind : Kind) → held_kind state ≡ Some kind
      → Move node now name state give_back (Releasing kind now (opened node.next_id now)) (Some (release node.next_id name kind node.addr.ip)) nothing (id_after node.next_id)
  held_given_back (Held k ttl until renew last pending) kind e = let same : k ≡ kind = cc in rw same (gives_back kind ttl until renew last pending)
  held_given_back _ kind e = absurd cc
