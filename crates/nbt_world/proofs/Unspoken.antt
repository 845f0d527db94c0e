-- What no fact of a world speaks of: the id of a node's next request, and when a refresh is due.
use Rattle.std.proofs.Common.{◌≡◌, ◌≢◌, ℕ, false, true, suc, Some, None, refl, sym, ap, subst, inl, inr}
use Rattle.std.specs.Prelude.{IsTrue, ◌⊎◌}
use Rattle.nbt_name.specs.Wire.{NameValue}
use Rattle.nbt_name.proofs.Same.{names_apart}
use Rattle.nbt_packet.specs.Message.{MessageValue}
use Rattle.nbt_node.specs.declared.state.State.{State}
use Rattle.nbt_node.specs.declared.state.State.TheVariants.{Idle, Asking, Held, Releasing, Resting}
use Rattle.nbt_node.specs.Node.{NodeValue, is_in, has_room, AreDistinct, state_of}
use Rattle.nbt_node.specs.Calls.{due_soon, refreshing_soon}
use Rattle.nbt_node.proofs.Known.{absent, distinct-with_state, with_state-other, with_state-same}
use Rattle.nbt_world.specs.declared.clocks.Clocks.{Clocks}
use Rattle.nbt_world.specs.Drift.{reading}
use Rattle.nbt_world.specs.World.{WorldValue, node_of, with_node}
use Rattle.nbt_world.specs.Inner.Kept.{Invariant, IsNodeOf, has, may_get}
use Rattle.nbt_world.proofs.Drifting.{RestLaw}
use Rattle.nbt_world.proofs.Knowing.{knows, Fades, stays, ended-fades, fresh-fades}
use Rattle.nbt_world.proofs.Claiming.{NoNewClaim, claims_as}
use Rattle.nbt_world.proofs.Covering.{NameKept}
use Rattle.nbt_world.proofs.Naming.{UpAt, up_at, adds_none, node_moves, known_as, fresh_as}

-- ---- the next id

pub renumbered_kept : RestLaw → (w : WorldValue) (i id : ℕ) (node : NodeValue) → Invariant w → node_of w.ends (suc i) ≡ Some node
    → Invariant (record w { ends = with_node w.ends (suc i) (Some (record node { next_id = id })) })
renumbered_kept law w i id node kept up =
    let at = up_at law i kept up in
    let is : IsNodeOf w (suc i) at.addr (record node { next_id = id }) =
    record { addr_is = at.is.addr_is; server_is = at.is.server_is; config_is = at.is.config_is; distinct = at.is.distinct; past = at.is.past }
    in
    node_moves at is (adds_none at) (λ on q. record { requests = at.requests on q; replies = at.replies on q; claims = λ kind end c. c })

-- ---- a refresh before its time

module _ (life now start : ℕ) where
  soon_fades : (s : State) → Fades life now start s (due_soon s)
  soon_fades Idle = stays refl (λ k w. w) (λ k first w. w)
  soon_fades (Asking kind ttl last p) = stays refl (λ k w. w) (λ k first w. w)
  soon_fades (Held kind ttl until renew last None) = stays refl (λ k w. w) (λ k first w. w)
  soon_fades (Held kind ttl until renew last (Some p)) = stays refl (λ k w. w) (λ k first w. w)
  soon_fades (Releasing kind last p) = stays refl (λ k w. w) (λ k first w. w)
  soon_fades (Resting last) = stays refl (λ k w. w) (λ k first w. w)

soon_claims : {longest life clock start : ℕ} {replied : Clocks → MessageValue → Type 0} (s : State) → NoNewClaim longest life clock replied (knows start s) (knows start (due_soon s))
soon_claims Idle kind end c = c
soon_claims (Asking k ttl last p) kind end c = c
soon_claims (Held k ttl until renew last None) kind end (has j e w) = has j e w
soon_claims (Held k ttl until renew last None) kind end (may_get j first moment r w a d) = elim w [ ]
soon_claims (Held k ttl until renew last (Some p)) kind end (has j e w) = has j e w
soon_claims (Held k ttl until renew last (Some p)) kind end (may_get j first moment r w a d) = may_get j first moment r w a d
soon_claims (Releasing k last p) kind end c = c
soon_claims (Resting last) kind end c = c

-- the name's state, and every other's
soon_is : (node : NodeValue) (name : NameValue) → AreDistinct node.slots → state_of (refreshing_soon node name) name ≡ due_soon (state_of node name)
soon_is node name apart = with_state-same node.slots name (due_soon (state_of node name)) apart room
  where
    room : is_in node.slots name ≡ false → (has_room node.slots ≡ true) ⊎ (due_soon (state_of node name) ≡ Idle)
    room out = inr (ap due_soon (absent node.slots name out))

others_are : (node : NodeValue) (name q : NameValue) → q ≢ name → state_of (refreshing_soon node name) q ≡ state_of node q
others_are node name q ne = with_state-other node.slots name (due_soon (state_of node name)) q ne

pub soon_kept : RestLaw → (w : WorldValue) (i : ℕ) (node : NodeValue) (name : NameValue) → Invariant w → node_of w.ends (suc i) ≡ Some node
    → Invariant (record w { ends = with_node w.ends (suc i) (Some (refreshing_soon node name)) })
soon_kept law w i node name kept up = node_moves at is (adds_none at) (λ on q. names on q (names_apart q name))
  where
    at : UpAt w i node
    at = up_at law i kept up

    new : NodeValue
    new = refreshing_soon node name

    is : IsNodeOf w (suc i) at.addr new
    is = record {
      addr_is = at.is.addr_is;
      server_is = at.is.server_is;
      config_is = at.is.config_is;
      distinct = distinct-with_state node.slots name (due_soon (state_of node name)) at.is.distinct;
      past = at.is.past;
    }

    own : IsTrue w.timely → NameKept node.config w i at.addr w.sent (Some node) (Some new) name
    own on =
        let state_is = soon_is node name at.is.distinct in
        let fade = soon_fades node.config.life (reading w.now (suc i)) node.start (state_of node name) in
        record {
          requests = known_as new name refl state_is (ended-fades (at.past on name) fade (at.requests on name));
          replies = fresh_as new name refl state_is (fresh-fades (at.past on name) fade (at.replies on name));
          claims = λ kind end c. soon_claims (state_of node name) kind end (claims_as new name refl state_is kind end c);
        }

    other : (q : NameValue) → q ≢ name → IsTrue w.timely → NameKept node.config w i at.addr w.sent (Some node) (Some new) q
    other q ne on =
        let state_is = others_are node name q ne in
        record {
          requests = known_as new q refl state_is (at.requests on q);
          replies = fresh_as new q refl state_is (at.replies on q);
          claims = λ kind end c. claims_as new q refl state_is kind end c;
        }

    names : IsTrue w.timely → (q : NameValue) → (q ≡ name) ⊎ (q ≢ name) → NameKept node.config w i at.addr w.sent (Some node) (Some new) q
    names on q (inl e) = subst (λ (n : NameValue). NameKept node.config w i at.addr w.sent (Some node) (Some new) n) (sym e) (own on)
    names on q (inr ne) = other q ne on
