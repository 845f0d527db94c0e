-- One end of a world changes, and what was sent of it.
use Rattle.std.proofs.Common.{◌≡◌, ℕ, zero, suc, List, [], ◌∷◌, ◌++◌, Option, Some, refl, sym, ap, subst, append-nil, arith, inl, inr}
use Rattle.std.specs.Prelude.{slice_get, Contains}
use Rattle.std.proofs.lemmas.List.Elements.{Contains-append_cases, Contains-append_left, Contains-append_right, Contains-push_cases}
use Rattle.nbt_name.specs.declared.addr.Addr.{Addr}
use Rattle.nbt_node.specs.Node.{NodeValue}
use Rattle.nbt_world.specs.declared.ends.NodeEnd.{NodeEnd}
use Rattle.nbt_world.specs.declared.ends.Ends.{Ends}
use Rattle.nbt_world.specs.declared.network.Datagram.{Datagram}
use Rattle.nbt_world.specs.World.{WorldValue, node_in, node_of, put_node, with_node}
use Rattle.nbt_world.specs.Inner.Handing.{Origin, listed, strange, harmless}
use Rattle.nbt_net.specs.Wire.{Comes, of_an_end, of_no_end, of_another_program}
use Rattle.nbt_net.specs.Reaching.{Goes, Reaches, stays, goes_on, AreSentOrMoveNone}

-- ---- ends

put_put : (nodes : List NodeEnd) (i : ℕ) (x y : Option NodeValue) → put_node (put_node nodes i x) i y ≡ put_node nodes i y
put_put [] i x y = refl
put_put (end ∷ nodes) zero x y = refl
put_put (end ∷ nodes) (suc i) x y = ap (λ (rest : List NodeEnd). end ∷ rest) (put_put nodes i x y)

put_same : (nodes : List NodeEnd) (i : ℕ) (node : NodeValue) → node_in (slice_get nodes i) ≡ Some node → put_node nodes i (Some node) ≡ nodes
put_same [] i node is = refl
put_same (end ∷ nodes) zero node is = ap (λ (x : Option NodeValue). record end { node = x } ∷ nodes) (sym is)
put_same (end ∷ nodes) (suc i) node is = ap (λ (rest : List NodeEnd). end ∷ rest) (put_same nodes i node is)

pub with_twice : (ends : Ends) (i : ℕ) (x y : Option NodeValue) → with_node (with_node ends (suc i) x) (suc i) y ≡ with_node ends (suc i) y
with_twice ends i x y = ap (λ (nodes : List NodeEnd). record ends { nodes = record { items = nodes } }) (put_put ends.nodes.items i x y)

pub with_same : (ends : Ends) (i : ℕ) (node : NodeValue) → node_of ends (suc i) ≡ Some node → with_node ends (suc i) (Some node) ≡ ends
with_same ends i node up = ap (λ (nodes : List NodeEnd). record ends { nodes = record { items = nodes } }) (put_same ends.nodes.items i node up)

-- ---- what leads from one world to another

pub once : {old new : WorldValue} → Goes old new → Reaches old new
once {old} {new} goes = goes_on old old new (stays old) goes

-- and nothing is sent
pub quietly : {w : WorldValue} (ends : Ends) → Goes w (record w { ends = ends }) → Reaches w (record w { ends = ends; sent = w.sent ++ [] })
quietly {w} ends goes = subst (λ (xs : List Datagram). Reaches w (record w { ends = ends; sent = xs })) (sym (append-nil w.sent)) (once goes)

pub reaches_on : {old mid new : WorldValue} → Reaches old mid → Reaches mid new → Reaches old new
reaches_on before (stays world) = before
reaches_on {old} before (goes_on mid late new middle last) = goes_on old late new (reaches_on before middle) last

-- ---- what was sent

pub nothing_at : {A : Type 0} (x : A) → Contains [] x → ⊥
nothing_at x c = let lt = c.1 in absurd (omega arith)

pub none_sent : (xs : List Datagram) → AreSentOrMoveNone [] xs
none_sent xs d c = absurd (nothing_at d c)

pub same_sent : (xs : List Datagram) → AreSentOrMoveNone xs xs
same_sent xs d c = inl c

-- one datagram
pub one_sent : (P : Datagram → Type 0) (x : Datagram) → P x → (d : Datagram) → Contains (x ∷ []) d → P d
one_sent P x is d c = elim (Contains-push_cases [] x d c) [ inl none ↦ absurd (nothing_at d none) | inr same ↦ subst P same is ]

-- more is sent by both
pub both_send : (xs ys more : List Datagram) (written : List Datagram) → AreSentOrMoveNone xs ys → AreSentOrMoveNone more written → AreSentOrMoveNone (xs ++ more) (ys ++ written)
both_send xs ys more written before last d c = elim (Contains-append_cases xs more d c) [
  | inl first ↦ elim (before d first) [ inl there ↦ inl (Contains-append_left ys written d there) | inr none ↦ inr none ]
  | inr then ↦ elim (last d then) [ inl there ↦ inl (Contains-append_right ys written d there) | inr none ↦ inr none ]
]

-- ---- what comes

-- what may come to an end comes as in a world
pub origin_of : {w : WorldValue} {from to : Addr} {octets : List ℕ} → Comes w from to octets → Origin w from to octets
origin_of (of_an_end d there from_is to_is octets_are in_time) = listed d there from_is to_is octets_are in_time
origin_of (of_no_end none) = strange none
origin_of (of_another_program none) = harmless none
