-- The requests of names, one after the other.
use Rattle.std.proofs.Common.{Bool, false, ◌&&◌, is_none, ◌≡◌, ℕ, ◌+◌, ◌<◌, true, List, [], ◌∷◌, ◌++◌, length, take, drop, get_or, refl, sym, subst, ◌∙◌, ap, arith, Some}
use Rattle.std.proofs.Math.ListN.{set}
use Rattle.std.proofs.lemmas.List.{drop_more, take-append-drop, take-set, drop-set, take_more_set, take_all}
use Rattle.std.proofs.lemmas.List.Folds.{list_any-append}
use Rattle.std.proofs.lemmas.Bool.{lt-leb}
use Rattle.std.specs.List.{list_any}
use Rattle.std.specs.Prelude.{nat_lt, nat_le}
use Rattle.nbt_name.specs.declared.addr.Addr.{Addr}
use Rattle.nbt_packet.specs.declared.message.Message.{Message}
use Rattle.nbt_packet.specs.Message.{message_of}
use Rattle.nbt_packet.specs.Spelling.{AreWritten}
use Rattle.nbt_packet.specs.Text.{text}
use Rattle.nbt_port.specs.PortCalls.{PortCall, sent, send_failed, route_to, Chain}
use Rattle.nbt_port.proofs.Chains.{chain_on}
use Rattle.nbt_host.specs.declared.release.Release.{Release}
use Rattle.nbt_host.specs.Releases.{request, is_due, sent_at}
use Rattle.nbt_host.specs.ReleaseTurns.{Releasing, Sends, sends, Fails, loses_request}
use Rattle.nbt_host.specs.Inner.ReleaseSteps.{SendsOne, sends_one, sends_none, Reached}

-- the octets that are sent are the written form of the request
written : (own : ℕ) (r : Release) (message : Message) (out octets : List ℕ) → message_of message ≡ request own r → AreWritten (Some (message_of message)) out → octets ≡ out → octets ≡ text (request own r)
written own r message out octets is form same = same ∙ form.0 ∙ ap text is

pub one_sent : {P : Type 0} (does : P → PortCall → P → Type 0) (server : Addr) (own now : ℕ) (p q : P) (r s : Release) (message : Message) (out octets : List ℕ) → is_due now r ≡ true
    → message_of message ≡ request own r → AreWritten (Some (message_of message)) out → octets ≡ out → does p (sent (route_to server) octets) q → s ≡ sent_at now r → SendsOne does server own now p r q s
one_sent does server own now p q r s message out octets due is form same did after =
    subst (λ (z : Release). SendsOne does server own now p r q z) (sym after) (sends_one q due (subst (λ (o : List ℕ). does p (sent (route_to server) o) q) (written own r message out octets is form same) did))

pub one_lost : {P : Type 0} (does : P → PortCall → P → Type 0) (server : Addr) (own : ℕ) (p q : P) (r : Release) (message : Message) (out octets : List ℕ)
    → message_of message ≡ request own r → AreWritten (Some (message_of message)) out → octets ≡ out → does p (send_failed (route_to server) octets) q → does p (send_failed (route_to server) (text (request own r))) q
one_lost does server own p q r message out octets is form same did = subst (λ (o : List ℕ). does p (send_failed (route_to server) o) q) (written own r message out octets is form same) did

-- a list round one of its places
split_at : (rs : List Release) (i : ℕ) (d : Release) → i < length rs → rs ≡ take i rs ++ get_or rs i d ∷ drop (i + 1) rs
split_at rs i d lt = sym (take-append-drop i rs) ∙ ap (λ (rest : List Release). take i rs ++ rest) (drop_more rs i d lt)

split_by : (rs : List Release) (i : ℕ) (r d : Release) → i < length rs → r ≡ get_or rs i d → rs ≡ take i rs ++ r ∷ drop (i + 1) rs
split_by rs i r d lt is = split_at rs i d lt ∙ ap (λ (z : Release). take i rs ++ z ∷ drop (i + 1) rs) (sym is)

set_at : (rs : List Release) (i : ℕ) (s : Release) → i < length rs → set rs i s ≡ take i rs ++ s ∷ drop (i + 1) rs
set_at rs i s lt = sym (take-append-drop i (set rs i s)) ∙ ap (λ (front : List Release). front ++ drop i (set rs i s)) (take-set rs i s) ∙ ap (λ (rest : List Release). take i rs ++ rest) (drop-set rs i s lt)

set_none : (rs : List Release) (i : ℕ) (r d : Release) → i < length rs → r ≡ get_or rs i d → set rs i r ≡ rs
set_none rs i r d lt is = set_at rs i r lt ∙ sym (split_by rs i r d lt is)

-- one more
pub sent_on : {P : Type 0} (does : P → PortCall → P → Type 0) (server : Addr) (own now : ℕ) (first : Releasing P) (p q : P) (rs : List Release) (i : ℕ) (r d s : Release) → i < length rs → r ≡ get_or rs i d
    → Reached does server own now first (record { port = p; releases = rs }) → SendsOne does server own now p r q s → Reached does server own now first (record { port = q; releases = set rs i s })
sent_on does server own now first p _ rs i r d _ lt is x (sends_one q due did) = (
  x.0 ++ sent (route_to server) (text (request own r)) ∷ [],
  subst (λ (zs : List Release). Chain (Sends does server own now) first (x.0 ++ sent (route_to server) (text (request own r)) ∷ []) (record { port = q; releases = zs })) (sym (set_at rs i (sent_at now r) lt))
      (chain_on (Sends does server own now) first (record { port = p; releases = rs }) (record { port = q; releases = take i rs ++ sent_at now r ∷ drop (i + 1) rs }) x.0 (sent (route_to server) (text (request own r)))
      x.1 (sends q (take i rs) (drop (i + 1) rs) r (split_by rs i r d lt is) due did)),
)
sent_on does server own now first p _ rs i r d _ lt is x (sends_none not_due) =
    subst (λ (zs : List Release). Reached does server own now first (record { port = p; releases = zs })) (sym (set_none rs i r d lt is)) x

-- up to one that is lost
pub lost_on : {P : Type 0} (does : P → PortCall → P → Type 0) (server : Addr) (own now : ℕ) (first : Releasing P) (p q : P) (rs : List Release) (i : ℕ) (r d s : Release) → i < length rs → r ≡ get_or rs i d
    → Reached does server own now first (record { port = p; releases = rs }) → (is_due now r ≡ true) × does p (send_failed (route_to server) (text (request own r))) q × (s ≡ r) → Fails does server own now first (record { port = q; releases = set rs i s })
lost_on does server own now first p q rs i r d s lt is x y =
    subst (λ (zs : List Release). Fails does server own now first (record { port = q; releases = zs })) (sym (ap (λ (z : Release). set rs i z) y.2 ∙ set_none rs i r d lt is))
    (loses_request x.0 (record { port = p; releases = rs }) q (take i rs) (drop (i + 1) rs) r x.1 (split_by rs i r d lt is) y.0 y.1)

-- ---- what was sent isn't due

later : (now tries : ℕ) (none : Bool) → (none && (nat_lt tries 3 && nat_le (now + 5000) now)) ≡ false
later now tries none =
    let late : nat_le (now + 5000) now ≡ false = lt-leb (now + 5000) now (omega arith) in
    rw late (and_false none (nat_lt tries 3))
  where
    and_false : (a b : Bool) → (a && (b && false)) ≡ false
    and_false true true = refl
    and_false true false = refl
    and_false false b = refl

done_one : {P : Type 0} (does : P → PortCall → P → Type 0) (server : Addr) (own now : ℕ) (p q : P) (r s : Release) → SendsOne does server own now p r q s → is_due now s ≡ false
done_one does server own now p _ r _ (sends_one q due did) = later now (r.tries + 1) (is_none r.rcode)
done_one does server own now p _ r _ (sends_none not_due) = not_due

-- the first ones aren't
pub done_on : {P : Type 0} (does : P → PortCall → P → Type 0) (server : Addr) (own now : ℕ) (p q : P) (rs : List Release) (i : ℕ) (r s : Release) → i < length rs → list_any (is_due now) (take i rs) ≡ false
    → SendsOne does server own now p r q s → list_any (is_due now) (take (i + 1) (set rs i s)) ≡ false
done_on does server own now p q rs i r s lt before one =
    let front = ap (λ (zs : List Release). list_any (is_due now) zs) (take_more_set rs i s lt) in
    let split = list_any-append (is_due now) (take i rs) (s ∷ []) in
    let last : is_due now s ≡ false = done_one does server own now p q r s one in
    front ∙ split ∙ rw (before, last) refl

pub done_all : (now : ℕ) (rs : List Release) (i : ℕ) → i ≡ length rs → list_any (is_due now) (take i rs) ≡ false → list_any (is_due now) rs ≡ false
done_all now rs i end before = ap (λ (zs : List Release). list_any (is_due now) zs) (sym (take_all i rs (omega (arith, end)))) ∙ before
