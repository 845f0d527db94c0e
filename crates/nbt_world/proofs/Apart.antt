-- Addresses that are apart, the world that is made at them, and what each new world keeps.
use Rattle.std.proofs.Common.{◌≡◌, ℕ, zero, suc, ◌+◌, ◌*◌, ◌-◌, ◌^◌, ◌<◌, ◌≤◌, true, List, [], ◌∷◌, length, map, Option, Some, None, refl, sym, ap, subst, ◌∙◌, arith, inl, inr}
use Rattle.std.specs.Prelude.{slice_get, replicate, Contains, ◌↔◌}
use Rattle.std.proofs.lemmas.Bool.{cases_lt}
use Rattle.std.proofs.lemmas.List.{get_or-replicate, get_or_past}
use Rattle.std.specs.Option.{option_map, option_or}
use Rattle.std.proofs.lemmas.Option.{none-some, same_Some, slice_get_within, slice_get_past, slice_get-get_or}
use Rattle.nbt_name.specs.declared.addr.Addr.{Addr}
use Rattle.nbt_name.specs.declared.addr.Kind.{Kind}
use Rattle.nbt_name.specs.Wire.{NameValue}
use Rattle.nbt_lease.specs.Config.{ConfigValue}
use Rattle.nbt_node.specs.Node.{NodeValue}
use Rattle.nbt_server.specs.Serving.{ServerValue}
use Rattle.nbt_world.specs.declared.clocks.Clocks.{Clocks}
use Rattle.nbt_world.specs.declared.clocks.Least.{Least}
use Rattle.nbt_world.specs.declared.ends.NodeEnd.{NodeEnd}
use Rattle.nbt_world.specs.declared.network.Datagram.{Datagram}
use Rattle.nbt_world.specs.Drift.{reading, least_of, numbers_of}
use Rattle.nbt_world.specs.World.{WorldValue, addr_at, addr_of, IsEnd, node_in, node_of, latest, IsAmong, AreApart, AreAddrs, ends_at, IsFresh}
use Rattle.nbt_world.specs.Inner.Kept.{Replied, known, Claims, ClaimsIn, Invariant}
use Rattle.nbt_world.proofs.Knowing.{ended-down}
use Rattle.nbt_world.proofs.Covering.{down_claims}

-- one address more, which doesn't stand among the others
pub apart_more : (first : Addr) (others : List Addr) → (IsAmong first.ip others → ⊥) → AreApart (first ∷ others) ↔ AreApart others
apart_more first others off = (λ apart i j a b p q same. down i j (apart (suc i) (suc j) a b p q same), λ apart i j a b p q same. up apart i j a b p q same)
  where
    down : (i j : ℕ) → suc i ≡ suc j → i ≡ j
    down i j e = omega arith

    up : AreApart others → (i j : ℕ) (a b : Addr) → slice_get (first ∷ others) i ≡ Some a → slice_get (first ∷ others) j ≡ Some b → a.ip ≡ b.ip → i ≡ j
    up apart zero zero a b p q same = refl
    up apart zero (suc j) a b p q same = absurd (off (j, b, q, sym same ∙ ap (λ (x : Addr). x.ip) (sym (same_Some first a p))))
    up apart (suc i) zero a b p q same = absurd (off (i, a, p, same ∙ ap (λ (x : Addr). x.ip) (sym (same_Some first b q))))
    up apart (suc i) (suc j) a b p q same = ap suc (apart i j a b p q same)

pub not_apart : (first : Addr) (others : List Addr) → IsAmong first.ip others → AreApart (first ∷ others) → ⊥
not_apart first others is apart = zero_suc is.0 (apart zero (suc is.0) first is.1 refl is.2 (sym is.3))
  where
    zero_suc : (k : ℕ) → zero ≡ suc k → ⊥
    zero_suc k e = cc

-- ---- the world at them

at_place : (others : List Addr) (i : ℕ) → addr_at (map (λ a. record { addr = a; node = None }) others) i ≡ slice_get others i
at_place [] i = refl
at_place (a ∷ others) zero = refl
at_place (a ∷ others) (suc i) = at_place others i

down_at : (others : List Addr) (i : ℕ) → node_in (slice_get (map (λ a. record { addr = a; node = None }) others) i) ≡ None
down_at [] i = refl
down_at (a ∷ others) zero = refl
down_at (a ∷ others) (suc i) = down_at others i

pub addrs_at : (server : Addr) (others : List Addr) (n : ℕ) → addr_of (ends_at server others) n ≡ slice_get (server ∷ others) n
addrs_at server others zero = refl
addrs_at server others (suc i) = at_place others i

pub none_at : (server : Addr) (others : List Addr) (n : ℕ) → node_of (ends_at server others) n ≡ None
none_at server others zero = refl
none_at server others (suc i) = down_at others i

-- all clocks at 0, and the numbers of each end as they are then
abbrev pub at_zero : Clocks
at_zero = record { clock = 0; readings = replicate 9 0 }

abbrev pub first_least : List Least
first_least = replicate 9 (record { ahead = 1001 * 2 ^ 60; behind = 1000 * 2 ^ 60 })

abbrev pub fresh : ConfigValue → Addr → List Addr → WorldValue
fresh config server others = record { now = at_zero; config = config; ends = ends_at server others; sent = []; least = first_least; kept = true; timely = true }

pub zero_read : (number : ℕ) → reading at_zero number ≡ 0
zero_read number = elim (cases_lt number 9) [ inl lt ↦ get_or-replicate 9 number 0 0 lt | inr past ↦ get_or_past (replicate 9 0) number 0 past ]

-- an end that is there is one of nine
pub end_within : (server : Addr) (others : List Addr) → length others ≤ 8 → (number : ℕ) → IsEnd (ends_at server others) number → number < 9
end_within server others few zero e = omega arith
end_within server others few (suc i) e = let lt = slice_get_within others i e.0 (sym (at_place others i) ∙ e.1) in omega arith

first_numbers : (number : ℕ) → number < 9 → least_of first_least number ≡ numbers_of at_zero number
first_numbers number lt =
    get_or-replicate 9 number (record { ahead = 1001 * 2 ^ 60; behind = 1000 * 2 ^ 60 }) (record { ahead = 0; behind = 0 }) lt
    ∙ (λ i. record { ahead = 1000 * sym (zero_read number) i + 1001 * (2 ^ 60 - 0); behind = 999 * 0 + 1000 * (2 ^ 60 - sym (zero_read number) i) })

pub is_fresh : (config : ConfigValue) (server : Addr) (others : List Addr) → length others ≤ 8 → IsFresh config (server ∷ others) (fresh config server others)
is_fresh config server others few = record { now = refl; readings = zero_read; least = λ n e. first_numbers n (end_within server others few n e); kept = refl; timely = refl; config_is = refl; addrs_are = addrs_at server others; no_server = refl; none_crashed = refl; no_node = none_at server others; nothing_sent = refl }

-- ---- each new world keeps the facts

nothing_among : (d : Datagram) → Contains [] d → ⊥
nothing_among d c = let lt = c.1 in absurd (omega arith)

two_there : (addrs : List Addr) → 2 ≤ length addrs → slice_get addrs 1 ≡ None → ⊥
two_there [] least e = absurd (omega arith)
two_there (a ∷ []) least e = absurd (omega arith)
two_there (a ∷ b ∷ others) least e = absurd (none-some b (sym e))

none_past : (nodes : List NodeEnd) (i : ℕ) → length nodes ≤ i → addr_at nodes i ≡ None
none_past nodes i past = ap (λ (x : Option NodeEnd). option_map (λ end. end.addr) x) (slice_get_past nodes i past)

nine_there : (nodes : List NodeEnd) → 8 < length nodes → (a : Addr) × (addr_at nodes 8 ≡ Some a)
nine_there nodes more = (_, ap (λ (x : Option NodeEnd). option_map (λ end. end.addr) x) (slice_get-get_or nodes 8 (record { addr = record { ip = 0; port = 0 }; node = None }) more))

ends_least : {config : ConfigValue} {addrs : List Addr} {w : WorldValue} → AreAddrs addrs → IsFresh config addrs w → 1 ≤ length w.ends.nodes.items
ends_least {addrs = addrs} {w} are fresh =
    elim (cases_lt 0 (length w.ends.nodes.items)) [
      | inl more ↦ omega arith
      | inr past ↦ absurd (two_there addrs are.ends_at_least (sym (fresh.addrs_are 1) ∙ none_past w.ends.nodes.items 0 past))
    ]

ends_most : {config : ConfigValue} {addrs : List Addr} {w : WorldValue} → AreAddrs addrs → IsFresh config addrs w → length w.ends.nodes.items ≤ 8
ends_most {addrs = addrs} {w} are fresh =
    elim (cases_lt 8 (length w.ends.nodes.items)) [
      | inl more ↦
          let nine = nine_there w.ends.nodes.items more in
          let within = slice_get_within addrs 9 nine.0 (sym (fresh.addrs_are 9) ∙ nine.1) in
          let most = are.ends_at_most in
          absurd (omega arith)
      | inr past ↦ omega arith
    ]

pub fresh_has_facts : {config : ConfigValue} {addrs : List Addr} {w : WorldValue} → AreAddrs addrs → IsFresh config addrs w → Invariant w
fresh_has_facts {config} {addrs} {w} are fresh = record {
  ends = record {
    nodes_at_least = ends_least are fresh;
    nodes_at_most = ends_most are fresh;
    apart = λ i j a b p q same. are.apart i j a b (sym (fresh.addrs_are i) ∙ p) (sym (fresh.addrs_are j) ∙ q) same;
  };
  clocks = record {
    now = rw fresh.now (omega arith);
    readings = λ n e. rw (fresh.readings n) (omega arith);
    seen = λ n e. let first = fresh.least n e in record { read = omega arith; least_ahead = rw first (omega arith); least_behind = rw first (omega arith) };
    allowed = λ on n e. let first = fresh.least n e in record { not_ahead = rw first (omega arith); not_behind = rw first (omega arith) };
    allowed_timely = λ on n e. let first = fresh.least n e in record { not_ahead = rw first (omega arith); not_behind = λ node. rw first (omega arith) };
    kept_timely = λ on. fresh.timely;
  };
  nodes = λ n a node p up. absurd (none-some node (sym (fresh.no_node n) ∙ up));
  server = λ s up. absurd (none-some s (sym never_up ∙ up));
  sent = λ d c. absurd (nothing d c);
  requests = λ on n a name p. rw (fresh.no_node n) (ended-down (λ moment message asked. absurd (nothing asked.datagram asked.among)));
  replies = λ on n a name p.
      rw (fresh.no_node n) (record { drawn = λ moment message r d. absurd (nothing r.datagram r.among); begun = λ kind first v. elim v [ ]; since = λ kind first moment message v x d. elim v [ ] });
  claims = λ on. record {
    covered = λ n a name kind end p c lt. absurd (no_claim n a name kind end c);
    beside = λ i j a b name k l d e ne p q c x f y. absurd (no_claim i a name k d c);
  };
}
  where
    never_up : latest w.ends ≡ None
    never_up = ap (λ (x : Option ServerValue). option_or x w.ends.crashed) fresh.no_server ∙ fresh.none_crashed

    nothing : (d : Datagram) → Contains w.sent d → ⊥
    nothing d c = nothing_among d (subst (λ (xs : List Datagram). Contains xs d) fresh.nothing_sent c)

    no_claim : (n : ℕ) (a : Addr) (name : NameValue) (kind : Kind) (end : ℕ) → ClaimsIn w n a name kind end → ⊥
    no_claim n a name kind end c =
        down_claims (subst (λ (x : Option NodeValue). Claims w.config.longest w.config.life w.now.clock (Replied w.sent w.ends.server_addr a name) (known x name) kind end) (fresh.no_node n) c)

pub fresh_kept : (config : ConfigValue) (server : Addr) (others : List Addr) → AreAddrs (server ∷ others) → Invariant (fresh config server others)
fresh_kept config server others are = let most = are.ends_at_most in fresh_has_facts are (is_fresh config server others (omega arith))
