-- What was fixed before another front took the place of one is remembered.
use Rattle.std.proofs.Common.{◌≡◌, ℕ, ◌+◌, ◌<◌, Bool, true, false, not, cond, List, [], ◌∷◌, ◌++◌, length, zero, suc, map, filter, Option, Some, None, inl, inr, refl, sym, subst, ◌∙◌, arith}
use Rattle.std.specs.Prelude.{◌&&◌, ◌||◌, nat_eq, nat_lt, Contains}
use Rattle.std.specs.List.{list_any, flat_map}
use Rattle.std.proofs.lemmas.Bool.{and_from, or_left, or_right, or_parts, lt-ltb, ne_eqb, not_from_false}
use Rattle.nbt_name.specs.Wire.{NameValue, same_name}
use Rattle.nbt_name.proofs.Same.{same_name-same, same_name-true}
use Rattle.nbt_name.specs.declared.addr.Kind.{Kind}
use Rattle.nbt_lease.specs.Config.{milliseconds}
use Rattle.nbt_lease.specs.Lease.{Rows}
use Rattle.nbt_lease.specs.declared.lease.Lease.{Lease}
use Rattle.nbt_packet.specs.declared.message.Registration.{Registration}
use Rattle.nbt_packet.specs.Message.{MessageValue, registration, overwrite, refresh}
use Rattle.nbt_server.specs.Serving.{by_registration, by_refresh}
use Rattle.nbt_front.specs.FixedNames.{FixedNames, FixedValue, fixed_of}
use Rattle.nbt_front.specs.Networks.{IsAllowed}
use Rattle.nbt_front.specs.Standing.{are_group, is_in_the_way, is_left, is_taken, leases_of, takes}
use Rattle.nbt_front.specs.Deciding.{DeskValue, FrontValue, Claims, by_request, by_overwrite, IsHolder, MayHave, Decides, refuses_past, turns_away, Passes, WouldBeSecond, renewed}
use Rattle.nbt_front.specs.declared.deciding.Decision.TheVariants.{FixedConfirmed}
use Rattle.nbt_front.proofs.Decided.{both_ways, claimed_fixed}
use Rattle.nbt_front.proofs.OneDecision.{Asked, Overwritten, gets}

-- ---- a list has such an element

module _ {X : Type 0} (q : X → Bool) where
  more_left : (b c d : Bool) → (b || c) ≡ true → (c ≡ true → d ≡ true) → (b || d) ≡ true
  more_left true c d e more = refl
  more_left false c d e more = more e

  any_left : (xs ys : List X) → list_any q xs ≡ true → list_any q (xs ++ ys) ≡ true
  any_left [] ys e = absurd cc
  any_left (x ∷ xs) ys e = more_left (q x) (list_any q xs) (list_any q (xs ++ ys)) e (any_left xs ys)

  any_right : (xs ys : List X) → list_any q ys ≡ true → list_any q (xs ++ ys) ≡ true
  any_right [] ys e = e
  any_right (x ∷ xs) ys e = or_right (q x) (list_any q (xs ++ ys)) (any_right xs ys e)

  kept_so : (p : X → Bool) (x : X) (xs : List X) (b c : Bool) → p x ≡ b → q x ≡ c → ((b && c) || list_any (λ y. p y && q y) xs) ≡ true → (list_any (λ y. p y && q y) xs ≡ true → list_any q (filter p xs) ≡ true) → list_any q (cond b (x ∷ filter p xs) (filter p xs)) ≡ true
  kept_so p x xs true true keeps is e more = or_left (q x) (list_any q (filter p xs)) is
  kept_so p x xs true false keeps is e more = or_right (q x) (list_any q (filter p xs)) (more e)
  kept_so p x xs false c keeps is e more = more e

  -- one that is kept, too
  any_filter : (p : X → Bool) (xs : List X) → list_any (λ y. p y && q y) xs ≡ true → list_any q (filter p xs) ≡ true
  any_filter p [] e = absurd cc
  any_filter p (x ∷ xs) e = kept_so p x xs (p x) (q x) refl refl e (any_filter p xs)

  -- one of what a list is made of
  any_map : {Y : Type 0} (f : Y → X) (ys : List Y) (y : Y) → Contains ys y → q (f y) ≡ true → list_any q (map f ys) ≡ true
  any_map f [] y has e = absurd (omega (arith, has.1))
  any_map f (z ∷ ys) y (zero, within, is) e = or_left (q (f z)) (list_any q (map f ys)) (subst (λ x. q (f x) ≡ true) (sym is) e)
  any_map f (z ∷ ys) y (suc k, within, is) e = or_right (q (f z)) (list_any q (map f ys)) (any_map f ys y (k, omega (arith, within), is) e)

-- ---- the lease of a machine of a fixed name is among those that are listed

module _ (q : NameValue × Lease → Bool) (name : NameValue) (was : FixedValue) (addr end : ℕ) (has : Contains was.addrs addr) (passes : q (name, record { addr = addr; kind = was.kind; end = end }) ≡ true) where
  entry_so : (key : NameValue) (fixed : FixedValue) (rest : FixedNames) (b : Bool) → same_name name key ≡ b → cond b (Some fixed) (fixed_of rest name) ≡ Some was
      → (fixed_of rest name ≡ Some was → list_any q (flat_map (leases_of end) rest) ≡ true) → list_any q (leases_of end (key, fixed) ++ flat_map (leases_of end) rest) ≡ true
  entry_so key fixed rest true same is more =
      let key_is : name ≡ key = same_name-true name key same in
      let fixed_is : fixed ≡ was = cc in
      any_left q (leases_of end (key, fixed)) (flat_map (leases_of end) rest)
      (rw (fixed_is, ← key_is) (any_map q (λ other. (name, record { addr = other; kind = was.kind; end = end })) was.addrs addr has passes))
  entry_so key fixed rest false same is more = any_right q (leases_of end (key, fixed)) (flat_map (leases_of end) rest) (more is)

  is_listed : (names : FixedNames) → fixed_of names name ≡ Some was → list_any q (flat_map (leases_of end) names) ≡ true
  is_listed [] is = absurd cc
  is_listed ((key, fixed) ∷ rest) is = entry_so key fixed rest (same_name name key) refl is (is_listed rest)

-- ---- a claim beside it

module _ (old : DeskValue) (front : FrontValue) (live : Rows) (at now ip : ℕ) (r : Registration) (second : WouldBeSecond old at now ip r) where
  abbrev lease : Lease
  lease = record { addr = second.addr; kind = second.was.kind; end = at + milliseconds old.front.longest }

  abbrev keeps : NameValue × Lease → Bool
  keeps row = nat_lt at row.1.end && is_left (fixed_of front.fixed row.0) row.1

  takes_it : takes now r.name r.kind ip (r.name, lease) ≡ true
  takes_it = and_from _ _ (same_name-same r.name) (and_from _ _ (lt-ltb now _ second.until) (and_from _ _ (not_from_false (are_group r.kind second.was.kind) second.not_a_group) (not_from_false (nat_eq ip second.addr) (ne_eqb ip second.addr second.other))))

  -- where another machine could get the name
  taken : is_left (fixed_of front.fixed r.name) lease ≡ true → is_taken (renewed front live at old).past now r.name r.kind ip ≡ true
  taken left =
      any_filter (takes now r.name r.kind ip) keeps (flat_map (leases_of (at + milliseconds old.front.longest)) old.front.fixed ++ old.past)
      (any_left (λ row. keeps row && takes now r.name r.kind ip row) (flat_map (leases_of (at + milliseconds old.front.longest)) old.front.fixed) old.past
      (is_listed (λ row. keeps row && takes now r.name r.kind ip row) r.name second.was second.addr (at + milliseconds old.front.longest) second.holder
      (and_from _ _ (and_from _ _ (lt-ltb at _ (omega (arith, second.since, second.until))) left) takes_it) old.front.fixed second.fixed_before))

  -- where no other could: it is fixed, and the claim's sender isn't its machine
  no_member : (addrs : List ℕ) → list_any (λ addr. not (nat_eq addr second.addr)) addrs ≡ false → ¬ Contains addrs ip
  no_member [] none has = absurd (omega (arith, has.1))
  no_member (a ∷ addrs) none (zero, within, is) =
      let parts = or_parts (not (nat_eq a second.addr)) (list_any (λ addr. not (nat_eq addr second.addr)) addrs) none in
      let same : a ≡ ip = is in
      both_ways parts.0 (not_from_false (nat_eq a second.addr) (ne_eqb a second.addr (λ e. second.other (sym same ∙ e))))
  no_member (a ∷ addrs) none (suc k, within, is) =
      let parts = or_parts (not (nat_eq a second.addr)) (list_any (λ addr. not (nat_eq addr second.addr)) addrs) none in
      no_member addrs parts.1 (k, omega (arith, within), is)

  not_holder : (fixed : FixedValue) → is_in_the_way (Some fixed) lease ≡ false → ¬ IsHolder ip r.kind r.addr fixed
  not_holder fixed clear holds =
      let group : are_group fixed.kind second.was.kind ≡ false = rw holds.kind_is at second.not_a_group in
      let none : list_any (λ addr. not (nat_eq addr second.addr)) fixed.addrs ≡ false = rw (group) at clear in
      no_member fixed.addrs none (rw holds.own at holds.listed)

  confirmed_not : (left : Bool) (found : Option FixedValue) → fixed_of front.fixed r.name ≡ found → is_left found lease ≡ left → (fixed : FixedValue) → found ≡ Some fixed → MayHave (renewed front live at old) now ip r.name r.kind r.addr fixed → ⊥
  confirmed_not true found is left fixed some may = both_ways may.quiet (taken (subst (λ (o : Option FixedValue). is_left o lease ≡ true) (sym is) left))
  confirmed_not false found is left fixed some may = not_holder fixed (let clear : is_left (Some fixed) lease ≡ false = subst (λ (o : Option FixedValue). is_left o lease ≡ false) some left in clear) may.holds

  asked_not : (reply : MessageValue) → Asked (renewed front live at old) now ip r FixedConfirmed reply → ⊥
  asked_not reply (inl a) = confirmed_not (is_left (fixed_of front.fixed r.name) lease) (fixed_of front.fixed r.name) refl refl a.0 a.1 a.2
  asked_not reply (inr (inl a)) = let e = a.3 in cc
  asked_not reply (inr (inr (inl a))) = let e = a.2 in cc
  asked_not reply (inr (inr (inr a))) = let e = a.2 in cc

  overwritten_not : (reply : MessageValue) → Overwritten (renewed front live at old) now ip r FixedConfirmed reply → ⊥
  overwritten_not reply (inl a) = let e = a.2 in cc
  overwritten_not reply (inr (inl a)) = let e = a.2 in cc
  overwritten_not reply (inr (inr a)) = let e = a.2 in cc

  pub not_confirmed : (m reply : MessageValue) → Claims m r → ¬ Decides (renewed front live at old) now ip m FixedConfirmed reply
  not_confirmed _ reply (by_request _ _ (by_registration _)) decides = asked_not reply (gets (renewed front live at old) now ip (registration r) FixedConfirmed reply decides)
  not_confirmed _ reply (by_request _ _ (by_refresh _)) decides = asked_not reply (gets (renewed front live at old) now ip (refresh r) FixedConfirmed reply decides)
  not_confirmed _ reply (by_overwrite _) decides = overwritten_not reply (gets (renewed front live at old) now ip (overwrite r) FixedConfirmed reply decides)

  pub decided : (m : MessageValue) (found : Option FixedValue) → fixed_of front.fixed r.name ≡ found → Claims m r → ¬ Passes (renewed front live at old) now ip m
  decided m (Some fixed) is claims passes = let d = claimed_fixed (renewed front live at old) now ip m r fixed claims is in passes d.0 d.1 d.2
  decided m None is claims passes =
      let held = taken (subst (λ (o : Option FixedValue). is_left o lease ≡ true) (sym is) refl) in
      let not : ¬ IsAllowed front.allowed ip = λ allowed. passes _ _ (refuses_past m r claims is allowed held) in
      passes _ _ (turns_away m r claims is not)
