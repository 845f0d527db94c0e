-- A slot is whole exactly where the fragments that joined it since it began make up data.
use Rattle.std.proofs.Common.{◌≡◌, ℕ, ◌+◌, ◌<◌, ◌≤◌, Bool, true, false, cond, List, [], ◌∷◌, ◌++◌, length, map, take, Option, Some, None, refl, sym, ap, subst, ◌∙◌, arith, inl, inr}
use Rattle.std.specs.Prelude.{◌⊎◌, slice_index}
use Rattle.std.specs.List.{Contains}
use Rattle.std.proofs.lemmas.Bool.{cases_lt}
use Rattle.std.proofs.lemmas.List.{ext_get_or, get_or-map, get_or-take, length-map, length-take-le}
use Rattle.std.proofs.lemmas.List.Elements.{Contains-append_left, Contains-push, Contains-push_cases}
use Rattle.nbt_dgram.specs.declared.msg_type.Delivery.{Delivery}
use Rattle.nbt_dgram.specs.declared.dgram.Names.{Names}
use Rattle.nbt_dgram.specs.declared.dgram.Part.{Part}
use Rattle.nbt_dgram.specs.declared.dgram.Part.TheVariants.{First, Later}
use Rattle.nbt_dgram.specs.declared.slot.Key.{Key}
use Rattle.nbt_dgram.specs.declared.slot.Slot.{Slot}
use Rattle.nbt_dgram.specs.Dgram.{FragmentValue}
use Rattle.nbt_dgram.specs.Fragments.{begin_of, end_of, Covers, octet_in, MakesUp}
use Rattle.nbt_dgram.specs.Carrying.{AreNamed, AllAgree}
use Rattle.nbt_dgram.specs.Slot.{fresh, known_at, Agrees, names_with, joined, IsWhole, Since, begun, one_more}
use Rattle.nbt_dgram.proofs.Marks.{nothing_known, nothing_room, written-length, written_before, written_inside, written_behind}

-- what a slot says of the fragments that joined it
record Holds (fragments : List FragmentValue) (s : Slot) : Type 0 where
  room : length s.octets ≡ 512
  names_from : (names : Names) → s.names ≡ Some names → (f : FragmentValue) × Contains fragments f × (f.part ≡ First names)
  names_to : (f : FragmentValue) → Contains fragments f → (names : Names) → f.part ≡ First names → s.names ≡ Some names
  end_from : (end : ℕ) → s.end ≡ Some end → (f : FragmentValue) × Contains fragments f × (f.more ≡ false) × (end_of f ≡ end)
  end_to : (f : FragmentValue) → Contains fragments f → f.more ≡ false → s.end ≡ Some (end_of f)
  octet_from : (place octet : ℕ) → known_at s.octets place ≡ Some octet → (f : FragmentValue) × Contains fragments f × Covers f place × (octet_in f place ≡ octet)
  octet_to : (f : FragmentValue) → Contains fragments f → (place : ℕ) → Covers f place → known_at s.octets place ≡ Some (octet_in f place)
  below : (end : ℕ) → s.end ≡ Some end → (place octet : ℕ) → known_at s.octets place ≡ Some octet → place < end
  within : (f : FragmentValue) → Contains fragments f → end_of f ≤ 512

-- ---- the beginning

pub none_in : {X : Type 0} (x : X) → Contains [] x → ⊥
none_in x h = omega (arith, h.1)

holds_nothing : (key : Key) (now : ℕ) (delivery : Delivery) → Holds [] (fresh key now delivery)
holds_nothing key now delivery = record {
  room = nothing_room;
  names_from = λ names e. absurd cc;
  names_to = λ f member names e. absurd (none_in f member);
  end_from = λ end e. absurd cc;
  end_to = λ f member e. absurd (none_in f member);
  octet_from = λ place octet e. absurd (nothing_known place octet e);
  octet_to = λ f member place covers. absurd (none_in f member);
  below = λ end e place octet there. absurd (nothing_known place octet there);
  within = λ f member. absurd (none_in f member);
}

-- ---- one fragment more

module _ (fragments : List FragmentValue) (s : Slot) (f : FragmentValue) (held : Holds fragments s) (fits : end_of f ≤ 512) (agrees : Agrees s f) where
  room_for : begin_of f + length f.payload ≤ length s.octets
  room_for = omega (arith, held.room)

  -- the octets after it
  inside : (place : ℕ) → Covers f place → known_at (joined f s).octets place ≡ Some (octet_in f place)
  inside place covers = written_inside (begin_of f) f.payload s.octets place room_for covers.0 covers.1

  outside : (place : ℕ) → (Covers f place → ⊥) → known_at (joined f s).octets place ≡ known_at s.octets place
  outside place not =
      elim (cases_lt place (begin_of f)) [
        | inl before ↦ written_before (begin_of f) f.payload s.octets place room_for before
        | inr from ↦ elim (cases_lt place (end_of f)) [
          | inl to ↦ absurd (not (from, to))
          | inr behind ↦ written_behind (begin_of f) f.payload s.octets place room_for behind
        ]
      ]

  covered_or_not : (place : ℕ) → Covers f place ⊎ (Covers f place → ⊥)
  covered_or_not place =
      elim (cases_lt place (begin_of f)) [
        | inl before ↦ inr (λ covers. omega (arith, covers.0))
        | inr from ↦ elim (cases_lt place (end_of f)) [
          | inl to ↦ inl (from, to)
          | inr behind ↦ inr (λ covers. omega (arith, covers.1))
        ]
      ]

  -- its own member
  here : Contains (fragments ++ f ∷ []) f
  here = Contains-push fragments f

  before : (g : FragmentValue) → Contains fragments g → Contains (fragments ++ f ∷ []) g
  before g member = Contains-append_left fragments (f ∷ []) g member

  names_from_more : (part : Part) → f.part ≡ part → (names : Names) → names_with part s.names ≡ Some names → (g : FragmentValue) × Contains (fragments ++ f ∷ []) g × (g.part ≡ First names)
  names_from_more (First own) is names e = (f, here, is ∙ (let same : ◌≡◌ {A = Option Names} (Some own) (Some names) = e in cc))
  names_from_more (Later offset) is names e = let old = held.names_from names e in (old.0, before old.0 old.1, old.2)

  names_to_old : (part : Part) → f.part ≡ part → (names : Names) → s.names ≡ Some names → names_with part s.names ≡ Some names
  names_to_old (First own) is names e = let same : names ≡ own = agrees.names names own e is in ap (λ (n : Names). Some n) (sym same)
  names_to_old (Later offset) is names e = e

  end_from_more : (more : Bool) → f.more ≡ more → (end : ℕ) → cond more s.end (Some (end_of f)) ≡ Some end → (g : FragmentValue) × Contains (fragments ++ f ∷ []) g × (g.more ≡ false) × (end_of g ≡ end)
  end_from_more true is end e = let old = held.end_from end e in (old.0, before old.0 old.1, old.2, old.3)
  end_from_more false is end e = (f, here, is, (let same : ◌≡◌ {A = Option ℕ} (Some (end_of f)) (Some end) = e in cc))

  end_to_old : (more : Bool) → f.more ≡ more → (end : ℕ) → s.end ≡ Some end → cond more s.end (Some (end_of f)) ≡ Some end
  end_to_old true is end e = e
  end_to_old false is end e = ap (λ (k : ℕ). Some k) (agrees.end_is end e is)

  below_more : (more : Bool) → f.more ≡ more → (end : ℕ) → cond more s.end (Some (end_of f)) ≡ Some end → (place octet : ℕ) → known_at (joined f s).octets place ≡ Some octet → place < end
  below_more more is end e place octet there = elim (covered_or_not place) [ inl covers ↦ by_end more is e covers | inr not ↦ by_old more is e (sym (outside place not) ∙ there) ]
    where
      by_end : (more : Bool) → f.more ≡ more → cond more s.end (Some (end_of f)) ≡ Some end → Covers f place → place < end
      by_end true is e covers = omega (arith, covers.1, agrees.within end e)
      by_end false is e covers = let same : end_of f ≡ end = (let one : ◌≡◌ {A = Option ℕ} (Some (end_of f)) (Some end) = e in cc) in omega (arith, covers.1, same)

      by_old : (more : Bool) → f.more ≡ more → cond more s.end (Some (end_of f)) ≡ Some end → known_at s.octets place ≡ Some octet → place < end
      by_old true is e old = held.below end e place octet old
      by_old false is e old = let same : end_of f ≡ end = (let one : ◌≡◌ {A = Option ℕ} (Some (end_of f)) (Some end) = e in cc) in omega (arith, agrees.last is place octet old, same)

  octet_to_old : (g : FragmentValue) → Contains fragments g → (place : ℕ) → Covers g place → known_at (joined f s).octets place ≡ Some (octet_in g place)
  octet_to_old g member place covers =
      let old : known_at s.octets place ≡ Some (octet_in g place) = held.octet_to g member place covers in
      elim (covered_or_not place) [
        | inl also ↦ inside place also ∙ ap (λ (k : ℕ). Some k) (sym (agrees.octets place (octet_in g place) old also))
        | inr not ↦ outside place not ∙ old
      ]

  octet_from_more : (place octet : ℕ) → known_at (joined f s).octets place ≡ Some octet → (g : FragmentValue) × Contains (fragments ++ f ∷ []) g × Covers g place × (octet_in g place ≡ octet)
  octet_from_more place octet there =
      elim (covered_or_not place) [
        | inl covers ↦ (f, here, covers, (let same : ◌≡◌ {A = Option ℕ} (Some (octet_in f place)) (Some octet) = sym (inside place covers) ∙ there in cc))
        | inr not ↦ (let old = held.octet_from place octet (sym (outside place not) ∙ there) in (old.0, before old.0 old.1, old.2, old.3))
      ]

  holds_more : Holds (fragments ++ f ∷ []) (joined f s)
  holds_more = record {
    room = written-length (begin_of f) f.payload s.octets room_for ∙ held.room;
    names_from = names_from_more f.part refl;
    names_to = λ g member names is.
        elim (Contains-push_cases fragments f g member) [
          | inl old ↦ names_to_old f.part refl names (held.names_to g old names is)
          | inr same ↦ ap (λ (part : Part). names_with part s.names) (ap (λ (h : FragmentValue). h.part) same ∙ is)
        ];
    end_from = end_from_more f.more refl;
    end_to = λ g member is.
        elim (Contains-push_cases fragments f g member) [
          | inl old ↦ end_to_old f.more refl (end_of g) (held.end_to g old is)
          | inr same ↦ ap (λ (more : Bool). cond more s.end (Some (end_of f))) (ap (λ (h : FragmentValue). h.more) same ∙ is) ∙ ap (λ (h : FragmentValue). Some (end_of h)) same
        ];
    octet_from = octet_from_more;
    octet_to = λ g member place.
        elim (Contains-push_cases fragments f g member) [
          | inl old ↦ octet_to_old g old place
          | inr same ↦ subst (λ (h : FragmentValue). Covers h place → known_at (joined f s).octets place ≡ Some (octet_in h place)) same (inside place)
        ];
    below = below_more f.more refl;
    within = λ g member.
        elim (Contains-push_cases fragments f g member) [
          | inl old ↦ held.within g old
          | inr same ↦ subst (λ (h : FragmentValue). end_of h ≤ 512) same fits
        ];
  }

holds : (fragments : List FragmentValue) (s : Slot) → Since fragments s → Holds fragments s
holds _ _ (begun key now delivery) = holds_nothing key now delivery
holds _ _ (one_more fragments s f since fits agrees) = holds_more fragments s f (holds fragments s since) fits agrees

-- ---- the law

-- an octet below the end of a slot that is whole
filled_at : (s : Slot) (names : Names) (whole : List ℕ) → IsWhole s names whole → (place : ℕ) → place < length whole → known_at s.octets place ≡ Some (slice_index whole place)
filled_at s names whole is place less = sym (get_or-take (length whole) s.octets place None less) ∙ ap (λ (xs : List (Option ℕ)). known_at xs place) is.filled ∙ get_or-map Some whole place 0 None less

pub made_up : (fragments : List FragmentValue) (s : Slot) → Since fragments s → (names : Names) (whole : List ℕ) → IsWhole s names whole → MakesUp fragments whole
made_up fragments s since names whole is =
    let held : Holds fragments s = holds fragments s since in
    let first = held.names_from names is.names_known in
    let last = held.end_from (length whole) is.end_known in
    record {
      first = (first.0, first.1, names, first.2);
      last = last;
      covered = λ place less. let found = held.octet_from place (slice_index whole place) (filled_at s names whole is place less) in (found.0, found.1, found.2);
      agrees = λ f member place covers.
          let known : known_at s.octets place ≡ Some (octet_in f place) = held.octet_to f member place covers in
          let less : place < length whole = held.below (length whole) is.end_known place (octet_in f place) known in
          let same : ◌≡◌ {A = Option ℕ} (Some (slice_index whole place)) (Some (octet_in f place)) = sym (filled_at s names whole is place less) ∙ known in
          (less, cc);
    }

pub is_whole : (fragments : List FragmentValue) (s : Slot) → Since fragments s → (whole : List ℕ) → MakesUp fragments whole → (names : Names) × IsWhole s names whole
is_whole fragments s since whole made =
    let held : Holds fragments s = holds fragments s since in
    let last = made.last in
    let short : length whole ≤ 512 = omega (arith, held.within last.0 last.1, last.3) in
    let size : length (take (length whole) s.octets) ≡ length whole = length-take-le (length whole) s.octets (omega (arith, held.room)) in
    let end : s.end ≡ Some (length whole) = held.end_to last.0 last.1 last.2 ∙ ap (λ (k : ℕ). Some k) last.3 in (
      made.first.2,
      record {
        names_known = held.names_to made.first.0 made.first.1 made.first.2 made.first.3;
        end_known = end;
        filled = ext_get_or None (take (length whole) s.octets) (map Some whole) (size ∙ sym (length-map whole Some)) (λ place within.
            let less : place < length whole = omega (arith, size) in
            let f = made.covered place less in
            get_or-take (length whole) s.octets place None less ∙ held.octet_to f.0 f.1 place f.2 ∙ ap (λ (k : ℕ). Some k) (sym (made.agrees f.0 f.1 place f.2).1) ∙ sym (get_or-map Some whole place 0 None less));
      },
    )

-- its names are those of each of these fragments
pub all_named : (fragments : List FragmentValue) (s : Slot) → Since fragments s → (names : Names) (whole : List ℕ) → IsWhole s names whole → AreNamed fragments names
all_named fragments s since names whole is f own member part =
    let held : Holds fragments s = holds fragments s since in
    let same : ◌≡◌ {A = Option Names} (Some own) (Some names) = sym (held.names_to f member own part) ∙ is.names_known in cc

-- ---- and a fragment agrees with the slot exactly where it agrees with each of them

one_type : (fragments : List FragmentValue) (s : Slot) → Since fragments s → (g : FragmentValue) → Contains fragments g → s.delivery ≡ g.delivery
one_type _ _ (begun key now delivery) g member = absurd (none_in g member)
one_type _ _ (one_more fragments s f since fits agrees) g member =
    elim (Contains-push_cases fragments f g member) [ inl old ↦ one_type fragments s since g old | inr same ↦ agrees.type ∙ ap (λ (h : FragmentValue). h.delivery) same ]

pub agrees_with_all : (fragments : List FragmentValue) (s : Slot) → Since fragments s → (f : FragmentValue) → Agrees s f → AllAgree fragments f
agrees_with_all fragments s since f agrees g member =
    let held : Holds fragments s = holds fragments s since in
    record {
      type = sym (one_type fragments s since g member) ∙ agrees.type;
      names = λ a b first also. agrees.names a b (held.names_to g member a first) also;
      octets = λ place covers also. agrees.octets place (octet_in g place) (held.octet_to g member place covers) also;
      within = λ last. agrees.within (end_of g) (held.end_to g member last);
      end_is = λ more last. agrees.end_is (end_of g) (held.end_to g member last) more;
      last = λ more place covers. agrees.last more place (octet_in g place) (held.octet_to g member place covers);
    }

pub all_agree : (fragments : List FragmentValue) (s : Slot) → Since fragments s → (f some : FragmentValue) → Contains fragments some → AllAgree fragments f → Agrees s f
all_agree fragments s since f some member all =
    let held : Holds fragments s = holds fragments s since in
    record {
      type = one_type fragments s since some member ∙ (all some member).type;
      names = λ a b first also. let g = held.names_from a first in (all g.0 g.1).names a b g.2 also;
      octets = λ place octet known covers. let g = held.octet_from place octet known in sym g.3 ∙ (all g.0 g.1).octets place g.2 covers;
      within = λ end is. let g = held.end_from end is in let least = (all g.0 g.1).within g.2 in omega (arith, least, g.3);
      end_is = λ end is more. let g = held.end_from end is in (all g.0 g.1).end_is more g.2 ∙ g.3;
      last = λ more place octet known. let g = held.octet_from place octet known in (all g.0 g.1).last more place g.2;
    }

-- ---- such data is unique

no_shorter : (fragments : List FragmentValue) (a b : List ℕ) → MakesUp fragments a → MakesUp fragments b → length a < length b → ⊥
no_shorter fragments a b x y less =
    let f = y.covered (length a) less in
    omega (arith, (x.agrees f.0 f.1 (length a) f.2).0)

pub one_whole : (fragments : List FragmentValue) (a b : List ℕ) → MakesUp fragments a → MakesUp fragments b → a ≡ b
one_whole fragments a b x y =
    let size : length a ≡ length b =
    elim (cases_lt (length a) (length b)) [
      | inl less ↦ absurd (no_shorter fragments a b x y less)
      | inr least ↦ elim (cases_lt (length b) (length a)) [
        | inl less ↦ absurd (no_shorter fragments b a y x less)
        | inr most ↦ omega arith
      ]
    ] in
    ext_get_or 0 a b size (λ place less. let f = x.covered place less in (x.agrees f.0 f.1 place f.2).1 ∙ sym (y.agrees f.0 f.1 place f.2).1)
