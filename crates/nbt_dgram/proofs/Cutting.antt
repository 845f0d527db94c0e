-- The packets of split data make up the data.
use Rattle.std.proofs.Common.{◌≡◌, ℕ, ◌+◌, ◌-◌, ◌<◌, ◌≤◌, List, [], ◌∷◌, ◌++◌, length, take, drop, refl, sym, ap, subst, ◌∙◌, arith, inl, inr, false}
use Rattle.std.specs.Prelude.{◌⊎◌, slice_index}
use Rattle.std.specs.List.{Contains}
use Rattle.std.proofs.lemmas.Bool.{cases_lt}
use Rattle.std.proofs.lemmas.List.{length-append, length-take-le, take-append-drop, get_or_append_left, get_or-append_right}
use Rattle.std.proofs.lemmas.List.Elements.{Contains-push_cases}
use Rattle.nbt_name.specs.declared.addr.Addr.{Addr}
use Rattle.nbt_dgram.specs.declared.msg_type.Delivery.{Delivery}
use Rattle.nbt_dgram.specs.declared.dgram.Names.{Names}
use Rattle.nbt_dgram.specs.declared.dgram.Part.TheVariants.{First}
use Rattle.nbt_dgram.specs.Dgram.{FragmentValue, DgramValue}
use Rattle.nbt_dgram.specs.Text.{names_text}
use Rattle.nbt_dgram.specs.Fragments.{Covers, octet_in, MakesUp, one, front_of, back_of, size_of, packet, in_one, in_two, IsSplit}

-- ---- the members of short lists

pub only : {X : Type 0} (x y : X) → Contains (x ∷ []) y → x ≡ y
only x y h =
    elim (Contains-push_cases [] x y h) [
      | inl none ↦ absurd (omega (arith, none.1))
      | inr same ↦ same
    ]

either : {X : Type 0} (x y z : X) → Contains (x ∷ y ∷ []) z → (x ≡ z) ⊎ (y ≡ z)
either x y z h =
    elim (Contains-push_cases (x ∷ []) y z h) [
      | inl front ↦ inl (only x z front)
      | inr same ↦ inr same
    ]

the_first : {X : Type 0} (x : X) (xs : List X) → Contains (x ∷ xs) x
the_first x xs = (0, omega arith, refl)

the_second : {X : Type 0} (x y : X) (xs : List X) → Contains (x ∷ y ∷ xs) y
the_second x y xs = (1, omega arith, refl)

-- ---- a fragment's octets, as the data have them

Agrees : List ℕ → FragmentValue → Type 0
Agrees whole f = (place : ℕ) → Covers f place → (place < length whole) × (slice_index whole place ≡ octet_in f place)

one_makes_up : (delivery : Delivery) (names : Names) (payload : List ℕ) → MakesUp (one delivery names payload ∷ []) payload
unfolding Agrees
one_makes_up delivery names payload =
    let f : FragmentValue = one delivery names payload in
    let agree : Agrees payload f = λ place at. (omega (arith, at.1), let same : place ≡ place - 0 = omega arith in ap (slice_index payload) same) in
    record {
      first = (f, the_first f [], names, refl);
      last = (f, the_first f [], refl, omega arith);
      covered = λ place within. (f, the_first f [], (omega arith, omega arith));
      agrees = λ g member. subst (Agrees payload) (only f g member) agree;
    }

pub alone_makes_up : (f : FragmentValue) (names : Names) → f.part ≡ First names → f.more ≡ false → MakesUp (f ∷ []) f.payload
alone_makes_up f names part last =
    let same : one f.delivery names f.payload ≡ f = λ i. record { delivery = f.delivery; part = sym part i; more = sym last i; payload = f.payload } in
    subst (λ (g : FragmentValue). MakesUp (g ∷ []) f.payload) same (one_makes_up f.delivery names f.payload)

two_make_up : (delivery : Delivery) (names : Names) (front back : List ℕ) → MakesUp (front_of delivery names front ∷ back_of delivery (length front) back ∷ []) (front ++ back)
unfolding Agrees
two_make_up delivery names front back =
    let f : FragmentValue = front_of delivery names front in
    let g : FragmentValue = back_of delivery (length front) back in
    let size : length (front ++ back) ≡ length front + length back = length-append front back in
    let agree_f : Agrees (front ++ back) f = λ place at.
    (omega (arith, at.1), let same : place ≡ place - 0 = omega arith in get_or_append_left front back 0 place (omega (arith, at.1)) ∙ ap (slice_index front) same) in
    let agree_g : Agrees (front ++ back) g = λ place at. (omega (arith, at.1), get_or-append_right front back (length front) place 0 refl at.0) in
    record {
      first = (f, the_first f (g ∷ []), names, refl);
      last = (g, the_second f g [], refl, sym size);
      covered = λ place within.
          elim (cases_lt place (length front)) [
            | inl below ↦ (f, the_first f (g ∷ []), (omega arith, omega (arith, below)))
            | inr above ↦ (g, the_second f g [], (above, omega (arith, within, size)))
          ];
      agrees = λ h member.
          elim (either f g h member) [
            | inl same ↦ subst (Agrees (front ++ back)) same agree_f
            | inr same ↦ subst (Agrees (front ++ back)) same agree_g
          ];
    }

-- ---- what the packets are, so

pub one_is_split : (delivery : Delivery) (id : ℕ) (own : Addr) (names : Names) (payload : List ℕ) (packets : List DgramValue) → packets ≡ packet id own (one delivery names payload) ∷ [] → size_of (one delivery names payload) ≤ 576
    → IsSplit delivery id own names payload packets
one_is_split delivery id own names payload packets same fits = record {
  fragments = one delivery names payload ∷ [];
  packets_are = same;
  cut = in_one payload fits;
  whole = one_makes_up delivery names payload;
}

two_are_split : (delivery : Delivery) (id : ℕ) (own : Addr) (names : Names) (front back : List ℕ) (packets : List DgramValue) → packets ≡ packet id own (front_of delivery names front) ∷ packet id own (back_of delivery (length front) back) ∷ []
    → 576 < size_of (one delivery names (front ++ back)) → size_of (front_of delivery names front) ≡ 576 → IsSplit delivery id own names (front ++ back) packets
two_are_split delivery id own names front back packets same above exact = record {
  fragments = front_of delivery names front ∷ back_of delivery (length front) back ∷ [];
  packets_are = same;
  cut = in_two front back above exact;
  whole = two_make_up delivery names front back;
}

pub cut_is_split : (delivery : Delivery) (id : ℕ) (own : Addr) (names : Names) (payload : List ℕ) (room : ℕ) (packets : List DgramValue) → room ≤ length payload
    → packets ≡ packet id own (front_of delivery names (take room payload)) ∷ packet id own (back_of delivery room (drop room payload)) ∷ [] → 576 < size_of (one delivery names payload) → 14 + length (names_text (First names)) + room ≡ 576
    → IsSplit delivery id own names payload packets
cut_is_split delivery id own names payload room packets within same above exact =
    let front : List ℕ = take room payload in
    let back : List ℕ = drop room payload in
    let whole : front ++ back ≡ payload = take-append-drop room payload in
    let count : length front ≡ room = length-take-le room payload within in
    subst (λ (xs : List ℕ). IsSplit delivery id own names xs packets) whole
    (two_are_split delivery id own names front back packets (same ∙ ap (λ (k : ℕ). packet id own (front_of delivery names front) ∷ packet id own (back_of delivery k back) ∷ []) (sym count)) (rw whole above) (omega (arith, count)))
