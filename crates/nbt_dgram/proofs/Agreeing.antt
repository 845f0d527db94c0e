-- The tests that together say whether a fragment agrees with a slot.
use Rattle.std.proofs.Common.{◌≡◌, ℕ, ◌+◌, ◌-◌, ◌<◌, ◌≤◌, Bool, false, length, Some, IsTrue, ◌↔◌, sym, ap, ◌∙◌, arith, refl}
use Rattle.std.specs.Prelude.{slice_index}
use Rattle.nbt_dgram.specs.declared.dgram.Names.{Names}
use Rattle.nbt_dgram.specs.declared.dgram.Part.TheVariants.{First}
use Rattle.nbt_dgram.specs.declared.slot.Key.{Key}
use Rattle.nbt_dgram.specs.declared.slot.Slot.{Slot}
use Rattle.nbt_dgram.specs.Dgram.{FragmentValue}
use Rattle.nbt_dgram.specs.Fragments.{begin_of, end_of}
use Rattle.nbt_dgram.specs.Slot.{known_at, fresh, Agrees}
use Rattle.nbt_dgram.proofs.Marks.{nothing_known}

pub agrees_iff : (s : Slot) (f : FragmentValue) (begin end last : ℕ) (r : Bool) → begin ≡ begin_of f → end ≡ end_of f → last ≡ end_of f → s.delivery ≡ f.delivery
    → ((a b : Names) → s.names ≡ Some a → f.part ≡ First b → a ≡ b)
    → ((known : ℕ) → s.end ≡ Some known → (end ≤ known) × (f.more ≡ false → end ≡ known))
    → (f.more ≡ false → (place octet : ℕ) → known_at s.octets place ≡ Some octet → place < last)
    → (IsTrue r ↔ ((k octet : ℕ) → k < length f.payload → known_at s.octets (begin + k) ≡ Some octet → octet ≡ slice_index f.payload k)) → IsTrue r ↔ Agrees s f
agrees_iff s f begin end last r begins ends lasts type names known behind octets = (
  λ is. record {
    type = type;
    names = names;
    octets = λ place octet there covers.
        let same : begin + (place - begin_of f) ≡ place = omega (arith, covers.0) in
        octets.0 is (place - begin_of f) octet (omega (arith, covers.0, covers.1)) (ap (known_at s.octets) same ∙ there);
    within = λ known_end there. omega (arith, (known known_end there).0);
    end_is = λ known_end there one. sym ends ∙ (known known_end there).1 one;
    last = λ one place octet there. omega (arith, behind one place octet there);
  },
  λ agrees. octets.1 (λ k octet within there.
      let same : (begin + k) - begin_of f ≡ k = omega arith in
      agrees.octets (begin + k) octet there (omega arith, omega arith) ∙ ap (slice_index f.payload) same),
)

-- each fragment agrees with a slot that it begins
pub agrees_with_nothing : (key : Key) (now : ℕ) (f : FragmentValue) → Agrees (fresh key now f.delivery) f
agrees_with_nothing key now f = record {
  type = refl;
  names = λ a b known part. absurd cc;
  octets = λ place octet there covers. absurd (nothing_known place octet there);
  within = λ end known. absurd cc;
  end_is = λ end known last. absurd cc;
  last = λ last place octet there. absurd (nothing_known place octet there);
}
