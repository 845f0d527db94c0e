-- An unfinished datagram, and a fragment that joins it (our profile).
use Rattle.std.specs.Prelude.{◌≡◌, ℕ, ◌+◌, ◌<◌, ◌≤◌, false, if◌then◌else◌, List, [], ◌∷◌, ◌++◌, length, map, take, drop, replicate, slice_index_or, Option, Some, None}
use Rattle.nbt_dgram.specs.declared.msg_type.Delivery.{Delivery}
use Rattle.nbt_dgram.specs.declared.dgram.Names.{Names}
use Rattle.nbt_dgram.specs.declared.dgram.Part.{Part}
use Rattle.nbt_dgram.specs.declared.dgram.Part.TheVariants.{First, Later}
use Rattle.nbt_dgram.specs.declared.slot.Key.{Key}
use Rattle.nbt_dgram.specs.declared.slot.Slot.{Slot}
use Rattle.nbt_dgram.specs.Dgram.{FragmentValue}
use Rattle.nbt_dgram.specs.Fragments.{begin_of, end_of, Covers, octet_in}

-- no octet of 512 is known
unfoldable pub nothing : List (Option ℕ)
nothing = replicate 512 None

-- a slot that begins now
abbrev pub fresh : Key → ℕ → Delivery → Slot
fresh key now delivery = record { key = key; began = now; delivery = delivery; names = None; end = None; octets = nothing }

-- the octet that is known at a place
abbrev pub known_at : List (Option ℕ) → ℕ → Option ℕ
known_at octets place = slice_index_or octets place None

-- A fragment agrees with a slot: they are of one type, what both say of names, octets and the end is the same, and
-- the fragment doesn't end past the known end, nor is the last one before a known octet.
pub record Agrees (s : Slot) (f : FragmentValue) : Type 0 where
  pub type : s.delivery ≡ f.delivery
  pub names : (a b : Names) → s.names ≡ Some a → f.part ≡ First b → a ≡ b
  pub octets : (place octet : ℕ) → known_at s.octets place ≡ Some octet → Covers f place → octet ≡ octet_in f place
  pub within : (end : ℕ) → s.end ≡ Some end → end_of f ≤ end
  pub end_is : (end : ℕ) → s.end ≡ Some end → f.more ≡ false → end_of f ≡ end
  pub last : f.more ≡ false → (place octet : ℕ) → known_at s.octets place ≡ Some octet → place < end_of f

-- the slot with what the fragment says
abbrev pub names_with : Part → Option Names → Option Names
names_with (First names) known = Some names
names_with (Later offset) known = known

abbrev pub octets_with : ℕ → List ℕ → List (Option ℕ) → List (Option ℕ)
octets_with begin payload known = take begin known ++ (map Some payload ++ drop (begin + length payload) known)

abbrev pub joined : FragmentValue → Slot → Slot
joined f s = record {
  key = s.key;
  began = s.began;
  delivery = s.delivery;
  names = names_with f.part s.names;
  end = if f.more then s.end else Some (end_of f);
  octets = octets_with (begin_of f) f.payload s.octets;
}

-- names and end are known, and every octet below the end: those of the data
pub record IsWhole (s : Slot) (names : Names) (whole : List ℕ) : Type 0 where
  pub names_known : s.names ≡ Some names
  pub end_known : s.end ≡ Some (length whole)
  pub filled : take (length whole) s.octets ≡ map Some whole

-- The fragments that joined a slot since it began, in their order.
pub data Since : List FragmentValue → Slot → Type 0 where
  begun : (key : Key) (now : ℕ) (delivery : Delivery) → Since [] (fresh key now delivery)
  one_more : (fragments : List FragmentValue) (s : Slot) (f : FragmentValue) → Since fragments s → end_of f ≤ 512 → Agrees s f → Since (fragments ++ f ∷ []) (joined f s)
