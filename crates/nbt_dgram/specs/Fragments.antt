-- Fragments and the data that they make up (our profile, in the sense of RFC 1002 section 5.3.3): a fragment has an
-- offset, its octets, and is the first, the last, both or neither.
use Rattle.std.specs.Prelude.{◌≡◌, ℕ, ◌+◌, ◌-◌, ◌<◌, ◌≤◌, true, false, List, [], ◌∷◌, ◌++◌, length, map, slice_index}
use Rattle.std.specs.List.{Contains}
use Rattle.nbt_name.specs.declared.addr.Addr.{Addr}
use Rattle.nbt_dgram.specs.declared.msg_type.Delivery.{Delivery}
use Rattle.nbt_dgram.specs.declared.dgram.Names.{Names}
use Rattle.nbt_dgram.specs.declared.dgram.Part.TheVariants.{First, Later}
use Rattle.nbt_dgram.specs.Dgram.{FragmentValue, fragment, DgramValue}
use Rattle.nbt_dgram.specs.Text.{offset_of, names_text}

-- where a fragment's data begin and end in the whole
abbrev pub begin_of : FragmentValue → ℕ
begin_of f = offset_of f.part

abbrev pub end_of : FragmentValue → ℕ
end_of f = begin_of f + length f.payload

-- a place lies in it, and the octet that it gives there
abbrev pub Covers : FragmentValue → ℕ → Type 0
Covers f place = (begin_of f ≤ place) × (place < end_of f)

abbrev pub octet_in : FragmentValue → ℕ → ℕ
octet_in f place = slice_index f.payload (place - begin_of f)

-- Fragments make up data: one is the first, which begins at 0, one is the last, which ends where the data do, each
-- place of the data lies in one, and the data have each octet of each.
pub record MakesUp (fragments : List FragmentValue) (whole : List ℕ) : Type 0 where
  pub first : (f : FragmentValue) × Contains fragments f × (names : Names) × (f.part ≡ First names)
  pub last : (f : FragmentValue) × Contains fragments f × (f.more ≡ false) × (end_of f ≡ length whole)
  pub covered : (place : ℕ) → place < length whole → (f : FragmentValue) × Contains fragments f × Covers f place
  pub agrees : (f : FragmentValue) → Contains fragments f → (place : ℕ) → Covers f place → (place < length whole) × (slice_index whole place ≡ octet_in f place)

-- ---- what data are split into

abbrev pub one : Delivery → Names → List ℕ → FragmentValue
one delivery names payload = record { delivery = delivery; part = First names; more = false; payload = payload }

abbrev pub front_of : Delivery → Names → List ℕ → FragmentValue
front_of delivery names payload = record { delivery = delivery; part = First names; more = true; payload = payload }

abbrev pub back_of : Delivery → ℕ → List ℕ → FragmentValue
back_of delivery offset payload = record { delivery = delivery; part = Later offset; more = false; payload = payload }

-- how many octets the packet of a fragment has
abbrev pub size_of : FragmentValue → ℕ
size_of f = 14 + length (names_text f.part) + length f.payload

-- One packet where all fits in 576 octets; otherwise a first one of exactly 576, and a second with the rest.
pub data Splits (delivery : Delivery) (names : Names) : List ℕ → List FragmentValue → Type 0 where
  in_one : (payload : List ℕ) → size_of (one delivery names payload) ≤ 576 → Splits delivery names payload (one delivery names payload ∷ [])
  in_two : (front back : List ℕ) → 576 < size_of (one delivery names (front ++ back)) → size_of (front_of delivery names front) ≡ 576
      → Splits delivery names (front ++ back) (front_of delivery names front ∷ back_of delivery (length front) back ∷ [])

-- The packets of split data, which make up the data.
abbrev pub packet : ℕ → Addr → FragmentValue → DgramValue
packet id own f = record { id = id; source = own; body = fragment f }

pub record IsSplit (delivery : Delivery) (id : ℕ) (own : Addr) (names : Names) (payload : List ℕ) (packets : List DgramValue) : Type 0 where
  pub fragments : List FragmentValue
  pub packets_are : packets ≡ map (packet id own) fragments
  pub cut : Splits delivery names payload fragments
  pub whole : MakesUp fragments payload
