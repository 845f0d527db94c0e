-- Labels where they stand: RFC 1002 section 4.1.
use Rattle.std.specs.Prelude.{◌≡◌, ℕ, zero, suc, ◌+◌, ◌*◌, ◌<◌, ◌≤◌, nat_eq, nat_lt, if◌then◌else◌, List, [], ◌++◌, length, slice_index, slice_range}
use Rattle.nbt_name.specs.Reading.{target}

-- the place behind the label that stands at a place, and the one to which the pointer there leads
abbrev pub behind : List ℕ → ℕ → ℕ
behind octets place = place + 1 + slice_index octets place

abbrev pub led_to : List ℕ → ℕ → ℕ
led_to octets place = target (slice_index octets place) (slice_index octets (place + 1))

-- The labels from a place on, each with its length octet, as far as a zero or the octets' end. A pointer leads to a smaller
-- place, where they go on.
pub data LabelsAt (octets : List ℕ) : ℕ → List ℕ → Type 0 where
  ended : (place : ℕ) → slice_index octets place ≡ 0 → LabelsAt octets place []
  labelled : (place : ℕ) (labels : List ℕ) → 1 ≤ slice_index octets place → slice_index octets place ≤ 63 → behind octets place ≤ length octets
      → LabelsAt octets (behind octets place) labels → LabelsAt octets place (slice_range octets place (behind octets place) ++ labels)
  pointed : (place : ℕ) (labels : List ℕ) → 0xC0 ≤ slice_index octets place → place + 2 ≤ length octets → led_to octets place < place
      → LabelsAt octets (led_to octets place) labels → LabelsAt octets place labels

-- what they are, in so many steps at most
unfoldable pub labels_in : (steps : ℕ) → List ℕ → ℕ → List ℕ
labels_in zero octets place = []
labels_in (suc steps) octets place =
    if nat_eq (slice_index octets place) 0 then [] else
    if nat_lt (slice_index octets place) 0xC0 then slice_range octets place (behind octets place) ++ labels_in steps octets (behind octets place)
    else labels_in steps octets (led_to octets place)

-- No name takes more steps: each label leaves less of 255 octets, and between two labels each pointer leads to a smaller place.
abbrev pub labels_at : List ℕ → ℕ → List ℕ
labels_at octets place = labels_in (256 * (length octets + 1)) octets place

-- labels of a name stand at a place
pub record HasLabels (octets : List ℕ) (place : ℕ) (labels : List ℕ) : Type 0 where
  pub within : place ≤ length octets
  pub few : length labels ≤ 255
  pub stand : LabelsAt octets place labels
