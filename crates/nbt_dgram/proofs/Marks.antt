-- Lists of octets of which some are known.
use Rattle.std.proofs.Common.{◌≡◌, ℕ, ◌+◌, ◌-◌, ◌<◌, ◌≤◌, List, ◌++◌, length, map, take, drop, get_or, Option, Some, None, ap, ◌∙◌, arith, inl, inr}
use Rattle.std.specs.Prelude.{slice_index}
use Rattle.std.proofs.lemmas.List.{get_or-map, length-append, length-map, length-take-le, length-drop, length-replicate, get_or_append_left, get_or-append_right, get_or-take, get_or-drop, get_or-replicate, get_or_past}
use Rattle.std.proofs.lemmas.Bool.{cases_lt}
use Rattle.nbt_dgram.specs.Slot.{nothing, known_at, octets_with}

-- a gap is in no list of known octets
pub no_gap : (xs : List ℕ) (known : List (Option ℕ)) (k : ℕ) → known ≡ map Some xs → k < length known → get_or known k None ≡ None → ⊥
no_gap xs known k same less gap =
    let count : length known ≡ length xs = ap length same ∙ length-map xs Some in
    let there : get_or known k None ≡ Some (get_or xs k 0) = ap (λ (ys : List (Option ℕ)). get_or ys k None) same ∙ get_or-map Some xs k 0 None (omega (arith, count)) in
    cc

-- ---- octets that were written over others

pub written-length : (begin : ℕ) (payload : List ℕ) (known : List (Option ℕ)) → begin + length payload ≤ length known → length (octets_with begin payload known) ≡ length known
written-length begin payload known fits =
    omega (
      arith,
      length-append (take begin known) (map Some payload ++ drop (begin + length payload) known),
      length-append (map Some payload) (drop (begin + length payload) known),
      length-map payload Some,
      length-take-le begin known (omega arith),
      length-drop (begin + length payload) known,
    )

pub written_before : (begin : ℕ) (payload : List ℕ) (known : List (Option ℕ)) (place : ℕ) → begin + length payload ≤ length known → place < begin → known_at (octets_with begin payload known) place ≡ known_at known place
written_before begin payload known place fits below =
    let front : length (take begin known) ≡ begin = length-take-le begin known (omega arith) in
    get_or_append_left (take begin known) (map Some payload ++ drop (begin + length payload) known) None place (omega (arith, front)) ∙ get_or-take begin known place None below

pub written_inside : (begin : ℕ) (payload : List ℕ) (known : List (Option ℕ)) (place : ℕ) → begin + length payload ≤ length known → begin ≤ place → place < begin + length payload
    → known_at (octets_with begin payload known) place ≡ Some (slice_index payload (place - begin))
written_inside begin payload known place fits from to =
    let front : length (take begin known) ≡ begin = length-take-le begin known (omega arith) in
    let within : place - begin < length payload = omega arith in
    let marks : length (map Some payload) ≡ length payload = length-map payload Some in
    get_or-append_right (take begin known) (map Some payload ++ drop (begin + length payload) known) begin place None front from
    ∙ get_or_append_left (map Some payload) (drop (begin + length payload) known) None (place - begin) (omega (arith, marks)) ∙ get_or-map Some payload (place - begin) 0 None within

pub written_behind : (begin : ℕ) (payload : List ℕ) (known : List (Option ℕ)) (place : ℕ) → begin + length payload ≤ length known → begin + length payload ≤ place → known_at (octets_with begin payload known) place ≡ known_at known place
written_behind begin payload known place fits above =
    let front : length (take begin known) ≡ begin = length-take-le begin known (omega arith) in
    let marks : length (map Some payload) ≡ length payload = length-map payload Some in
    let same : begin + length payload + (place - begin - length payload) ≡ place = omega arith in
    get_or-append_right (take begin known) (map Some payload ++ drop (begin + length payload) known) begin place None front (omega arith)
    ∙ get_or-append_right (map Some payload) (drop (begin + length payload) known) (length payload) (place - begin) None marks (omega arith)
    ∙ get_or-drop (begin + length payload) known (place - begin - length payload) None ∙ ap (known_at known) same

-- ---- of a slot that begins, nothing is known

pub nothing_room : length nothing ≡ 512
unfolding nothing
nothing_room = length-replicate {A = Option ℕ} 512 None

pub nothing_known : (place octet : ℕ) → known_at nothing place ≡ Some octet → ⊥
unfolding nothing
nothing_known place octet e =
    elim (cases_lt place 512) [
      | inl below ↦ (let none : known_at nothing place ≡ None = get_or-replicate {A = Option ℕ} 512 place None None below in cc)
      | inr above ↦ (let none : known_at nothing place ≡ None = get_or_past nothing place None (omega (arith, length-replicate {A = Option ℕ} 512 None)) in cc)
    ]
