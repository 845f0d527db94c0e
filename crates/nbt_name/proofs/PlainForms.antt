-- Where a plain name stands, its octets are its wire form.
use Rattle.std.proofs.Common.{◌≡◌, ℕ, ◌+◌, ◌-◌, ◌≤◌, List, [], ◌∷◌, ◌++◌, length, take, drop, Option, None, refl, sym, ap, ◌∙◌, arith}
use Rattle.nbt_name.proofs.Common.{slice_range, unwrap_or, length-take-le, length-drop, drop-drop, take-add, Plain, NameValue, wire, Spot, Finds, past, letters_pass, label_passes, pointer_leads, Path, here, onward, PlainNameAt}
use Rattle.nbt_name.proofs.Ends.{next_within}
use Rattle.nbt_name.proofs.Passing.{range_at}

none : (xs : List ℕ) (a b : ℕ) → b ≡ a → slice_range xs a b ≡ []
none xs a b same = let empty : b - a ≡ 0 = omega arith in ap (λ (k : ℕ). take k (drop a xs)) empty

range_joined : (xs : List ℕ) (a b c : ℕ) → a ≤ b → b ≤ c → slice_range xs a b ++ slice_range xs b c ≡ slice_range xs a c
range_joined xs a b c low high =
    let whole : c - a ≡ (b - a) + (c - b) = omega arith in
    let behind : drop (b - a) (drop a xs) ≡ drop b xs = drop-drop (b - a) a xs ∙ ap (λ (k : ℕ). drop k xs) (omega arith) in
    sym (ap (λ (k : ℕ). take k (drop a xs)) whole ∙ take-add (b - a) (c - b) (drop a xs) ∙ ap (λ (ys : List ℕ). take (b - a) (drop a xs) ++ take (c - b) ys) behind)

-- what a plain path passed is what stands from its start on
record PassedOn (octets : List ℕ) (begin : ℕ) (s : Spot) : Type 0 where
  onward : begin ≤ s.place
  no_pointer : s.resume ≡ None
  passed_is : s.passed ≡ slice_range octets begin s.place

past_on : (octets : List ℕ) (begin : ℕ) (s : Spot) (n : ℕ) → Finds octets s n → PassedOn octets begin s → PassedOn octets begin (past octets s n)
past_on octets begin s n finds on = record {
  onward = omega (arith, on.onward);
  no_pointer = on.no_pointer;
  passed_is = ap (λ (xs : List ℕ). xs ++ n ∷ slice_range octets (s.place + 1) (s.place + 1 + n)) on.passed_is
      ∙ ap (λ (ys : List ℕ). slice_range octets begin s.place ++ ys) (sym (range_at octets s.place n n finds))
      ∙ range_joined octets begin s.place (s.place + 1 + n) on.onward (omega arith);
}

path_on : {octets : List ℕ} {begin : ℕ} {s t : Spot} → Path Plain octets s t → PassedOn octets begin s → PassedOn octets begin t
path_on (here s) on = on
path_on {octets} {begin} (onward s t u (letters_pass first finds fits are) others) on = path_on others (past_on octets begin s 32 finds on)
path_on {octets} {begin} (onward s t u (label_passes n later finds low high room fits) others) on = path_on others (past_on octets begin s n finds on)
path_on (onward s t u (pointer_leads high low compressed finds le at back) others) on = absurd cc

-- the octets from a name's place on
record NamePlace (octets : List ℕ) (place : ℕ) (name : NameValue) (next : ℕ) : Type 0 where
  after : place ≤ next
  octets_are : slice_range octets place next ≡ wire name

named : (octets : List ℕ) (place : ℕ) (name : NameValue) (next : ℕ) → PlainNameAt octets place name next → NamePlace octets place name next
named octets place name next at =
    let s : Spot = at.spot in
    let on : PassedOn octets place s = path_on at.path (record { onward = omega arith; no_pointer = refl; passed_is = sym (none octets place place (omega arith)) }) in
    let end : PassedOn octets place (past octets s 0) = past_on octets place s 0 at.closes.zero on in
    let next_is : next ≡ s.place + 1 + 0 = at.closes.next_is ∙ ap (λ (r : Option ℕ). unwrap_or r (s.place + 1)) on.no_pointer ∙ omega arith in
    record {
      after = omega (arith, on.onward);
      octets_are = ap (λ (k : ℕ). slice_range octets place k) next_is
          ∙ sym end.passed_is
          ∙ ap (λ (ys : List ℕ). s.passed ++ 0 ∷ ys) (none octets (s.place + 1) (s.place + 1 + 0) (omega arith))
          ∙ at.closes.spells;
    }

pub plain_is_wire : (octets : List ℕ) (place : ℕ) (name : NameValue) (next : ℕ) → PlainNameAt octets place name next → slice_range octets place next ≡ wire name
plain_is_wire octets place name next at = (named octets place name next at).octets_are

pub plain_takes_wire : (octets : List ℕ) (place : ℕ) (name : NameValue) (next : ℕ) → PlainNameAt octets place name next → next ≡ place + length (wire name)
plain_takes_wire octets place name next at =
    let n = named octets place name next at in
    let within = next_within Plain octets place name next at in
    let count = length-take-le (next - place) (drop place octets) (omega (arith, within, length-drop place octets)) in
    omega (arith, n.after, ap length n.octets_are, count)
