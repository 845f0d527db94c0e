-- A wire form, wherever it stands and whatever follows it, is read as its name.
use Rattle.std.proofs.Common.{◌≡◌, ◌≢◌, ℕ, zero, suc, ◌+◌, ◌-◌, ◌*◌, ◌<◌, ◌≤◌, List, [], ◌∷◌, ◌++◌, length, drop, get_or, Some, None, refl, sym, ap, subst, ◌∙◌, arith, append_assoc}
use Rattle.nbt_name.proofs.Common.{slice_get, slice_range, slice_index, length-append, length-drop, take_at, drop_at, append-nil, drop-drop, get_or_append_left, get_or-drop, Plain, Compressed, IsScope, empty, label, NameValue, IsName, letters, wire, Spot, IsLetter, LettersAt, past, start, Step, letters_pass, label_passes, Path, here, onward, NameAt, PlainNameAt, target, pointer_leads}
use Rattle.nbt_name.proofs.Walk.{Path-compressed}
use Rattle.nbt_name.proofs.Passing.{same_spot}
use Rattle.nbt_name.proofs.Letters.{length-letters, letters_are}

-- what a place has is the front of what is dropped to there
pub found_in : (xs : List ℕ) (p x : ℕ) (ys : List ℕ) → drop p xs ≡ x ∷ ys → slice_get xs p ≡ Some x
found_in [] zero x ys e = absurd cc
found_in [] (suc p) x ys e = absurd cc
found_in (z ∷ zs) zero x ys e = cc
found_in (z ∷ zs) (suc p) x ys e = found_in zs p x ys e

behind_in : (xs : List ℕ) (p x : ℕ) (ys : List ℕ) → drop p xs ≡ x ∷ ys → drop (p + 1) xs ≡ ys
behind_in xs p x ys e = sym (drop-drop 1 p xs) ∙ ap (drop 1) e

-- a label that stands in front of a place's rest
record LabelThere (octets : List ℕ) (p n : ℕ) (text rest : List ℕ) : Type 0 where
  finds : slice_get octets p ≡ Some n
  range : slice_range octets (p + 1) (p + 1 + n) ≡ text
  after : drop (p + 1 + n) octets ≡ rest
  within : p + 1 + n ≤ length octets

label_there : (octets : List ℕ) (p n : ℕ) (text rest : List ℕ) → length text ≡ n → 1 ≤ n → drop p octets ≡ n ∷ (text ++ rest) → LabelThere octets p n text rest
label_there octets p n text rest count low e =
    let behind : drop (p + 1) octets ≡ text ++ rest = behind_in octets p n (text ++ rest) e in
    let width : (p + 1 + n) - (p + 1) ≡ n = omega arith in
    record {
      finds = found_in octets p n (text ++ rest) e;
      range = rw (width, behind) (take_at text rest n count);
      after = sym (drop-drop n (p + 1) octets) ∙ ap (drop n) behind ∙ drop_at text rest n count;
      within = omega (arith, ap length behind, length-append text rest, length-drop (p + 1) octets);
    }

Path-to : {octets : List ℕ} {s : Spot} (t u : Spot) → Path Plain octets s t → t.place ≡ u.place → t.passed ≡ u.passed → t.resume ≡ u.resume → Path Plain octets s u
Path-to {octets} {s} t u path e f g = subst (λ (v : Spot). Path Plain octets s v) (same_spot t u e f g) path

scope_path : (octets rest : List ℕ) (s : Spot) (scope : List ℕ) → IsScope scope → s.passed ≢ [] → length s.passed + length scope + 1 ≤ 255 → drop s.place octets ≡ scope ++ 0 ∷ rest
    → Path Plain octets s (record { place = s.place + length scope; passed = s.passed ++ scope; resume = s.resume })
scope_path octets rest s _ empty later room e = Path-to s _ (here s) (omega arith) (sym (append-nil s.passed)) refl
scope_path octets rest s _ (label text scope low high others) later room e =
    let there = label_there octets s.place (length text) text (scope ++ 0 ∷ rest) refl low (e ∙ ap (λ (x : List ℕ). length text ∷ x) (append_assoc text scope (0 ∷ rest))) in
    let t : Spot = past octets s (length text) in
    let total : length (text ++ scope) ≡ length text + length scope = length-append text scope in
    let step : Step Plain octets s t = label_passes (length text) later there.finds low high (omega arith) there.within in
    let more : length t.passed ≡ length s.passed + suc (length text) = length-append s.passed (length text ∷ slice_range octets (s.place + 1) (s.place + 1 + length text)) ∙ (omega (arith, ap length there.range)) in
    let still : t.passed ≢ [] = λ none. omega (arith, ap length none, more) in
    let others_path = scope_path octets rest t scope others still (omega arith) there.after in
    Path-to _ _ (onward s t _ step others_path) (omega arith)
    (append_assoc s.passed (length text ∷ slice_range octets (s.place + 1) (s.place + 1 + length text)) scope ∙ ap (λ (x : List ℕ). s.passed ++ length text ∷ (x ++ scope)) there.range) refl

-- the letters of a name, in front of a place's rest
letters_there : (octets ls rest : List ℕ) (p : ℕ) → drop p octets ≡ ls ++ rest → ((k : ℕ) → k < length ls → IsLetter (get_or ls k 0)) → LettersAt octets p (length ls)
letters_there octets ls rest p e are k lt =
    let same : slice_index octets (p + k) ≡ get_or ls k 0 = sym (get_or-drop p octets k 0) ∙ ap (λ (x : List ℕ). get_or x k 0) e ∙ get_or_append_left ls rest 0 k lt in
    rw same (are k lt)

pub wire_is_read : (name : NameValue) (front rest : List ℕ) → IsName name → PlainNameAt (front ++ wire name ++ rest) (length front) name (length front + length (wire name))
wire_is_read name front rest is_name =
    let octets : List ℕ = front ++ wire name ++ rest in
    let ls : List ℕ = letters name.octets in
    let p : ℕ = length front in
    let count : length ls ≡ 32 = length-letters name.octets ∙ ap (λ (n : ℕ). 2 * n) is_name.sixteen in
    let behind : drop p octets ≡ 0x20 ∷ (ls ++ (name.scope ++ 0 ∷ rest)) =
    ap (drop p) (append_assoc front (wire name) rest) ∙ drop_at front (wire name ++ rest) p refl
    ∙ ap (λ (x : List ℕ). 0x20 ∷ x) (append_assoc (ls ++ name.scope) (0 ∷ []) rest ∙ append_assoc ls name.scope (0 ∷ rest)) in
    let there = label_there octets p 32 ls (name.scope ++ 0 ∷ rest) count (omega arith) behind in
    let at : Spot = start p in
    let t : Spot = past octets at 32 in
    let letters_at : LettersAt octets (p + 1) 32 = subst (LettersAt octets (p + 1)) count (letters_there octets ls (name.scope ++ 0 ∷ rest) (p + 1) (behind_in octets p 0x20 _ behind) (letters_are name.octets is_name.octets_fit)) in
    let first : Step Plain octets at t = letters_pass refl there.finds (omega (arith, there.within)) letters_at in
    let passed : t.passed ≡ 0x20 ∷ ls = ap (λ (x : List ℕ). 0x20 ∷ x) there.range in
    let later : t.passed ≢ [] = λ none. absurd cc in
    let long : length t.passed ≡ 33 = ap length passed ∙ ap suc count in
    let scope_on = scope_path octets rest t name.scope is_name.labels later (omega (arith, is_name.fits)) there.after in
    let end : Spot = record { place = t.place + length name.scope; passed = t.passed ++ name.scope; resume = None } in
    let all : end.passed ≡ 0x20 ∷ ls ++ name.scope = ap (λ (x : List ℕ). x ++ name.scope) passed in
    let closing : drop end.place octets ≡ 0 ∷ rest = sym (drop-drop (length name.scope) t.place octets) ∙ ap (drop (length name.scope)) there.after ∙ drop_at name.scope (0 ∷ rest) (length name.scope) refl in
    record {
      spot = end;
      path = onward at t end first scope_on;
      closes = record {
        later = λ none. absurd (nil_not_cons 0x20 (ls ++ name.scope) (sym none ∙ all));
        zero = found_in octets end.place 0 rest closing;
        spells = ap (λ (x : List ℕ). x ++ 0 ∷ []) all;
        is_name = is_name;
        next_is = omega (arith, count, length-append (ls ++ name.scope) (0 ∷ []), length-append ls name.scope);
      };
    }
  where
    nil_not_cons : (x : ℕ) (xs : List ℕ) → [] ≡ x ∷ xs → ⊥
    nil_not_cons x xs e = cc

pub plain_is_compressed : (octets : List ℕ) (place : ℕ) (name : NameValue) (next : ℕ) → PlainNameAt octets place name next → NameAt octets place name next
plain_is_compressed octets place name next stands = record { spot = stands.spot; path = Path-compressed stands.path; closes = stands.closes }

-- a spot whose place to resume at is r already
resumed : ℕ → Spot → Spot
resumed r s = record { place = s.place; passed = s.passed; resume = Some r }

Step-resumed : (r : ℕ) {octets : List ℕ} {s t : Spot} → Step Compressed octets s t → Step Compressed octets (resumed r s) (resumed r t)
unfolding resumed
Step-resumed r (letters_pass a b c d) = letters_pass a b c d
Step-resumed r (label_passes n a b c d e f) = label_passes n a b c d e f
Step-resumed r (pointer_leads high low a b c d e) = pointer_leads high low a b c d e

Path-resumed : (r : ℕ) {octets : List ℕ} {s t : Spot} → Path Compressed octets s t → Path Compressed octets (resumed r s) (resumed r t)
Path-resumed r (here s) = here (resumed r s)
Path-resumed r (onward s t u step others) = onward (resumed r s) (resumed r t) (resumed r u) (Step-resumed r step) (Path-resumed r others)

pub pointer_is_read : (octets : List ℕ) (place high low : ℕ) (name : NameValue) (next : ℕ) → slice_get octets place ≡ Some high → 0xC0 ≤ high → slice_get octets (place + 1) ≡ Some low → target high low < place
    → NameAt octets (target high low) name next → NameAt octets place name (place + 2)
unfolding resumed
pointer_is_read octets place high low name next finds le at back stands =
    let step : Step Compressed octets (start place) (resumed (place + 2) (start (target high low))) = pointer_leads high low refl finds le at back in
    record {
      spot = resumed (place + 2) stands.spot;
      path = onward (start place) (resumed (place + 2) (start (target high low))) (resumed (place + 2) stands.spot) step (Path-resumed (place + 2) stands.path);
      closes = record { later = stands.closes.later; zero = stands.closes.zero; spells = stands.closes.spells; is_name = stands.closes.is_name; next_is = refl };
    }
