-- Names as text: how components end, and what is left to read.
use Rattle.std.proofs.Common.{◌≡◌, ◌≢◌, ℕ, ◌+◌, ◌<◌, ◌≤◌, List, [], ◌∷◌, ◌++◌, length, get_or, Option, Some, None, Result, Ok, Err, true, take, sym, ◌∙◌, ap, refl, subst, arith, append_assoc, zero, suc}
use Rattle.std.specs.Prelude.{◌↔◌, IsOk, OnSome, MatchOption, MatchResult}
use Rattle.std.proofs.lemmas.List.{append-nil, length-append, take-append-le}
use Rattle.std.proofs.Math.Seq.{take-length}
use denote.Ref.{Bor}
use Rattle.std.specs.Result.{result_ok}
use Rattle.hex.specs.Hex.{decode_of, decode_sized, is_hex_digit}
use Rattle.hex.specs.declared.error.FromHexError.{FromHexError}
use Rattle.hex.proofs.HexLemmas.{decode_of-ok, decode_of-same, decode_sized-ok, decode_sized-twice}
use Rattle.nbt_name.specs.Wire.{NameValue, name_of}
use Rattle.nbt_text.specs.Lines.{HasNo}
use Rattle.nbt_text.specs.NameText.{Component, as_it_is, in_digits, Labels, no_label, label, Sixteen, filled_up, in_32_digits, SpellsName, StandsAsItIs, dot, prefix}

-- ---- components have no dot

HasNo-plain : (octets : List ℕ) → StandsAsItIs octets → HasNo dot octets
HasNo-plain octets stands k h = (stands.plain k h).2

pub digit_no_dot : (c : ℕ) → is_hex_digit c ≡ true → c ≢ dot
digit_no_dot c h e = let bad : is_hex_digit dot ≡ true = subst (λ (x : ℕ). is_hex_digit x ≡ true) e h in absurd cc

pub HasNo-cons : (x : ℕ) (xs : List ℕ) → x ≢ dot → HasNo dot xs → HasNo dot (x ∷ xs)
HasNo-cons x xs other none zero h = other
HasNo-cons x xs other none (suc k) h = none k (omega arith)

pub HasNo-prefixed : (digits octets : List ℕ) → decode_of digits ≡ Ok octets → HasNo dot (prefix ++ digits)
HasNo-prefixed digits octets decoded =
    let digits_pass = (decode_of-ok digits octets decoded).1 in
    HasNo-cons 104 (101 ∷ 120 ∷ 58 ∷ digits) (λ e. omega arith) (HasNo-cons 101 (120 ∷ 58 ∷ digits) (λ e. omega arith) (HasNo-cons 120 (58 ∷ digits) (λ e. omega arith) (HasNo-cons 58 digits (λ e. omega arith)
    (λ k h. digit_no_dot (get_or digits k 0) (digits_pass k 0 h)))))

pub HasNo-component : (component octets : List ℕ) → Component component octets → HasNo dot component
HasNo-component _ octets (as_it_is _ stands) = HasNo-plain octets stands
HasNo-component _ octets (in_digits digits _ decoded) = HasNo-prefixed digits octets decoded

pub take_front : (xs ys : List ℕ) (n : ℕ) → length xs ≡ n → take n (xs ++ ys) ≡ xs
take_front xs ys n e = rw (← e, take-append-le (length xs) xs ys (omega arith), take-length xs) refl

-- ---- decoding into a buffer of a number of octets

pub decoded_from : (digits : List ℕ) (n : ℕ) (r : Result Unit FromHexError) (out : List ℕ) → MatchResult (decode_sized digits n) (λ bytes. (r ≡ Ok tt) × (out ≡ bytes)) (λ e. r ≡ Err e)
    → IsOk r → (decode_of digits ≡ Ok out) × (length out ≡ n)
decoded_from digits n r out h ok = decoded_by digits n r out (decode_sized digits n) refl h ok where
  decoded_by : (digits : List ℕ) (n : ℕ) (r : Result Unit FromHexError) (out : List ℕ) (d : Result (List ℕ) FromHexError) → decode_sized digits n ≡ d
      → MatchResult d (λ bytes. (r ≡ Ok tt) × (out ≡ bytes)) (λ e. r ≡ Err e) → IsOk r → (decode_of digits ≡ Ok out) × (length out ≡ n)
  decoded_by digits n r out (Ok bytes) e h ok =
      let len = decode_sized-ok digits n bytes e in
      let decoded : decode_of digits ≡ Ok bytes = sym (decode_sized-twice digits n len) ∙ e in
      let same : out ≡ bytes = h.1 in
      (rw same decoded, rw same (omega (arith, (decode_of-ok digits bytes decoded).2)))
  decoded_by digits n r out (Err f) e h ok = let bad = rw h at ok in absurd cc

pub decoded_into : (digits : List ℕ) (n : ℕ) (r : Result Unit FromHexError) (out bytes : List ℕ) → MatchResult (decode_sized digits n) (λ b. (r ≡ Ok tt) × (out ≡ b)) (λ e. r ≡ Err e)
    → decode_of digits ≡ Ok bytes → length bytes ≡ n → (r ≡ Ok tt) × (out ≡ bytes)
decoded_into digits n r out bytes h decoded len =
    let digits_len = (decode_of-ok digits bytes decoded).2 in
    let sized : decode_sized digits n ≡ Ok bytes = decode_sized-twice digits n (omega arith) ∙ decoded in
    rw sized at h

pub not_refused : (r : Result Unit FromHexError) (x : Option Unit) → x ≡ result_ok r → r ≡ Ok tt → x ≡ None → ⊥
not_refused (Ok u) x e ok none = cc
not_refused (Err f) x e ok none = cc

pub OnSome-map : {A B : Type 0} (r : Option Unit) → OnSome r A → (A → B) → OnSome r B
OnSome-map None h f = tt
OnSome-map (Some u) h f = f h

-- the front of a buffer that was filled so far
pub label_pushed : (n : ℕ) (mine behind component old new : List ℕ) → length mine ≡ n → Component component mine
    → (1 ≤ length (take n (mine ++ behind))) × (length (take n (mine ++ behind)) ≤ 63) × (new ≡ old ++ length (take n (mine ++ behind)) ∷ take n (mine ++ behind))
    → (x : List ℕ) × Component component x × (1 ≤ length x) × (length x ≤ 63) × (new ≡ old ++ length x ∷ x)
label_pushed n mine behind component old new len spells pushed =
    let front : take n (mine ++ behind) ≡ mine = take_front mine behind n len in
    let p = rw front at pushed in (mine, spells, p.0, p.1, p.2)

pub nothing_left_over : (xs : List ℕ) → length xs ≡ 0 → xs ≡ []
nothing_left_over [] e = refl
nothing_left_over (x ∷ xs) e = absurd (omega arith)

pub digits_spell : (component xs digits : List ℕ) → Component component xs → component ≡ prefix ++ digits → decode_of digits ≡ Ok xs
digits_spell _ xs digits (as_it_is _ s) e = absurd (s.unprefixed (digits, e))
digits_spell _ xs digits (in_digits others _ d) e = let same : others ≡ digits = cc in rw (← same) d

pub digits_spell_sixteen : (component xs digits : List ℕ) → Sixteen component xs → component ≡ prefix ++ digits → (decode_of digits ≡ Ok xs) × (length xs ≡ 16)
digits_spell_sixteen _ _ digits (filled_up x s h) e = absurd (s.unprefixed (digits, e))
digits_spell_sixteen _ _ digits (in_32_digits others xs d h) e = let same : others ≡ digits = cc in (rw (← same) d, h)

-- ---- what is left to read

abbrev pub tail : Option (Bor (List ℕ)) → List ℕ
tail None = []
tail (Some rest) = dot ∷ rest.now

-- nothing, or what a dot stands in front of
pub data IsTail : List ℕ → Type 0 where
  ended : IsTail []
  dotted : (rest : List ℕ) → IsTail (dot ∷ rest)

pub IsTail-tail : (rest : Option (Bor (List ℕ))) → IsTail (tail rest)
IsTail-tail None = ended
IsTail-tail (Some rest) = dotted rest.now

pub IsTail-labels : (rest scope : List ℕ) → Labels rest scope → IsTail rest
IsTail-labels _ _ no_label = ended
IsTail-labels _ _ (label component octets rest scope spells low high labels) = dotted (component ++ rest)

-- octets without a dot, up to a tail, are split in one way
HasNo-rest : (x : ℕ) (xs : List ℕ) → HasNo dot (x ∷ xs) → HasNo dot xs
HasNo-rest x xs none k h = none (suc k) (omega arith)

pub split_is_one : (a b x y : List ℕ) → HasNo dot a → HasNo dot b → IsTail x → IsTail y → a ++ x ≡ b ++ y → (a ≡ b) × (x ≡ y)
split_is_one [] [] x y na nb tx ty e = (refl, e)
split_is_one [] (c ∷ b) _ y na nb ended ty e = absurd cc
split_is_one [] (c ∷ b) _ y na nb (dotted rest) ty e = let same : c ≡ dot = cc in absurd (nb 0 (omega arith) same)
split_is_one (c ∷ a) [] x _ na nb tx ended e = absurd cc
split_is_one (c ∷ a) [] x _ na nb tx (dotted rest) e = let same : c ≡ dot = cc in absurd (na 0 (omega arith) same)
split_is_one (c ∷ a) (d ∷ b) x y na nb tx ty e =
    let head : c ≡ d = cc in
    let behind : a ++ x ≡ b ++ y = cc in
    let rest = split_is_one a b x y (HasNo-rest c a na) (HasNo-rest d b nb) tx ty behind in
    (rw (head, rest.0) refl, rest.1)

-- a component spells one list of octets
component_spells : (a b xs ys : List ℕ) → Component a xs → Component b ys → a ≡ b → xs ≡ ys
component_spells _ _ xs ys (as_it_is _ s) (as_it_is _ t) e = e
component_spells _ _ xs ys (as_it_is _ s) (in_digits digits _ d) e = absurd (s.unprefixed (digits, e))
component_spells _ _ xs ys (in_digits digits _ d) (as_it_is _ t) e = absurd (t.unprefixed (digits, sym e))
component_spells _ _ xs ys (in_digits digits _ d) (in_digits others _ f) e =
    let same : digits ≡ others = cc in decode_of-same others xs ys (rw (← same) d) f

pub component_is_one : (component xs ys : List ℕ) → Component component xs → Component component ys → xs ≡ ys
component_is_one component xs ys a b = component_spells component component xs ys a b refl

sixteen_spells : (a b xs ys : List ℕ) → Sixteen a xs → Sixteen b ys → a ≡ b → xs ≡ ys
sixteen_spells _ _ _ _ (filled_up x s h) (filled_up y t i) e = rw e refl
sixteen_spells _ _ _ _ (filled_up x s h) (in_32_digits digits _ d i) e = absurd (s.unprefixed (digits, e))
sixteen_spells _ _ _ _ (in_32_digits digits _ d i) (filled_up y t h) e = absurd (t.unprefixed (digits, sym e))
sixteen_spells _ _ xs ys (in_32_digits digits _ d h) (in_32_digits others _ f i) e =
    let same : digits ≡ others = cc in decode_of-same others xs ys (rw (← same) d) f

pub sixteen_is_one : (component xs ys : List ℕ) → Sixteen component xs → Sixteen component ys → xs ≡ ys
sixteen_is_one component xs ys a b = sixteen_spells component component xs ys a b refl

HasNo-sixteen : (component octets : List ℕ) → Sixteen component octets → HasNo dot component
HasNo-sixteen _ _ (filled_up octets stands h) = HasNo-plain octets stands
HasNo-sixteen _ _ (in_32_digits digits octets decoded h) = HasNo-prefixed digits octets decoded

-- the labels after a dot begin with the one that stands there
pub record Next (component rest scope : List ℕ) : Type 0 where
  pub octets : List ℕ
  pub others : List ℕ
  pub spells : Component component octets
  pub low : 1 ≤ length octets
  pub high : length octets ≤ 63
  pub labels : Labels rest others
  pub scope_is : scope ≡ length octets ∷ octets ++ others

next_of : (text scope component rest : List ℕ) → Labels text scope → text ≡ dot ∷ component ++ rest → HasNo dot component → IsTail rest → Next component rest scope
next_of _ _ component rest no_label e none ends = absurd cc
next_of _ _ component rest (label c octets r scope spells low high labels) e none ends =
    let behind : c ++ r ≡ component ++ rest = cc in
    let same = split_is_one c component r rest (HasNo-component c octets spells) none (IsTail-labels r scope labels) ends behind in
    record { octets = octets; others = scope; spells = rw (← same.0) spells; low = low; high = high; labels = rw (← same.1) labels; scope_is = refl }

pub record Left (octets scope rest : List ℕ) (name : NameValue) : Type 0 where
  pub more : List ℕ
  pub labels : Labels rest more
  pub name_is : name ≡ name_of octets (scope ++ more)
  pub fits : length (scope ++ more) ≤ 221

-- before the first label
pub left_first : (text first octets rest : List ℕ) (name : NameValue) → text ≡ first ++ rest → HasNo dot first → IsTail rest → Sixteen first octets
    → SpellsName text name ↔ Left octets [] rest name
left_first text first octets rest name e none ends sixteen = (
  λ (s : SpellsName text name).
      let same = split_is_one s.first first s.rest rest (HasNo-sixteen s.first name.octets s.sixteen) none (IsTail-labels s.rest name.scope s.labels) ends (sym s.text_is ∙ e) in
      let mine : Sixteen first name.octets = rw (← same.0) s.sixteen in
      let octets_are : octets ≡ name.octets = sixteen_is_one first octets name.octets sixteen mine in
      record { more = name.scope; labels = rw (← same.1) s.labels; name_is = rw octets_are refl; fits = s.fits },
  λ (l : Left octets [] rest name).
      rw l.name_is (record { first = first; rest = rest; text_is = e; sixteen = sixteen; labels = l.labels; fits = l.fits }),
)

-- past a label
pub left_past : (octets scope component rest label_octets : List ℕ) (name : NameValue) → HasNo dot component → IsTail rest → Component component label_octets
    → 1 ≤ length label_octets → length label_octets ≤ 63
    → Left octets scope (dot ∷ component ++ rest) name ↔ Left octets (scope ++ length label_octets ∷ label_octets) rest name
left_past octets scope component rest mine name none ends spells low high = (
  λ (l : Left octets scope (dot ∷ component ++ rest) name).
      let next = next_of (dot ∷ component ++ rest) l.more component rest l.labels refl none ends in
      let same : next.octets ≡ mine = component_is_one component next.octets mine next.spells spells in
      let more_is : l.more ≡ length mine ∷ mine ++ next.others = rw (← same) next.scope_is in
      let scope_is : scope ++ l.more ≡ (scope ++ length mine ∷ mine) ++ next.others = ap (λ (x : List ℕ). scope ++ x) more_is ∙ sym (append_assoc scope (length mine ∷ mine) next.others) in
      record { more = next.others; labels = next.labels; name_is = rw (← scope_is) l.name_is; fits = rw (← scope_is) l.fits },
  λ (l : Left octets (scope ++ length mine ∷ mine) rest name).
      let scope_is : (scope ++ length mine ∷ mine) ++ l.more ≡ scope ++ (length mine ∷ mine ++ l.more) = append_assoc scope (length mine ∷ mine) l.more in
      record { more = length mine ∷ mine ++ l.more; labels = label component mine rest l.more spells low high l.labels; name_is = rw scope_is at l.name_is; fits = rw scope_is at l.fits },
)

-- where the label doesn't fit, no name is left
pub nothing_left : (octets scope component rest : List ℕ) (name : NameValue) → HasNo dot component → IsTail rest
    → ((mine : List ℕ) → Component component mine → 1 ≤ length mine → length mine ≤ 63 → 221 < length scope + 1 + length mine)
    → ¬ Left octets scope (dot ∷ component ++ rest) name
nothing_left octets scope component rest name none ends refused l =
    let next = next_of (dot ∷ component ++ rest) l.more component rest l.labels refl none ends in
    let long = refused next.octets next.spells next.low next.high in
    omega (arith, long, l.fits, length-append scope l.more, ap length next.scope_is, length-append next.octets next.others)

-- at the end
labels_end : (text more : List ℕ) → Labels text more → text ≡ [] → more ≡ []
labels_end _ _ no_label e = refl
labels_end _ _ (label c o r s spells low high labels) e = absurd cc

pub left_last : (octets scope : List ℕ) (name : NameValue) → length scope ≤ 221 → (Some (name_of octets scope) ≡ Some name) ↔ Left octets scope [] name
left_last octets scope name fits = (
  λ e. let same : name_of octets scope ≡ name = cc in rw (← same) (record { more = []; labels = no_label; name_is = rw (append-nil scope) refl; fits = rw (append-nil scope) fits }),
  λ (l : Left octets scope [] name).
      let more_is : l.more ≡ [] = labels_end [] l.more l.labels refl in
      let scope_is : scope ++ l.more ≡ scope = ap (λ (x : List ℕ). scope ++ x) more_is ∙ append-nil scope in
      sym (ap Some (rw scope_is at l.name_is)),
)

-- what a first piece leaves
pub pieces_are : (octets first : List ℕ) (rest : Option (Bor (List ℕ))) → MatchOption rest (octets ≡ first) (λ x. octets ≡ first ++ (dot ∷ x.now)) → octets ≡ first ++ tail rest
pieces_are octets first None e = e ∙ sym (append-nil first)
pieces_are octets first (Some x) e = e

pub nothing_spelled : (text first rest : List ℕ) (name : NameValue) → text ≡ first ++ rest → HasNo dot first → IsTail rest → ((octets : List ℕ) → ¬ Sixteen first octets) → ¬ SpellsName text name
nothing_spelled text first rest name e none ends no_octets s =
    let same = split_is_one s.first first s.rest rest (HasNo-sixteen s.first name.octets s.sixteen) none (IsTail-labels s.rest name.scope s.labels) ends (sym s.text_is ∙ e) in
    no_octets name.octets (rw (← same.0) s.sixteen)
