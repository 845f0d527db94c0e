-- A scope behind a name's suffix: where it begins, and that what is printed of a name and of its scope spells both.
use Rattle.std.proofs.Common.{◌≡◌, ◌≢◌, ℕ, ◌+◌, ◌*◌, ◌<◌, ◌≤◌, List, [], ◌∷◌, ◌++◌, length, get_or, Option, Some, None, take, sym, ◌∙◌, ap, refl, subst, inl, inr, arith, append_assoc, zero, suc}
use Rattle.std.specs.Prelude.{MatchOption, Result, Ok, Err, IfOk, IfErr, IfNone, replicate, slice_index, codes}
use Rattle.std.proofs.lemmas.List.{append-nil, drop_at, length-append}
use denote.Ref.{Bor}
use Rattle.hex.specs.Hex.{encode_lower, encode_upper}
use Rattle.hex.proofs.HexLemmas.{decode_of-ok, decode_of-encode_lower, decode_of-encode_upper}
use Rattle.nbt_name.specs.Scope.{IsScope}
use Rattle.nbt_name.specs.Wire.{NameValue, IsName, AreOctets, name_of}
use Rattle.nbt_name.proofs.Scopes.{IsScope-parts}
use Rattle.nbt_text.specs.Lines.{HasNo}
use Rattle.nbt_text.specs.NameText.{dot, prefix, space, IsPrefixed, StandsAsItIs, Labels, no_label, Sixteen, filled_up, SpellsName as TextSpellsName, PrintsComponent, PrintsLabels, none_printed, label_printed}
use Rattle.nbt_text.specs.declared.casing.Case.{Case}
use Rattle.nbt_text.specs.declared.casing.Case.TheVariants.{Folded, Exact}
use Rattle.nbt_text.specs.declared.fault.Fault.{Fault}
use Rattle.nbt_text.specs.SuffixedNames.{fifteen, SpellsOctets, PrintsOctets, in_capitals, in_hexadecimal}
use Rattle.nbt_text.specs.ScopedNames.{PrintsWord, dotted, SpellsScope, SpellsName, IsOpened, at_mark, in_digits, MisspellsName, HasNoScope, HasScope, SpellsOwnScope, SpellsBehind, MisspellsBehind, SpellsScopedName, apart, behind, MisspellsScopedName, bad_apart, bad_behind}
use Rattle.nbt_text.proofs.NameText.{HasNo-cons, HasNo-prefixed, digit_no_dot, take_front}
use Rattle.nbt_text.proofs.PrintedNames.{AreOctets-front, AreOctets-back, labels_spelled}
use Rattle.nbt_text.proofs.PrintedOctets.{unprefixed, last_fits, printed_spells}

-- ---- where a scope begins

opened_parts : (word front tail : List ℕ) → IsOpened word front tail → word ≡ front ++ tail
opened_parts word _ _ (at_mark front tail np cut) = cut.word_is
opened_parts word _ _ (in_digits p) = refl

pub parted_is : (word front tail suffix bare : List ℕ) (r : Option (Bor (List ℕ))) → IsOpened word front tail → MatchOption r (tail ≡ suffix) (λ rest. tail ≡ suffix ++ (dot ∷ rest.now)) → HasNo dot suffix
    → bare ≡ take (length front + length suffix) word → MatchOption r (HasNoScope word) (λ own. HasScope word bare own.now)
parted_is word front tail suffix bare None opened whole first is = record { front = front; tail = tail; opened = opened; none = subst (HasNo dot) (sym whole) first }
parted_is word front tail suffix bare (Some own) opened whole first is =
    let parts : word ≡ (front ++ suffix) ++ (dot ∷ own.now) = opened_parts word front tail opened ∙ ap (λ (t : List ℕ). front ++ t) whole ∙ sym (append_assoc front suffix (dot ∷ own.now)) in
    let count = length front + length suffix in
    record {
      front = front;
      suffix = suffix;
      opened = subst (λ (t : List ℕ). IsOpened word front t) whole opened;
      first = first;
      bare_is = is ∙ ap (take count) parts ∙ take_front (front ++ suffix) (dot ∷ own.now) count (length-append front suffix);
    }

-- ---- what is read

pub none_own : (text : List ℕ) (r : Option NameValue) → IfNone r ((scope : List ℕ) → ¬ SpellsScope Exact text scope) → IfNone r ((scope : List ℕ) → ¬ SpellsOwnScope text scope)
none_own text None none = λ scope own. none scope own.1
none_own text (Some name) none = tt

pub behind_read : (case : Case) (word bare own text : List ℕ) (r : Result NameValue Fault) → HasScope word bare own → IfOk r (SpellsBehind case bare own) → IfOk r (SpellsScopedName case word text)
behind_read case word bare own text (Ok name) has read = behind bare own has read
behind_read case word bare own text (Err fault) has read = tt

pub behind_refused : (case : Case) (word bare own text : List ℕ) (r : Result NameValue Fault) → HasScope word bare own → IfErr r (MisspellsBehind case bare own) → IfErr r (MisspellsScopedName case word text)
behind_refused case word bare own text (Ok name) has bad = tt
behind_refused case word bare own text (Err fault) has bad = bad_behind bare own has bad

pub apart_read : (case : Case) (word text : List ℕ) (r : Result NameValue Fault) → HasNoScope word → IfOk r (SpellsName case word text) → IfOk r (SpellsScopedName case word text)
apart_read case word text (Ok name) none read = apart none read
apart_read case word text (Err fault) none read = tt

pub apart_refused : (case : Case) (word text : List ℕ) (r : Result NameValue Fault) → HasNoScope word → IfErr r (MisspellsName case word text) → IfErr r (MisspellsScopedName case word text)
apart_refused case word text (Ok name) none bad = tt
apart_refused case word text (Err fault) none bad = bad_apart none bad

-- ---- what is printed

-- a printed word, and where its suffix begins, whatever stands behind it
record Opens (word : List ℕ) : Type 0 where
  pub front : List ℕ
  pub suffix : List ℕ
  pub word_is : word ≡ front ++ suffix
  pub none : HasNo dot suffix
  pub opened : (rest : List ℕ) → IsOpened (word ++ rest) front (suffix ++ rest)

printed_opens : (octets word : List ℕ) → AreOctets octets → PrintsOctets octets word → Opens word
printed_opens _ _ fits (in_capitals front suffix seen) =
    let digits = encode_upper (suffix ∷ []) in
    let decoded = decode_of-encode_upper (suffix ∷ []) (last_fits (fifteen front) suffix fits) in
    let pass = (decode_of-ok digits (suffix ∷ []) decoded).1 in
    record {
      front = front;
      suffix = 0x23 ∷ digits;
      word_is = refl;
      none = HasNo-cons 0x23 digits (λ e. omega arith) (λ k h. digit_no_dot (get_or digits k 0) (pass k 0 h));
      opened = λ rest.
          let whole : (front ++ 0x23 ∷ digits) ++ rest ≡ front ++ ((0x23 ∷ digits) ++ rest) = append_assoc front (0x23 ∷ digits) rest in
          at_mark front ((0x23 ∷ digits) ++ rest) (subst (λ (w : List ℕ). ¬ IsPrefixed w) (sym whole) (unprefixed front ((0x23 ∷ digits) ++ rest) seen))
          (record { word_is = whole; none = seen.unmarked; first = inr (inl refl) });
    }
printed_opens _ _ fits (in_hexadecimal octets other) =
    let digits = encode_lower octets in
    record {
      front = [];
      suffix = prefix ++ digits;
      word_is = refl;
      none = HasNo-prefixed digits octets (decode_of-encode_lower octets fits);
      opened = λ rest. in_digits (digits ++ rest, refl);
    }

-- ---- how long labels are

component_long : (octets text : List ℕ) → PrintsComponent octets octets text → AreOctets octets → length text ≤ 4 + 2 * length octets
component_long octets text (inl p) fits = omega (arith, ap length p.1)
component_long octets text (inr p) fits =
    let twice = (decode_of-ok (encode_lower octets) octets (decode_of-encode_lower octets fits)).2 in omega (arith, ap length p.1, twice)

component_some : (octets text : List ℕ) → PrintsComponent octets octets text → 1 ≤ length text
component_some octets text (inl p) = omega (arith, ap length p.1, p.0.some)
component_some octets text (inr p) = omega (arith, ap length p.1)

labels_long : (scope text : List ℕ) → PrintsLabels scope text → AreOctets scope → IsScope scope → length text ≤ 4 * length scope
labels_long _ _ none_printed fits is = omega arith
labels_long _ _ (label_printed octets scope component rest printed others) fits is =
    let parts = IsScope-parts (length octets ∷ octets ++ scope) (length octets) (octets ++ scope) is refl in
    let after : IsScope scope = subst IsScope (drop_at octets scope (length octets) refl) parts.3 in
    let fit : AreOctets (octets ++ scope) = λ k. fits (suc k) in
    let long = component_long octets component printed (AreOctets-front octets scope fit) in
    let more = labels_long scope rest others (AreOctets-back octets scope fit) after in
    omega (arith, parts.0, long, more, length-append component rest, length-append octets scope)

-- ---- scopes

-- the name in front of a scope's text
abbrev sixteen_a : List ℕ
sixteen_a = 65 ∷ replicate 15 space

a_stands : StandsAsItIs (65 ∷ [])
a_stands = record { some = omega arith; plain = plain; unprefixed = λ p. let e = p.1 in absurd cc }
  where
    plain : (k : ℕ) → k < 1 → (0x21 ≤ slice_index (65 ∷ []) k) × (slice_index (65 ∷ []) k ≤ 0x7E) × (slice_index (65 ∷ []) k ≢ dot)
    plain zero h = (omega arith, omega arith, λ e. omega arith)
    plain (suc k) h = absurd (omega arith)

a_spelled : Sixteen (codes "A") sixteen_a
a_spelled = filled_up (65 ∷ []) a_stands (omega arith)

scope_spelled : (scope labels : List ℕ) → Labels labels scope → length scope ≤ 221 → TextSpellsName (codes "A" ++ labels) (name_of sixteen_a scope)
scope_spelled scope labels spelled fits = record { first = codes "A"; rest = labels; text_is = refl; sixteen = a_spelled; labels = spelled; fits = fits }

no_scope : (case : Case) → SpellsScope case [] []
no_scope Folded = record { octets = sixteen_a; few = omega arith; spells = scope_spelled [] [] no_label (omega arith) }
no_scope Exact = record { octets = sixteen_a; few = omega arith; spells = scope_spelled [] [] no_label (omega arith) }

dotted_is : (text : List ℕ) → text ≢ [] → dotted text ≡ dot ∷ text
dotted_is [] some = absurd (some refl)
dotted_is (x ∷ text) some = refl

own_scope : (scope text : List ℕ) → text ≢ [] → length text ≤ 1000 → Labels (dot ∷ text) scope → length scope ≤ 221 → SpellsOwnScope text scope
own_scope scope text some few labels fits =
    (some, record { octets = sixteen_a; few = few; spells = subst (λ (t : List ℕ). TextSpellsName (codes "A" ++ t) (name_of sixteen_a scope)) (sym (dotted_is text some)) (scope_spelled scope (dot ∷ text) labels fits) })

-- ---- a name and its scope

read_so : (case : Case) (name : NameValue) (word scope labels : List ℕ) → IsName name → PrintsOctets name.octets word → scope ≡ name.scope → PrintsLabels scope labels
    → SpellsScopedName case (word ++ labels) [] name
read_so case name word _ _ is printed same none_printed =
    let opens = printed_opens name.octets word is.octets_fit printed in
    let octets = printed_spells case name.octets word is.sixteen is.octets_fit printed in
    apart
    (record { front = opens.front; tail = opens.suffix ++ []; opened = opens.opened []; none = subst (HasNo dot) (sym (append-nil opens.suffix)) opens.none })
    (record { octets = subst (λ (w : List ℕ). SpellsOctets case w name.octets) (sym (append-nil word)) octets; scope = subst (SpellsScope case []) same (no_scope case) })
read_so case name word _ _ is printed same (label_printed octets scope component rest first others) =
    let opens = printed_opens name.octets word is.octets_fit printed in
    let own = component ++ rest in
    let labels : PrintsLabels (length octets ∷ octets ++ scope) (dot ∷ own) = label_printed octets scope component rest first others in
    let mine : PrintsLabels name.scope (dot ∷ own) = subst (λ (s : List ℕ). PrintsLabels s (dot ∷ own)) same labels in
    let long = labels_long name.scope (dot ∷ own) mine is.scope_fits is.labels in
    let some : own ≢ [] = λ e. let begins = component_some octets component first in omega (arith, begins, ap length e, length-append component rest) in
    let few : length own ≤ 1000 = omega (arith, long, is.fits) in
    behind word own
    (record { front = opens.front; suffix = opens.suffix; opened = opens.opened (dot ∷ own); first = opens.none; bare_is = opens.word_is })
    (record {
      octets = printed_spells case name.octets word is.sixteen is.octets_fit printed;
      scope = own_scope name.scope own some few (labels_spelled name.scope (dot ∷ own) mine is.scope_fits is.labels) is.fits;
    })

pub printed_is_read : (case : Case) (name : NameValue) (word : List ℕ) → IsName name → PrintsWord name word → SpellsScopedName case word [] name
printed_is_read case name word is printed = subst (λ (w : List ℕ). SpellsScopedName case w [] name) (sym printed.word_is) (read_so case name printed.front name.scope printed.labels is printed.octets_are refl printed.labels_are)
