-- What the words of a line say: that the code finds the change, and no other.
use Rattle.std.proofs.Common.{◌≡◌, ℕ, List, ◌∷◌, Option, Some, None, refl, sym, ap, subst, ◌∙◌}
use Rattle.std.specs.Prelude.{◌↔◌, IsSomeAnd, MatchOption}
use Rattle.nbt_store.specs.declared.change.Change.{Change}
use Rattle.nbt_store.specs.declared.verb.Verb.{Verb}
use Rattle.nbt_text.specs.Number.{SpellsNumber}
use Rattle.nbt_store.specs.declared.header.Head.{Head}
use Rattle.nbt_store.specs.Boot.{SpellsBoot}
use Rattle.nbt_text.specs.Lines.{words as words_of}
use Rattle.nbt_store.specs.declared.form.Form.{Form}
use Rattle.nbt_store.specs.Checksum.{checksum, sealed}
use Rattle.nbt_store.specs.Forms.{chained}
use Rattle.nbt_store.specs.Lines.{IsHead, IsNone, SpellsHead}
use Rattle.nbt_store.proofs.Seals.{same_body}
use Rattle.nbt_store.specs.Words.{Then, NoMore}
use Rattle.nbt_store.specs.Records.{IsRecord, Makes, Says, says, SaysOf, verb_word}

abbrev pub Reads : (A : Type 0) → Option A → (A → Type 0) → Type 0
Reads A r P = (x : A) → (r ≡ Some x) ↔ P x

pub made : {A : Type 0} (Spell : List (List ℕ) → A → Type 0) (make : A → Change) (ws : List (List ℕ)) (found : Option A) (r : Option Change) (Gives : A → Change → Type 0) (i : Change)
    → Reads A found (Spell ws) → MatchOption found (r ≡ None) (λ x. IsSomeAnd r (Gives x)) → ((x : A) (j : Change) → Gives x j → j ≡ make x) → (r ≡ Some i) ↔ Makes Spell make ws i
made Spell make ws None r Gives i reads none given = (
  λ same. absurd cc,
  λ m. let there = (reads m.values).1 m.spelled in absurd cc,
)
made Spell make ws (Some x) (Some j) Gives i reads one given = (
  λ same. let is : i ≡ make x = sym (ap (λ (k : Option Change). or_else j k) same) ∙ given x j one in record { values = x; spelled = (reads x).0 refl; change_is = is },
  λ m. let there = (reads m.values).1 m.spelled in let same : x ≡ m.values = cc in let other = m.change_is in let is = given x j one in cc,
) where
  or_else : Change → Option Change → Change
  or_else c None = c
  or_else c (Some k) = k
made Spell make ws (Some x) None Gives i reads one given = absurd one

says_in : (form : Form) (ws : List (List ℕ)) (i : Change) → Says form ws i → (v : Verb) × (rest : List (List ℕ)) × (ws ≡ verb_word v ∷ rest) × SaysOf form v rest i
says_in form _ _ (says v rest i p) = (v, rest, refl, p)

abbrev pub IsSaid : Form → List (List ℕ) → Option Change → Type 0
IsSaid form ws found = MatchOption found ((i : Change) → ¬ Says form ws i) (Says form ws)

pub by_verb : (form : Form) (ws rest : List (List ℕ)) (word : List ℕ) (found_verb : Option Verb) (v : Verb) (found : Option Change) → ws ≡ word ∷ rest → ((x : Verb) → (found_verb ≡ Some x) ↔ (word ≡ verb_word x)) → found_verb ≡ Some v
    → Reads Change found (SaysOf form v rest) → IsSaid form ws found
by_verb form ws rest word found_verb v None whole tells there reads = λ i s.
    let p = says_in form ws i s in
    let same_word : word ≡ verb_word p.0 = cc in
    let other = (tells p.0).1 same_word in
    let same : p.0 ≡ v = cc in
    let same_rest : p.1 ≡ rest = cc in
    let here = (reads i).1 (subst (λ (x : Verb). SaysOf form x rest i) same (subst (λ (x : List (List ℕ)). SaysOf form p.0 x i) same_rest p.3)) in
    absurd cc
by_verb form ws rest word found_verb v (Some i) whole tells there reads = rw (whole, (tells v).0 there) (says v rest i ((reads i).0 refl))

-- ---- heads

abbrev pub Nine : Type 0
Nine = ℕ × (ℕ × (ℕ × (List ℕ × (ℕ × (ℕ × (ℕ × (ℕ × (ℕ × Unit {0}))))))))

abbrev pub head_from : Nine → Head
head_from v = record {
  header = record {
    life = v.0;
    longest = v.1.0;
    rows = v.1.1.0;
    boot = v.1.1.1.0;
    ahead = v.1.1.1.1.0;
    start = v.1.1.1.1.1.0;
    last = v.1.1.1.1.1.1.0;
    day = v.1.1.1.1.1.1.1.0;
  };
  leases = v.1.1.1.1.1.1.1.1.0;
}

abbrev pub SpellNine : List (List ℕ) → Nine → Type 0
SpellNine = Then SpellsNumber (Then SpellsNumber (Then SpellsNumber (Then SpellsBoot (Then SpellsNumber (Then SpellsNumber (Then SpellsNumber (Then SpellsNumber (Then SpellsNumber NoMore))))))))

pub head_made : (ws : List (List ℕ)) (found : Option Nine) (r : Option Head) (Gives : Nine → Head → Type 0) (h : Head)
    → Reads Nine found (SpellNine ws) → MatchOption found (r ≡ None) (λ x. IsSomeAnd r (Gives x))
    → ((x : Nine) (j : Head) → Gives x j → j ≡ head_from x) → (r ≡ Some h) ↔ SpellsHead ws h
head_made ws None r Gives h reads none given = (
  λ same. absurd cc,
  λ m. let there = (reads m.values).1 m.spelled in absurd cc,
)
head_made ws (Some x) (Some j) Gives h reads one given = (
  λ same. let is : h ≡ head_from x = sym (ap (λ (k : Option Head). or_head j k) same) ∙ given x j one in record { values = x; spelled = (reads x).0 refl; head_is = is },
  λ m. let there = (reads m.values).1 m.spelled in let same : x ≡ m.values = cc in let is = given x j one in ap Some (is ∙ ap head_from same ∙ sym m.head_is),
) where
  or_head : Head → Option Head → Head
  or_head c None = c
  or_head c (Some k) = k
head_made ws (Some x) None Gives h reads one given = absurd one

-- ---- whole lines

pub head_none : (line body : List ℕ) (ws : List (List ℕ)) (found : Option Head) → line ≡ sealed 0 body → ws ≡ words_of body → Reads Head found (SpellsHead ws) → found ≡ None → (head : Head) (sum : ℕ) → ¬ IsHead line head sum
head_none line body ws found e are reads none head sum is =
    let there = (reads head).1 (subst (λ (xs : List (List ℕ)). SpellsHead xs head) (sym (are ∙ ap words_of (same_body 0 line body is.body e is.line_is))) is.words_say) in
    absurd cc

pub head_found : (line body : List ℕ) (ws : List (List ℕ)) (found : Option Head) (head : Head) (sum : ℕ) → line ≡ sealed 0 body → sum ≡ checksum 0 body → ws ≡ words_of body → Reads Head found (SpellsHead ws) → found ≡ Some head → IsHead line head sum
head_found line body ws found head sum e next are reads some = record { body = body; line_is = e; words_say = subst (λ (xs : List (List ℕ)). SpellsHead xs head) are ((reads head).0 some); next_is = next }

pub record_none : (form : Form) (sum : ℕ) (line body : List ℕ) (ws : List (List ℕ)) → line ≡ sealed (chained form sum) body → ws ≡ words_of body → ((c : Change) → ¬ Says form ws c) → IsNone form sum line
record_none form sum line body ws e are none = λ c next is. none c (subst (λ (xs : List (List ℕ)). Says form xs c) (sym (are ∙ ap words_of (same_body (chained form sum) line body is.body e is.line_is))) is.words_say)

pub record_found : (form : Form) (sum : ℕ) (line body : List ℕ) (ws : List (List ℕ)) (c : Change) (next : ℕ) → line ≡ sealed (chained form sum) body → next ≡ checksum (chained form sum) body → ws ≡ words_of body → Says form ws c → IsRecord form sum line c next
record_found form sum line body ws c next e next_is are say = record { body = body; line_is = e; words_say = subst (λ (xs : List (List ℕ)). Says form xs c) are say; next_is = next_is }
