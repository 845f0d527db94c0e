-- A file has one reading: each of its words spells one value, and each of its lines has one body.
use Rattle.std.proofs.Common.{◌≡◌, ◌∙◌, ℕ, ◌/◌, ◌%◌, ◌^◌, ◌<◌, List, [], ◌∷◌, ◌++◌, length, get_or, nat_eq, if◌then◌else◌, refl, sym, ap, subst, arith}
use Rattle.std.specs.Fmt.{decimal}
use Rattle.std.specs.Int.{IsInRange}
use Rattle.std.specs.Str.Parse.{digits_value}
use Rattle.std.proofs.lemmas.Fmt.{decimal_injective, digits_decimal}
use Rattle.std.proofs.lemmas.List.{append_cancel_right}
use Rattle.std.proofs.lemmas.Str.Parse.{IsNumeralModel, numerals_by_value, tells_by_index, not_in_digits}
use Rattle.nbt_name.specs.declared.addr.Kind.{Kind}
use Rattle.nbt_name.specs.declared.addr.Kind.TheVariants.{Unique, Group}
use Rattle.nbt_text.specs.Lines.{HasNo, words as words_of}
use Rattle.nbt_text.specs.NameText.{dot, Component, Labels, no_label, label, Sixteen, filled_up, in_32_digits, SpellsName}
use Rattle.nbt_text.specs.Number.{SpellsNumber}
use Rattle.nbt_text.proofs.AddressText.{address_text-from_first, from_first, from_second, from_third, joined_octets, octet_lt}
use Rattle.nbt_text.proofs.NameText.{HasNo-component, HasNo-prefixed, IsTail-labels, component_is_one, dotted, sixteen_is_one, split_is_one}
use Rattle.nbt_store.specs.declared.change.Change.{Change}
use Rattle.nbt_store.specs.declared.form.Form.{Form}
use Rattle.nbt_store.specs.declared.form.Form.TheVariants.{Two, Three}
use Rattle.nbt_store.specs.declared.header.Head.{Head}
use Rattle.nbt_store.specs.declared.header.Header.{Header}
use Rattle.nbt_store.specs.declared.verb.Verb.{Verb}
use Rattle.nbt_store.specs.declared.verb.Verb.TheVariants.{Began, Moved, Released, Reached, Looked}
use Rattle.nbt_store.specs.Boot.{SpellsBoot}
use Rattle.nbt_store.specs.Checksum.{checksum}
use Rattle.nbt_store.specs.Forms.{chained, version}
use Rattle.nbt_store.specs.Lines.{AreRecords, IsFile, IsHead, SpellsHead}
use Rattle.nbt_store.specs.Records.{IsRecord, Makes, Says, says, SaysOf, verb_word}
use Rattle.nbt_store.specs.Words.{NoMore, Then, SpellsHost, SpellsKind, SpellsNone, end_of, kind_word}
use Rattle.nbt_store.proofs.Saying.{SpellNine, head_from}
use Rattle.nbt_store.proofs.Seals.{same_body}

-- what is spelled is one value
abbrev IsOne : {W A : Type 0} → (W → A → Type 0) → Type 0
IsOne {W = W} {A = A} Spell = (word : W) (x y : A) → Spell word x → Spell word y → x ≡ y

-- ---- words

number_one : IsOne SpellsNumber
number_one word x y s t = s.1 ∙ sym t.1

boot_one : IsOne SpellsBoot
boot_one word x y s t = s.0 ∙ sym t.0

none_one : IsOne SpellsNone
none_one word x y s t = refl

kind_of : List ℕ → Kind
kind_of word = if nat_eq (length word) 6 then Unique else Group

kind_back : (kind : Kind) → kind_of (kind_word kind) ≡ kind
unfolding kind_of
kind_back Unique = refl
kind_back Group = refl

kind_one : IsOne SpellsKind
kind_one word x y s t = sym (kind_back x) ∙ ap kind_of (sym s ∙ t) ∙ kind_back y

sixteen_no_dot : (component octets : List ℕ) → Sixteen component octets → HasNo dot component
sixteen_no_dot _ _ (filled_up octets stands few) k h = (stands.plain k h).2
sixteen_no_dot _ _ (in_32_digits digits octets decoded sixteen) k h = HasNo-prefixed digits octets decoded k h

labels_one : (a b x y : List ℕ) → Labels a x → Labels b y → a ≡ b → x ≡ y
labels_one _ _ _ _ no_label no_label e = refl
labels_one _ _ _ _ no_label (label c o r s spells low high labels) e = absurd cc
labels_one _ _ _ _ (label c o r s spells low high labels) no_label e = absurd cc
labels_one _ _ _ _ (label c o r s spells low high labels) (label d p q t others few most behind) e =
    let rest : c ++ r ≡ d ++ q = cc in
    let same = split_is_one c d r q (HasNo-component c o spells) (HasNo-component d p others) (IsTail-labels r s labels) (IsTail-labels q t behind) rest in
    let octets : o ≡ p = component_is_one d o p (subst (λ (w : List ℕ). Component w o) same.0 spells) others in
    let scopes : s ≡ t = labels_one r q s t labels behind same.1 in
    rw (octets, scopes) refl

name_one : IsOne SpellsName
name_one word x y s t =
    let same = split_is_one s.first t.first s.rest t.rest (sixteen_no_dot s.first x.octets s.sixteen) (sixteen_no_dot t.first y.octets t.sixteen) (IsTail-labels s.rest x.scope s.labels) (IsTail-labels t.rest y.scope t.labels) (sym s.text_is ∙ t.text_is) in
    let octets : x.octets ≡ y.octets = sixteen_is_one t.first x.octets y.octets (subst (λ (w : List ℕ). Sixteen w x.octets) same.0 s.sixteen) t.sixteen in
    let scopes : x.scope ≡ y.scope = labels_one s.rest t.rest x.scope y.scope s.labels t.labels same.1 in
    ap (λ (o : List ℕ). record { octets = o; scope = x.scope }) octets ∙ ap (λ (l : List ℕ). record { octets = y.octets; scope = l }) scopes

-- ---- hosts

by_index : IsNumeralModel (λ ds. (i : ℕ) → i < length ds → IsInRange 48 57 (get_or ds i 0)) (digits_value 10)
by_index = numerals_by_value (λ ds. (i : ℕ) → i < length ds → IsInRange 48 57 (get_or ds i 0)) tells_by_index

decimal_no_dot : (n : ℕ) → n < 256 → HasNo dot (decimal n)
decimal_no_dot n h = not_in_digits by_index (decimal n) 46 (digits_decimal by_index n (omega (arith, h))) (λ r. omega (arith, r))

octet_one : (m n : ℕ) (x y : List ℕ) → m < 256 → n < 256 → decimal m ++ (46 ∷ x) ≡ decimal n ++ (46 ∷ y) → (m ≡ n) × (x ≡ y)
octet_one m n x y hm hn e =
    let same = split_is_one (decimal m) (decimal n) (46 ∷ x) (46 ∷ y) (decimal_no_dot m hm) (decimal_no_dot n hn) (dotted x) (dotted y) e in
    let behind = same.1 in
    (decimal_injective m n (omega (arith, hm)) (omega (arith, hn)) same.0, cc)

host_one : IsOne SpellsHost
host_one word x y s t =
    let whole : from_first (end_of x) ≡ from_first (end_of y) = sym (address_text-from_first (end_of x)) ∙ sym s.text_is ∙ t.text_is ∙ address_text-from_first (end_of y) in
    let mine = octet_lt x s.ip_fits in
    let other = octet_lt y t.ip_fits in
    let one = octet_one (x / 2 ^ 24) (y / 2 ^ 24) (from_second (end_of x)) (from_second (end_of y)) mine.0 other.0 whole in
    let two = octet_one (x / 2 ^ 16 % 256) (y / 2 ^ 16 % 256) (from_third (end_of x)) (from_third (end_of y)) mine.1 other.1 one.1 in
    let three = octet_one (x / 2 ^ 8 % 256) (y / 2 ^ 8 % 256) _ _ mine.2 other.2 two.1 in
    let last : x % 256 ≡ y % 256 = decimal_injective (x % 256) (y % 256) (omega (arith, mine.3)) (omega (arith, other.3)) (append_cancel_right (decimal (x % 256)) (decimal (y % 256)) (58 ∷ decimal 137) three.1) in
    sym (joined_octets x s.ip_fits) ∙ rw (one.0, two.0, three.0, last) (joined_octets y t.ip_fits)

-- ---- words one after the other

no_more_one : IsOne NoMore
no_more_one words x y s t = refl

pair_one : {A B : Type 0} (a c : A) (b d : B) → a ≡ c → b ≡ d → ◌≡◌ {A = A × B} (a, b) (c, d)
pair_one a c b d front behind = rw (front, behind) refl

then_one : {A B : Type 0} (One : List ℕ → A → Type 0) (Others : List (List ℕ) → B → Type 0) → IsOne One → IsOne Others → IsOne (Then One Others)
then_one One Others one others words x y s t =
    let same = sym s.words_are ∙ t.words_are in
    let word : s.word ≡ t.word = cc in
    let rest : s.rest ≡ t.rest = cc in
    let front = one t.word x.0 y.0 (subst (λ w. One w x.0) word s.one) t.one in
    let behind = others t.rest x.1 y.1 (subst (λ ws. Others ws x.1) rest s.others) t.others in
    pair_one x.0 y.0 x.1 y.1 front behind

number_then : {B : Type 0} (Others : List (List ℕ) → B → Type 0) → IsOne Others → IsOne (Then SpellsNumber Others)
number_then Others others = then_one SpellsNumber Others number_one others

makes_one : {A : Type 0} (Spell : List (List ℕ) → A → Type 0) (make : A → Change) → IsOne Spell → IsOne (Makes Spell make)
makes_one Spell make one words c d s t = s.change_is ∙ ap make (one words s.values t.values s.spelled t.spelled) ∙ sym t.change_is

-- ---- lines

verb_of : List ℕ → Verb
verb_of word =
    if nat_eq (get_or word 2 0) 0x67 then Began else if nat_eq (get_or word 2 0) 0x76 then Moved else if nat_eq (get_or word 2 0) 0x6C then Released else if nat_eq (get_or word 2 0) 0x61 then Reached else Looked

verb_back : (verb : Verb) → verb_of (verb_word verb) ≡ verb
unfolding verb_of
verb_back Began = refl
verb_back Moved = refl
verb_back Released = refl
verb_back Reached = refl
verb_back Looked = refl

after_verb_one : (form : Form) (verb : Verb) → IsOne (SaysOf form verb)
after_verb_one Three Began = makes_one _ _ (then_one _ _ name_one (then_one _ _ host_one (then_one _ _ none_one (then_one _ _ kind_one (number_then _ (number_then _ no_more_one))))))
after_verb_one Three Moved = makes_one _ _ (then_one _ _ name_one (then_one _ _ host_one (number_then _ (number_then _ no_more_one))))
after_verb_one Three Released = makes_one _ _ (then_one _ _ name_one (then_one _ _ host_one (number_then _ no_more_one)))
after_verb_one Three Reached = makes_one _ _ (number_then _ no_more_one)
after_verb_one Three Looked = makes_one _ _ (number_then _ (number_then _ no_more_one))
after_verb_one Two Began = makes_one _ _ (then_one _ _ name_one (then_one _ _ host_one (then_one _ _ kind_one (number_then _ no_more_one))))
after_verb_one Two Moved = makes_one _ _ (then_one _ _ name_one (then_one _ _ host_one (number_then _ no_more_one)))
after_verb_one Two Released = makes_one _ _ (then_one _ _ name_one (then_one _ _ host_one no_more_one))
after_verb_one Two Reached = λ words c d s t. absurd s
after_verb_one Two Looked = λ words c d s t. absurd s

says_both : (form : Form) (a b : List (List ℕ)) (c d : Change) → Says form a c → Says form b d → a ≡ b → c ≡ d
says_both form _ _ c d (says v rest _ s) (says w others _ t) e =
    let words : verb_word v ≡ verb_word w = cc in
    let behind : rest ≡ others = cc in
    let verbs : v ≡ w = sym (verb_back v) ∙ ap verb_of words ∙ verb_back w in
    after_verb_one form w others c d (subst (λ (x : Verb). SaysOf form x others c) verbs (subst (λ (ws : List (List ℕ)). SaysOf form v ws c) behind s)) t

record_one : (form : Form) (sum : ℕ) (line : List ℕ) (c d : Change) (next end : ℕ) → IsRecord form sum line c next → IsRecord form sum line d end → (c ≡ d) × (next ≡ end)
record_one form sum line c d next end s t =
    let body : s.body ≡ t.body = same_body (chained form sum) line s.body t.body s.line_is t.line_is in
    (says_both form (words_of s.body) (words_of t.body) c d s.words_say t.words_say (ap words_of body), s.next_is ∙ ap (checksum (chained form sum)) body ∙ sym t.next_is)

records_one : (form : Form) (sum : ℕ) (lines : List (List ℕ)) (cs ds : List Change) (last end : ℕ) → AreRecords form sum lines cs last → AreRecords form sum lines ds end → (cs ≡ ds) × (last ≡ end)
records_one form sum [] [] [] last end s t = (refl, s ∙ sym t)
records_one form sum [] [] (d ∷ ds) last end s t = absurd t
records_one form sum [] (c ∷ cs) ds last end s t = absurd s
records_one form sum (line ∷ lines) [] ds last end s t = absurd s
records_one form sum (line ∷ lines) (c ∷ cs) [] last end s t = absurd t
records_one form sum (line ∷ lines) (c ∷ cs) (d ∷ ds) last end s t =
    let here = record_one form sum line c d s.0 t.0 s.1 t.1 in
    let behind = records_one form t.0 lines cs ds last end (subst (λ (n : ℕ). AreRecords form n lines cs last) here.1 s.2) t.2 in
    (ap (λ (x : Change). x ∷ cs) here.0 ∙ ap (λ (xs : List Change). d ∷ xs) behind.0, behind.1)

nine_one : IsOne SpellNine
nine_one = number_then _ (number_then _ (number_then _ (then_one _ _ boot_one (number_then _ (number_then _ (number_then _ (number_then _ (number_then _ no_more_one))))))))

head_one : (line : List ℕ) (head other : Head) (sum next : ℕ) → IsHead line head sum → IsHead line other next → (head ≡ other) × (sum ≡ next)
head_one line head other sum next s t =
    let body : s.body ≡ t.body = same_body 0 line s.body t.body s.line_is t.line_is in
    let mine : SpellsHead (words_of t.body) head = subst (λ (b : List ℕ). SpellsHead (words_of b) head) body s.words_say in
    (mine.head_is ∙ ap head_from (nine_one (words_of t.body) mine.values t.words_say.values mine.spelled t.words_say.spelled) ∙ sym t.words_say.head_is, s.next_is ∙ ap (checksum 0) body ∙ sym t.next_is)

form_of : List ℕ → Form
form_of line = if nat_eq (get_or line 20 0) 0x32 then Two else Three

form_back : (form : Form) → form_of (version form) ≡ form
unfolding form_of
form_back Two = refl
form_back Three = refl

-- ---- files

pub file_one : (octets : List ℕ) (form other : Form) (h g : Header) (cs ds : List Change) (last end : ℕ) → IsFile octets form h cs last → IsFile octets other g ds end → (form ≡ other) × (h ≡ g) × (cs ≡ ds) × (last ≡ end)
file_one octets form other h g cs ds last end f k =
    let s = f.lines in
    let t = k.lines in
    let same : version form ∷ s.line ∷ s.records ≡ version other ∷ t.line ∷ t.records = sym s.lines_are ∙ t.lines_are in
    let versions : version form ≡ version other = cc in
    let lines : s.line ≡ t.line = cc in
    let records : s.records ≡ t.records = cc in
    let forms : form ≡ other = sym (form_back form) ∙ ap form_of versions ∙ form_back other in
    let heads = head_one t.line (record { header = h; leases = f.leases }) (record { header = g; leases = k.leases }) s.sum t.sum (subst (λ (l : List ℕ). IsHead l (record { header = h; leases = f.leases }) s.sum) lines s.head_is) t.head_is in
    let moved : AreRecords other t.sum t.records cs last = subst (λ (x : Form). AreRecords x t.sum t.records cs last) forms (subst (λ (n : ℕ). AreRecords form n t.records cs last) heads.1 (subst (λ (ls : List (List ℕ)). AreRecords form s.sum ls cs last) records s.records_are)) in
    let changes = records_one other t.sum t.records cs ds last end moved t.records_are in
    (forms, ap (λ (x : Head). x.header) heads.0, changes.0, changes.1)
