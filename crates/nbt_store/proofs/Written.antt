-- What is written says the change, or is of the header.
use Rattle.std.proofs.Common.{◌≡◌, ◌∙◌, ℕ, ◌+◌, ◌<◌, ◌^◌, List, [], ◌∷◌, ◌++◌, Result, Ok, Err, ap, sym, subst, refl, lit<, lit≤}
use Rattle.std.specs.Prelude.{codes, IfOk, OnOk}
use Rattle.std.specs.Fmt.{decimal}
use Rattle.std.proofs.lemmas.Fmt.{decimal_is_IsNumeral}
use Rattle.nbt_name.specs.Wire.{NameValue}
use Rattle.nbt_lease.specs.declared.lease.Lease.{Lease}
use Rattle.nbt_text.specs.Lines.{words as words_of, one_line}
use Rattle.nbt_text.specs.NameText.{SpellsName}
use Rattle.nbt_text.specs.Number.{SpellsNumber}
use Rattle.nbt_store.specs.declared.change.Change.{Change}
use Rattle.nbt_store.specs.declared.change.Change.TheVariants as change
use Rattle.nbt_store.specs.declared.header.Head.{Head}
use Rattle.nbt_store.specs.declared.header.Header.{Header}
use Rattle.nbt_store.specs.declared.verb.Verb.TheVariants as verbs
use Rattle.nbt_store.specs.declared.form.Form.TheVariants.{Three}
use Rattle.nbt_store.specs.Boot.{SpellsBoot}
use Rattle.nbt_store.specs.Checksum.{checksum, sealed}
use Rattle.nbt_store.specs.Forms.{version}
use Rattle.nbt_store.proofs.Seals.{sealed_line}
use Rattle.nbt_store.specs.Lines.{IsLine, IsHead, SpellsHead, HaveLines, IsClosed, whole_lines}
use Rattle.nbt_store.specs.Records.{IsRecord, Says, says}
use Rattle.nbt_store.specs.Words.{Then, SpellsHost, kind_word, none_further}
use Rattle.nbt_store.specs.Writing.{AddsWord}
use Rattle.nbt_store.proofs.WordLists.{one_word}
use Rattle.std.proofs.lemmas.List.{map-append}
use Rattle.std.specs.Prelude.{take}
use Rattle.nbt_lease.specs.Lease.{Rows}
use Rattle.nbt_store.specs.Changes.{begun_all}
use Rattle.nbt_store.proofs.WholeLines.{behind_closed, one_line_is, closed_by, one_more_line}

pub spells_number : (n : ℕ) → n < 2 ^ 64 → SpellsNumber (decimal n) n
spells_number n h = let known = decimal_is_IsNumeral n h in (known.0, sym known.1, h)

one : {A B : Type 0} (One : List ℕ → A → Type 0) (Others : List (List ℕ) → B → Type 0) (word : List ℕ) (rest : List (List ℕ)) (a : A) (b : B) → One word a → Others rest b → Then One Others (word ∷ rest) (a, b)
one One Others word rest a b p q = record { word = word; rest = rest; words_are = refl; one = p; others = q }

more_words : (old new word : List ℕ) (ws : List (List ℕ)) → AddsWord old new word → words_of old ≡ ws → words_of new ≡ ws ++ word ∷ []
more_words old new word ws adds e = adds.words_are ∙ ap (λ (xs : List (List ℕ)). xs ++ word ∷ []) e

pub began_says : (t0 t1 t2 t3 t4 t5 t6 n h e w : List ℕ) (name : NameValue) (lease : Lease) (at : ℕ) → t0 ≡ codes "began" → SpellsName n name → AddsWord t0 t1 n → SpellsHost h lease.addr → AddsWord t1 t2 h → AddsWord t2 t3 none_further → AddsWord t3 t4 (kind_word lease.kind)
    → SpellsNumber e lease.end → AddsWord t4 t5 e → SpellsNumber w at → AddsWord t5 t6 w → Says Three (words_of t6) (change.Began name lease at) × IsLine t6
began_says t0 t1 t2 t3 t4 t5 t6 n h e w name lease at is sn an sh ah af ak se ae sw aw =
    let k : List ℕ = kind_word lease.kind in
    let w0 : words_of t0 ≡ codes "began" ∷ [] = ap words_of is ∙ one_word (codes "began") (record { some = lit< tt; marks = (lit≤ tt, (lit≤ tt, (lit≤ tt, (lit≤ tt, (lit≤ tt, tt))))) }) in
    let w6 : words_of t6 ≡ codes "began" ∷ n ∷ h ∷ none_further ∷ k ∷ e ∷ w ∷ [] = more_words t5 t6 w _ aw (more_words t4 t5 e _ ae (more_words t3 t4 k _ ak (more_words t2 t3 none_further _ af (more_words t1 t2 h _ ah (more_words t0 t1 n _ an w0))))) in (
      subst (λ (ws : List (List ℕ)). Says Three ws (change.Began name lease at)) (sym w6) (says verbs.Began (n ∷ h ∷ none_further ∷ k ∷ e ∷ w ∷ []) (change.Began name lease at) (record {
        values = (name, (lease.addr, (tt, (lease.kind, (lease.end, (at, tt))))));
        spelled = one _ _ n _ name _ sn (one _ _ h _ lease.addr _ sh (one _ _ none_further _ tt _ refl (one _ _ k _ lease.kind _ refl (one _ _ e _ lease.end _ se (one _ _ w _ at tt sw refl)))));
        change_is = refl;
      })),
      aw.line (ae.line (ak.line (af.line (ah.line (an.line (subst IsLine (sym is) (lit≤ tt, (lit≤ tt, (lit≤ tt, (lit≤ tt, (lit≤ tt, tt))))))))))),
    )

pub moved_says : (t0 t1 t2 t3 t4 n h e w : List ℕ) (name : NameValue) (addr end at : ℕ) → t0 ≡ codes "moved" → SpellsName n name → AddsWord t0 t1 n → SpellsHost h addr → AddsWord t1 t2 h
    → SpellsNumber e end → AddsWord t2 t3 e → SpellsNumber w at → AddsWord t3 t4 w → Says Three (words_of t4) (change.Moved name addr end at) × IsLine t4
moved_says t0 t1 t2 t3 t4 n h e w name addr end at is sn an sh ah se ae sw aw =
    let w0 : words_of t0 ≡ codes "moved" ∷ [] = ap words_of is ∙ one_word (codes "moved") (record { some = lit< tt; marks = (lit≤ tt, (lit≤ tt, (lit≤ tt, (lit≤ tt, (lit≤ tt, tt))))) }) in
    let w4 : words_of t4 ≡ codes "moved" ∷ n ∷ h ∷ e ∷ w ∷ [] = more_words t3 t4 w _ aw (more_words t2 t3 e _ ae (more_words t1 t2 h _ ah (more_words t0 t1 n _ an w0))) in (
      subst (λ (ws : List (List ℕ)). Says Three ws (change.Moved name addr end at)) (sym w4) (says verbs.Moved (n ∷ h ∷ e ∷ w ∷ []) (change.Moved name addr end at) (record {
        values = (name, (addr, (end, (at, tt))));
        spelled = one _ _ n _ name _ sn (one _ _ h _ addr _ sh (one _ _ e _ end _ se (one _ _ w _ at tt sw refl)));
        change_is = refl;
      })),
      aw.line (ae.line (ah.line (an.line (subst IsLine (sym is) (lit≤ tt, (lit≤ tt, (lit≤ tt, (lit≤ tt, (lit≤ tt, tt))))))))),
    )

pub released_says : (t0 t1 t2 t3 n h w : List ℕ) (name : NameValue) (addr at : ℕ) → t0 ≡ codes "released" → SpellsName n name → AddsWord t0 t1 n → SpellsHost h addr → AddsWord t1 t2 h → SpellsNumber w at → AddsWord t2 t3 w
    → Says Three (words_of t3) (change.Released name addr at) × IsLine t3
released_says t0 t1 t2 t3 n h w name addr at is sn an sh ah sw aw =
    let w0 : words_of t0 ≡ codes "released" ∷ [] = ap words_of is ∙ one_word (codes "released") (record { some = lit< tt; marks = (lit≤ tt, (lit≤ tt, (lit≤ tt, (lit≤ tt, (lit≤ tt, (lit≤ tt, (lit≤ tt, (lit≤ tt, tt)))))))) }) in
    let w3 : words_of t3 ≡ codes "released" ∷ n ∷ h ∷ w ∷ [] = more_words t2 t3 w _ aw (more_words t1 t2 h _ ah (more_words t0 t1 n _ an w0)) in (
      subst (λ (ws : List (List ℕ)). Says Three ws (change.Released name addr at)) (sym w3) (says verbs.Released (n ∷ h ∷ w ∷ []) (change.Released name addr at) (record {
        values = (name, (addr, (at, tt)));
        spelled = one _ _ n _ name _ sn (one _ _ h _ addr _ sh (one _ _ w _ at tt sw refl));
        change_is = refl;
      })),
      aw.line (ah.line (an.line (subst IsLine (sym is) (lit≤ tt, (lit≤ tt, (lit≤ tt, (lit≤ tt, (lit≤ tt, (lit≤ tt, (lit≤ tt, (lit≤ tt, tt))))))))))),
    )

pub reached_says : (t0 t1 w : List ℕ) (at : ℕ) → t0 ≡ codes "reached" → SpellsNumber w at → AddsWord t0 t1 w → Says Three (words_of t1) (change.Reached at) × IsLine t1
reached_says t0 t1 w at is sw aw =
    let w0 : words_of t0 ≡ codes "reached" ∷ [] = ap words_of is ∙ one_word (codes "reached") (record { some = lit< tt; marks = (lit≤ tt, (lit≤ tt, (lit≤ tt, (lit≤ tt, (lit≤ tt, (lit≤ tt, (lit≤ tt, tt))))))) }) in
    let w1 : words_of t1 ≡ codes "reached" ∷ w ∷ [] = more_words t0 t1 w _ aw w0 in (
      subst (λ (ws : List (List ℕ)). Says Three ws (change.Reached at)) (sym w1) (says verbs.Reached (w ∷ []) (change.Reached at) (record { values = (at, tt); spelled = one _ _ w _ at tt sw refl; change_is = refl })),
      aw.line (subst IsLine (sym is) (lit≤ tt, (lit≤ tt, (lit≤ tt, (lit≤ tt, (lit≤ tt, (lit≤ tt, (lit≤ tt, tt)))))))),
    )

pub looked_says : (t0 t1 t2 d w : List ℕ) (day at : ℕ) → t0 ≡ codes "looked" → SpellsNumber d day → AddsWord t0 t1 d → SpellsNumber w at → AddsWord t1 t2 w → Says Three (words_of t2) (change.Looked day at) × IsLine t2
looked_says t0 t1 t2 d w day at is sd ad sw aw =
    let w0 : words_of t0 ≡ codes "looked" ∷ [] = ap words_of is ∙ one_word (codes "looked") (record { some = lit< tt; marks = (lit≤ tt, (lit≤ tt, (lit≤ tt, (lit≤ tt, (lit≤ tt, (lit≤ tt, tt)))))) }) in
    let w2 : words_of t2 ≡ codes "looked" ∷ d ∷ w ∷ [] = more_words t1 t2 w _ aw (more_words t0 t1 d _ ad w0) in (
      subst (λ (ws : List (List ℕ)). Says Three ws (change.Looked day at)) (sym w2) (says verbs.Looked (d ∷ w ∷ []) (change.Looked day at) (record {
        values = (day, (at, tt));
        spelled = one _ _ d _ day _ sd (one _ _ w _ at tt sw refl);
        change_is = refl;
      })),
      aw.line (ad.line (subst IsLine (sym is) (lit≤ tt, (lit≤ tt, (lit≤ tt, (lit≤ tt, (lit≤ tt, (lit≤ tt, tt)))))))),
    )

pub head_says : (t1 t2 t3 t4 t5 t6 t7 t8 t9 a b c d e f g i j : List ℕ) (h : Header) (leases : ℕ) → SpellsNumber a h.life → words_of t1 ≡ a ∷ [] → IsLine t1 → SpellsNumber b h.longest → AddsWord t1 t2 b → SpellsNumber c h.rows → AddsWord t2 t3 c
    → SpellsBoot d h.boot → AddsWord t3 t4 d → SpellsNumber e h.ahead → AddsWord t4 t5 e → SpellsNumber f h.start → AddsWord t5 t6 f → SpellsNumber g h.last → AddsWord t6 t7 g → SpellsNumber i h.day → AddsWord t7 t8 i
    → SpellsNumber j leases → AddsWord t8 t9 j → SpellsHead (words_of t9) (record { header = h; leases = leases }) × IsLine t9
head_says t1 t2 t3 t4 t5 t6 t7 t8 t9 a b c d e f g i j h leases sa w1 l1 sb ab sc ac sd ad se ae sf af sg ag si ai sj aj =
    let w9 : words_of t9 ≡ a ∷ b ∷ c ∷ d ∷ e ∷ f ∷ g ∷ i ∷ j ∷ [] = more_words t8 t9 j _ aj (more_words t7 t8 i _ ai (more_words t6 t7 g _ ag (more_words t5 t6 f _ af (more_words t4 t5 e _ ae (more_words t3 t4 d _ ad (more_words t2 t3 c _ ac (more_words t1 t2 b _ ab w1))))))) in (
      subst (λ (ws : List (List ℕ)). SpellsHead ws (record { header = h; leases = leases })) (sym w9) (record {
        values = (h.life, (h.longest, (h.rows, (h.boot, (h.ahead, (h.start, (h.last, (h.day, (leases, tt)))))))));
        spelled = one _ _ a _ h.life _ sa (one _ _ b _ h.longest _ sb (one _ _ c _ h.rows _ sc (one _ _ d _ h.boot _ sd (one _ _ e _ h.ahead _ se (one _ _ f _ h.start _ sf (one _ _ g _ h.last _ sg (one _ _ i _ h.day _ si (one _ _ j _ leases tt sj refl))))))));
        head_is = refl;
      }),
      aj.line (ai.line (ag.line (af.line (ae.line (ad.line (ac.line (ab.line l1))))))),
    )

-- the first two lines
pub front_lines : (octets line : List ℕ) (head : Head) (sum : ℕ) → IsHead line head sum → IsLine line → octets ≡ one_line (version Three) ++ one_line line → HaveLines octets Three head [] sum × IsClosed octets
front_lines octets line head sum is closed e = (
  record {
    line = line;
    sum = sum;
    records = [];
    lines_are = ap whole_lines e ∙ behind_closed (one_line (version Three)) (one_line line) (version Three, refl) ∙ ap (λ (ls : List (List ℕ)). whole_lines (one_line (version Three)) ++ ls) (one_line_is line closed);
    head_is = is;
    records_are = refl;
  },
  subst IsClosed (sym e) (closed_by (one_line (version Three)) line),
)

-- a lease more
pub lease_written : (before after : List ℕ) (head : Head) (at : ℕ) (rows : Rows) (i : ℕ) (row : NameValue × Lease) (sum next : ℕ) (line : List ℕ) → HaveLines before Three head (begun_all at (take i rows)) sum → IsClosed before → IsRecord Three sum line (change.Began row.0 row.1 at) next → IsLine line
    → after ≡ before ++ one_line line → take (i + 1) rows ≡ take i rows ++ row ∷ [] → HaveLines after Three head (begun_all at (take (i + 1) rows)) next × IsClosed after
lease_written before after head at rows i row sum next line lines closed stated is e more = (
  subst (λ (xs : List ℕ). HaveLines xs Three head (begun_all at (take (i + 1) rows)) next) (sym e)
      (subst (λ (cs : List Change). HaveLines (before ++ one_line line) Three head cs next) (sym (ap (begun_all at) more ∙ map-append (λ (r : NameValue × Lease). change.Began r.0 r.1 at) (take i rows) (row ∷ [])))
      (one_more_line before line Three head (begun_all at (take i rows)) (change.Began row.0 row.1 at) sum next lines closed is stated)),
  subst IsClosed (sym e) (closed_by before line),
)

-- the line of these words
pub record_written : (sum next : ℕ) (body out more : List ℕ) (c : Change) → Says Three (words_of body) c → IsLine body → next ≡ checksum sum body → more ≡ out ++ one_line (sealed sum body)
    → (line : List ℕ) × IsRecord Three sum line c next × IsLine line × (more ≡ out ++ one_line line)
record_written sum next body out more c say is next_is e = (sealed sum body, record { body = body; line_is = refl; words_say = say; next_is = next_is }, sealed_line sum body is, e)

pub head_written : (next : ℕ) (body out more : List ℕ) (head : Head) → SpellsHead (words_of body) head → IsLine body → next ≡ checksum 0 body → more ≡ out ++ one_line (sealed 0 body)
    → (line : List ℕ) × IsHead line head next × IsLine line × (more ≡ out ++ one_line line)
head_written next body out more head say is next_is e = (sealed 0 body, record { body = body; line_is = refl; words_say = say; next_is = next_is }, sealed_line 0 body is, e)

-- what a call appended that wrote them, where it went well
pub record_put : {E : Type 0} (sum : ℕ) (body out more : List ℕ) (c : Change) (r : Result ℕ E) → Says Three (words_of body) c → IsLine body → OnOk r (more ≡ out ++ one_line (sealed sum body)) → IfOk r (λ next. next ≡ checksum sum body)
    → IfOk r (λ next. (line : List ℕ) × IsRecord Three sum line c next × IsLine line × (more ≡ out ++ one_line line))
record_put sum body out more c (Ok next) say is e next_is = record_written sum next body out more c say is next_is e
record_put sum body out more c (Err why) say is e next_is = tt

pub head_put : {E : Type 0} (body out more : List ℕ) (head : Head) (r : Result ℕ E) → SpellsHead (words_of body) head → IsLine body → OnOk r (more ≡ out ++ one_line (sealed 0 body)) → IfOk r (λ next. next ≡ checksum 0 body)
    → IfOk r (λ next. (line : List ℕ) × IsHead line head next × IsLine line × (more ≡ out ++ one_line line))
head_put body out more head (Ok next) say is e next_is = head_written next body out more head say is next_is e
head_put body out more head (Err why) say is e next_is = tt

pub front_put : {E : Type 0} (out more : List ℕ) (head : Head) (r : Result ℕ E) → out ≡ one_line (version Three) → IfOk r (λ next. (line : List ℕ) × IsHead line head next × IsLine line × (more ≡ out ++ one_line line)) → IfOk r (HaveLines more Three head []) × OnOk r (IsClosed more)
front_put out more head (Ok next) e h = front_lines more h.0 head next h.1 h.2 (h.3 ∙ ap (λ (xs : List ℕ). xs ++ one_line h.0) e)
front_put out more head (Err why) e h = (tt, tt)
