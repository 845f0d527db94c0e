-- What is kept where a server's live leases are written in place of all.
use Rattle.std.proofs.Common.{◌≡◌, ℕ, true, false, List, [], ◌∷◌, ◌++◌, map, refl, sym, ap, ◌∙◌, subst, ⊎_elim, arith}
use Rattle.nbt_lease.specs.declared.lease.Lease.{Lease}
use Rattle.nbt_lease.proofs.Common.{filter, cases_Bool, cond-true, cond-false, append-nil, append_assoc, NameValue, same_name, is_live, HasNone, AreApart, at_name, Leases, Rows}
use Rattle.nbt_lease.specs.Lease.{leases_at}
use Rattle.nbt_lease.proofs.Rows.{later_is, row_lives, row_of_other, row_over, none_live}
use Rattle.nbt_name.proofs.Same.{same_name-true, same_name-same}
use Rattle.nbt_server.specs.Serving.{ServerValue}
use Rattle.nbt_store.specs.Changes.{after_all, begun_all, no_leases, without}
use Rattle.nbt_serve.specs.Changing.{IsKept}
use Rattle.nbt_serve.specs.Runs.{live_rows}
use Rattle.nbt_serve.proofs.Kept.{none_without, apart_front, apart_filtered}

-- the leases of a name among rows
abbrev named : NameValue → Rows → List Lease
named q rows = map (λ row. row.1) (filter (λ row. same_name row.0 q) rows)

named_here : (q : NameValue) (row : NameValue × Lease) (rows : Rows) → same_name row.0 q ≡ true → named q (row ∷ rows) ≡ row.1 ∷ named q rows
named_here q row rows is = rw is refl

named_other : (q : NameValue) (row : NameValue × Lease) (rows : Rows) → same_name row.0 q ≡ false → named q (row ∷ rows) ≡ named q rows
named_other q row rows is = rw is refl

turned_true : (a b : NameValue) → same_name a b ≡ true → same_name b a ≡ true
turned_true a b is = subst (λ (n : NameValue). same_name n a ≡ true) (same_name-true a b is) (same_name-same a)

turned_false : (a b : NameValue) → same_name a b ≡ false → same_name b a ≡ false
turned_false a b is = ⊎_elim (λ named. let e = turned_true b a named in absurd cc) (λ other. other) (cases_Bool (same_name b a))

-- one row more begins
one_begun : (f : Leases) (row : NameValue × Lease) (rows : Rows) → ((q : NameValue) → AreApart (f q ++ named q (row ∷ rows))) → (q : NameValue)
    → at_name row.0 (without row.1.addr (f row.0) ++ row.1 ∷ []) f q ++ named q rows ≡ f q ++ named q (row ∷ rows)
one_begun f row rows apart q =
    ⊎_elim
    (λ is.
    let same : q ≡ row.0 = same_name-true q row.0 is in
    let here : named q (row ∷ rows) ≡ row.1 ∷ named q rows = named_here q row rows (turned_true q row.0 is) in
    let none : HasNone row.1.addr (f q) = apart_front (f q) row.1 (named q rows) (subst (λ (ls : List Lease). AreApart (f q ++ ls)) here (apart q)) in
    let clean : without row.1.addr (f row.0) ≡ f q = ap (λ (n : NameValue). without row.1.addr (f n)) (sym same) ∙ none_without row.1.addr (f q) none in
    ap (λ (ls : List Lease). ls ++ named q rows) (cond-true (same_name q row.0) (without row.1.addr (f row.0) ++ row.1 ∷ []) (f q) is ∙ ap (λ (ls : List Lease). ls ++ row.1 ∷ []) clean)
    ∙ (append_assoc (f q) (row.1 ∷ []) (named q rows) ∙ ap (λ (ls : List Lease). f q ++ ls) (sym here)))
    (λ other.
    ap (λ (ls : List Lease). ls ++ named q rows) (cond-false (same_name q row.0) (without row.1.addr (f row.0) ++ row.1 ∷ []) (f q) other) ∙ ap (λ (ls : List Lease). f q ++ ls) (sym (named_other q row rows (turned_false q row.0 other))))
    (cases_Bool (same_name q row.0))

all_begun : (rows : Rows) (f : Leases) → ((q : NameValue) → AreApart (f q ++ named q rows)) → (at : ℕ) (q : NameValue) → after_all (begun_all at rows) f q ≡ f q ++ named q rows
all_begun [] f apart at q = sym (append-nil (f q))
all_begun (row ∷ rows) f apart at q =
    all_begun rows (at_name row.0 (without row.1.addr (f row.0) ++ row.1 ∷ []) f) (λ p. subst AreApart (sym (one_begun f row rows apart p)) (apart p)) at q ∙ one_begun f row rows apart q

-- of live rows
live_front : (now : ℕ) (row : NameValue × Lease) (rows : Rows) → is_live now row.1 ≡ true → filter (λ (r : NameValue × Lease). is_live now r.1) (row ∷ rows) ≡ row ∷ filter (λ (r : NameValue × Lease). is_live now r.1) rows
live_front now row rows is = rw is refl

over_front : (now : ℕ) (row : NameValue × Lease) (rows : Rows) → is_live now row.1 ≡ false → filter (λ (r : NameValue × Lease). is_live now r.1) (row ∷ rows) ≡ filter (λ (r : NameValue × Lease). is_live now r.1) rows
over_front now row rows is = rw is refl

live_named : (now : ℕ) (rows : Rows) (q : NameValue) → named q (filter (λ (row : NameValue × Lease). is_live now row.1) rows) ≡ leases_at now rows q
live_named now [] q = sym (none_live now q)
live_named now (row ∷ rows) q =
    let left : Rows = filter (λ (r : NameValue × Lease). is_live now r.1) rows in
    ⊎_elim
    (λ live.
    ⊎_elim
    (λ is. ap (named q) (live_front now row rows live) ∙ (named_here q row left is ∙ (ap (λ (ls : List Lease). row.1 ∷ ls) (live_named now rows q) ∙ sym (row_lives now row rows q is live))))
    (λ other. ap (named q) (live_front now row rows live) ∙ (named_other q row left other ∙ (live_named now rows q ∙ sym (row_of_other now row rows q other))))
    (cases_Bool (same_name row.0 q)))
    (λ over. ap (named q) (over_front now row rows over) ∙ (live_named now rows q ∙ sym (row_over now row rows q over)))
    (cases_Bool (is_live now row.1))

pub renewed_kept : (server : ServerValue) (kept : Leases) (at : ℕ) → IsKept kept server → IsKept (after_all (begun_all at (live_rows server)) no_leases) server
renewed_kept server kept at k = record { apart = λ q. subst AreApart (sym (leases_are q)) (apart q); live = λ q. ap (filter (is_live server.last)) (leases_are q) ∙ sym (later_is server.last server.last server.table.rows q (omega arith)) }
  where
    apart : (q : NameValue) → AreApart (leases_at server.last server.table.rows q)
    apart q = subst AreApart (k.live q) (apart_filtered (is_live server.last) (kept q) (k.apart q))

    leases_are : (q : NameValue) → after_all (begun_all at (live_rows server)) no_leases q ≡ leases_at server.last server.table.rows q
    leases_are q =
        all_begun (live_rows server) no_leases (λ p. subst AreApart (sym (live_named server.last server.table.rows p)) (apart p)) at q ∙ live_named server.last server.table.rows q
