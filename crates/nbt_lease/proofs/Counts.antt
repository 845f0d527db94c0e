-- How many leases live over all names is determined by the leases of each name.
use Rattle.std.proofs.Common.{◌≡◌, ℕ, suc, ◌+◌, ◌<◌, true, false, List, [], ◌∷◌, ◌++◌, sym, ap, ◌∙◌, subst, ⊎_elim, ◌≤◌, length, arith}
use Rattle.nbt_lease.proofs.Common.{cases_Bool, cond-true, cond-false, lt-ltb, append-nil, NameValue, same_name, Lease, Rows, Leases, is_live, leases_at, at_name, length-filter, count_by-le-length}
use Rattle.nbt_lease.specs.Lease.{live_count}
use Rattle.nbt_name.proofs.Same.{same_name-true, same_name-same, same_name-turned}
use Rattle.nbt_lease.proofs.Rows.{row_lives, row_of_other, row_over, count_lives, count_over, none_live, none_count, leases_at-append, live_count-append, same_leases}

-- The rows without the first live one of a name.
record Without (m : ℕ) (rows : Rows) (name : NameValue) (rest : List Lease) : Type 0 where
  others : Rows
  here : leases_at m others name ≡ rest
  elsewhere : (q : NameValue) → same_name name q ≡ false → leases_at m others q ≡ leases_at m rows q
  one_less : live_count m rows ≡ suc (live_count m others)

-- after a row that is over
behind_over : (m : ℕ) (row : NameValue × Lease) (rows : Rows) (name : NameValue) (rest : List Lease) → is_live m row.1 ≡ false → Without m rows name rest → Without m (row ∷ rows) name rest
behind_over m row rows name rest over w = record {
  others = w.others;
  here = w.here;
  elsewhere = λ q apart. w.elsewhere q apart ∙ sym (row_over m row rows q over);
  one_less = count_over m row rows over ∙ w.one_less;
}

-- after a row of another name
behind_other : (m : ℕ) (row : NameValue × Lease) (rows : Rows) (name : NameValue) (rest : List Lease) → same_name row.0 name ≡ false → Without m rows name rest → Without m (row ∷ rows) name rest
behind_other m row rows name rest other w =
    ⊎_elim
    (λ live. record {
      others = row ∷ w.others;
      here = row_of_other m row w.others name other ∙ w.here;
      elsewhere = λ q apart.
          ⊎_elim
          (λ named. row_lives m row w.others q named live ∙ (ap (λ (xs : List Lease). row.1 ∷ xs) (w.elsewhere q apart) ∙ sym (row_lives m row rows q named live)))
          (λ unnamed. row_of_other m row w.others q unnamed ∙ (w.elsewhere q apart ∙ sym (row_of_other m row rows q unnamed)))
          (cases_Bool (same_name row.0 q));
      one_less = count_lives m row rows live ∙ ap suc (w.one_less ∙ sym (count_lives m row w.others live));
    })
    (λ over. behind_over m row rows name rest over w)
    (cases_Bool (is_live m row.1))

-- the row itself
at_front : (m : ℕ) (row : NameValue × Lease) (rows : Rows) (name : NameValue) (lease : Lease) (rest : List Lease) → same_name row.0 name ≡ true → is_live m row.1 ≡ true → leases_at m (row ∷ rows) name ≡ lease ∷ rest → Without m (row ∷ rows) name rest
at_front m row rows name lease rest named live stands = record {
  others = rows;
  here =
      let joined : row.1 ∷ leases_at m rows name ≡ lease ∷ rest = sym (row_lives m row rows name named live) ∙ stands in
      cc;
  elsewhere = λ q apart. sym (row_of_other m row rows q (ap (λ (n : NameValue). same_name n q) (same_name-true row.0 name named) ∙ apart));
  one_less = count_lives m row rows live;
}

without : (m : ℕ) (rows : Rows) (name : NameValue) (lease : Lease) (rest : List Lease) → leases_at m rows name ≡ lease ∷ rest → Without m rows name rest
without m [] name lease rest stands = let empty = none_live m name in absurd cc
without m (row ∷ rows) name lease rest stands =
    ⊎_elim
    (λ named.
    ⊎_elim
    (λ live. at_front m row rows name lease rest named live stands)
    (λ over. behind_over m row rows name rest over (without m rows name lease rest (sym (row_over m row rows name over) ∙ stands)))
    (cases_Bool (is_live m row.1)))
    (λ other. behind_other m row rows name rest other (without m rows name lease rest (sym (row_of_other m row rows name other) ∙ stands)))
    (cases_Bool (same_name row.0 name))

none_counted : (m : ℕ) (rows : Rows) → ((q : NameValue) → leases_at m rows q ≡ []) → live_count m rows ≡ 0
none_counted m [] none = none_count m
none_counted m (row ∷ rows) none =
    ⊎_elim
    (λ live. let stands = row_lives m row rows row.0 (same_name-same row.0) live in let empty = none row.0 in absurd cc)
    (λ over. count_over m row rows over ∙ none_counted m rows (λ q. sym (row_over m row rows q over) ∙ none q))
    (cases_Bool (is_live m row.1))

same_count_of : (m : ℕ) (a b : Rows) → ((q : NameValue) → leases_at m a q ≡ leases_at m b q) → live_count m a ≡ live_count m b
same_count_of m [] b same = none_count m ∙ sym (none_counted m b (λ q. sym (same q) ∙ none_live m q))
same_count_of m (row ∷ rows) b same =
    ⊎_elim
    (λ live.
    let w : Without m b row.0 (leases_at m rows row.0) = without m b row.0 row.1 (leases_at m rows row.0) (sym (same row.0) ∙ row_lives m row rows row.0 (same_name-same row.0) live) in
    count_lives m row rows live ∙ (ap suc (same_count_of m rows w.others (λ q.
    ⊎_elim
    (λ named. subst (λ (n : NameValue). leases_at m rows n ≡ leases_at m w.others n) (same_name-true row.0 q named) (sym w.here))
    (λ other. sym (row_of_other m row rows q other) ∙ (same q ∙ sym (w.elsewhere q other)))
    (cases_Bool (same_name row.0 q)))) ∙ sym w.one_less))
    (λ over. count_over m row rows over ∙ same_count_of m rows b (λ q. sym (row_over m row rows q over) ∙ same q))
    (cases_Bool (is_live m row.1))

pub same_count : (m : ℕ) (a b : Rows) → leases_at m a ≡ leases_at m b → live_count m a ≡ live_count m b
same_count m a b same = same_count_of m a b (λ q. ap (λ (f : Leases). f q) same)

-- ---- a lease that goes last

pub last_at : (m : ℕ) (name : NameValue) (lease : Lease) (rows : Rows) → m < lease.end → leases_at m (rows ++ (name, lease) ∷ []) ≡ at_name name (leases_at m rows name ++ lease ∷ []) (leases_at m rows)
last_at m name lease rows live =
    let row : NameValue × Lease = (name, lease) in
    let lives : is_live m lease ≡ true = lt-ltb m lease.end live in
    same_leases (leases_at m (rows ++ row ∷ [])) (at_name name (leases_at m rows name ++ lease ∷ []) (leases_at m rows))
    (λ q. leases_at-append m rows (row ∷ []) q ∙
    ⊎_elim
    (λ named. ap (λ (xs : List Lease). leases_at m rows q ++ xs) (row_lives m row [] q named lives ∙ ap (λ (xs : List Lease). lease ∷ xs) (none_live m q))
    ∙ (ap (λ (n : NameValue). leases_at m rows n ++ lease ∷ []) (sym (same_name-true name q named)) ∙ sym (cond-true (same_name q name) (leases_at m rows name ++ lease ∷ []) (leases_at m rows q) (ap (λ (n : NameValue). same_name n name) (sym (same_name-true name q named)) ∙ same_name-same name))))
    (λ other. ap (λ (xs : List Lease). leases_at m rows q ++ xs) (row_of_other m row [] q other ∙ none_live m q) ∙ (append-nil (leases_at m rows q)
    ∙ sym (cond-false (same_name q name) (leases_at m rows name ++ lease ∷ []) (leases_at m rows q) (same_name-turned name q other))))
    (cases_Bool (same_name name q)))

pub one_more : (m : ℕ) (name : NameValue) (lease : Lease) (a b : Rows) → m < lease.end → leases_at m b ≡ at_name name (leases_at m a name ++ lease ∷ []) (leases_at m a) → live_count m b ≡ live_count m a + 1
one_more m name lease a b live after =
    same_count m b (a ++ (name, lease) ∷ []) (after ∙ sym (last_at m name lease a live))
    ∙ (live_count-append m a ((name, lease) ∷ []) ∙ ap (λ (n : ℕ). live_count m a + n) (count_lives m (name, lease) [] (lt-ltb m lease.end live) ∙ ap suc (none_count m)))

pub live_at_most : (m : ℕ) (rows : Rows) → live_count m rows ≤ length rows
unfolding live_count
live_at_most m rows = omega (arith, length-filter (λ (r : NameValue × Lease). is_live m r.1) rows, count_by-le-length (λ (r : NameValue × Lease). is_live m r.1) rows)
