-- The lines of a file that have their end: what a cut, a line more and a reading line by line make of them.
use Rattle.std.proofs.Common.{◌≡◌, ◌∙◌, ℕ, zero, suc, ◌+◌, ◌-◌, ◌<◌, ◌≤◌, ◌==◌, List, [], ◌∷◌, ◌++◌, length, take, inl, inr, ap, sym, subst, refl, append_assoc, append-nil, arith, lit<}
use Rattle.std.proofs.lemmas.Bool.{cases_Bool, ne_eqb, cond-true, cond-false}
use Rattle.std.proofs.lemmas.List.{length-append, length-take, take_all, take-append-le}
use Rattle.nbt_text.specs.Lines.{line_feed, newline, one_line, HasNo}
use Rattle.nbt_store.specs.declared.change.Change.{Change}
use Rattle.nbt_store.specs.declared.header.Head.{Head}
use Rattle.nbt_store.specs.declared.header.Header.{Header}
use Rattle.nbt_store.specs.declared.fault.Fault.TheVariants.{Damaged}
use Rattle.nbt_store.specs.declared.form.Form.{Form}
use Rattle.nbt_store.specs.declared.form.Form.TheVariants.{Three}
use Rattle.nbt_store.specs.declared.reading.Progress.{Progress}
use Rattle.nbt_store.specs.declared.times.Times.{Times}
use Rattle.nbt_store.specs.Changes.{MayLeave, after, after_all, no_leases}
use Rattle.nbt_store.specs.Checksum.{checksum}
use Rattle.nbt_store.specs.Forms.{version}
use Rattle.nbt_store.specs.Lines.{in_front, whole_lines, IsLine, IsClosed, AreRecords, AreBefore, AllStand, StandsIn, IsNone, HaveLines, IsFile, IsHead, HasFault, bad_record, no_lease, cut_off, line_number}
use Rattle.nbt_store.specs.Times.{first_times, times_after, times_after_all}
use Rattle.nbt_store.proofs.Seals.{same_body}
use Rattle.std.specs.Prelude.{◌⊎◌}
use Rattle.std.specs.List.{IsDistinct}
use Rattle.std.specs.Map.{keys_of}
use Rattle.nbt_name.specs.Wire.{same_name}
use Rattle.nbt_lease.specs.Lease.{Leases, Rows}
use Rattle.nbt_lease.specs.Inner.Index.{Entries, members_of, rows_of}
use Rattle.nbt_store.specs.declared.fault.ReadFault.{ReadFault}
use Rattle.nbt_store.specs.declared.fault.ReadFault.TheVariants as read
use Rattle.nbt_store.specs.Records.{IsRecord}
use Rattle.nbt_store.specs.Loading.{AreRowsOf}
use Rattle.nbt_store.specs.Reading.{HaveRead, HasFront, IsLoaded, IsBadHere, IsBadLine, IsBadRest, IsRefused, counted}
use Rattle.nbt_store.proofs.Members.{changes_append, rows_of_changes}

-- ---- a line that has no line feed

HasNo-rest : (m x : ℕ) (xs : List ℕ) → HasNo m (x ∷ xs) → HasNo m xs
HasNo-rest m x xs h k i = h (suc k) (omega arith)

other_front : (x : ℕ) (xs : List ℕ) → (x ≡ line_feed → ⊥) → whole_lines (x ∷ xs) ≡ in_front x (whole_lines xs)
other_front x xs h = cond-false (x == line_feed) _ _ (ne_eqb x line_feed h)

-- the first line
pub first_line : (a b : List ℕ) → HasNo line_feed a → whole_lines (a ++ line_feed ∷ b) ≡ a ∷ whole_lines b
first_line [] b h = refl
first_line (x ∷ a) b h = other_front x (a ++ line_feed ∷ b) (h 0 (omega arith)) ∙ ap (in_front x) (first_line a b (HasNo-rest line_feed x a h))

-- a torn line is none
pub torn_line : (a : List ℕ) → HasNo line_feed a → whole_lines a ≡ []
torn_line [] h = refl
torn_line (x ∷ a) h = other_front x a (h 0 (omega arith)) ∙ ap (in_front x) (torn_line a (HasNo-rest line_feed x a h))

pub line_has_no_feed : (line : List ℕ) → IsLine line → HasNo line_feed line
line_has_no_feed [] h k i = absurd (omega arith)
line_has_no_feed (x ∷ line) h zero i = λ e. omega (arith, h.0, e)
line_has_no_feed (x ∷ line) h (suc k) i = line_has_no_feed line h.1 k (omega arith)

-- ---- behind a line's end

-- something is in front
in_front_append : (x : ℕ) (a b : List (List ℕ)) → 0 < length a → in_front x (a ++ b) ≡ in_front x a ++ b
in_front_append x [] b h = absurd (omega arith)
in_front_append x (l ∷ a) b h = refl

in_front_some : (x : ℕ) (a : List (List ℕ)) → 0 < length a → 0 < length (in_front x a)
in_front_some x [] h = h
in_front_some x (l ∷ a) h = omega arith

some_lines : (a : List ℕ) → 0 < length (whole_lines (a ++ newline))
some_lines [] = lit< tt
some_lines (x ∷ a) = elim (cases_Bool (x == line_feed)) [
  | inl t ↦ rw (cond-true (x == line_feed) ([] ∷ whole_lines (a ++ newline)) (in_front x (whole_lines (a ++ newline))) t) (omega arith)
  | inr f ↦ rw (cond-false (x == line_feed) ([] ∷ whole_lines (a ++ newline)) (in_front x (whole_lines (a ++ newline))) f) (in_front_some x (whole_lines (a ++ newline)) (some_lines a))
]

behind_feed : (a b : List ℕ) → whole_lines ((a ++ newline) ++ b) ≡ whole_lines (a ++ newline) ++ whole_lines b
behind_feed [] b = refl
behind_feed (x ∷ a) b = elim (cases_Bool (x == line_feed)) [
  | inl t ↦ cond-true (x == line_feed) _ _ t ∙ ap (λ (ls : List (List ℕ)). [] ∷ ls) (behind_feed a b) ∙ sym (ap (λ (ls : List (List ℕ)). ls ++ whole_lines b) (cond-true (x == line_feed) ([] ∷ whole_lines (a ++ newline)) (in_front x (whole_lines (a ++ newline))) t))
  | inr f ↦ cond-false (x == line_feed) _ _ f ∙ ap (in_front x) (behind_feed a b) ∙ in_front_append x (whole_lines (a ++ newline)) (whole_lines b) (some_lines a)
      ∙ sym (ap (λ (ls : List (List ℕ)). ls ++ whole_lines b) (cond-false (x == line_feed) ([] ∷ whole_lines (a ++ newline)) (in_front x (whole_lines (a ++ newline))) f))
]

pub behind_closed : (a b : List ℕ) → IsClosed a → whole_lines (a ++ b) ≡ whole_lines a ++ whole_lines b
behind_closed a b (front, is) = subst (λ (x : List ℕ). whole_lines (x ++ b) ≡ whole_lines x ++ whole_lines b) (sym is) (behind_feed front b)

pub one_line_is : (line : List ℕ) → IsLine line → whole_lines (one_line line) ≡ line ∷ []
one_line_is line h = first_line line [] (line_has_no_feed line h)

pub closed_by : (a line : List ℕ) → IsClosed (a ++ one_line line)
closed_by a line = (a ++ line, sym (append_assoc a line newline))

-- ---- cut anywhere, the lines that are whole are the first ones

take_in_front : (x j : ℕ) (ls : List (List ℕ)) → in_front x (take j ls) ≡ take j (in_front x ls)
take_in_front x zero [] = refl
take_in_front x zero (l ∷ ls) = refl
take_in_front x (suc j) [] = refl
take_in_front x (suc j) (l ∷ ls) = refl

size_in_front : (x : ℕ) (ls : List (List ℕ)) → length (in_front x ls) ≡ length ls
size_in_front x [] = refl
size_in_front x (l ∷ ls) = refl

pub cut_lines : (k : ℕ) (xs : List ℕ) → whole_lines (take k xs) ≡ take (length (whole_lines (take k xs))) (whole_lines xs)
cut_lines zero [] = refl
cut_lines zero (x ∷ xs) = refl
cut_lines (suc k) [] = refl
cut_lines (suc k) (x ∷ xs) = elim (cases_Bool (x == line_feed)) [
  | inl t ↦
      let here : whole_lines (take (suc k) (x ∷ xs)) ≡ [] ∷ whole_lines (take k xs) = cond-true (x == line_feed) _ _ t in
      let all : whole_lines (x ∷ xs) ≡ [] ∷ whole_lines xs = cond-true (x == line_feed) _ _ t in
      here ∙ ap (λ (ls : List (List ℕ)). [] ∷ ls) (cut_lines k xs) ∙ sym (ap (λ (ls : List (List ℕ)). take (length ls) (whole_lines (x ∷ xs))) here ∙ ap (take (suc (length (whole_lines (take k xs))))) all)
  | inr f ↦
      let here : whole_lines (take (suc k) (x ∷ xs)) ≡ in_front x (whole_lines (take k xs)) = cond-false (x == line_feed) _ _ f in
      let all : whole_lines (x ∷ xs) ≡ in_front x (whole_lines xs) = cond-false (x == line_feed) _ _ f in
      let size : length (whole_lines (take (suc k) (x ∷ xs))) ≡ length (whole_lines (take k xs)) = ap length here ∙ size_in_front x (whole_lines (take k xs)) in
      here ∙ ap (in_front x) (cut_lines k xs) ∙ take_in_front x (length (whole_lines (take k xs))) (whole_lines xs)
      ∙ sym (ap (λ (n : ℕ). take n (whole_lines (x ∷ xs))) size ∙ ap (take (length (whole_lines (take k xs)))) all)
]

-- what is longer has no fewer lines
pub more_lines : (a b : List ℕ) → length (whole_lines a) ≤ length (whole_lines (a ++ b))
more_lines [] b = omega arith
more_lines (x ∷ a) b = elim (cases_Bool (x == line_feed)) [
  | inl t ↦ omega (arith, ap length (cond-true (x == line_feed) ([] ∷ whole_lines a) (in_front x (whole_lines a)) t), ap length (cond-true (x == line_feed) ([] ∷ whole_lines (a ++ b)) (in_front x (whole_lines (a ++ b))) t), more_lines a b)
  | inr f ↦ omega (arith, ap length (cond-false (x == line_feed) ([] ∷ whole_lines a) (in_front x (whole_lines a)) f), ap length (cond-false (x == line_feed) ([] ∷ whole_lines (a ++ b)) (in_front x (whole_lines (a ++ b))) f), size_in_front x (whole_lines a), size_in_front x (whole_lines (a ++ b)), more_lines a b)
]

-- ---- records

pub as_many : (form : Form) (sum last : ℕ) (ls : List (List ℕ)) (cs : List Change) → AreRecords form sum ls cs last → length ls ≡ length cs
as_many form sum last [] [] h = refl
as_many form sum last (l ∷ ls) (c ∷ cs) h = ap suc (as_many form h.0 last ls cs h.2)
as_many form sum last [] (c ∷ cs) h = absurd h
as_many form sum last (l ∷ ls) [] h = absurd h

pub first_records : (form : Form) (sum last j : ℕ) (ls : List (List ℕ)) (cs : List Change) → AreRecords form sum ls cs last → (end : ℕ) × AreRecords form sum (take j ls) (take j cs) end
first_records form sum last zero [] [] h = (sum, refl)
first_records form sum last zero (l ∷ ls) (c ∷ cs) h = (sum, refl)
first_records form sum last zero (l ∷ ls) [] h = absurd h
first_records form sum last zero [] (c ∷ cs) h = absurd h
first_records form sum last (suc j) [] [] h = (sum, refl)
first_records form sum last (suc j) (l ∷ ls) (c ∷ cs) h = let rest = first_records form h.0 last j ls cs h.2 in (rest.0, (h.0, h.1, rest.1))
first_records form sum last (suc j) [] (c ∷ cs) h = absurd h
first_records form sum last (suc j) (l ∷ ls) [] h = absurd h

pub one_more_record : (form : Form) (sum last next : ℕ) (ls : List (List ℕ)) (line : List ℕ) (cs : List Change) (c : Change) → AreRecords form sum ls cs last → IsRecord form last line c next → AreRecords form sum (ls ++ line ∷ []) (cs ++ c ∷ []) next
one_more_record form sum last next [] line [] c h is = (next, subst (λ (s : ℕ). IsRecord form s line c next) h is, refl)
one_more_record form sum last next (l ∷ ls) line (x ∷ cs) c h is = (h.0, h.1, one_more_record form h.0 last next ls line cs c h.2 is)
one_more_record form sum last next [] line (x ∷ cs) c h is = absurd h
one_more_record form sum last next (l ∷ ls) line [] c h is = absurd h

one_more_stands : (form : Form) (cs : List Change) (c : Change) (leases : Leases) → AllStand form cs leases → StandsIn form c (after_all cs leases) → AllStand form (cs ++ c ∷ []) leases
one_more_stands form [] c leases h stands = (stands, tt)
one_more_stands form (x ∷ cs) c leases h stands = (h.0, one_more_stands form cs c (after x leases) h.1 stands)

-- ---- files

pub one_more_line : (octets line : List ℕ) (form : Form) (head : Head) (cs : List Change) (c : Change) (last next : ℕ) → HaveLines octets form head cs last → IsClosed octets → IsLine line → IsRecord form last line c next → HaveLines (octets ++ one_line line) form head (cs ++ c ∷ []) next
one_more_line octets line form head cs c last next lines closed is says = record {
  line = lines.line;
  sum = lines.sum;
  records = lines.records ++ line ∷ [];
  lines_are = behind_closed octets (one_line line) closed ∙ ap (λ (ls : List (List ℕ)). whole_lines octets ++ ls) (one_line_is line is) ∙ ap (λ (ls : List (List ℕ)). ls ++ line ∷ []) lines.lines_are;
  head_is = lines.head_is;
  records_are = one_more_record form lines.sum last next lines.records line cs c lines.records_are says;
}

pub one_more_change : (octets line : List ℕ) (h : Header) (cs : List Change) (c : Change) (sum next : ℕ) → IsFile octets Three h cs sum → IsClosed octets → IsLine line → IsRecord Three sum line c next → IsFile (octets ++ one_line line) Three h (cs ++ c ∷ []) next
one_more_change octets line h cs c sum next file closed is says = record {
  leases = file.leases;
  lines = one_more_line octets line Three _ cs c sum next file.lines closed is says;
  enough = let few = file.enough in let size = length-append cs (c ∷ []) in omega arith;
}

-- cut where the first two lines are whole, it has the lines of the first changes
cut_file : (octets : List ℕ) (form : Form) (head : Head) (cs : List Change) (last k n : ℕ) → HaveLines octets form head cs last → length (whole_lines (take k octets)) ≡ suc (suc n) → (end : ℕ) × HaveLines (take k octets) form head (take n cs) end
cut_file octets form head cs last k n lines size =
    let first = first_records form lines.sum last n lines.records cs lines.records_are in (
      first.0,
      record {
        line = lines.line;
        sum = lines.sum;
        records = take n lines.records;
        lines_are = cut_lines k octets ∙ ap (λ (m : ℕ). take m (whole_lines octets)) size ∙ ap (take (suc (suc n))) lines.lines_are;
        head_is = lines.head_is;
        records_are = first.1;
      },
    )

one_longer : (a b : ℕ) → suc a + b ≡ suc (a + b)
one_longer a b = omega arith

behind_front : (xs ys : List ℕ) (j : ℕ) → take (length xs + j) (xs ++ ys) ≡ xs ++ take j ys
behind_front [] ys j = ap (λ (m : ℕ). take m ys) (omega arith)
behind_front (x ∷ xs) ys j = ap (λ (m : ℕ). take m ((x ∷ xs) ++ ys)) (one_longer (length xs) j) ∙ ap (λ (zs : List ℕ). x ∷ zs) (behind_front xs ys j)

file_size : (octets : List ℕ) (form : Form) (head : Head) (cs : List Change) (last : ℕ) → HaveLines octets form head cs last → length (whole_lines octets) ≡ length cs + 2
file_size octets form head cs last lines = let many = as_many form lines.sum last lines.records cs lines.records_are in omega (arith, ap length lines.lines_are, many)

-- the second line, if there is one
abbrev second_of : List (List ℕ) → List ℕ
second_of [] = []
second_of (first ∷ []) = []
second_of (first ∷ second ∷ lines) = second

two_more : (n : ℕ) → n + 2 ≡ suc (suc n)
two_more n = omega arith

-- what grew has the second line that it had
same_line : (octets more : List ℕ) (form : Form) (old now : Head) (kept all : List Change) (last end : ℕ) → (was : HaveLines octets form old kept last) → (is : HaveLines (octets ++ more) form now all end) → was.line ≡ is.line
same_line octets more form old now kept all last end was is =
    let whole : take (length octets) (octets ++ more) ≡ octets = take-append-le (length octets) octets more (omega arith) ∙ take_all (length octets) octets (omega arith) in
    let cut : whole_lines octets ≡ take (length (whole_lines octets)) (whole_lines (octets ++ more)) = subst (λ (xs : List ℕ). whole_lines xs ≡ take (length (whole_lines xs)) (whole_lines (octets ++ more))) whole (cut_lines (length octets) (octets ++ more)) in
    let size : length (whole_lines octets) ≡ suc (suc (length kept)) = file_size octets form old kept last was ∙ two_more (length kept) in
    sym (ap second_of was.lines_are) ∙ ap second_of (cut ∙ ap (λ (m : ℕ). take m (whole_lines (octets ++ more))) size ∙ ap (take (suc (suc (length kept)))) is.lines_are)

-- one line has one checksum
one_sum : (line : List ℕ) (head other : Head) (sum last : ℕ) → IsHead line head sum → IsHead line other last → IsHead line other sum
one_sum line head other sum last is was = record { body = was.body; line_is = was.line_is; words_say = was.words_say; next_is = is.next_is ∙ ap (checksum 0) (same_body 0 line is.body was.body is.line_is was.line_is) }

-- the same lines, with what else the second of them says
with_head : (octets : List ℕ) (form : Form) (head other : Head) (cs : List Change) (last sum : ℕ) → (lines : HaveLines octets form head cs last) → IsHead lines.line other sum → HaveLines octets form other cs last
with_head octets form head other cs last sum lines is = record { line = lines.line; sum = lines.sum; records = lines.records; lines_are = lines.lines_are; head_is = one_sum lines.line head other lines.sum sum lines.head_is is; records_are = lines.records_are }

-- of a file that grew, what a crash leaves has the changes that were there
pub after_crash : (octets more : List ℕ) (h : Header) (kept all : List Change) (sum last k : ℕ) → IsFile octets Three h kept sum → IsFile (octets ++ more) Three h all last → length octets ≤ k
    → (left : List Change) × (end : ℕ) × IsFile (take k (octets ++ more)) Three h left end × MayLeave all (length kept) left
after_crash octets more h kept all sum last k before now low =
    let n : ℕ = length (whole_lines (take k (octets ++ more))) - 2 in
    let parts : take k (octets ++ more) ≡ octets ++ take (k - length octets) more = ap (λ (m : ℕ). take m (octets ++ more)) (omega arith) ∙ behind_front octets more (k - length octets) in
    let many : length (whole_lines octets) ≤ length (whole_lines (take k (octets ++ more))) = subst (λ (xs : List ℕ). length (whole_lines octets) ≤ length (whole_lines xs)) (sym parts) (more_lines octets (take (k - length octets) more)) in
    let few : length (whole_lines (take k (octets ++ more))) ≤ length (whole_lines (octets ++ more)) = omega (arith, ap length (cut_lines k (octets ++ more)), length-take (length (whole_lines (take k (octets ++ more)))) (whole_lines (octets ++ more))) in
    let was = file_size octets Three _ kept sum before.lines in
    let is = file_size (octets ++ more) Three _ all last now.lines in
    let first : Head = record { header = h; leases = before.leases } in
    let lines = with_head (octets ++ more) Three _ first all last before.lines.sum now.lines (subst (λ (line : List ℕ). IsHead line first before.lines.sum) (same_line octets more Three _ _ kept all sum last before.lines now.lines) before.lines.head_is) in
    let enough = before.enough in
    let taken = length-take n all in
    let cut = cut_file (octets ++ more) Three first all last k n lines (omega arith) in
    (take n all, cut.0, record { leases = before.leases; lines = cut.1; enough = omega arith }, record { count = n; at_least = omega arith; at_most = omega arith; left_is = refl })

-- ---- line by line

pub none_read : (form : Form) (first : Progress) (all : List (List ℕ)) (made : Leases) → first.count ≡ 0 → made ≡ no_leases → HaveRead form first.sum first.times all all made first
none_read form first all made empty none = record { before = []; changes = []; lines_are = refl; before_are = record { records_are = refl; stand = tt }; made_is = none; times_are = refl; count_is = empty }

times_append : (cs : List Change) (c : Change) (times : Times) → times_after_all (cs ++ c ∷ []) times ≡ times_after c (times_after_all cs times)
times_append [] c times = refl
times_append (x ∷ cs) c times = times_append cs c (times_after x times)

pub one_more_read : (form : Form) (sum : ℕ) (first : Times) (all left more : List (List ℕ)) (line : List ℕ) (old new : Leases) (now next : Progress) (c : Change) → HaveRead form sum first all left old now → left ≡ line ∷ more → IsRecord form now.sum line c next.sum → StandsIn form c old
    → new ≡ after c old → next.times ≡ times_after c now.times → next.count ≡ counted (now.count + 1) → HaveRead form sum first all more new next
one_more_read form sum first all left more line old new now next c have is says stands made times counts = record {
  before = have.before ++ line ∷ [];
  changes = have.changes ++ c ∷ [];
  lines_are = have.lines_are ∙ ap (λ (ls : List (List ℕ)). have.before ++ ls) is ∙ sym (append_assoc have.before (line ∷ []) more);
  before_are = record {
    records_are = one_more_record form sum now.sum next.sum have.before line have.changes c have.before_are.records_are says;
    stand = one_more_stands form have.changes c no_leases have.before_are.stand (subst (λ (l : Leases). StandsIn form c l) have.made_is stands);
  };
  made_is = made ∙ ap (after c) have.made_is ∙ sym (changes_append have.changes (c ∷ []) no_leases);
  times_are = times ∙ ap (times_after c) have.times_are ∙ sym (times_append have.changes c first);
  count_is = let was = have.count_is in let size = length-append have.before (line ∷ []) in counts ∙ omega arith;
}

pub all_read : (form : Form) (sum : ℕ) (first : Times) (all left : List (List ℕ)) (made : Leases) (now : Progress) → HaveRead form sum first all left made now → left ≡ []
    → (cs : List Change) × AreBefore form sum all cs now.sum × (now.count ≡ counted (length cs)) × (now.times ≡ times_after_all cs first) × (made ≡ after_all cs no_leases)
all_read form sum first all left made now have none = (
  have.changes,
  subst (λ (ls : List (List ℕ)). AreBefore form sum ls have.changes now.sum) (sym (have.lines_are ∙ ap (λ (ls : List (List ℕ)). have.before ++ ls) none ∙ append-nil have.before)) have.before_are,
  have.count_is ∙ ap counted (as_many form sum now.sum have.before have.changes have.before_are.records_are),
  have.times_are,
  have.made_is,
)

-- a line that can't be read, behind those that were
pub bad_behind : (form : Form) (sum : ℕ) (first : Times) (all left behind : List (List ℕ)) (bad : List ℕ) (made : Leases) (now : Progress) (e : ReadFault) → HaveRead form sum first all left made now → left ≡ bad ∷ behind → IsBadHere form now bad made e → IsBadLine form sum all e
bad_behind form sum first all left behind bad made now read.Memory have is here = tt
bad_behind form sum first all left behind bad made now (read.File fault) have is here = record {
  before = have.before;
  bad = bad;
  behind = behind;
  changes = have.changes;
  last = now.sum;
  lines_are = have.lines_are ∙ ap (λ (ls : List (List ℕ)). have.before ++ ls) is;
  before_are = have.before_are;
  none_is = subst (λ (l : Leases). IsNone form now.sum bad ⊎ ((c : Change) × (next : ℕ) × IsRecord form now.sum bad c next × ¬ StandsIn form c l)) have.made_is here.0;
  fault_is = here.1 ∙ ap Damaged (let was = have.count_is in omega arith);
}

pub front_is : (octets first behind second rest : List ℕ) (form : Form) (head : Head) (sum : ℕ) → whole_lines octets ≡ first ∷ whole_lines behind → first ≡ version form → whole_lines behind ≡ second ∷ whole_lines rest → IsHead second head sum → HasFront octets form head sum rest
front_is octets first behind second rest form head sum one is two says = record { line = second; lines_are = one ∙ ap (λ (l : List ℕ). l ∷ whole_lines behind) is ∙ ap (λ (ls : List (List ℕ)). version form ∷ ls) two; head_is = says }

front_lines : (octets rest : List ℕ) (form : Form) (head : Head) (cs : List Change) (sum last : ℕ) → HasFront octets form head sum rest → AreRecords form sum (whole_lines rest) cs last → HaveLines octets form head cs last
front_lines octets rest form head cs sum last front are = record { line = front.line; sum = sum; records = whole_lines rest; lines_are = front.lines_are; head_is = front.head_is; records_are = are }

-- the lines of changes behind the first two
pub file_loaded : (octets rest : List ℕ) (form : Form) (head : Head) (cs : List Change) (sum last : ℕ) (es : Entries) (times : Times) (rows : Rows) → HasFront octets form head sum rest → AreBefore form sum (whole_lines rest) cs last → head.leases ≤ length cs
    → times ≡ times_after_all cs (first_times head.header) → members_of es ≡ after_all cs no_leases → IsDistinct same_name (keys_of es) → rows ≡ rows_of es → IsLoaded octets form head.header times rows
file_loaded octets rest form head cs sum last es times rows front are enough until made distinct is = record {
  changes = cs;
  last = last;
  file = record { leases = head.leases; lines = front_lines octets rest form head cs sum last front are.records_are; enough = enough };
  stand = are.stand;
  times_are = until;
  rows_are = subst (λ (xs : Rows). AreRowsOf xs (after_all cs no_leases)) (sym is) (rows_of_changes es cs no_leases distinct made);
}

pub bad_rest_refused : (octets rest : List ℕ) (form : Form) (head : Head) (sum : ℕ) (e : ReadFault) → HasFront octets form head sum rest → IsBadRest form sum (whole_lines rest) head.leases e → IsRefused octets e
bad_rest_refused octets rest form head sum read.Memory front bad = tt
bad_rest_refused octets rest form head sum (read.File fault) front (inl bad) = subst (HasFault octets) (sym bad.fault_is) (by_line bad.none_is)
  where
    lines : whole_lines octets ≡ version form ∷ front.line ∷ (bad.before ++ bad.bad ∷ bad.behind)
    lines = front.lines_are ∙ ap (λ (ls : List (List ℕ)). version form ∷ front.line ∷ ls) bad.lines_are

    by_line : IsNone form bad.last bad.bad ⊎ ((c : Change) × (next : ℕ) × IsRecord form bad.last bad.bad c next × ¬ StandsIn form c (after_all bad.changes no_leases)) → HasFault octets (Damaged (line_number (length bad.before)))
    by_line (inl none) = bad_record form front.line head sum bad.before bad.behind bad.changes bad.last bad.bad lines front.head_is bad.before_are none
    by_line (inr n) = no_lease form front.line head sum bad.before bad.behind bad.changes bad.last bad.bad n.0 n.1 lines front.head_is bad.before_are n.2 n.3
bad_rest_refused octets rest form head sum (read.File fault) front (inr short) =
    subst (HasFault octets) (sym short.fault_is) (cut_off form head short.changes short.last (front_lines octets rest form head short.changes sum short.last front short.lines_are.records_are) short.lines_are.stand short.few)
