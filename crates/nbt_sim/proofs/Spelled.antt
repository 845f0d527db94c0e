-- What words spell: nodes, ends, addresses, numbers.
use Rattle.std.proofs.Common.{◌≡◌, ◌≢◌, ◌∙◌, rules, ℕ, suc, ◌+◌, ◌^◌, ◌<◌, ◌≤◌, ◌/◌, ◌%◌, List, [], ◌∷◌, ◌++◌, length, get_or, Option, Some, None, Result, Ok, Err, ap, sym, subst, refl, append_assoc, arith, codes, lit<}
use Rattle.std.specs.Prelude.{◌↔◌, MatchResult, IsSome, IfSome}
use Rattle.std.specs.Result.{OkIff, result_ok}
use Rattle.std.specs.Str.{IsAscii, IsUtf8}
use Rattle.std.proofs.lemmas.Fmt.{decimal_digit, IsAscii-decimal}
use Rattle.std.proofs.lemmas.List.{append-nil}
use Rattle.std.proofs.lemmas.Str.{IsAscii-append, IsUtf8-from_ascii}
use denote.Ref.{Bor}
use Rattle.arrayvec.specs.ArrayVec.{ArrayVec}
use Rattle.nbt_name.specs.declared.addr.Addr.{Addr}
use Rattle.nbt_text.specs.Address.{SpellsAddress, address_text}
use Rattle.nbt_text.specs.Texts.{texts}
use Rattle.nbt_text.specs.Number.{SpellsNumber}
use Rattle.nbt_sim.proofs.Texts.{count_texts}
use Rattle.nbt_sim.specs.Arguments.{SpellsNumbers, no_more, one_more, SpellsMoves}
use Rattle.nbt_sim.specs.Words.{SpellsNode, SpellsEnd, the_server, a_node, SpellsSeconds, SpellsMoment}

-- ---- nodes and ends

pub node_word : (word : List ℕ) (n : ℕ) → SpellsNode word n → word ≡ 110 ∷ (48 + n) ∷ []
node_word word n s = let few = s.few in s.word_is ∙ ap (λ ds. 110 ∷ ds) (decimal_digit n (omega (arith, few)))

pub node_spelled : (word : List ℕ) (digit n : ℕ) → word ≡ 110 ∷ digit ∷ [] → 49 ≤ digit → digit ≤ 56 → digit ≡ 48 + n → SpellsNode word n
node_spelled word digit n e low high is = record {
  some = omega arith;
  few = omega arith;
  word_is = e ∙ ap (λ d. 110 ∷ d ∷ []) is ∙ sym (ap (λ ds. 110 ∷ ds) (decimal_digit n (omega arith)));
}

pub no_node : (word : List ℕ) (n : ℕ) → ¬ SpellsNode word n → (◌≡◌ {A = Option ℕ} None (Some n)) ↔ SpellsNode word n
no_node word n none = (λ e. absurd cc, λ s. absurd (none s))

server_only : (word : List ℕ) (n : ℕ) → word ≡ codes "s" → SpellsEnd word n → n ≡ 0
server_only _ _ e the_server = refl
server_only _ _ e (a_node word n s) = let w = node_word word n s in let l : length word ≡ 2 = ap length w in let one : length word ≡ 1 = ap length e in absurd (omega arith)

node_only : (word : List ℕ) (n : ℕ) → word ≢ codes "s" → SpellsEnd word n → SpellsNode word n
node_only _ _ other the_server = absurd (other refl)
node_only _ _ other (a_node word n s) = s

pub one_node : (word : List ℕ) (digit r n : ℕ) → word ≡ 110 ∷ digit ∷ [] → 49 ≤ digit → digit ≤ 56 → digit ≡ 48 + r → (◌≡◌ {A = Option ℕ} (Some r) (Some n)) ↔ SpellsNode word n
one_node word digit r n e low high is = (
  λ same. let number : r ≡ n = cc in rw (← number) (node_spelled word digit r e low high is),
  λ s.
      let w = node_word word n s in
      let same : digit ≡ 48 + n = ap (λ (x : List ℕ). get_or x 1 0) (sym e ∙ w) in
      let number : r ≡ n = omega arith in ap Some number,
)

pub end_server : (word : List ℕ) (n : ℕ) → word ≡ codes "s" → (◌≡◌ {A = Option ℕ} (Some 0) (Some n)) ↔ SpellsEnd word n
end_server word n e = (
  λ same. let zero_is : 0 ≡ n = cc in rw (e, ← zero_is) the_server,
  λ s. ap Some (sym (server_only word n e s)),
)

pub end_node : (word : List ℕ) (r : Option ℕ) (n : ℕ) → word ≢ codes "s" → ((m : ℕ) → (r ≡ Some m) ↔ SpellsNode word m) → (r ≡ Some n) ↔ SpellsEnd word n
end_node word r n other reads = (λ e. a_node word n ((reads n).0 e), λ s. (reads n).1 (node_only word n other s))

-- ---- addresses

octet_fits : (ip : ℕ) → ip < 2 ^ 32 → (ip / 2 ^ 24 < 2 ^ 64) × (ip / 2 ^ 16 % 256 < 2 ^ 64) × (ip / 2 ^ 8 % 256 < 2 ^ 64) × (ip % 256 < 2 ^ 64)
octet_fits ip h = (omega arith, omega arith, omega arith, omega arith)

mark_IsAscii : (m : ℕ) → m < 128 → IsAscii (m ∷ [])
mark_IsAscii m h = search rules

IsAscii-address : (a : Addr) → a.ip < 2 ^ 32 → a.port < 2 ^ 16 → IsAscii (address_text a)
IsAscii-address a h p =
    let fit = octet_fits a.ip h in
    let dot = mark_IsAscii 46 (lit< tt) in
    let colon = mark_IsAscii 58 (lit< tt) in
    let port : a.port < 2 ^ 64 = omega arith in
    IsAscii-append _ _ (IsAscii-append _ _ (IsAscii-append _ _ (IsAscii-append _ _ (IsAscii-append _ _ (IsAscii-append _ _ (IsAscii-append _ _ (IsAscii-append _ _
    (IsAscii-decimal _ fit.0) dot) (IsAscii-decimal _ fit.1)) dot) (IsAscii-decimal _ fit.2)) dot) (IsAscii-decimal _ fit.3)) colon) (IsAscii-decimal _ port)

-- an address is text
pub no_address : {A E : Type 0} (P : A → Type 0) (Q : E → Type 0) (word : List ℕ) (r : Result A E) (o : Option A) (a : Addr) → MatchResult r P (λ e. ¬ (IsUtf8 word) × Q e) → o ≡ result_ok r → o ≡ None
    → ¬ SpellsAddress word a
no_address P Q word (Ok s) o a h e none spelled = cc
no_address P Q word (Err f) o a h e none spelled = h.0 (IsUtf8-from_ascii word (rw (spelled.text_is) (IsAscii-address a spelled.ip_fits spelled.port_fits)))

-- ---- numbers

abbrev ReadsNumber : List ℕ → Option ℕ → Type 0
ReadsNumber word r = (n : ℕ) → (r ≡ Some n) ↔ SpellsNumber word n

pub no_moment : (word : List ℕ) (numbers r : Option ℕ) (n : ℕ) → ReadsNumber word numbers → numbers ≡ None → r ≡ None → (r ≡ Some n) ↔ SpellsMoment word n
no_moment word numbers r n reads none nothing = (λ e. absurd cc, λ s. let there = (reads n).1 s.number in absurd cc)

pub one_moment : (word : List ℕ) (numbers r : Option ℕ) (x n : ℕ) → ReadsNumber word numbers → numbers ≡ Some x → (IsSome r ↔ (x ≤ 2 ^ 60)) → IfSome r (λ m. m ≡ x) → (r ≡ Some n) ↔ SpellsMoment word n
one_moment word numbers None x n reads some found value = (λ e. absurd cc, λ s. let there = (reads n).1 s.number in let same : x ≡ n = cc in let fits = s.fits in let bad = found.1 (omega arith) in absurd (search rules))
one_moment word numbers (Some m) x n reads some found value = (
  λ e. let same : x ≡ n = cc in let there : IsSome (Some m) = search rules in let low = found.0 there in record { number = (reads n).0 (rw (← same) some); fits = omega arith },
  λ s. let there = (reads n).1 s.number in cc,
)

pub no_seconds : (word : List ℕ) (numbers r : Option ℕ) (n : ℕ) → ReadsNumber word numbers → numbers ≡ None → r ≡ None → (r ≡ Some n) ↔ SpellsSeconds word n
no_seconds word numbers r n reads none nothing = (λ e. absurd cc, λ s. let there = (reads n).1 s.number in absurd cc)

pub one_number_of_seconds : (E : Type 0) (word : List ℕ) (numbers : Option ℕ) (x : ℕ) (small : Result ℕ E) (r : Option ℕ) (n : ℕ) → ReadsNumber word numbers → numbers ≡ Some x → OkIff small (x < 4294967296) x → r ≡ result_ok small
    → (r ≡ Some n) ↔ SpellsSeconds word n
one_number_of_seconds E word numbers x (Ok m) r n reads some h value = (
  λ e. let same : x ≡ n = cc in let low = h.0 in record { number = (reads n).0 (rw (← same) some); fits = omega arith },
  λ s. let there = (reads n).1 s.number in let also = h.1 in cc,
)
one_number_of_seconds E word numbers x (Err m) r n reads some h value = (
  λ e. absurd cc,
  λ s. let there = (reads n).1 s.number in let same : x ≡ n = cc in let fits = s.fits in absurd (h (omega arith)),
)

-- ---- a number for each word

-- these numbers were read, and what is left spells the others
pub record AreSpelled (left all : List (List ℕ)) (numbers : List ℕ) : Type 0 where
  pub back : (more : List ℕ) → SpellsNumbers left more → SpellsNumbers all (numbers ++ more)
  pub parts : (whole : List ℕ) → SpellsNumbers all whole → (more : List ℕ) × (whole ≡ numbers ++ more) × SpellsNumbers left more

pub none_spelled : (all : List (List ℕ)) → AreSpelled all all []
none_spelled all = record { back = λ more s. s; parts = λ whole s. (whole, refl, s) }

first_number : (word : List ℕ) (words : List (List ℕ)) (numbers : List ℕ) → SpellsNumbers (word ∷ words) numbers → (n : ℕ) × (ns : List ℕ) × (numbers ≡ n ∷ ns) × SpellsNumber word n × SpellsNumbers words ns
first_number _ _ _ (one_more word words n ns s rest) = (n, ns, refl, s, rest)

no_numbers : (numbers : List ℕ) → SpellsNumbers [] numbers → numbers ≡ []
no_numbers _ no_more = refl

pub one_spelled : (word : List ℕ) (left all : List (List ℕ)) (numbers : List ℕ) (read : Option ℕ) (n : ℕ) → AreSpelled (word ∷ left) all numbers → ReadsNumber word read → read ≡ Some n → AreSpelled left all (numbers ++ n ∷ [])
one_spelled word left all numbers read n so_far reads there = record {
  back = λ more s. subst (λ (x : List ℕ). SpellsNumbers all x) (sym (append_assoc numbers (n ∷ []) more)) (so_far.back (n ∷ more) (one_more word left n more ((reads n).0 there) s));
  parts = λ whole s.
      let p = so_far.parts whole s in
      let f = first_number word left p.0 p.2 in
      let also = (reads f.0).1 f.3 in
      let same : f.0 ≡ n = cc in
      (f.1, p.1 ∙ ap (λ (x : List ℕ). numbers ++ x) (f.2 ∙ ap (λ (x : ℕ). x ∷ f.1) same) ∙ sym (append_assoc numbers (n ∷ []) f.1), f.4);
}

pub no_number : (word : List ℕ) (left all : List (List ℕ)) (numbers : List ℕ) (read : Option ℕ) (r : Option (ArrayVec ℕ)) (m : ArrayVec ℕ) → AreSpelled (word ∷ left) all numbers → ReadsNumber word read → read ≡ None → r ≡ None
    → (r ≡ Some m) ↔ SpellsMoves all m
no_number word left all numbers read r m so_far reads none e = (
  λ there. absurd cc,
  λ s.
      let p = so_far.parts m.items s.numbers in
      let f = first_number word left p.0 p.2 in
      let also = (reads f.0).1 f.3 in absurd cc,
)

as_many : (words : List (List ℕ)) (numbers : List ℕ) → SpellsNumbers words numbers → length words ≡ length numbers
as_many _ _ no_more = refl
as_many _ _ (one_more word words n ns s rest) = ap suc (as_many words ns rest)

pub too_many : (words : List (Bor (List ℕ))) (m : ArrayVec ℕ) → 9 < length words → (◌≡◌ {A = Option (ArrayVec ℕ)} None (Some m)) ↔ SpellsMoves (texts words) m
too_many words m many = (
  λ e. absurd cc,
  λ s.
      let same : length (texts words) ≡ length m.items = as_many (texts words) m.items s.numbers in
      let count : length (texts words) ≡ length words = count_texts words in
      let few = s.few in
      absurd (omega arith),
)

pub all_spelled : (left all : List (List ℕ)) (read m : ArrayVec ℕ) → AreSpelled left all read.items → left ≡ [] → length read.items ≤ 9
    → (◌≡◌ {A = Option (ArrayVec ℕ)} (Some read) (Some m)) ↔ SpellsMoves all m
all_spelled left all read m so_far none few = (
  λ e.
      let same : read ≡ m = cc in
      let whole : SpellsNumbers all (read.items ++ []) = so_far.back [] (rw none no_more) in
      rw (← same) (record { numbers = subst (λ (x : List ℕ). SpellsNumbers all x) (append-nil read.items) whole; few = few }),
  λ s.
      let p = so_far.parts m.items s.numbers in
      let empty : p.0 ≡ [] = no_numbers p.0 (rw none at p.2) in
      let same : m.items ≡ read.items = p.1 ∙ ap (λ (x : List ℕ). read.items ++ x) empty ∙ append-nil read.items in
      ap (λ (x : List ℕ). Some (record { items = x })) (sym same),
)
