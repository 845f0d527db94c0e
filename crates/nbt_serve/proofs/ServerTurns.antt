-- Turns of a server: one alone, and one after others.
use Rattle.std.proofs.Common.{◌≡◌, ℕ, ◌+◌, ◌<◌, ◌≤◌, List, [], ◌∷◌, ◌++◌, length, refl, sym, subst, arith, length-append, append_assoc, None, Some}
use Rattle.std.specs.List.{sum_by}
use Rattle.std.proofs.lemmas.List.{append-nil}
use Rattle.std.proofs.lemmas.List.Concat.{flat_map-append}
use Rattle.std.proofs.lemmas.List.Sums.{sum_by-append, sum_by-cons}
use Rattle.nbt_server.specs.Serving.{ServerValue}
use Rattle.nbt_serve.specs.declared.serving.Counts.{Counts}
use Rattle.nbt_port.specs.PortCalls.{PortCall, Chain}
use Rattle.nbt_serve.specs.Serving.{Turn, is_empty, is_taken, is_lost, Turns, acts_in, moments_in, replies_in, lost_in, counts_of, sum_of, Failure, Fails, acts_of, moments_of, Runs, Breaks}
use Rattle.nbt_port.proofs.Chains.{chain_one, chain-append}

-- one turn alone
pub runs_one : {P C : Type 0} (does : P → PortCall → P → Type 0) (tells : C → ℕ → C → Type 0) (turn : Turn) (counts : Counts) (p q : P) (c d : C) (s t : ServerValue)
    → counts ≡ counts_of (turn ∷ []) → Turns s turn t → Chain does p (acts_in turn) q → Chain tells c (moments_in turn) d → Runs does tells 1 counts p c s q d t
runs_one does tells turn counts p q c d s t counted turns did told = record {
  turns = turn ∷ [];
  server = chain_one Turns s turn t turns;
  port_did = subst (λ xs. Chain does p xs q) (sym (append-nil (acts_in turn))) did;
  clock_told = subst (λ xs. Chain tells c xs d) (sym (append-nil (moments_in turn))) told;
  count_is = refl;
  counts_are = counted;
}

-- the device fails at once
pub breaks_one : {P C : Type 0} (does : P → PortCall → P → Type 0) (tells : C → ℕ → C → Type 0) (failure : Failure) (p q : P) (c d : C) (s t : ServerValue)
    → Fails s failure t → Chain does p (acts_of failure) q → Chain tells c (moments_of failure) d → Breaks does tells 1 p c s q d t
breaks_one does tells failure p q c d s t fails did told = record {
  turns = [];
  mid = s;
  failure = failure;
  server = refl;
  fails = fails;
  port_did = did;
  clock_told = told;
  fewer = omega arith;
}

counts_of-append : (xs ys : List Turn) → counts_of (xs ++ ys) ≡ sum_of (counts_of xs) (counts_of ys)
counts_of-append xs ys = rw (length-append, sum_by-append replies_in xs ys, sum_by-append lost_in xs ys) refl

-- turns after others
pub runs_on : {P C : Type 0} (does : P → PortCall → P → Type 0) (tells : C → ℕ → C → Type 0) (m n : ℕ) (a b : Counts) (p q r : P) (c d e : C) (s t u : ServerValue)
    → Runs does tells m a p c s q d t → Runs does tells n b q d t r e u → Runs does tells (m + n) (sum_of a b) p c s r e u
runs_on does tells m n a b p q r c d e s t u x y = record {
  turns = x.turns ++ y.turns;
  server = chain-append Turns s t u x.turns y.turns x.server y.server;
  port_did = subst (λ xs. Chain does p xs r) (sym (flat_map-append acts_in x.turns y.turns)) (chain-append does p q r _ _ x.port_did y.port_did);
  clock_told = subst (λ xs. Chain tells c xs e) (sym (flat_map-append moments_in x.turns y.turns)) (chain-append tells c d e _ _ x.clock_told y.clock_told);
  count_is = rw (length-append, x.count_is, y.count_is) refl;
  counts_are = rw (x.counts_are, y.counts_are) (sym (counts_of-append x.turns y.turns));
}

-- the device fails after some turns
pub breaks_on : {P C : Type 0} (does : P → PortCall → P → Type 0) (tells : C → ℕ → C → Type 0) (m n : ℕ) (a : Counts) (p q r : P) (c d e : C) (s t u : ServerValue)
    → m < n → Runs does tells m a p c s q d t → Breaks does tells 1 q d t r e u → Breaks does tells n p c s r e u
breaks_on does tells m n a p q r c d e s t u lt x y = record {
  turns = x.turns ++ y.turns;
  mid = y.mid;
  failure = y.failure;
  server = chain-append Turns s t y.mid x.turns y.turns x.server y.server;
  fails = y.fails;
  port_did = rw (flat_map-append acts_in x.turns y.turns, append_assoc) (chain-append does p q r _ _ x.port_did y.port_did);
  clock_told = rw (flat_map-append moments_in x.turns y.turns, append_assoc) (chain-append tells c d e _ _ x.clock_told y.clock_told);
  fewer = let l = length-append x.turns y.turns in omega (arith, x.count_is, y.fewer, l);
}

at_most_one : (f : Turn → ℕ) → ((turn : Turn) → f turn ≤ 1) → (turns : List Turn) → sum_by f turns ≤ length turns
at_most_one f one [] = omega arith
at_most_one f one (x ∷ xs) = let h = sum_by-cons f x xs in let i = at_most_one f one xs in omega (arith, one x, h, i)

few_replies : (turn : Turn) → replies_in turn ≤ 1
few_replies is_empty = omega arith
few_replies (is_taken now from octets None) = omega arith
few_replies (is_taken now from octets (Some reply)) = omega arith
few_replies (is_lost now from octets) = omega arith

few_lost : (turn : Turn) → lost_in turn ≤ 1
few_lost is_empty = omega arith
few_lost (is_taken now from octets reply) = omega arith
few_lost (is_lost now from octets) = omega arith

-- what is counted is no more than the turns
pub record AreFew (count : ℕ) (counts : Counts) : Type 0 where
  pub receives : counts.receives ≡ count
  pub replies : counts.replies ≤ count
  pub lost : counts.lost ≤ count

pub counts_few : {P C : Type 0} (does : P → PortCall → P → Type 0) (tells : C → ℕ → C → Type 0) (n : ℕ) (counts : Counts) (p q : P) (c d : C) (s t : ServerValue)
    → Runs does tells n counts p c s q d t → AreFew n counts
counts_few does tells n counts p q c d s t run =
    let r = at_most_one replies_in few_replies run.turns in
    let l = at_most_one lost_in few_lost run.turns in
    let same = run.count_is in
    rw run.counts_are (record { receives = same; replies = omega (arith, r, same); lost = omega (arith, l, same) })
