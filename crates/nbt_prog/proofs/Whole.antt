-- An input that was read up to a limit that it doesn't reach.
use Rattle.std.proofs.Common.{◌≡◌, ◌≤◌, ℕ, List, [], ◌++◌, Option, Some, None, ◌∙◌, subst, arith}
use Rattle.std.specs.Prelude.{IfSome, length, take, min}
use Rattle.std.specs.Option.{option_map}
use Rattle.std.specs.Io.Take.{take_limit, take_inner, take_remaining}
use Rattle.std.specs.declared.io.traits.Take.{Take}
use Rattle.std.proofs.lemmas.List.{length-take, take_all}
use Rattle.nbt_prog.specs.Input.{IsInput}

all_taken : (octets : List ℕ) → length (take 1048577 octets) ≤ 1048576 → take 1048577 octets ≡ octets
all_taken octets short = let taken : length (take 1048577 octets) ≡ min 1048577 (length octets) = length-take 1048577 octets in
    let fits : length octets ≤ 1048577 = omega arith in
    take_all 1048577 octets fits

all_read : (known : Option (List ℕ)) (octets : List ℕ) → IfSome (option_map (take 1048577) known) (λ xs. octets ≡ xs) → length octets ≤ 1048576 → IsInput known octets
all_read None octets is short = tt
all_read (Some xs) octets is short = is ∙ all_taken xs (subst (λ (l : List ℕ). length l ≤ 1048576) is short)

pub whole : {R : Type 0} (t : Take R) (remaining : R → Option (List ℕ)) (reader : R) (before octets : List ℕ) → take_limit t ≡ 1048577 → take_inner t ≡ reader → before ≡ []
    → IfSome (take_remaining remaining t) (λ xs. octets ≡ before ++ xs) → length octets ≤ 1048576 → IsInput (remaining reader) octets
whole {R} t remaining reader before octets limit inner none bytes short =
    let limited = subst (λ (n : ℕ). IfSome (option_map (take n) (remaining t.inner)) (λ xs. octets ≡ before ++ xs)) limit bytes in
    let of_reader = subst (λ (r : R). IfSome (option_map (take 1048577) (remaining r)) (λ xs. octets ≡ before ++ xs)) inner limited in
    let alone = subst (λ (b : List ℕ). IfSome (option_map (take 1048577) (remaining reader)) (λ xs. octets ≡ b ++ xs)) none of_reader in
    all_read (remaining reader) octets alone short
