-- A sealed line has one body.
use Rattle.std.proofs.Common.{◌≡◌, ◌∙◌, ℕ, zero, suc, [], ◌∷◌, lit≤, ◌+◌, ◌<◌, List, ◌++◌, length, take, drop, sym, ap, arith}
use Rattle.std.proofs.lemmas.List.{length-append, take_at, drop_at}
use Rattle.std.specs.Prelude.{fold}
use Rattle.std.specs.Int.{w32, to_be_bytes, bytes_high_first}
use Rattle.hex.specs.Hex.{encode_lower, lower_digits}
use Rattle.nbt_name.specs.Wire.{AreOctets}
use Rattle.hex.proofs.HexLemmas.{length-encode_with}
use Rattle.nbt_store.specs.Checksum.{checksum, prime, seal_digits, sealed, with_octet}
use Rattle.nbt_store.specs.Lines.{IsLine}
use Rattle.nbt_store.proofs.WordLists.{hex_marks, line_append, marks_line}

pub seal_size : (sum : ℕ) → length (seal_digits sum) ≡ 9
seal_size sum = ap suc (length-encode_with lower_digits (to_be_bytes w32 sum))

pub sealed_size : (before : ℕ) (line body : List ℕ) → line ≡ sealed before body → length line ≡ length body + 9
sealed_size before line body e = ap length e ∙ length-append body (seal_digits (checksum before body)) ∙ ap (λ n. length body + n) (seal_size (checksum before body))

pub front_is_body : (before : ℕ) (line body : List ℕ) (at : ℕ) → line ≡ sealed before body → at + 9 ≡ length line → take at line ≡ body
front_is_body before line body at e h = let size = sealed_size before line body e in ap (take at) e ∙ take_at body (seal_digits (checksum before body)) at (omega arith)

pub back_is_seal : (before : ℕ) (line body : List ℕ) (at : ℕ) → line ≡ sealed before body → at + 9 ≡ length line → drop at line ≡ seal_digits (checksum before body)
back_is_seal before line body at e h = let size = sealed_size before line body e in ap (drop at) e ∙ drop_at body (seal_digits (checksum before body)) at (omega arith)

high_first : (k n : ℕ) → AreOctets (bytes_high_first k n)
high_first zero n i = omega arith
high_first (suc zero) n zero = omega arith
high_first (suc (suc k)) n zero = omega arith
high_first (suc k) n (suc i) = high_first k n i

pub seal_line : (sum : ℕ) → IsLine (seal_digits sum)
seal_line sum = (lit≤ tt, marks_line (encode_lower (to_be_bytes w32 sum)) (hex_marks (to_be_bytes w32 sum) (high_first 4 sum)))

pub sealed_line : (before : ℕ) (body : List ℕ) → IsLine body → IsLine (sealed before body)
sealed_line before body h = line_append body (seal_digits (checksum before body)) h (seal_line (checksum before body))

-- ---- one octet changed

step_fits : (s o : ℕ) → with_octet s o < prime
step_fits s o = omega arith

-- two sums that differ lead to two that differ
step_apart : (s t o : ℕ) → s < prime → t < prime → with_octet s o ≡ with_octet t o → s ≡ t
step_apart s t o hs ht e = omega arith

octet_apart : (s x y : ℕ) → s < prime → x < 256 → y < 256 → with_octet s x ≡ with_octet s y → x ≡ y
octet_apart s x y hs hx hy e = omega arith

pub rest_apart : (b : List ℕ) (s t : ℕ) → s < prime → t < prime → fold with_octet s b ≡ fold with_octet t b → s ≡ t
rest_apart [] s t hs ht e = e
rest_apart (o ∷ b) s t hs ht e = step_apart s t o hs ht (rest_apart b (with_octet s o) (with_octet t o) (step_fits s o) (step_fits t o) e)

changed_apart : (a b : List ℕ) (s x y : ℕ) → s < prime → x < 256 → y < 256 → fold with_octet s (a ++ x ∷ b) ≡ fold with_octet s (a ++ y ∷ b) → x ≡ y
changed_apart [] b s x y hs hx hy e = octet_apart s x y hs hx hy (rest_apart b (with_octet s x) (with_octet s y) (step_fits s x) (step_fits s y) e)
changed_apart (o ∷ a) b s x y hs hx hy e = changed_apart a b (with_octet s o) x y (step_fits s o) hx hy e

pub one_octet : (sum : ℕ) (a b : List ℕ) (x y : ℕ) → sum < prime → x < 256 → y < 256 → checksum sum (a ++ x ∷ b) ≡ checksum sum (a ++ y ∷ b) → x ≡ y
one_octet sum a b x y hs hx hy e = changed_apart a b sum x y hs hx hy e

pub one_chain : (sum other : ℕ) (octets : List ℕ) → sum < prime → other < prime → checksum sum octets ≡ checksum other octets → sum ≡ other
one_chain sum other octets hs ho e = rest_apart octets sum other hs ho e

-- ---- a line has one body

pub same_body : (before : ℕ) (line a b : List ℕ) → line ≡ sealed before a → line ≡ sealed before b → a ≡ b
same_body before line a b ea eb =
    let size = sealed_size before line a ea in
    sym (front_is_body before line a (length a) ea (omega arith)) ∙ front_is_body before line b (length a) eb (omega arith)
