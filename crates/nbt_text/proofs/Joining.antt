-- Texts written one after another.
use Rattle.std.proofs.Common.{◌≡◌, ◌++◌, ℕ, List, Result, Ok, Err, append_assoc}
use Rattle.std.specs.Prelude.{OnOk}

pub OnOk-map : {E A B : Type 0} (r : Result (Unit {0}) E) → OnOk r A → (A → B) → OnOk r B
OnOk-map (Ok u) h f = f h
OnOk-map (Err e) h f = tt

pub four_parts : (old a b c d one two three new : List ℕ) → one ≡ old ++ a → two ≡ one ++ b → three ≡ two ++ c → new ≡ three ++ d → new ≡ old ++ (a ++ b ++ c ++ d)
four_parts old a b c d one two three new e f g h = rw (h, g, f, e) (simp append_assoc)

pub two_parts : (old mid new a b : List ℕ) → mid ≡ old ++ a → new ≡ mid ++ b → new ≡ old ++ (a ++ b)
two_parts old mid new a b e f = rw (f, e) (append_assoc old a b)

pub three_parts : (old a b c one two new : List ℕ) → one ≡ old ++ a → two ≡ one ++ b → new ≡ two ++ c → new ≡ old ++ (a ++ b ++ c)
three_parts old a b c one two new e f g = rw (g, f, e) (simp append_assoc)

pub five_parts : (old a b c d e one two three four new : List ℕ) → one ≡ old ++ a → two ≡ one ++ b → three ≡ two ++ c → four ≡ three ++ d → new ≡ four ++ e → new ≡ old ++ (a ++ b ++ c ++ d ++ e)
five_parts old a b c d e one two three four new f g h i j = rw (j, i, h, g, f) (simp append_assoc)
