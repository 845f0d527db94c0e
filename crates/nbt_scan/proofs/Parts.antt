-- Texts written one after another.
use Rattle.std.proofs.Common.{◌≡◌, ◌++◌, ℕ, List, append_assoc}

pub seven_parts : (old a b c d e f g one two three four five six new : List ℕ) → one ≡ old ++ a → two ≡ one ++ b → three ≡ two ++ c → four ≡ three ++ d → five ≡ four ++ e → six ≡ five ++ f → new ≡ six ++ g
    → new ≡ old ++ (a ++ b ++ c ++ d ++ e ++ f ++ g)
seven_parts old a b c d e f g one two three four five six new p q r s t u v = rw (v, u, t, s, r, q, p) (simp append_assoc)

pub nine_parts : (old a b c d e f g h i one two three four five six seven eight new : List ℕ) → one ≡ old ++ a → two ≡ one ++ b → three ≡ two ++ c → four ≡ three ++ d → five ≡ four ++ e → six ≡ five ++ f → seven ≡ six ++ g
    → eight ≡ seven ++ h → new ≡ eight ++ i → new ≡ old ++ (a ++ b ++ c ++ d ++ e ++ f ++ g ++ h ++ i)
nine_parts old a b c d e f g h i one two three four five six seven eight new p q r s t u v w x = rw (x, w, v, u, t, s, r, q, p) (simp append_assoc)
