use Rattle.std.proofs.Common.{◌≡◌, ℕ, List, Option, None, Result, Ok, Err}
use Rattle.std.specs.Prelude.{MatchResult}
use Rattle.std.specs.Result.{result_ok}
use Rattle.std.specs.Str.{IsUtf8}
use Rattle.std.specs.Str.Parse.{AllDigits}
use Rattle.std.proofs.lemmas.Fmt.{IsAscii-from_digits}
use Rattle.std.proofs.lemmas.Str.{IsUtf8-from_ascii}
use Rattle.nbt_text.specs.Number.{SpellsNumber}
use Rattle.nbt_text.proofs.number.parse_number.Goals as goal

-- digits are UTF-8
not_digits : {A E : Type 0} (P : A → Type 0) (Q : E → Type 0) (text : List ℕ) (r : Result A E) (o : Option A) → MatchResult r P (λ e. ¬ (IsUtf8 text) × Q e) → o ≡ result_ok r → o ≡ None
    → AllDigits 10 text → ⊥
not_digits P Q text (Ok s) o h e none digits = cc
not_digits P Q text (Err f) o h e none digits = h.0 (IsUtf8-from_ascii text (IsAscii-from_digits text digits))

pub returns-in_err-ok : goal.returns-in_err-ok
returns-in_err-ok c = λ n. (
  λ e. absurd cc,
  λ (s : SpellsNumber c.args.text.now n). absurd (not_digits _ _ c.args.text.now c.from_utf8.result c.ok.result c.from_utf8.ensures.cases c.ok.ensures.value c.in_err-ok.was s.0.1),
)
