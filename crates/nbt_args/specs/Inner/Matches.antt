-- What clap found of a command's arguments.
use Rattle.std.specs.Prelude.{◌≡◌, ◌⊎◌, ℕ, List, [], Bool, Option, true, false, None, Some, codes}
use Rattle.std.specs.Option.{unwrap_or, option_map}
use Rattle.clap.specs.Words.{first_value, found_of, matched_of, one_text, raw_values}
use Rattle.clap.specs.declared.parser.matches.ArgMatches.{ArgMatches}

-- the first text of the argument with this name, if it has one
abbrev pub value_of : ArgMatches → List ℕ → Option (List ℕ)
value_of matches name = first_value (found_of matches) name

-- that text, or none
abbrev pub argument_of : ArgMatches → List ℕ → List ℕ
argument_of matches name = unwrap_or (value_of matches name) []

-- all texts of it, in order
abbrev pub arguments_of : ArgMatches → List ℕ → List (List ℕ)
arguments_of matches name = unwrap_or (option_map raw_values (matched_of (found_of matches) name)) []

-- the option with this name was given, or was not
abbrev pub IsFlag : ArgMatches → List ℕ → Bool → Type 0
IsFlag matches name true = one_text (found_of matches) name ≡ Some (codes "true")
IsFlag matches name false = (one_text (found_of matches) name ≡ Some (codes "false")) ⊎ (one_text (found_of matches) name ≡ None)

-- a flag tells whether that option was given
abbrev pub Tells : ArgMatches → List ℕ → Bool → Type 0
Tells matches name flag = (IsFlag matches name true → flag ≡ true) × (IsFlag matches name false → flag ≡ false)

-- the number of turns; there is none under --forever
abbrev pub TellsTurns : ArgMatches → Option (List ℕ) → Type 0
TellsTurns matches turns = (IsFlag matches (codes "forever") true → turns ≡ None)
    × (IsFlag matches (codes "forever") false → turns ≡ Some (argument_of matches (codes "turns")))
