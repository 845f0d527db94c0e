-- What is printed of names that were given back (our profile).
use Rattle.std.specs.Prelude.{◌≡◌, ℕ, Bool, false, ◌||◌, nat_eq, if◌then◌else◌, List, ◌++◌, Option, Some, None, codes}
use Rattle.nbt_text.specs.Lines.{newline}
use Rattle.nbt_log.specs.Lines.{reason_text}
use Rattle.nbt_text.specs.ScopedNames.{PrintsWord}
use Rattle.nbt_host.specs.declared.release.Release.{Release}

-- The RCODE of a server that has no such name, NAM_ERR. RFC 1002 section 4.2.11 has no word for that; Samba's server says so.
abbrev pub name_error : ℕ
name_error = 3

-- by the RCODE of the reply, if one came: what stands before the name, and what stands after it, with the end of the line
abbrev pub words_before : Option ℕ → List ℕ
words_before None = codes "no reply for "
words_before (Some rcode) = if nat_eq rcode 0 then codes "released " else if nat_eq rcode name_error then codes "not leased " else codes "refused "

abbrev pub is_gone : (rcode : ℕ) → Bool
is_gone rcode = nat_eq rcode 0 || nat_eq rcode name_error

abbrev pub text_after : Option ℕ → List ℕ
text_after None = newline
text_after (Some rcode) = if is_gone rcode then newline else reason_text rcode

-- the server confirmed that the name isn't leased to this host any more
abbrev pub is_confirmed : Release → Bool
is_confirmed r = confirms r.rcode
  where
    confirms : Option ℕ → Bool
    confirms None = false
    confirms (Some rcode) = is_gone rcode

abbrev pub IsOutcomeLine : Release → List ℕ → Type 0
IsOutcomeLine r line = (word : List ℕ) × PrintsWord r.name word × (line ≡ words_before r.rcode ++ word ++ text_after r.rcode)
