-- The line of an event of a name (our profile).
use Rattle.std.specs.Prelude.{◌≡◌, ℕ, List, ◌++◌, codes}
use Rattle.std.specs.Fmt.{decimal}
use Rattle.nbt_name.specs.Wire.{NameValue}
use Rattle.nbt_text.specs.Lines.{newline}
use Rattle.nbt_log.specs.Dates.{IsTimeText}
use Rattle.nbt_log.specs.Lines.{seconds_text, reason_text}
use Rattle.nbt_text.specs.ScopedNames.{PrintsWord}
use Rattle.nbt_host.specs.declared.event.Event.{Event}
use Rattle.nbt_host.specs.declared.event.Event.TheVariants as e

-- what stands between the time and the name
abbrev pub words_before : Event → List ℕ
words_before (e.Granted seconds) = codes " granted "
words_before (e.Untimed seconds) = codes " granted "
words_before (e.Brief seconds) = codes " granted "
words_before (e.Renewed seconds) = codes " renewed "
words_before e.Doubted = codes " refreshes "
words_before (e.Refused rcode) = codes " refused "
words_before e.AsksAgain = codes " asks again for "
words_before e.Lost = codes " lost "
words_before e.Lapsed = codes " lapsed "
words_before e.GivenBack = codes " given back "
words_before (e.Denied rcode) = codes " give-back denied "
words_before e.Unconfirmed = codes " give-back unconfirmed "
words_before e.NotHeld = codes " not held "

-- the seconds of a hold of which there is more to say
abbrev pub seconds_and : (seconds : ℕ) → List ℕ → List ℕ
seconds_and seconds more = codes " " ++ decimal seconds ++ codes " s: " ++ more ++ newline

-- what stands after the name, with the end of the line: the seconds of a hold, or an RCODE in words and as a number
abbrev pub text_after : Event → List ℕ
text_after (e.Granted seconds) = seconds_text seconds
text_after (e.Untimed seconds) = seconds_and seconds (codes "the server says no time")
text_after (e.Brief seconds) = seconds_and seconds (codes "too short to be renewed in time")
text_after (e.Renewed seconds) = seconds_text seconds
text_after e.Doubted = codes ": the server says that it isn't held" ++ newline
text_after (e.Refused rcode) = reason_text rcode
text_after (e.Denied rcode) = reason_text rcode
text_after e.AsksAgain = codes " after 5 s, 10 s .. at most 5 min" ++ newline
text_after event = newline

-- the line of an event of a name in a second since 1970
pub record IsLine (second : ℕ) (name : NameValue) (event : Event) (line : List ℕ) : Type 0 where
  pub time : List ℕ
  pub word : List ℕ
  pub time_is : IsTimeText second time
  pub word_is : PrintsWord name word
  pub line_is : line ≡ time ++ words_before event ++ word ++ text_after event
