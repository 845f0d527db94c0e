-- The line of what a server did with a datagram (our profile).
use Rattle.std.specs.Prelude.{◌≡◌, ℕ, nat_eq, Bool, if◌then◌else◌, List, [], ◌++◌, codes}
use Rattle.std.specs.Fmt.{decimal}
use Rattle.nbt_name.specs.declared.addr.Addr.{Addr}
use Rattle.nbt_name.specs.Wire.{NameValue}
use Rattle.nbt_text.specs.Address.{dotted, address_text}
use Rattle.nbt_text.specs.Lines.{newline}
use Rattle.nbt_text.specs.ScopedNames.{PrintsWord}
use Rattle.nbt_show.specs.Holders.{kind_word}
use Rattle.nbt_show.specs.Rcodes.{rcode_words}
use Rattle.nbt_log.specs.Dates.{IsTimeText}
use Rattle.nbt_server.specs.declared.outcome.Claim.{Claim}
use Rattle.nbt_server.specs.declared.outcome.Refusal.{Refusal}
use Rattle.nbt_server.specs.declared.outcome.Refusal.TheVariants as why
use Rattle.nbt_server.specs.declared.outcome.Outcome.{Outcome}
use Rattle.nbt_server.specs.declared.outcome.Outcome.TheVariants as o
use Rattle.nbt_server.specs.Outcomes.{rcode_of}
use Rattle.nbt_log.specs.declared.entry.Entry.{Entry}

-- by which machine a name is claimed, and as what, as ` 192.0.2.7 unique`
abbrev pub place : Claim → List ℕ
place claim = codes " " ++ dotted claim.addr ++ codes " " ++ kind_word claim.kind

-- What the line of a claim begins with: the time, what was done, and whose it is.
pub record IsHead (second : ℕ) (verb : List ℕ) (claim : Claim) (head : List ℕ) : Type 0 where
  pub time : List ℕ
  pub word : List ℕ
  pub time_is : IsTimeText second time
  pub word_is : PrintsWord claim.name word
  pub head_is : head ≡ time ++ verb ++ word ++ place claim

-- for how many seconds a lease is
abbrev pub seconds_part : ℕ → List ℕ
seconds_part seconds = codes " " ++ decimal seconds ++ codes " s"

-- how many lines of its kind were left out before it, if any were, and the end of the line
abbrev pub left_text : (left_out : ℕ) → List ℕ
left_text left_out = if nat_eq left_out 0 then newline else codes ", " ++ decimal left_out ++ codes " left out before" ++ newline

-- the sender
abbrev pub from_text : Addr → List ℕ
from_text from = codes " from " ++ address_text from

-- why a request was refused: in words, and the response's RCODE
abbrev pub refusal_words : Refusal → List ℕ
refusal_words why.NotOwn = codes "not its own address"
refusal_words why.Star = codes "its name begins with *"
refusal_words why.Overwrite = codes "an overwrite"
refusal_words (why.Active holder) = codes "another has it: " ++ dotted holder
refusal_words why.TableFull = codes "the table is full"
refusal_words why.GroupFull = codes "the group is full"
refusal_words why.ClientFull = codes "the client has too many names"

abbrev pub why_text : Refusal → List ℕ
why_text refusal = codes ": " ++ refusal_words refusal ++ (codes " (" ++ decimal (rcode_of refusal) ++ codes ")")

-- the lines of a lease, of a refusal, and of a lease that was released
abbrev pub IsLeaseLine : (second : ℕ) → List ℕ → Claim → (seconds left_out : ℕ) → List ℕ → Type 0
IsLeaseLine second verb claim seconds left_out line = (head : List ℕ) × IsHead second verb claim head × (line ≡ head ++ seconds_part seconds ++ left_text left_out)

abbrev pub IsRefusalLine : (second : ℕ) → List ℕ → Addr → Claim → Refusal → (left_out : ℕ) → List ℕ → Type 0
IsRefusalLine second verb from claim refusal left_out line =
    (head : List ℕ) × IsHead second verb claim head × (line ≡ head ++ from_text from ++ why_text refusal ++ left_text left_out)

abbrev pub IsReleaseLine : (second : ℕ) → Claim → (left_out : ℕ) → List ℕ → Type 0
IsReleaseLine second claim left_out line = (head : List ℕ) × IsHead second (codes " released ") claim head × (line ≡ head ++ left_text left_out)

-- the line of a request for a name that came during the silence
pub record IsUnansweredLine (second : ℕ) (from : Addr) (name : NameValue) (left_out : ℕ) (line : List ℕ) : Type 0 where
  pub time : List ℕ
  pub word : List ℕ
  pub time_is : IsTimeText second time
  pub word_is : PrintsWord name word
  pub line_is : line ≡ time ++ codes " unanswered " ++ word ++ from_text from ++ left_text left_out

-- how many octets there were
abbrev pub count_text : ℕ → List ℕ
count_text count = codes ": " ++ decimal count ++ codes " octets"

-- the line of a datagram that was no request to a server: where it came from, and how long it was
abbrev pub IsStrangerLine : (second : ℕ) → List ℕ → Addr → (count left_out : ℕ) → List ℕ → Type 0
IsStrangerLine second verb from count left_out line = (time : List ℕ) × IsTimeText second time × (line ≡ time ++ verb ++ from_text from ++ count_text count ++ left_text left_out)

-- of which kind it was: a broadcast, or another
abbrev pub stranger_verb : (broadcast : Bool) → List ℕ → List ℕ
stranger_verb broadcast other = if broadcast then codes " broadcast" else other

-- the line of an outcome
abbrev pub IsOutcomeLine : (second left_out : ℕ) → Addr → (count : ℕ) → (broadcast : Bool) → Outcome → List ℕ → Type 0
IsOutcomeLine second left_out from count broadcast (o.Granted claim seconds) line = IsLeaseLine second (codes " granted ") claim seconds left_out line
IsOutcomeLine second left_out from count broadcast (o.Renewed claim seconds) line = IsLeaseLine second (codes " renewed ") claim seconds left_out line
IsOutcomeLine second left_out from count broadcast (o.Refused claim refusal) line = IsRefusalLine second (codes " refused ") from claim refusal left_out line
IsOutcomeLine second left_out from count broadcast (o.NotReleased claim refusal) line = IsRefusalLine second (codes " release refused ") from claim refusal left_out line
IsOutcomeLine second left_out from count broadcast (o.Released claim) line = IsReleaseLine second claim left_out line
IsOutcomeLine second left_out from count broadcast (o.Silent name) line = IsUnansweredLine second from name left_out line
IsOutcomeLine second left_out from count broadcast o.ForNodes line = IsStrangerLine second (stranger_verb broadcast (codes " foreign")) from count left_out line
IsOutcomeLine second left_out from count broadcast o.NoMessage line = IsStrangerLine second (stranger_verb broadcast (codes " malformed")) from count left_out line
IsOutcomeLine second left_out from count broadcast outcome line = line ≡ []

abbrev pub IsLine : (second left_out : ℕ) → Entry → List ℕ → Type 0
IsLine second left_out entry line = IsOutcomeLine second left_out entry.from entry.count entry.is_broadcast entry.outcome line

-- ---- what a host's lines share

-- the seconds of a hold, or the reason of a refusal, and the end of the line
abbrev pub seconds_text : ℕ → List ℕ
seconds_text seconds = codes " " ++ decimal seconds ++ codes " s" ++ newline

abbrev pub reason_text : (rcode : ℕ) → List ℕ
reason_text rcode = codes ": " ++ rcode_words rcode ++ codes " (" ++ decimal rcode ++ codes ")" ++ newline
