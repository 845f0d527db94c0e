-- How a lookup came out, and what is told of it (our profile).
use Rattle.std.specs.Prelude.{ℕ, List, [], ◌∷◌, ◌++◌, codes}
use Rattle.nbt_client.specs.declared.lookup.Ending.{Ending}
use Rattle.nbt_client.specs.declared.lookup.Ending.TheVariants as e
use Rattle.nbt_node.specs.declared.fault.LookupFault.{LookupFault}
use Rattle.nbt_show.specs.declared.reply.Reply.TheVariants as r
use Rattle.nbt_show.specs.Replies.{PrintsReply}
use Rattle.nbt_text.specs.Lines.{newline}
use Rattle.nbt_client.specs.declared.answer.Answer.{Answer}
use Rattle.nbt_client.specs.declared.answer.Answer.TheVariants as a

-- the status with which the program ends
abbrev pub answer_status : Answer → ℕ
answer_status a.Found = 0
answer_status a.NotFound = 1
answer_status a.NoReply = 5

-- where no reply came
abbrev pub silence : List ℕ
silence = codes "no reply" ++ newline

-- where a reply lists nothing
abbrev pub no_names : List ℕ
no_names = codes "no names" ++ newline

-- What is told of an ending: what the reply's octets say, that they list nothing, or that none came, also where the node asked nothing, or where the
-- octets are no reply to a lookup.
pub data TellsEnding : Ending → (octets : List ℕ) → Answer → List ℕ → Type 0 where
  tells_found : (octets : List ℕ) (first : ℕ) (text : List ℕ) → PrintsReply octets r.Found (first ∷ text) → TellsEnding e.Told octets a.Found (first ∷ text)
  tells_no_names : (octets : List ℕ) → PrintsReply octets r.Found [] → TellsEnding e.Told octets a.Found no_names
  tells_not_found : (octets text : List ℕ) → PrintsReply octets r.NotFound text → TellsEnding e.Told octets a.NotFound text
  tells_other : (octets text : List ℕ) → PrintsReply octets r.Other text → TellsEnding e.Told octets a.NoReply (text ++ silence)
  tells_silence : (octets : List ℕ) → TellsEnding e.NoReply octets a.NoReply silence
  tells_refusal : (octets : List ℕ) (fault : LookupFault) → TellsEnding (e.Refused fault) octets a.NoReply silence
