-- How hosts are asked for their names, one after the other (our profile).
use Rattle.std.specs.Prelude.{◌≡◌, ℕ, max, nat_eq, Bool, true, false, List, [], ◌∷◌, ◌++◌, Option}
use Rattle.std.specs.Io.KnownBytes.{Appends}
use Rattle.nbt_client.specs.Answers.{answer_status}
use Rattle.nbt_client.specs.Asking.{AsksHere}
use Rattle.nbt_client.specs.declared.answer.Answer.{Answer}
use Rattle.nbt_text.specs.Lines.{line_feed}
use Rattle.nbt_admin.specs.declared.asking.HostAsked.{HostAsked}

-- an octet, behind the address and a space if a line begins with it
abbrev pub fronted_octet : (host : List ℕ) → (begins : Bool) → (octet : ℕ) → List ℕ
fronted_octet host true octet = host ++ 0x20 ∷ octet ∷ []
fronted_octet host false octet = octet ∷ []

-- a text with the address and a space before each of its lines
abbrev pub fronted : (host : List ℕ) → (begins : Bool) → (text : List ℕ) → List ℕ
fronted host begins [] = []
fronted host begins (octet ∷ text) = fronted_octet host begins octet ++ fronted host (nat_eq octet line_feed) text

-- So is an answer printed where there are several hosts.
abbrev pub shown : (many : Bool) → (host text : List ℕ) → List ℕ
shown false host text = text
shown true host text = fronted host true text

-- The request was made, the text of its answer was appended, and the status is the answer's.
pub record AskedOf (many : Bool) (request : HostAsked) (status : ℕ) (old_text text : Option (List ℕ)) : Type 0 where
  pub answer : Answer
  pub told : List ℕ
  pub asks : AsksHere request.arguments.bind request.arguments.question request.arguments.patience answer told
  pub appends : Appends old_text text (shown many request.host.now told)
  pub status_is : status ≡ answer_status answer

-- The requests were made one after the other, and the status is the greatest of theirs.
pub data AskedInTurn (many : Bool) : List HostAsked → (status : ℕ) → (old_text text : Option (List ℕ)) → Type 0 where
  asked_none : (text : Option (List ℕ)) → AskedInTurn many [] 0 text text
  asked_next : (requests : List HostAsked) (request : HostAsked) (status one : ℕ) (old mid text : Option (List ℕ)) → AskedInTurn many requests status old mid → AskedOf many request one mid text
      → AskedInTurn many (requests ++ request ∷ []) (max status one) old text
