-- The arguments of `lookup` and `status` (our profile).
use Rattle.std.specs.Prelude.{◌≡◌, ◌⊎◌, ℕ, List, [], ◌∷◌, Result}
use Rattle.std.specs.Borrow.{Bor}
use Rattle.nbt_name.specs.Wire.{NameValue}
use Rattle.nbt_name.specs.declared.addr.Addr.{Addr}
use Rattle.nbt_args.specs.declared.texts.LookupTexts.{LookupTexts}
use Rattle.nbt_args.specs.declared.texts.StatusTexts.{StatusTexts}
use Rattle.nbt_client.specs.declared.question.Question.{Question}
use Rattle.nbt_client.specs.declared.question.Question.TheVariants.{Holders, Names}
use Rattle.nbt_admin.specs.Reading.{Then, Gives, Each}
use Rattle.nbt_admin.specs.Texts.{ReadsPeer, ReadsSource, ReadsName, ReadsSought, NeedsApart, NeedsName}
use Rattle.nbt_admin.specs.Times.{ReadsPatience}
use Rattle.nbt_admin.specs.declared.asking.AskArguments.{AskArguments}
use Rattle.nbt_admin.specs.declared.asking.HostAsked.{HostAsked}
use Rattle.nbt_admin.specs.declared.failure.Failure.{Failure}
use Rattle.nbt_admin.specs.declared.failure.ArgumentFault.{ArgumentFault}
use Rattle.nbt_admin.specs.declared.failure.ArgumentFault.TheVariants as w

-- A question to this address about a name. Of a name that is an address this fault is said.
abbrev pub Asks : (instead : ArgumentFault) → (question : Addr → NameValue → Question) → (Named : Result NameValue Failure → Type 0) → LookupTexts → Result AskArguments Failure → Type 0
Asks instead question Named texts = Then (ReadsPatience texts.tries.now texts.wait.now) (λ patience.
    Then (ReadsPeer texts.to.now) (λ peer.
    Then (ReadsSource texts.bind.now) (λ own.
    Then (NeedsApart texts.to.now peer own) (λ _.
    Then (NeedsName instead texts.name.now) (λ _.
    Then Named (λ name.
    Gives (record { bind = own; question = question peer name; patience = patience })))))))

-- a server is asked for who holds a name
abbrev pub ReadsLookup : LookupTexts → Result AskArguments Failure → Type 0
ReadsLookup texts = Asks w.NameWanted Holders (ReadsSought texts.exact texts.scope.now texts.name.now) texts

-- a host is asked for its names
abbrev pub AsksHost : LookupTexts → Result AskArguments Failure → Type 0
AsksHost texts = Asks w.OtherHost Names (ReadsName texts.exact texts.scope.now texts.name.now) texts

-- what the host of this text is asked, which but for its address is what the first host is
abbrev pub ReadsHost : LookupTexts → (before : List HostAsked) → Bor (List ℕ) → Result HostAsked Failure → Type 0
ReadsHost first before host = Then (AsksHost (record first { to = host })) (λ a. Gives (record { host = host; arguments = a }))

-- the first host comes first, and then the others in their order
abbrev pub ReadsStatus : StatusTexts → Result (List HostAsked) Failure → Type 0
ReadsStatus texts = Each (ReadsHost texts.first) [] (texts.first.to ∷ texts.others.items)
