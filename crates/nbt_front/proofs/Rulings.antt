-- What is done with a message, by what was found of its name.
use Rattle.std.proofs.Common.{◌≡◌, ℕ, List, Bool, true, false, Option, Some, None, inl, inr, refl}
use Rattle.std.specs.Prelude.{◌↔◌, IfSome, IfNone}
use Rattle.nbt_name.specs.Wire.{NameValue}
use Rattle.nbt_name.specs.declared.addr.Kind.{Kind}
use Rattle.nbt_packet.specs.declared.message.Message.{Message}
use Rattle.nbt_packet.specs.declared.message.Message.TheVariants as code
use Rattle.nbt_packet.specs.declared.message.Registration.{Registration}
use Rattle.nbt_packet.specs.Message.{MessageValue, message_of, message_if, registration, overwrite, refresh, release, query}
use Rattle.nbt_packet.specs.Spelling.{Spells}
use Rattle.nbt_server.specs.Serving.{by_registration, by_refresh}
use Rattle.nbt_front.specs.FixedNames.{fixed_of}
use Rattle.nbt_front.specs.Networks.{IsAllowed}
use Rattle.nbt_front.specs.Standing.{IsLeased, is_taken}
use Rattle.nbt_front.specs.Deciding.{DeskValue, Claims, by_request, by_overwrite, Passes}
use Rattle.nbt_front.specs.declared.deciding.Decision.{Decision}
use Rattle.nbt_front.proofs.Decided.{both_ways}
use Rattle.nbt_front.proofs.OneDecision.{Asked, Other, Overwritten, Gets, gets, not_both}

pub if_some : {X : Type 0} {P Q : X → Type 0} (found : Option X) → ((x : X) → P x → Q x) → IfSome found P → IfSome found Q
if_some None more was = tt
if_some (Some x) more was = more x was

-- it holds, so also where nothing is found
pub at_none : {X P : Type 0} (found : Option X) → P → IfNone found P
at_none None holds = holds
at_none (Some x) holds = tt

-- what would be so is denied
pub denied : {P : Type 0} (answer : Bool) → (P → answer ≡ true) → answer ≡ false → ¬ P
denied answer told is p = let e = told p in absurd cc

pub if_none : {X P Q : Type 0} (found : Option X) → (P → Q) → IfNone found P → IfNone found Q
if_none None more was = more was
if_none (Some x) more was = tt

module _ (desk : DeskValue) (now ip : ℕ) where
  other_not : (r : Registration) (d : Decision) (reply : MessageValue) → IsAllowed desk.front.allowed ip → is_taken desk.past now r.name r.kind ip ≡ false → Other desk now ip r d reply → ⊥
  other_not r d reply allowed quiet (inl a) = both_ways quiet a.4
  other_not r d reply allowed quiet (inr a) = a.1 allowed

  asked_not : (r : Registration) (d : Decision) (reply : MessageValue) → fixed_of desk.front.fixed r.name ≡ None → IsAllowed desk.front.allowed ip → is_taken desk.past now r.name r.kind ip ≡ false → Asked desk now ip r d reply → ⊥
  asked_not r d reply free allowed quiet (inl a) = not_both a.1 free
  asked_not r d reply free allowed quiet (inr (inl a)) = not_both a.1 free
  asked_not r d reply free allowed quiet (inr (inr a)) = other_not r d reply allowed quiet a

  overwritten_not : (r : Registration) (d : Decision) (reply : MessageValue) → fixed_of desk.front.fixed r.name ≡ None → IsAllowed desk.front.allowed ip → is_taken desk.past now r.name r.kind ip ≡ false → Overwritten desk now ip r d reply → ⊥
  overwritten_not r d reply free allowed quiet (inl a) = not_both a.1 free
  overwritten_not r d reply free allowed quiet (inr a) = other_not r d reply allowed quiet a

  pub claim_passes : (m : MessageValue) (r : Registration) → fixed_of desk.front.fixed r.name ≡ None → IsAllowed desk.front.allowed ip → is_taken desk.past now r.name r.kind ip ≡ false → Claims m r → Passes desk now ip m
  claim_passes _ _ free allowed quiet (by_request _ _ (by_registration r)) d reply decides = asked_not r d reply free allowed quiet (gets desk now ip (registration r) d reply decides)
  claim_passes _ _ free allowed quiet (by_request _ _ (by_refresh r)) d reply decides = asked_not r d reply free allowed quiet (gets desk now ip (refresh r) d reply decides)
  claim_passes _ _ free allowed quiet (by_overwrite r) d reply decides = overwritten_not r d reply free allowed quiet (gets desk now ip (overwrite r) d reply decides)

  released_not : (id : ℕ) (name : NameValue) (kind : Kind) (addr : ℕ) (d : Decision) (reply : MessageValue) → fixed_of desk.front.fixed name ≡ None → Gets desk now ip (release id name kind addr) d reply → ⊥
  released_not id name kind addr d reply free (inl a) = not_both a.1 free
  released_not id name kind addr d reply free (inr a) = not_both a.1 free

  pub release_passes : (id : ℕ) (name : NameValue) (kind : Kind) (addr : ℕ) → fixed_of desk.front.fixed name ≡ None → Passes desk now ip (release id name kind addr)
  release_passes id name kind addr free d reply decides = released_not id name kind addr d reply free (gets desk now ip (release id name kind addr) d reply decides)

  pub query_passes : (id : ℕ) (name : NameValue) → fixed_of desk.front.fixed name ≡ None → Passes desk now ip (query id name)
  query_passes id name free d reply decides = let a = gets desk now ip (query id name) d reply decides in not_both a.1 free

  released_free : (id : ℕ) (name : NameValue) (kind : Kind) (addr : ℕ) (d : Decision) (reply : MessageValue) → IsLeased desk.kept now name → Gets desk now ip (release id name kind addr) d reply → ⊥
  released_free id name kind addr d reply leased (inl a) = a.5 leased
  released_free id name kind addr d reply leased (inr a) = a.5 leased

  -- a release of a leased name and a query for one are left
  pub leased_release_passes : (id : ℕ) (name : NameValue) (kind : Kind) (addr : ℕ) → IsLeased desk.kept now name → Passes desk now ip (release id name kind addr)
  leased_release_passes id name kind addr leased d reply decides = released_free id name kind addr d reply leased (gets desk now ip (release id name kind addr) d reply decides)

  pub leased_query_passes : (id : ℕ) (name : NameValue) → IsLeased desk.kept now name → Passes desk now ip (query id name)
  leased_query_passes id name leased d reply decides = let a = gets desk now ip (query id name) d reply decides in a.4 leased

  -- what is none of the messages that a front has a rule for
  pub others_pass : (m : Message) → ((r : Registration) → m ≡ code.Registration r → ⊥) → ((r : Registration) → m ≡ code.Overwrite r → ⊥) → ((r : Registration) → m ≡ code.Refresh r → ⊥)
      → ((id : ℕ) (name : NameValue) (kind : Kind) (addr : ℕ) → m ≡ code.Release id name kind addr → ⊥) → ((id : ℕ) (name : NameValue) → m ≡ code.Query id name → ⊥) → Passes desk now ip (message_of m)
  others_pass (code.Registration r) a b c e f d reply decides = a r refl
  others_pass (code.Overwrite r) a b c e f d reply decides = b r refl
  others_pass (code.Refresh r) a b c e f d reply decides = c r refl
  others_pass (code.Release id name kind addr) a b c e f d reply decides = e id name kind addr refl
  others_pass (code.Query id name) a b c e f d reply decides = f id name refl
  others_pass m a b c e f d reply decides = absurd (gets desk now ip (message_of m) d reply decides)

  -- ---- octets

  pub none_read : (found : Option Message) (octets : List ℕ) → ((m : MessageValue) → (message_if found ≡ Some m) ↔ Spells octets m) → found ≡ None → (m : MessageValue) → Spells octets m → Passes desk now ip m
  none_read found octets reads none m spelled = let e : message_if found ≡ Some m = (reads m).1 spelled in let o : ◌≡◌ {A = Option MessageValue} None (Some m) = rw none at e in absurd cc

  pub one_read : (found : Option Message) (octets : List ℕ) (message : Message) → ((m : MessageValue) → (message_if found ≡ Some m) ↔ Spells octets m) → found ≡ Some message → Passes desk now ip (message_of message)
      → (m : MessageValue) → Spells octets m → Passes desk now ip m
  one_read found octets message reads is passes m spelled = let e : message_if found ≡ Some m = (reads m).1 spelled in let o : ◌≡◌ {A = Option MessageValue} (Some (message_of message)) (Some m) = rw is at e in let same : message_of message ≡ m = cc in rw (← same) passes

pub none_spelled : (found : Option Message) (octets : List ℕ) → ((m : MessageValue) → (message_if found ≡ Some m) ↔ Spells octets m) → found ≡ None → (m : MessageValue) → ¬ Spells octets m
none_spelled found octets reads none m spelled = let e : message_if found ≡ Some m = (reads m).1 spelled in let o : ◌≡◌ {A = Option MessageValue} None (Some m) = rw none at e in absurd cc

pub one_spelled : (found : Option Message) (octets : List ℕ) (message : Message) → ((m : MessageValue) → (message_if found ≡ Some m) ↔ Spells octets m) → found ≡ Some message → (m : MessageValue) → Spells octets m → message_of message ≡ m
one_spelled found octets message reads is m spelled = let e : message_if found ≡ Some m = (reads m).1 spelled in let o : ◌≡◌ {A = Option MessageValue} (Some (message_of message)) (Some m) = rw is at e in cc

-- what is no release spells none
pub no_release : (m : Message) → ((id : ℕ) (name : NameValue) (kind : Kind) (addr : ℕ) → m ≡ code.Release id name kind addr → ⊥) → (id : ℕ) (name : NameValue) (kind : Kind) (addr : ℕ) → message_of m ≡ release id name kind addr → ⊥
no_release (code.Release i n k a) not id name kind addr e = not i n k a refl
no_release m not id name kind addr e = absurd cc

pub spelled_by : (found : Option Message) (octets : List ℕ) (message : Message) → ((m : MessageValue) → (message_if found ≡ Some m) ↔ Spells octets m) → found ≡ Some message → Spells octets (message_of message)
spelled_by found octets message reads is = (reads (message_of message)).0 (rw is refl)
