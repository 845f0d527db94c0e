-- What octets spell, by what a reader returned; and that a query and a request to wait, as they are written, spell them.
use Rattle.std.proofs.Common.{◌≡◌, ℕ, ◌<◌, ◌^◌, List, [], length, Bool, Option, Some, None, refl, sym, subst, ◌∙◌, arith}
use Rattle.std.specs.Prelude.{◌↔◌, IfNone}
use Rattle.std.proofs.lemmas.List.{append-nil}
use Rattle.nbt_name.specs.Wire.{NameValue, IsName}
use Rattle.nbt_name.specs.Words.{word}
use Rattle.nbt_packet.specs.declared.message.Message.{Message}
use Rattle.nbt_packet.specs.declared.message.Message.TheVariants as code
use Rattle.nbt_packet.specs.Message.{MessageValue, message_of, message_if, found, query, wait, nb}
use Rattle.nbt_packet.specs.Spelling.{Spells}
use Rattle.nbt_packet.specs.Text.{answer_octets, question_octets}
use Rattle.nbt_packet.proofs.Shapes.{answer_packet, answering_is, asked_packet, asking_is}

pub at_none : {X P : Type 0} (found : Option X) → P → IfNone found P
at_none None holds = holds
at_none (Some x) holds = tt

pub none_spelled : (read : Option Message) (octets : List ℕ) → ((m : MessageValue) → (message_if read ≡ Some m) ↔ Spells octets m) → read ≡ None → (m : MessageValue) → ¬ Spells octets m
none_spelled read octets reads none m spelled = let e : message_if read ≡ Some m = (reads m).1 spelled in let o : ◌≡◌ {A = Option MessageValue} None (Some m) = rw none at e in absurd cc

pub one_spelled : (read : Option Message) (octets : List ℕ) (message : Message) → ((m : MessageValue) → (message_if read ≡ Some m) ↔ Spells octets m) → read ≡ Some message → (m : MessageValue) → Spells octets m → message_of message ≡ m
one_spelled read octets message reads is m spelled = let e : message_if read ≡ Some m = (reads m).1 spelled in let o : ◌≡◌ {A = Option MessageValue} (Some (message_of message)) (Some m) = rw is at e in cc

pub spelled_by : (read : Option Message) (octets : List ℕ) (message : Message) → ((m : MessageValue) → (message_if read ≡ Some m) ↔ Spells octets m) → read ≡ Some message → Spells octets (message_of message)
spelled_by read octets message reads is = (reads (message_of message)).0 (rw is refl)

-- what is no positive response spells none
pub no_response : (m : Message) → ((id : ℕ) (name : NameValue) (ttl : ℕ) (entries : _) (cut : Bool) → m ≡ code.Found id name ttl entries cut → ⊥)
    → (id : ℕ) (name : NameValue) (ttl : ℕ) (entries : List ℕ) (cut : Bool) → message_of m ≡ found id name ttl entries cut → ⊥
no_response (code.Found i n t e c) not id name ttl entries cut is = not i n t e c refl
no_response m not id name ttl entries cut is = absurd cc

-- ---- what is written

pub query_spelled : (id : ℕ) (name : NameValue) (octets : List ℕ) → octets ≡ question_octets id 0 nb name → id < 2 ^ 16 → IsName name → Spells octets (query id name)
query_spelled id name octets is fits is_name =
    let whole = question_octets id 0 nb name in
    subst (λ (xs : List ℕ). Spells xs (query id name)) (append-nil whole ∙ sym is)
    (record {
      packet = asked_packet id 0 nb name;
      taken = length whole;
      packet_is = asking_is id 0 nb name [] fits (omega arith) (omega arith) is_name;
      message_is = (refl, record { request = omega arith; opcode_is = refl; unicast = refl }, record { question_is = refl; no_answer = refl; no_additional = refl });
    })

pub wait_spelled : (id flags : ℕ) (name : NameValue) (seconds : ℕ) (octets : List ℕ) → octets ≡ answer_octets id 0xBC00 name nb seconds (word flags) → id < 2 ^ 16 → seconds < 2 ^ 32 → IsName name
    → Spells octets (wait id name seconds)
wait_spelled id flags name seconds octets is fits seconds_fit is_name =
    let whole = answer_octets id 0xBC00 name nb seconds (word flags) in
    subst (λ (xs : List ℕ). Spells xs (wait id name seconds)) (append-nil whole ∙ sym is)
    (record {
      packet = answer_packet id 0xBC00 name nb seconds (word flags);
      taken = length whole;
      packet_is = answering_is id 0xBC00 name nb seconds (word flags) [] fits (omega arith) is_name (omega arith) seconds_fit (omega arith);
      message_is = (refl, record { response = omega arith; opcode_is = refl; unicast = refl }, _, record { no_question = refl; answer_is = refl; no_additional = refl }, refl, refl);
    })
