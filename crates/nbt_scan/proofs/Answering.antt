-- A node status response, as one packet and one message spell it.
use Rattle.std.proofs.Common.{◌≡◌, ◌≢◌, ℕ, ◌+◌, List, length, drop, Option, Result, Ok, Err, Some, None, sym, ap, subst}
use Rattle.std.specs.Prelude.{IfNone}
use Rattle.nbt_packet.specs.declared.fault.Fault.{Fault}
use Rattle.nbt_name.specs.Wire.{NameValue}
use Rattle.nbt_packet.specs.Message.{MessageValue, MessageIs, status}
use Rattle.nbt_packet.specs.Packet.{PacketValue, RecordValue, PacketIs}
use Rattle.nbt_scan.specs.Statuses.{IsStatus, IsNoStatus}

-- what was read, if anything was
abbrev pub first_of : Result (PacketValue × ℕ) Fault → PacketValue → PacketValue
first_of (Ok read) other = read.0
first_of (Err fault) other = other

pub one_packet : (packet p : PacketValue) (taken n : ℕ) → ◌≡◌ {A = Result (PacketValue × ℕ) Fault} (Ok (packet, taken)) (Ok (p, n)) → p ≡ packet
one_packet packet p taken n same = sym (ap (λ (r : Result (PacketValue × ℕ) Fault). first_of r packet) same)

pub none_then : {X P Q : Type 0} (r : Option X) → IfNone r P → (P → Q) → IfNone r Q
none_then None h f = f h
none_then (Some x) h f = tt

module _ (id : ℕ) (octets : List ℕ) (packet : PacketValue) (taken : ℕ) (message : MessageValue) (stands : PacketIs octets packet taken) (spells : MessageIs packet message)
    (one : (p : PacketValue) (n : ℕ) → PacketIs octets p n → p ≡ packet) (says : (said : MessageValue) → MessageIs packet said → said ≡ message) where
  -- the message is such a response
  pub is_status : (names statistics : List ℕ) → ((name : NameValue) × (answer : RecordValue) × (message ≡ status id name names) × (packet.answer ≡ Some answer) × (statistics ≡ drop (1 + length names) answer.rdata)) → IsStatus id octets names statistics
  is_status names statistics x = record {
    packet = packet;
    taken = taken;
    name = x.0;
    answer = x.1;
    packet_is = stands;
    message_is = subst (λ (m : MessageValue). MessageIs packet m) x.2 spells;
    answer_is = x.3;
    statistics_are = x.4;
  }

  -- or another one
  pub is_none : ((name : NameValue) (names : List ℕ) → message ≢ status id name names) → IsNoStatus id octets
  is_none other = λ names statistics is.
      let same = one is.packet is.taken is.packet_is in
      other is.name names (sym (says (status id is.name names) (rw (← same) is.message_is)))
