-- A turn of a server without a state is a part of its life with its devices.
use Rattle.std.proofs.Common.{◌<◌, ℕ, List, [], ◌∷◌, ◌++◌, length, Some, None, refl, sym, ap, subst, append-nil, inl, inr, arith}
use Rattle.std.specs.List.{flat_map}
use Rattle.std.proofs.lemmas.List.Elements.{Contains-append_right}
use Rattle.nbt_lease.specs.Config.{ConfigValue}
use Rattle.nbt_packet.specs.Text.{text}
use Rattle.nbt_port.specs.PortCalls.{PortCall, nothing_came, came, receive_failed, sent, send_failed, Chain}
use Rattle.nbt_port.proofs.Chains.{chain_one}
use Rattle.nbt_server.specs.Serving.{ServerValue}
use Rattle.nbt_store.specs.Calls.{StoreCall}
use Rattle.nbt_serve.specs.Serving.{Turn, is_empty, is_taken, is_lost, acts_in as calls_in_turn, moments_in, Turns, Failure, of_receive, of_send, acts_of as calls_of_failure, moments_of, Fails, Breaks}
use Rattle.nbt_net.specs.Wire.{Act}
use Rattle.nbt_net.specs.Servers.{up, ServerLives, breaks_turn}
use Rattle.nbt_net.specs.Turns.{act_of}
use Rattle.nbt_net.specs.Devices.{of_port, reads, going_on, ends, is_quiet, acts_on, sends, loses}
use Rattle.nbt_net.proofs.Ordering.{bare_machine, put_in_order}
use Rattle.nbt_net.proofs.Parts.{Always, Part, just_acted}
use Rattle.nbt_net.proofs.ServerTurns.{one_lived}

module _ {P C S : Type 0} (does : P → PortCall → P → Type 0) (keeps : S → StoreCall → S → Type 0) (tells : C → ℕ → C → Type 0) (config : ConfigValue) where
  abbrev pub BarePart : ServerValue → P → C → ServerValue → P → C → Type 0
  BarePart old old_port old_clock new port clock = Part (ServerLives config) 0 does tells keeps Always (up old) (bare_machine old_port old_clock) Always (up new) (bare_machine port clock)

  module _ (old_port port : P) (old_clock clock : C) (old new : ServerValue) where
    pub turned : (turn : Turn) → Turns old turn new → Chain does old_port (calls_in_turn turn) port → Chain tells old_clock (moments_in turn) clock → BarePart old old_port old_clock new port clock
    turned is_empty server port_did told = record {
      calls = of_port nothing_came ∷ [];
      acts = [];
      did = put_in_order does tells keeps (of_port nothing_came ∷ []) (bare_machine old_port old_clock) (bare_machine port clock) port_did told refl;
      lived = one_lived config server;
      goes = λ story known. (story, sym (append-nil story.acts), is_quiet story story (of_port nothing_came) [] tt (ends story), tt);
    }
    turned (is_taken now from octets None) server port_did told = record {
      calls = of_port (came from octets) ∷ reads now ∷ [];
      acts = act_of (is_taken now from octets None);
      did = put_in_order does tells keeps (of_port (came from octets) ∷ reads now ∷ []) (bare_machine old_port old_clock) (bare_machine port clock) port_did told refl;
      lived = one_lived config server;
      goes = λ story known. (going_on now (act_of (is_taken now from octets None)) story, refl, acts_on story _ from octets now (act_of (is_taken now from octets None)) [] (refl, tt) refl (ends _), tt);
    }
    turned (is_taken now from octets (Some reply)) server port_did told = record {
      calls = of_port (came from octets) ∷ reads now ∷ of_port (sent from (text reply)) ∷ [];
      acts = act_of (is_taken now from octets (Some reply));
      did = put_in_order does tells keeps (of_port (came from octets) ∷ reads now ∷ of_port (sent from (text reply)) ∷ []) (bare_machine old_port old_clock) (bare_machine port clock) port_did told refl;
      lived = one_lived config server;
      goes = λ story known. (
        going_on now (act_of (is_taken now from octets (Some reply))) story,
        refl,
        acts_on story _ from octets now (act_of (is_taken now from octets (Some reply))) (of_port (sent from (text reply)) ∷ []) (refl, tt) refl (sends _ _ from (text reply) [] (record {
          act = act;
          acted = just_acted now (act_of (is_taken now from octets (Some reply))) story act (0, omega arith, refl);
          sends = inl (Contains-append_right (came from octets ∷ []) (sent from (text reply) ∷ []) (sent from (text reply)) (0, omega arith, refl));
          in_time = omega arith;
        }) (ends _)),
        tt,
      );
    }
      where
        act : Act
        act = record { now = now; calls = came from octets ∷ sent from (text reply) ∷ [] }
    turned (is_lost now from octets) server port_did told = record {
      calls = of_port (came from octets) ∷ reads now ∷ [];
      acts = act_of (is_lost now from octets);
      did = put_in_order does tells keeps (of_port (came from octets) ∷ reads now ∷ []) (bare_machine old_port old_clock) (bare_machine port clock) port_did told refl;
      lived = one_lived config server;
      goes = λ story known. (going_on now (act_of (is_lost now from octets)) story, refl, acts_on story _ from octets now (act_of (is_lost now from octets)) [] (refl, tt) refl (ends _), tt);
    }

    failed : (failure : Failure) → Fails old failure new → Chain does old_port (calls_of_failure failure) port → Chain tells old_clock (moments_of failure) clock → BarePart old old_port old_clock new port clock
    failed of_receive fails port_did told = record {
      calls = of_port receive_failed ∷ [];
      acts = [];
      did = put_in_order does tells keeps (of_port receive_failed ∷ []) (bare_machine old_port old_clock) (bare_machine port clock) port_did told refl;
      lived = ap up fails;
      goes = λ story known. (story, sym (append-nil story.acts), is_quiet story story (of_port receive_failed) [] tt (ends story), tt);
    }
    failed (of_send now from octets reply) fails port_did told = record {
      calls = of_port (came from octets) ∷ reads now ∷ of_port (send_failed from (text reply)) ∷ [];
      acts = act ∷ [];
      did = put_in_order does tells keeps (of_port (came from octets) ∷ reads now ∷ of_port (send_failed from (text reply)) ∷ []) (bare_machine old_port old_clock) (bare_machine port clock) port_did told refl;
      lived = chain_one (ServerLives config) (up old) act (up new) (breaks_turn now (of_send now from octets reply) old new (refl, tt) fails);
      goes = λ story known. (
        going_on now (act ∷ []) story,
        refl,
        acts_on story _ from octets now (act ∷ []) (of_port (send_failed from (text reply)) ∷ []) (refl, tt) refl (loses _ _ from (text reply) [] (record {
          act = act;
          acted = just_acted now (act ∷ []) story act (0, omega arith, refl);
          sends = inr (Contains-append_right (came from octets ∷ []) (send_failed from (text reply) ∷ []) (send_failed from (text reply)) (0, omega arith, refl));
          in_time = omega arith;
        }) (ends _)),
        tt,
      );
    }
      where
        act : Act
        act = record { now = now; calls = came from octets ∷ send_failed from (text reply) ∷ [] }

    -- the first turn fails
    pub broken : Breaks does tells 1 old_port old_clock old port clock new → BarePart old old_port old_clock new port clock
    broken b = by b.turns b.fewer b.server b.port_did b.clock_told
      where
        by : (turns : List Turn) → length turns < 1 → Chain Turns old turns b.mid → Chain does old_port (flat_map calls_in_turn turns ++ calls_of_failure b.failure) port → Chain tells old_clock (flat_map moments_in turns ++ moments_of b.failure) clock
            → BarePart old old_port old_clock new port clock
        by [] fewer server port_did told = failed b.failure (subst (λ (s : ServerValue). Fails s b.failure new) server b.fails) port_did told
        by (turn ∷ turns) fewer server port_did told = absurd (omega (arith, fewer))
