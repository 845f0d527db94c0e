use Rattle.std.proofs.Common.{◌≡◌, ℕ, ◌≤◌, List, Option, Some, None, refl, sym, subst, arith}
use Rattle.nbt_server.proofs.Common.{IfSome, MessageValue, message_of, Spells, AreWritten, text, leases_at, Leases, by_limit, by_rule, DoesWithin, IsDone, refusal, server_error, turns_away, Outcome, ServerHandles, ServerValue, speaks_from, ServesOctets, is_silent, is_no_message, serves}
use Rattle.nbt_server.proofs.Rules.{on_ok, replies, unanswered_replies}
use Rattle.nbt_server.proofs.server.Server.handle.Goals as goal

-- a reply's written form spells it
spelled_by : (reply : Option MessageValue) (octets : List ℕ) → AreWritten reply octets → IfSome reply (λ message. Spells (text message) message)
spelled_by None octets written = tt
spelled_by (Some message) octets written = subst (λ (xs : List ℕ). Spells xs message) written.0 written.1

-- what was done with a message is what was done with the octets that spell it
handles : (old new : ServerValue) (now ip : ℕ) (octets : List ℕ) (m : MessageValue) (outcome : Outcome) (out : List ℕ) → old.last ≤ now → speaks_from old ≤ now → Spells octets m
    → new.start ≡ old.start → new.last ≡ now → new.table.config ≡ old.table.config → new.client_rows ≡ old.client_rows → DoesWithin old.client_rows old.table now ip m outcome out (leases_at now new.table.rows)
    → ServerHandles old now ip octets outcome out new
handles old new now ip octets m outcome out onward speaks spelled start last config limit (by_rule room (reply, does, done, written)) =
    let octets_do : ServesOctets old now ip octets reply (leases_at now new.table.rows) = serves m reply (leases_at now new.table.rows) speaks spelled room does in
    record {
      reply = reply;
      takes = record { goes_on = onward; serves = octets_do; spelled = spelled_by reply out written; start = start; last = last; config = config; limit = limit };
      done = done;
      has_reply_is = replies octets_do outcome done;
      written = written;
    }
handles old new now ip octets m outcome out onward speaks spelled start last config limit (by_limit over is written same) =
    let reply : Option MessageValue = Some (refusal server_error over.r) in
    let does : (x : ServesOctets old now ip octets reply (leases_at now new.table.rows)) × IsDone x outcome
    = subst (λ (after : Leases). (x : ServesOctets old now ip octets reply after) × IsDone x outcome) (sym same) (turns_away m speaks spelled over, is) in
    record {
      reply = reply;
      takes = record { goes_on = onward; serves = does.0; spelled = spelled_by reply out written; start = start; last = last; config = config; limit = limit };
      done = does.1;
      has_reply_is = replies does.0 outcome does.1;
      written = written;
    }

pub returns-in_default-clause-handled : goal.returns-in_default-clause-handled
returns-in_default-clause-handled c =
    rw (← c.self.view_is) (record {
      reply = None;
      takes = record { goes_on = omega arith; serves = is_no_message (λ m s. let e = (c.in_default.ensures m).1 s in absurd cc); spelled = tt; start = refl; last = refl; config = refl; limit = refl };
      done = refl;
      has_reply_is = refl;
      written = c.clear.ensures;
    })

pub returns-then-get-speaks_from-clause-handled : goal.returns-then-get-speaks_from-clause-handled
returns-then-get-speaks_from-clause-handled c =
    let done = c.unanswered.ensures c.args.octets.now ((c.in-Some.ensures (message_of c.in-Some.message)).0 refl) in
    rw (← c.self.view_is) (record {
      reply = None;
      takes = record { goes_on = omega arith; serves = is_silent (omega arith); spelled = tt; start = refl; last = refl; config = refl; limit = refl };
      done = done;
      has_reply_is = unanswered_replies c.args.octets.now c.unanswered.result done;
      written = c.clear.ensures;
    })

pub returns-clause-handled : goal.returns-clause-handled
returns-clause-handled c =
    rw (← c.self.view_is) (on_ok c.serve.result c.serve.ensures.does (λ outcome does.
    handles _ _ _ _ _ _ outcome _ (omega arith) (omega arith) ((c.in-Some.ensures (message_of c.in-Some.message)).0 refl) refl refl c.serve.ensures.config refl does))

pub returns-clause-memory : goal.returns-clause-memory
returns-clause-memory c = λ is.
    rw (← c.self.view_is) (record {
      goes_on = omega arith;
      message = message_of c.in-Some.message;
      speaks = omega arith;
      spelled = (c.in-Some.ensures (message_of c.in-Some.message)).0 refl;
      room = rw is at c.serve.ensures.room;
      needs = rw is at c.serve.ensures.memory;
      leases = (rw is at c.serve.ensures.refused).0;
      start = refl;
      last = refl;
      config = c.serve.ensures.config;
      limit = refl;
    })
