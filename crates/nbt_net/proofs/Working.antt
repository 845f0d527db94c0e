-- A server at work with its devices is a part of its life after another, whichever way it ends.
use Rattle.std.proofs.Common.{◌≡◌, ℕ, List, [], ◌∷◌, ◌++◌, Option, Some, None, refl, sym, ap, subst, ◌∙◌, append-nil, append_assoc, inl, inr}
use Rattle.std.proofs.lemmas.Grind.{flat_map-append}
use Rattle.nbt_lease.specs.Config.{ConfigValue}
use Rattle.nbt_log.specs.declared.entry.Entry.{Entry}
use Rattle.nbt_port.specs.PortCalls.{PortCall, Chain}
use Rattle.nbt_port.proofs.Chains.{chain_one, chain-append}
use Rattle.nbt_server.specs.Serving.{ServerValue}
use Rattle.nbt_store.specs.Calls.{StoreCall}
use Rattle.nbt_store.specs.declared.header.Header.{Header}
use Rattle.nbt_serve.specs.Devices.{DeviceCall}
use Rattle.nbt_serve.specs.Runs as runs
use Rattle.nbt_serve.specs.Runs.{Held, Seen, Steps, Runs, calls_in, stored_in}
use Rattle.nbt_serve.specs.Turning.{Took, TakesAny, Passes, Fails, Keeping, KeepsTurn, BreaksKeeping, devices_of}
use Rattle.nbt_serve.specs.Waiting.{ReplyValue}
use Rattle.nbt_serve.specs.declared.fault.KeepFault.{KeepFault}
use Rattle.nbt_serve.specs.declared.fault.KeepFault.TheVariants as fault
use Rattle.nbt_serve.specs.declared.waiting.Sent.{Sent}
use Rattle.nbt_net.specs.Devices.{no_story}
use Rattle.nbt_net.specs.Headers.{AllBeginWith, BeginsWith}
use Rattle.nbt_net.specs.Servers.{ServerLives}
use Rattle.nbt_net.specs.Working.{HasChanged, stays, changed_again, DoesChanged, Works, takes_turn, port_fails, reads_clock, looks, port_changes, StopsWork, in_turn, at_look, IsAtWork, begins, goes_on, HasWorked, HaveAnyPair, held_in, WorkIsLived}
use Rattle.nbt_net.proofs.Changing.{both_moved}
use Rattle.nbt_net.proofs.Looks.{is_looked, failed_to_look, stored_alone, stores_all}
use Rattle.nbt_net.proofs.Ordering.{kept_machine, devices-append, stored-append}
use Rattle.nbt_net.proofs.Parts.{no_part, parts, read_alone, whole}
use Rattle.nbt_net.proofs.ServerParts as kept
use Rattle.nbt_net.proofs.ServerParts.{AreOwed, owed_at_a_reading, KeptPart}
use Rattle.nbt_net.proofs.Started.{turn_keeps}
use Rattle.nbt_net.proofs.StoreCalls.{each_both, of_fault, of_turn}

module _ {P S C D : Type 0} (does : P → PortCall → P → Type 0) (changes : P → P → Type 0) (keeps : S → StoreCall → S → Type 0) (tells : C → ℕ → C → Type 0) (days : D → ℕ → D → Type 0) (own : Header → Type 0) (any_pair : HaveAnyPair own) (config : ConfigValue) where
  abbrev Kept : (old new : Keeping P S C) (q r : P) → List DeviceCall → Type 0
  Kept old new q r calls = KeptPart (DoesChanged does changes) keeps tells config old.server old.waiting.replies (kept_machine q old.clock old.store) new.server new.waiting.replies (kept_machine r new.clock new.store) calls

  -- A part of a server's life with its devices, from a port before it changed to one before it changed, and the steps of its run that it is; it
  -- has these limits then.
  record Stage (q : P) (old new : Keeping P S C) : Type 0 where
    pub port : P
    pub changed : HasChanged changes port new.port
    pub seen : List Seen
    pub part : Kept old new q port (calls_in seen)
    pub steps : Chain Steps (held_in old) seen (held_in new)
    pub headers : AllBeginWith own (stored_in (calls_in seen))
    pub config_is : new.server.table.config ≡ config

  -- the same, whichever way it ended
  record Done (q : P) (old new : Keeping P S C) : Type 0 where
    pub port : P
    pub changed : HasChanged changes port new.port
    pub seen : List Seen
    pub part : Kept old new q port (calls_in seen)
    pub ran : Runs (held_in old) seen (held_in new)
    pub headers : AllBeginWith own (stored_in (calls_in seen))

  kept_joined : {p q r : P} {x y z : C} {old mid new : ServerValue} {waited waiting waits : List ReplyValue} {s t u : S} {calls more : List DeviceCall}
      → KeptPart (DoesChanged does changes) keeps tells config old waited (kept_machine p x s) mid waiting (kept_machine q y t) calls
      → KeptPart (DoesChanged does changes) keeps tells config mid waiting (kept_machine q y t) new waits (kept_machine r z u) more
      → KeptPart (DoesChanged does changes) keeps tells config old waited (kept_machine p x s) new waits (kept_machine r z u) (calls ++ more)
  unfolding parts
  kept_joined a b = record {
    part = parts (ServerLives config) config.life (DoesChanged does changes) tells keeps a.part b.part;
    calls_are = devices-append a.part.calls b.part.calls ∙ (λ j. a.calls_are j ++ b.calls_are j);
  }

  -- these calls, in other words
  in_words : {p q : P} {x y : C} {old new : ServerValue} {waited waits : List ReplyValue} {s t : S} {calls all : List DeviceCall} → calls ≡ all
      → KeptPart (DoesChanged does changes) keeps tells config old waited (kept_machine p x s) new waits (kept_machine q y t) calls
      → KeptPart (DoesChanged does changes) keeps tells config old waited (kept_machine p x s) new waits (kept_machine q y t) all
  in_words is k = record { part = k.part; calls_are = k.calls_are ∙ is }

  all_calls : (seen more : List Seen) → calls_in seen ++ calls_in more ≡ calls_in (seen ++ more)
  all_calls seen more = sym (flat_map-append (λ (s : Seen). s.calls) seen more)

  both_begin : (seen more : List Seen) → AllBeginWith own (stored_in (calls_in seen)) → AllBeginWith own (stored_in (calls_in more)) → AllBeginWith own (stored_in (calls_in (seen ++ more)))
  both_begin seen more first second =
      subst (λ (cs : List DeviceCall). AllBeginWith own (stored_in cs)) (all_calls seen more) (subst (AllBeginWith own) (sym (stored-append (calls_in seen) (calls_in more))) (each_both (BeginsWith own) (λ change. tt) tt (stored_in (calls_in seen)) (stored_in (calls_in more)) first second))

  -- calls of one step
  one_begins : (took : Option Took) (calls : List DeviceCall) → AllBeginWith own (stored_in calls) → AllBeginWith own (stored_in (calls_in (record { took = took; calls = calls } ∷ [])))
  one_begins took calls all = subst (λ (cs : List DeviceCall). AllBeginWith own (stored_in cs)) (sym (append-nil calls)) all

  joined : {p : P} {old mid new : Keeping P S C} → (a : Stage p old mid) → Stage a.port mid new → Stage p old new
  joined {old = old} {mid} {new} a b = record {
    port = b.port;
    changed = b.changed;
    seen = a.seen ++ b.seen;
    part = in_words (all_calls a.seen b.seen) (kept_joined a.part b.part);
    steps = chain-append Steps (held_in old) (held_in mid) (held_in new) a.seen b.seen a.steps b.steps;
    headers = both_begin a.seen b.seen a.headers b.headers;
    config_is = b.config_is;
  }

  done : {p : P} {old new : Keeping P S C} → Stage p old new → Done p old new
  done a = record { port = a.port; changed = a.changed; seen = a.seen; part = a.part; ran = runs.goes_on a.seen _ a.steps; headers = a.headers }

  -- steps before a run, whichever way that ended
  runs_on : (old mid new : Held) (seen more : List Seen) → Chain Steps old seen mid → Runs mid more new → Runs old (seen ++ more) new
  runs_on old mid _ seen _ front (runs.goes_on more new steps) = runs.goes_on (seen ++ more) new (chain-append Steps old mid new seen more front steps)
  runs_on old mid _ seen _ front (runs.ends more between last new steps ends) =
      subst (λ (all : List Seen). Runs old all new) (append_assoc seen more (last ∷ [])) (runs.ends (seen ++ more) between last new (chain-append Steps old mid between seen more front steps) ends)

  ended : {p : P} {old mid new : Keeping P S C} → (a : Stage p old mid) → Done a.port mid new → Done p old new
  ended {old = old} {mid} {new} a b = record {
    port = b.port;
    changed = b.changed;
    seen = a.seen ++ b.seen;
    part = in_words (all_calls a.seen b.seen) (kept_joined a.part b.part);
    ran = runs_on (held_in old) (held_in mid) (held_in new) a.seen b.seen a.steps b.ran;
    headers = both_begin a.seen b.seen a.headers b.headers;
  }

  -- ---- a turn

  limits_stay : (old new : ServerValue) (took : Option Took) → TakesAny old took new → old.table.config ≡ config → new.table.config ≡ config
  limits_stay old new None takes limits = ap (λ (x : ServerValue). x.table.config) takes ∙ limits
  limits_stay old new (Some took) takes limits = (turn_keeps old took.turn new takes.server).1 ∙ limits

  turned : (q : P) (old new : Keeping P S C) (entry : Option Entry) (sent : Sent) → HasChanged changes q old.port → old.server.table.config ≡ config → KeepsTurn does keeps tells old entry sent new → Stage q old new
  turned q old new entry sent changed limits k =
      let same : new.server.table.config ≡ config = (turn_keeps old.server k.took.turn new.server k.takes.server).1 ∙ limits in
      let m = both_moved does changes keeps k.calls (devices_of old) (devices_of new) q changed k.devices_did in
      record {
        port = m.port;
        changed = m.changed;
        seen = record { took = Some k.took; calls = k.calls } ∷ [];
        part = in_words (sym (append-nil k.calls)) (kept.turned (DoesChanged does changes) keeps tells config q m.port old.clock new.clock old.store new.store k.takes
            (subst (λ (c : ConfigValue). Passes c.life old.waiting k.took sent.ahead k.calls k.readings new.waiting) same k.passes) m.did k.clock_told);
        steps = chain_one Steps (held_in old) (record { took = Some k.took; calls = k.calls }) (held_in new) (runs.takes_turn new.server.table.config.life k.took sent.ahead k.calls k.readings new.server new.waiting k.takes k.passes);
        headers = one_begins (Some k.took) k.calls (of_turn (BeginsWith own) (λ change. tt) tt new.server.table.config.life old.waiting k.took sent.ahead k.calls k.readings new.waiting k.passes);
        config_is = same;
      }

  -- a turn in which a device fails
  record Broke (q : P) (old new : Keeping P S C) (calls : List DeviceCall) : Type 0 where
    pub port : P
    pub changed : HasChanged changes port new.port
    pub part : Kept old new q port calls

  broke : (q : P) (old new : Keeping P S C) (why : KeepFault) → HasChanged changes q old.port → old.server.table.config ≡ config → (b : BreaksKeeping does keeps tells why old new) → Broke q old new b.calls
  broke q old new why changed limits b =
      let m = both_moved does changes keeps b.calls (devices_of old) (devices_of new) q changed b.devices_did in
      record {
        port = m.port;
        changed = m.changed;
        part = kept.broken (DoesChanged does changes) keeps tells config q m.port old.clock new.clock old.store new.store b.takes
            (subst (λ (c : ConfigValue). Fails c.life old.waiting b.took why b.calls b.readings new.waiting) (limits_stay old.server new.server b.took b.takes limits) b.fails) m.did b.clock_told;
      }

  -- ---- one thing after another

  one : (q : P) (old new : Keeping P S C) → HasChanged changes q old.port → old.server.table.config ≡ config → Works does changes keeps tells days own old new → Stage q old new
  unfolding read_alone no_part
  one q old _ changed limits (takes_turn entry sent new k) = turned q old new entry sent changed limits k
  one q old _ changed limits (port_fails new b) =
      let it = broke q old new fault.Port changed limits b in
      record {
        port = it.port;
        changed = it.changed;
        seen = record { took = b.took; calls = b.calls } ∷ [];
        part = in_words (sym (append-nil b.calls)) it.part;
        steps = chain_one Steps (held_in old) (record { took = b.took; calls = b.calls }) (held_in new) (runs.port_fails new.server.table.config.life b.took b.calls b.readings new.server new.waiting b.takes b.fails);
        headers = one_begins b.took b.calls (of_fault (BeginsWith own) (λ change. tt) tt (λ change. tt) tt new.server.table.config.life old.waiting b.took fault.Port b.calls b.readings new.waiting b.fails);
        config_is = limits_stay old.server new.server b.took b.takes limits;
      }
  one q old _ changed limits (reads_clock now clock told) = record {
    port = q;
    changed = changed;
    seen = [];
    part = record { part = read_alone (ServerLives config) config.life (DoesChanged does changes) tells keeps now (λ story owed. owed_at_a_reading old.waiting.replies now story owed) told refl refl; calls_are = refl };
    steps = refl;
    headers = tt;
    config_is = limits;
  }
  one q old _ changed limits (looks at day header new of_own did) =
      let l = is_looked keeps days own any_pair old.server at (record { store = old.store; day = day; header = header; waiting = old.waiting }) new of_own did in
      record {
        port = q;
        changed = changed;
        seen = l.seen;
        part = in_words (sym l.are) (stored_alone (DoesChanged does changes) keeps tells config q old.clock old.store new.store old.server old.waiting.replies new.waiting.replies l.calls l.did l.owed);
        steps = l.steps;
        headers = subst (λ (cs : List DeviceCall). AllBeginWith own (stored_in cs)) (sym l.are) (subst (AllBeginWith own) (sym (stores_all l.calls)) l.headers);
        config_is = limits;
      }
  one q old _ changed limits (port_changes port change) = record {
    port = q;
    changed = changed_again old.port port changed change;
    seen = [];
    part = record { part = no_part (ServerLives config) config.life (DoesChanged does changes) tells keeps refl refl; calls_are = refl };
    steps = refl;
    headers = tt;
    config_is = limits;
  }

  last : (q : P) (old new : Keeping P S C) → HasChanged changes q old.port → old.server.table.config ≡ config → StopsWork does changes keeps tells days own old new → Done q old new
  last q old _ changed limits (in_turn new b) =
      let it = broke q old new fault.Store changed limits b in
      record {
        port = it.port;
        changed = it.changed;
        seen = record { took = b.took; calls = b.calls } ∷ [];
        part = in_words (sym (append-nil b.calls)) it.part;
        ran = runs.ends [] (held_in old) (record { took = b.took; calls = b.calls }) (held_in new) refl (runs.store_fails new.server.table.config.life b.took b.calls b.readings new.server new.waiting b.takes b.fails);
        headers = one_begins b.took b.calls (of_fault (BeginsWith own) (λ change. tt) tt (λ change. tt) tt new.server.table.config.life old.waiting b.took fault.Store b.calls b.readings new.waiting b.fails);
      }
  last q old _ changed limits (at_look at day header new failed) =
      let l = failed_to_look keeps days own any_pair old.server at (record { store = old.store; day = day; header = header; waiting = old.waiting }) new failed in
      record {
        port = q;
        changed = changed;
        seen = l.seen;
        part = in_words (sym l.are) (stored_alone (DoesChanged does changes) keeps tells config q old.clock old.store new.store old.server old.waiting.replies new.waiting.replies l.calls l.did l.owed);
        ran = l.ran;
        headers = subst (λ (cs : List DeviceCall). AllBeginWith own (stored_in cs)) (sym l.are) (subst (AllBeginWith own) (sym (stores_all l.calls)) l.headers);
      }

  all : (old new : Keeping P S C) → old.server.table.config ≡ config → IsAtWork does changes keeps tells days own old new → Stage old.port old new
  unfolding no_part
  all old _ limits begins = record {
    port = old.port;
    changed = stays;
    seen = [];
    part = record { part = no_part (ServerLives config) config.life (DoesChanged does changes) tells keeps refl refl; calls_are = refl };
    steps = refl;
    headers = tt;
    config_is = limits;
  }
  all old _ limits (goes_on mid new so_far works) =
      let a = all old mid limits so_far in
      joined a (one a.port mid new a.changed a.config_is works)

  finished : (old new : Keeping P S C) → old.server.table.config ≡ config → HasWorked does changes keeps tells days own old new → Done old.port old new
  finished old new limits (inl work) = done (all old new limits work)
  finished old new limits (inr (mid, work, stops)) =
      let a = all old mid limits work in
      ended a (last a.port mid new a.changed a.config_is stops)

  -- where no reply waits at first
  pub work_is_lived : (old new : Keeping P S C) → old.server.table.config ≡ config → old.waiting.replies ≡ [] → HasWorked does changes keeps tells days own old new → WorkIsLived does changes keeps tells own config old new
  unfolding whole
  work_is_lived old new limits none worked =
      let d = finished old new limits worked in
      let owed : AreOwed old.waiting.replies no_story = subst (λ (replies : List ReplyValue). AreOwed replies no_story) (sym none) tt in
      record {
        port = d.port;
        changed = d.changed;
        lived = whole (ServerLives config) config.life (DoesChanged does changes) tells keeps {Known = AreOwed old.waiting.replies} owed d.part.part;
        seen = d.seen;
        runs = d.ran;
        calls_are = d.part.calls_are;
        headers = d.headers;
      }
