-- The file of a server that keeps its leases is looked after: calls of its store alone.
use Rattle.std.proofs.Common.{◌≡◌, ◌≤◌, ℕ, List, [], ◌∷◌, ◌++◌, map, Some, None, refl, sym, ap, subst, ◌∙◌, append-nil, arith}
use Rattle.nbt_lease.specs.Config.{ConfigValue}
use Rattle.nbt_port.specs.PortCalls.{PortCall, Chain}
use Rattle.nbt_port.proofs.Chains.{chain_one, chain-append}
use Rattle.nbt_server.specs.Serving.{ServerValue}
use Rattle.nbt_store.specs.Calls.{StoreCall, renewal_began, renewal_went_on, renewed, renewal_failed}
use Rattle.nbt_store.specs.Changes.{begun_all}
use Rattle.nbt_store.specs.declared.change.Change.{Change}
use Rattle.nbt_store.specs.declared.change.Change.TheVariants.{Looked}
use Rattle.nbt_store.specs.declared.header.Header.{Header}
use Rattle.nbt_serve.specs.Devices.{on_store}
use Rattle.nbt_serve.specs.Looking.{Desk, LooksAfter, replies_wait, goes_back, stays, has_no_room, looked, begun, went_on, written, FailsToLook, line_fails, begin_fails, renewal_fails, header_at}
use Rattle.nbt_serve.specs.Runs as runs
use Rattle.nbt_serve.specs.Runs.{Runs, Seen, Steps, calls_in, live_rows, stored_in}
use Rattle.nbt_serve.specs.Waiting.{ReplyValue, none_waits, lay_down, LineFails, not_appended, not_synced}
use Rattle.nbt_net.specs.Devices.{StoreDoes, Story}
use Rattle.nbt_net.specs.Headers.{AllBeginWith, BeginsWith}
use Rattle.nbt_net.specs.Working.{HaveAnyPair}
use Rattle.nbt_net.proofs.Ordering.{kept_machine, put_in_order, some_kept, sends_in, calls_of, ports_both, read_both, kept_both, devices_both}
use Rattle.nbt_net.proofs.Parts.{all_in_order, all_stored}
use Rattle.nbt_net.proofs.ServerParts.{AreOwed, KeptPart}

sends_none : (calls : List StoreCall) → sends_in (map on_store calls) ≡ []
sends_none [] = refl
sends_none (call ∷ calls) = sends_none calls

pub stores_all : (calls : List StoreCall) → stored_in (map on_store calls) ≡ calls
stores_all [] = refl
stores_all (call ∷ calls) = ap (λ (rest : List StoreCall). call ∷ rest) (stores_all calls)

-- a step of these calls of the store
abbrev step_of : List StoreCall → Seen
step_of calls = record { took = None; calls = map on_store calls }

one_seen : (calls : List StoreCall) → calls_in (step_of calls ∷ []) ≡ map on_store calls
one_seen calls = append-nil (map on_store calls)

-- what a look came to: the store's calls, as steps of a run, and what waits
pub record IsLooked {S D : Type 0} (keeps : S → StoreCall → S → Type 0) (own : Header → Type 0) (server : ServerValue) (old new : Desk S D) : Type 0 where
  pub calls : List StoreCall
  pub did : Chain keeps old.store calls new.store
  pub seen : List Seen
  pub steps : Chain Steps (record { server = server; waiting = old.waiting }) seen (record { server = server; waiting = new.waiting })
  pub are : calls_in seen ≡ map on_store calls
  pub owed : (story : Story) → AreOwed old.waiting.replies story → AreOwed new.waiting.replies story
  pub headers : AllBeginWith own calls

-- the same where the store fails at the last of them
pub record FailedToLook {S D : Type 0} (keeps : S → StoreCall → S → Type 0) (own : Header → Type 0) (server : ServerValue) (old new : Desk S D) : Type 0 where
  pub calls : List StoreCall
  pub did : Chain keeps old.store calls new.store
  pub seen : List Seen
  pub ran : Runs (record { server = server; waiting = old.waiting }) seen (record { server = server; waiting = new.waiting })
  pub are : calls_in seen ≡ map on_store calls
  pub owed : (story : Story) → AreOwed old.waiting.replies story → AreOwed new.waiting.replies story
  pub headers : AllBeginWith own calls

module _ {S D : Type 0} (keeps : S → StoreCall → S → Type 0) (days : D → ℕ → D → Type 0) (own : Header → Type 0) (any_pair : HaveAnyPair own) (server : ServerValue) (at : ℕ) where
  of_line_fails : (change : Change) (calls : List StoreCall) → LineFails change calls → AllBeginWith own calls
  of_line_fails change _ not_appended = (tt, tt)
  of_line_fails change _ not_synced = (tt, (tt, tt))

  none_done : (old : Desk S D) (day : D) → IsLooked keeps own server old (record old { day = day })
  none_done old day = record { calls = []; did = refl; seen = []; steps = refl; are = refl; owed = λ story owed. owed; headers = tt }

  -- a call that leaves what waits as it is
  one_done : (old : Desk S D) (day : D) (store : S) (call : StoreCall) → BeginsWith own call → keeps old.store call store → Steps (record { server = server; waiting = old.waiting }) (step_of (call ∷ [])) (record { server = server; waiting = old.waiting })
      → IsLooked keeps own server old (record { store = store; day = day; header = old.header; waiting = old.waiting })
  one_done old day store call begins did step = record {
    calls = call ∷ [];
    did = chain_one keeps old.store call store did;
    seen = step_of (call ∷ []) ∷ [];
    steps = chain_one Steps (record { server = server; waiting = old.waiting }) (step_of (call ∷ [])) (record { server = server; waiting = old.waiting }) step;
    are = refl;
    owed = λ story owed. owed;
    headers = (begins, tt);
  }

  pub is_looked : (old new : Desk S D) → own old.header → LooksAfter keeps days server at old new → IsLooked keeps own server old new
  is_looked old _ of_own (replies_wait some) = none_done old old.day
  is_looked old _ of_own (goes_back early) = none_done old old.day
  is_looked old _ of_own (stays time day clear late told due) = none_done old day
  is_looked old _ of_own (has_no_room time day clear late told) = none_done old day
  is_looked old _ of_own (looked time day store clear late told due did) = record {
    calls = lay_down (Looked time at);
    did = did;
    seen = step_of (lay_down (Looked time at)) ∷ [];
    steps = chain_one Steps (record { server = server; waiting = old.waiting }) (step_of (lay_down (Looked time at))) (record { server = server; waiting = none_waits at }) (runs.looks time at clear late);
    are = one_seen (lay_down (Looked time at));
    owed = λ story owed. tt;
    headers = (tt, (tt, tt));
  }
  is_looked old _ of_own (begun time day mid store clear late told due did began) = record {
    calls = lay_down (Looked time at) ++ first ∷ [];
    did = chain-append keeps old.store mid store (lay_down (Looked time at)) (first ∷ []) did (chain_one keeps mid first store began);
    seen = step_of (lay_down (Looked time at)) ∷ step_of (first ∷ []) ∷ [];
    steps = (record { server = server; waiting = none_waits at }, runs.looks time at clear late, chain_one Steps (record { server = server; waiting = none_waits at }) (step_of (first ∷ [])) (record { server = server; waiting = none_waits at }) (runs.begins_renewal (header_at old.header at time) refl here));
    are = refl;
    owed = λ story owed. tt;
    headers = (tt, (tt, (any_pair old.header at time of_own, tt)));
  }
    where
      first : StoreCall
      first = renewal_began (header_at old.header at time) (begun_all at (live_rows server))

      here : at ≤ at
      here = omega arith
  is_looked old _ of_own (went_on time day store clear late told due did) = one_done old day store renewal_went_on tt did (runs.goes_on_renewing clear)
  is_looked old _ of_own (written time day store clear late told due did) = one_done old day store renewed tt did (runs.renews clear)

  pub failed_to_look : (old new : Desk S D) → FailsToLook keeps days server at old new → FailedToLook keeps own server old new
  failed_to_look old _ (line_fails time day store calls clear late told fails did) = record {
    calls = calls;
    did = did;
    seen = step_of calls ∷ [];
    ran = runs.ends [] (record { server = server; waiting = old.waiting }) (step_of calls) _ refl (runs.look_fails time at calls clear late fails);
    are = one_seen calls;
    owed = λ story owed. tt;
    headers = of_line_fails (Looked time at) calls fails;
  }
  failed_to_look old _ (begin_fails time day mid store clear late told did fails) = record {
    calls = lay_down (Looked time at) ++ renewal_failed ∷ [];
    did = chain-append keeps old.store mid store (lay_down (Looked time at)) (renewal_failed ∷ []) did (chain_one keeps mid renewal_failed store fails);
    seen = step_of (lay_down (Looked time at)) ∷ step_of (renewal_failed ∷ []) ∷ [];
    ran = runs.ends (step_of (lay_down (Looked time at)) ∷ []) (record { server = server; waiting = none_waits at }) (step_of (renewal_failed ∷ [])) _
        (chain_one Steps (record { server = server; waiting = old.waiting }) (step_of (lay_down (Looked time at))) (record { server = server; waiting = none_waits at }) (runs.looks time at clear late)) (runs.renewal_fails refl);
    are = refl;
    owed = λ story owed. tt;
    headers = (tt, (tt, (tt, tt)));
  }
  failed_to_look old _ (renewal_fails time day store clear late told did) = record {
    calls = renewal_failed ∷ [];
    did = chain_one keeps old.store renewal_failed store did;
    seen = step_of (renewal_failed ∷ []) ∷ [];
    ran = runs.ends [] (record { server = server; waiting = old.waiting }) (step_of (renewal_failed ∷ [])) _ refl (runs.renewal_fails clear);
    are = refl;
    owed = λ story owed. owed;
    headers = (tt, tt);
  }

-- calls of the store alone are a part of the server's life in which it does nothing
module _ {P C S : Type 0} (does : P → PortCall → P → Type 0) (keeps : S → StoreCall → S → Type 0) (tells : C → ℕ → C → Type 0) (config : ConfigValue) where
  pub stored_alone : (port : P) (clock : C) (old_store store : S) (server : ServerValue) (waited waits : List ReplyValue) (calls : List StoreCall) → Chain keeps old_store calls store → ((story : Story) → AreOwed waited story → AreOwed waits story)
      → KeptPart does keeps tells config server waited (kept_machine port clock old_store) server waits (kept_machine port clock store) (map on_store calls)
  stored_alone port clock old_store store server waited waits calls did owed = record {
    part = record {
      calls = calls_of (map on_store calls);
      acts = [];
      did = put_in_order does tells keeps (calls_of (map on_store calls)) (kept_machine port clock old_store) (kept_machine port clock store)
          (subst (λ (cs : List PortCall). Chain does port cs port) (sym (ports_both (map on_store calls) ∙ sends_none calls)) refl)
          (subst (λ (ns : List ℕ). Chain tells clock ns clock) (sym (read_both (map on_store calls))) refl)
          (subst (λ (cs : List StoreCall). Chain (StoreDoes keeps) (Some old_store) cs (Some store)) (sym (kept_both (map on_store calls) ∙ stores_all calls)) (some_kept keeps calls old_store store did));
      lived = refl;
      goes = λ story known. (story, sym (append-nil story.acts), all_in_order (map on_store calls) (all_stored config.life story calls), owed story known);
    };
    calls_are = devices_both (map on_store calls);
  }
