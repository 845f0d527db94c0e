-- A whole server with a state, over crashes.
use Rattle.std.proofs.Common.{◌≡◌, ◌∙◌, ℕ, Option, Some, None, List, [], ◌∷◌, ◌++◌, ap, sym, subst, refl}
use Rattle.std.proofs.lemmas.Option.{same_Some}
use Rattle.nbt_port.specs.Clocks.{SteadyTells, SystemShows, TellsAhead}
use Rattle.nbt_port.specs.PortCalls.{Chain, PortCall}
use Rattle.nbt_port.specs.declared.ahead.Ahead.{Ahead}
use Rattle.nbt_store.specs.Calls.{StoreCall}
use Rattle.nbt_store.specs.DiskCalls.{DiskCall}
use Rattle.nbt_store.specs.DiskStores.{AskInTurn, nothing_asked, one_more_asks, Tail, tail_at}
use Rattle.nbt_server.specs.Serving.{ServerValue}
use Rattle.nbt_serve.specs.Devices.{DeviceCall}
use Rattle.nbt_serve.specs.Runs.{Held, Runs, calls_in, stored_in}
use Rattle.nbt_nbns.specs.Folders.{FolderDoes, FolderValue}
use Rattle.nbt_nbns.specs.Running.{Nbns, PortDoes}
use Rattle.nbt_nbns.specs.Servers.{StartsKept}
use Rattle.nbt_nbns.specs.Staying.{keeping_of}
use Rattle.nbt_nbns.specs.declared.arguments.NbnsArguments.{NbnsArguments}
use Rattle.nbt_nbns.specs.declared.arguments.StateFolder.{StateFolder}
use Rattle.nbt_nbns.specs.declared.first_line.Manner.{Manner}
use Rattle.nbt_nbns.specs.declared.state.State.{State}
use Rattle.nbt_net.specs.Again.{held_of}
use Rattle.nbt_net.specs.Devices.{Call, of_port, reads, of_store, Machine, MachineDoes, StoreDoes, devices_in}
use Rattle.nbt_net.specs.Headers.{AllBeginWith, FileNextStart, IsHeaderOf, OpeningNextStart}
use Rattle.nbt_net.specs.Working.{DoesChanged, PutsFront, held_in}
use Rattle.nbt_net.proofs.Finding.{first_of_all}
use Rattle.nbt_net.proofs.Ordering.{stored-append}
use Rattle.nbt_whole.specs.Nbns.{KeptIsLived, KeptGoesOn, KeptAreLived, FailedKeptAreLived, KeptGoOn, FailedKeptGoOn}

-- ---- the calls of a store among those of all devices

module _ {P C S : Type 0} (does : P → PortCall → P → Type 0) (tells : C → ℕ → C → Type 0) (keeps : S → StoreCall → S → Type 0) where
  -- one call of a store that is there
  stored : (old new : Option S) (call : StoreCall) (s : S) → StoreDoes keeps old call new → old ≡ Some s → (t : S) × (new ≡ Some t) × keeps s call t
  stored None new call s did is = absurd cc
  stored (Some x) None call s did is = absurd did
  stored (Some x) (Some y) call s did is = (y, refl, subst (λ (z : S). keeps z call y) (same_Some x s is) did)

  -- all of them
  all_stored : (calls : List Call) (old new : Machine P C S) (s t : S) → Chain (MachineDoes does tells keeps) old calls new → old.store ≡ Some s → new.store ≡ Some t → Chain keeps s (stored_in (devices_in calls)) t
  all_stored [] old new s t chain was is = same_Some t s (sym is ∙ ap (λ (m : Machine P C S). m.store) chain ∙ was)
  all_stored (of_port call ∷ calls) old new s t chain was is = all_stored calls chain.0 new s t chain.2 (chain.1.2 ∙ was) is
  all_stored (reads now ∷ calls) old new s t chain was is = all_stored calls chain.0 new s t chain.2 (chain.1.2 ∙ was) is
  all_stored (of_store call ∷ calls) old new s t chain was is =
      let next = stored old.store chain.0.store call s chain.1.0 was in
      (next.0, next.2, all_stored calls chain.0 new next.0 t chain.2 next.1 is)

-- ---- a folder

-- what its calls asked, one after the other
asked_of : (calls : List StoreCall) (old new : FolderValue) → Chain FolderDoes old calls new → (asked : List DiskCall) × AskInTurn calls old.tail asked new.tail
asked_of [] old new e = ([], subst (λ (t : Tail). AskInTurn [] old.tail [] t) (sym (ap (λ (f : FolderValue). f.tail) e)) (nothing_asked old.tail))
asked_of (call ∷ calls) old new chain =
    let others = asked_of calls chain.0 new chain.2 in
    (chain.1.asked ++ others.0, one_more_asks call calls old.tail chain.0.tail new.tail chain.1.asked others.0 chain.1.asks others.1)

-- ---- a server

module _ (law : FileNextStart) (opening_law : OpeningNextStart) (a : NbnsArguments) (state : StateFolder) (first last : Nbns (Ahead ℕ)) (manner : Manner) (s : StartsKept a state manner first) (k : KeptIsLived a s.finds.begun first last) where
  -- the store is at first as it was opened
  store_is : k.old.store ≡ s.store
  store_is = ap (λ (here : State FolderValue). here.store) (same_Some k.old _ (sym k.was_there ∙ ap (λ (here : Nbns (Ahead ℕ)). here.served.state) s.first_is))

  tail_is : k.old.store.tail ≡ tail_at s.opened.sum
  tail_is = ap (λ (f : FolderValue). f.tail) (store_is ∙ s.opened.folder_is)

  -- what it did
  did : Chain FolderDoes k.old.store (stored_in (calls_in k.lived.seen)) k.new.store
  did = subst (λ (calls : List DeviceCall). Chain FolderDoes k.old.store (stored_in calls) k.new.store) k.lived.calls_are
      (all_stored (DoesChanged (PortDoes a.strict) PutsFront) (TellsAhead (SteadyTells SystemShows)) FolderDoes k.lived.lived.calls _ _ k.old.store k.new.store k.lived.lived.did refl refl)

  -- a run of the server that began
  runs : Runs (held_of (Some a.rows_per_client) s.finds.begun) k.lived.seen (held_in (keeping_of last.served k.new))
  runs = subst (λ (h : Held). Runs h k.lived.seen (held_in (keeping_of last.served k.new))) k.began k.lived.runs

  own : (before behind : List DeviceCall) → calls_in k.lived.seen ≡ before ++ behind → AllBeginWith (IsHeaderOf (held_of (Some a.rows_per_client) s.finds.begun).server) (stored_in before)
  own before behind are =
      let all_own = subst (AllBeginWith (IsHeaderOf first.served.server)) (ap stored_in are ∙ stored-append before behind) k.lived.headers in
      subst (λ (server : ServerValue). AllBeginWith (IsHeaderOf server) (stored_in before)) (ap (λ (h : Held). h.server) k.began) (first_of_all (IsHeaderOf first.served.server) (stored_in before) (stored_in behind) all_own)

  goes_on : KeptGoesOn a s.finds.begun s.store s.opened first last
  goes_on =
      let asked = asked_of (stored_in (calls_in k.lived.seen)) k.old.store k.new.store did in
      record {
        kept = k;
        asks = (asked.0, subst (λ (t : Tail). AskInTurn (stored_in (calls_in k.lived.seen)) t asked.0 k.new.store.tail) tail_is asked.1);
        next = λ config acts limits way before behind are asked mid in_turn octets crash.
            law config acts s.finds.found.found s.finds.begun (Some a.rows_per_client) (held_in (keeping_of last.served k.new)) k.lived.seen s.finds.found.begins way runs limits before behind are s.opened.text s.opened.sum asked mid s.opened.new_file in_turn
            (own before behind are) octets crash;
        opens = λ config acts limits way folder asked opening octets opens crash.
            opening_law config acts s.finds.found.found s.finds.begun (Some a.rows_per_client) s.finds.found.begins way limits s.opened.text s.opened.sum s.opened.new_file folder asked opening octets opens crash;
      }

pub kept_go_on : FileNextStart → OpeningNextStart → KeptAreLived → KeptGoOn
kept_go_on law opening_law lived a state old_text text ran = goes_on law opening_law a state ran.first ran.last ran.manner ran.begins (lived a state old_text text ran)

pub failed_kept_go_on : FileNextStart → OpeningNextStart → FailedKeptAreLived → FailedKeptGoOn
failed_kept_go_on law opening_law lived a state why old_text text ran = goes_on law opening_law a state ran.first ran.last ran.manner ran.begins (lived a state why old_text text ran)
