-- What holds of each call of the store in a turn.
use Rattle.std.proofs.Common.{◌≡◌, ℕ, Bool, Option, Some, None, List, [], ◌∷◌, ◌++◌, map, sym, subst}
use Rattle.std.specs.List.{flat_map, AllByRecursion}
use Rattle.nbt_port.specs.PortCalls.{PortCall, send_failed}
use Rattle.nbt_store.specs.Calls.{StoreCall, appended, append_failed, synced, sync_failed}
use Rattle.nbt_store.specs.declared.change.Change.{Change}
use Rattle.nbt_serve.specs.Devices.{DeviceCall, on_port, on_store}
use Rattle.nbt_serve.specs.Runs.{stored_in}
use Rattle.nbt_serve.specs.Serving.{moments_in}
use Rattle.nbt_serve.specs.Turning.{Took, Passes, still_waits, all_leave, LeavingFails, sync_fails, send_fails, Fails, receive_fails, reaching_fails, append_fails, ahead_fails, leaving_fails, appends_of, first_calls, reached, reply_in, sent_ahead, stores, taking, with_reply}
use Rattle.nbt_serve.specs.Waiting.{WaitingValue, lay_down, LineFails, not_appended, not_synced, syncs_of, sends_of, timely, leaving}
use Rattle.nbt_serve.specs.declared.fault.KeepFault.{KeepFault}
use Rattle.nbt_serve.specs.declared.fault.KeepFault.TheVariants as fault
use Rattle.nbt_serve.specs.declared.waiting.Unsynced.{Unsynced}
use Rattle.nbt_net.proofs.Looks.{stores_all}
use Rattle.nbt_net.proofs.Ordering.{stored-append}

-- of an append and of a sync that went well
module _ (P : StoreCall → Type 0) (of_append : (change : Change) → P (appended change)) (of_sync : P synced) where
  abbrev pub Each : List StoreCall → Type 0
  Each calls = AllByRecursion P calls

  -- of the calls of the store among those of the devices
  abbrev pub EachStored : List DeviceCall → Type 0
  EachStored calls = Each (stored_in calls)

  pub each_both : (a b : List StoreCall) → Each a → Each b → Each (a ++ b)
  each_both [] b first second = second
  each_both (call ∷ a) b first second = (first.0, each_both a b first.1 second)

  pub devices_both : (a b : List DeviceCall) → EachStored a → EachStored b → EachStored (a ++ b)
  devices_both a b first second = subst Each (sym (stored-append a b)) (each_both (stored_in a) (stored_in b) first second)

  of_ports : (calls : List PortCall) → EachStored (map on_port calls)
  of_ports [] = tt
  of_ports (call ∷ calls) = of_ports calls

  pub of_stores : (calls : List StoreCall) → Each calls → EachStored (map on_store calls)
  of_stores calls each = subst Each (sym (stores_all calls)) each

  pub of_lines : (changes : List Change) → Each (flat_map lay_down changes)
  of_lines [] = tt
  of_lines (change ∷ changes) = (of_append change, (of_sync, of_lines changes))

  of_appends : (change : Option Change) → Each (appends_of change)
  of_appends None = tt
  of_appends (Some change) = (of_append change, tt)

  of_syncs : (unsynced : Option Unsynced) → Each (syncs_of unsynced)
  of_syncs None = tt
  of_syncs (Some unsynced) = (of_sync, tt)

  of_taking : (took : Took) (waiting : WaitingValue) → EachStored (taking took waiting)
  of_taking took waiting =
      of_stores (stores took waiting) (each_both (flat_map lay_down (reached waiting.durable (moments_in took.turn))) (appends_of took.change) (of_lines (reached waiting.durable (moments_in took.turn))) (of_appends took.change))

  pub of_first : (ahead : Bool) (took : Took) (waiting : WaitingValue) → EachStored (first_calls ahead took waiting)
  of_first ahead took waiting = devices_both (taking took waiting) (map on_port (sends_of (sent_ahead ahead (reply_in took.turn)))) (of_taking took waiting) (of_ports (sends_of (sent_ahead ahead (reply_in took.turn))))

  of_leaving : (unsynced : Option Unsynced) (calls : List PortCall) → EachStored (map on_store (syncs_of unsynced) ++ map on_port calls)
  of_leaving unsynced calls = devices_both (map on_store (syncs_of unsynced)) (map on_port calls) (of_stores (syncs_of unsynced) (of_syncs unsynced)) (of_ports calls)

  pub of_turn : (life : ℕ) (old : WaitingValue) (took : Took) (ahead : Bool) (calls : List DeviceCall) (readings : List ℕ) (new : WaitingValue) → Passes life old took ahead calls readings new → EachStored calls
  of_turn life old took ahead _ _ _ (still_waits is stays) = of_first ahead took old
  of_turn life old took ahead _ _ _ (all_leave is go now) =
      devices_both (first_calls ahead took old) (leaving life now (with_reply ahead took old)) (of_first ahead took old) (of_leaving (with_reply ahead took old).unsynced (sends_of (timely life now (with_reply ahead took old).replies)))

  leaving_port : (life : ℕ) (old : WaitingValue) (why : KeepFault) (calls : List DeviceCall) (readings : List ℕ) (new : WaitingValue) → LeavingFails life old why calls readings new → why ≡ fault.Port → EachStored calls
  leaving_port life old _ _ _ _ (sync_fails some) is = absurd cc
  leaving_port life old _ _ _ _ (send_fails now before lost rest e) is = of_leaving old.unsynced (sends_of before ++ send_failed lost.datagram.route lost.datagram.octets ∷ [])

  -- in a turn in which the port fails
  pub of_port_fault : (life : ℕ) (old : WaitingValue) (took : Option Took) (why : KeepFault) (calls : List DeviceCall) (readings : List ℕ) (new : WaitingValue) → Fails life old took why calls readings new → why ≡ fault.Port → EachStored calls
  of_port_fault life old _ _ _ _ _ receive_fails is = tt
  of_port_fault life old _ _ _ _ _ (reaching_fails now from octets calls late fails) is = absurd cc
  of_port_fault life old _ _ _ _ _ (append_fails turn change) is = absurd cc
  of_port_fault life old _ _ _ _ _ (ahead_fails took lost ahead e) is = devices_both (taking took old) (on_port (send_failed lost.datagram.route lost.datagram.octets) ∷ []) (of_taking took old) tt
  of_port_fault life old _ _ _ _ _ (leaving_fails took ahead why calls readings new is_ahead go fails) is =
      devices_both (first_calls ahead took old) calls (of_first ahead took old) (leaving_port life (with_reply ahead took old) why calls readings new fails is)

  -- and of those that failed
  module _ (of_append_fault : (change : Change) → P (append_failed change)) (of_sync_fault : P sync_failed) where
    pub of_line_fault : (change : Change) (calls : List StoreCall) → LineFails change calls → Each calls
    of_line_fault change _ not_appended = (of_append_fault change, tt)
    of_line_fault change _ not_synced = (of_append change, (of_sync_fault, tt))

    leaving_fault : (life : ℕ) (old : WaitingValue) (why : KeepFault) (calls : List DeviceCall) (readings : List ℕ) (new : WaitingValue) → LeavingFails life old why calls readings new → EachStored calls
    leaving_fault life old _ _ _ _ (sync_fails some) = (of_sync_fault, tt)
    leaving_fault life old _ _ _ _ (send_fails now before lost rest e) = of_leaving old.unsynced (sends_of before ++ send_failed lost.datagram.route lost.datagram.octets ∷ [])

    pub of_fault : (life : ℕ) (old : WaitingValue) (took : Option Took) (why : KeepFault) (calls : List DeviceCall) (readings : List ℕ) (new : WaitingValue) → Fails life old took why calls readings new → EachStored calls
    of_fault life old _ _ _ _ _ receive_fails = tt
    of_fault life old _ _ _ _ _ (reaching_fails now from octets calls late fails) = of_stores calls (of_line_fault _ calls fails)
    of_fault life old _ _ _ _ _ (append_fails turn change) =
        let lines : List StoreCall = flat_map lay_down (reached old.durable (moments_in turn)) in
        of_stores (lines ++ append_failed change ∷ []) (each_both lines (append_failed change ∷ []) (of_lines (reached old.durable (moments_in turn))) (of_append_fault change, tt))
    of_fault life old _ _ _ _ _ (ahead_fails took lost ahead e) = devices_both (taking took old) (on_port (send_failed lost.datagram.route lost.datagram.octets) ∷ []) (of_taking took old) tt
    of_fault life old _ _ _ _ _ (leaving_fails took ahead why calls readings new is_ahead go fails) = devices_both (first_calls ahead took old) calls (of_first ahead took old) (leaving_fault life (with_reply ahead took old) why calls readings new fails)
