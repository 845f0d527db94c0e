-- The calls of a run's store went well, but maybe the last.
use Rattle.std.proofs.Common.{◌≡◌, ◌∙◌, ℕ, false, Option, List, [], ◌∷◌, ◌++◌, map, inl, inr, ap, sym, subst, refl, append_assoc, append-nil}
use Rattle.std.specs.Prelude.{◌⊎◌, ⊤}
use Rattle.std.specs.List.{flat_map}
use Rattle.nbt_port.specs.PortCalls.{Chain}
use Rattle.nbt_store.specs.Calls.{StoreCall, appended, append_failed, synced, has_failed, WentWell}
use Rattle.nbt_store.specs.declared.change.Change.{Change}
use Rattle.nbt_serve.specs.Devices.{DeviceCall, on_store}
use Rattle.nbt_serve.specs.Runs.{Held, Seen, Steps, takes_turn, port_fails, looks, begins_renewal, goes_on_renewing, renews, Ends, store_fails, look_fails, renewal_fails, Runs, goes_on, ends, calls_in, stored_in}
use Rattle.nbt_serve.specs.Serving.{moments_in}
use Rattle.nbt_serve.specs.Turning.{LeavingFails, sync_fails, send_fails, Fails, receive_fails, reaching_fails, append_fails, ahead_fails, leaving_fails, first_calls, reached, with_reply, Took}
use Rattle.nbt_serve.specs.Waiting.{WaitingValue, lay_down, LineFails, not_appended, not_synced}
use Rattle.nbt_serve.specs.declared.fault.KeepFault.{KeepFault}
use Rattle.nbt_serve.specs.declared.fault.KeepFault.TheVariants as fault
use Rattle.nbt_net.specs.Headers.{AllButLast, all_of_them, but_the_last}
use Rattle.nbt_net.proofs.Looks.{stores_all}
use Rattle.nbt_net.proofs.Ordering.{stored-append}
use Rattle.nbt_net.proofs.StoreCalls.{devices_both, of_first, of_lines, of_port_fault, of_turn}

-- ---- calls that went well, and one more at most

abbrev MayEndBadly : List StoreCall → Type 0
MayEndBadly [] = ⊤
MayEndBadly (call ∷ calls) = ((has_failed call ≡ false) × MayEndBadly calls) ⊎ (calls ≡ [])

well_may : (calls : List StoreCall) → WentWell calls → MayEndBadly calls
well_may [] well = tt
well_may (call ∷ calls) well = inl (well.0, well_may calls well.1)

well_then_may : (a b : List StoreCall) → WentWell a → MayEndBadly b → MayEndBadly (a ++ b)
well_then_may [] b well others = others
well_then_may (call ∷ a) b well others = inl (well.0, well_then_may a b well.1 others)

none_before : (a b : List StoreCall) → a ++ b ≡ [] → a ≡ []
none_before [] b e = refl
none_before (call ∷ a) b e = absurd cc

first_may : (a b : List StoreCall) → MayEndBadly (a ++ b) → MayEndBadly a
first_may [] b may = tt
first_may (call ∷ a) b (inl may) = inl (may.0, first_may a b may.1)
first_may (call ∷ a) b (inr e) = inr (none_before a b e)

one_before : (call : StoreCall) (calls : List StoreCall) → has_failed call ≡ false → AllButLast calls → AllButLast (call ∷ calls)
one_before call calls is (all_of_them well) = all_of_them (is, well)
one_before call calls is (but_the_last before last e well) = but_the_last (call ∷ before) last (ap (λ (cs : List StoreCall). call ∷ cs) e) (is, well)

all_but_last : (calls : List StoreCall) → MayEndBadly calls → AllButLast calls
all_but_last [] may = all_of_them tt
all_but_last (call ∷ calls) (inl may) = one_before call calls may.0 (all_but_last calls may.1)
all_but_last (call ∷ calls) (inr e) = but_the_last [] call (ap (λ (cs : List StoreCall). call ∷ cs) e) tt

-- ---- of the devices' calls

abbrev DidWell : StoreCall → Type 0
DidWell call = has_failed call ≡ false

abbrev StoreWell : List DeviceCall → Type 0
StoreWell calls = WentWell (stored_in calls)

appends_well : (change : Change) → DidWell (appended change)
appends_well change = refl

syncs_well : DidWell synced
syncs_well = refl

devices_may : (a b : List DeviceCall) → StoreWell a → MayEndBadly (stored_in b) → MayEndBadly (stored_in (a ++ b))
devices_may a b well others = subst MayEndBadly (sym (stored-append a b)) (well_then_may (stored_in a) (stored_in b) well others)

-- ---- a turn in which the store fails

line_may : (change : Change) (calls : List StoreCall) → LineFails change calls → MayEndBadly (stored_in (map on_store calls))
line_may change _ not_appended = inr refl
line_may change _ not_synced = inl (refl, inr refl)

leaving_store : (life : ℕ) (old : WaitingValue) (why : KeepFault) (calls : List DeviceCall) (readings : List ℕ) (new : WaitingValue) → LeavingFails life old why calls readings new → why ≡ fault.Store → MayEndBadly (stored_in calls)
leaving_store life old _ _ _ _ (sync_fails some) is = inr refl
leaving_store life old _ _ _ _ (send_fails now before lost rest e) is = absurd cc

store_may : (life : ℕ) (old : WaitingValue) (took : Option Took) (why : KeepFault) (calls : List DeviceCall) (readings : List ℕ) (new : WaitingValue) → Fails life old took why calls readings new → why ≡ fault.Store → MayEndBadly (stored_in calls)
store_may life old _ _ _ _ _ receive_fails is = absurd cc
store_may life old _ _ _ _ _ (reaching_fails now from octets calls late fails) is = line_may _ calls fails
store_may life old _ _ _ _ _ (append_fails turn change) is =
    let lines : List StoreCall = flat_map lay_down (reached old.durable (moments_in turn)) in
    subst MayEndBadly (sym (stores_all (lines ++ append_failed change ∷ []))) (well_then_may lines (append_failed change ∷ []) (of_lines DidWell appends_well syncs_well (reached old.durable (moments_in turn))) (inr refl))
store_may life old _ _ _ _ _ (ahead_fails took lost ahead e) is = absurd cc
store_may life old _ _ _ _ _ (leaving_fails took ahead why calls readings new is_ahead go fails) is = devices_may (first_calls ahead took old) calls (of_first DidWell appends_well syncs_well ahead took old) (leaving_store life (with_reply ahead took old) why calls readings new fails is)

-- ---- a run

step_well : (old : Held) (seen : Seen) (new : Held) → Steps old seen new → StoreWell seen.calls
step_well old _ _ (takes_turn life took ahead calls readings server waiting takes passes) = of_turn DidWell appends_well syncs_well life old.waiting took ahead calls readings waiting passes
step_well old _ _ (port_fails life took calls readings server waiting takes fails) = of_port_fault DidWell appends_well syncs_well life old.waiting took fault.Port calls readings waiting fails refl
step_well old _ _ (looks day at clear late) = (refl, (refl, tt))
step_well old _ _ (begins_renewal header clear late) = (refl, tt)
step_well old _ _ (goes_on_renewing clear) = (refl, tt)
step_well old _ _ (renews clear) = (refl, tt)

end_may : (old : Held) (seen : Seen) (new : Held) → Ends old seen new → MayEndBadly (stored_in seen.calls)
end_may old _ _ (store_fails life took calls readings server waiting takes fails) = store_may life old.waiting took fault.Store calls readings waiting fails refl
end_may old _ _ (look_fails day at calls clear late fails) = line_may _ calls fails
end_may old _ _ (renewal_fails clear) = inr refl

steps_well : (seen : List Seen) (old new : Held) → Chain Steps old seen new → StoreWell (calls_in seen)
steps_well [] old new chain = tt
steps_well (s ∷ seen) old new chain = devices_both DidWell appends_well syncs_well s.calls (calls_in seen) (step_well old s chain.0 chain.1) (steps_well seen chain.0 new chain.2)

calls_last : (seen : List Seen) (last : Seen) → calls_in (seen ++ last ∷ []) ≡ calls_in seen ++ last.calls
calls_last [] last = append-nil last.calls
calls_last (s ∷ seen) last = ap (λ (cs : List DeviceCall). s.calls ++ cs) (calls_last seen last) ∙ sym (append_assoc s.calls (calls_in seen) last.calls)

run_may : (old new : Held) (seen : List Seen) → Runs old seen new → MayEndBadly (stored_in (calls_in seen))
run_may old new _ (goes_on seen _ chain) = well_may (stored_in (calls_in seen)) (steps_well seen old new chain)
run_may old new _ (ends seen mid last _ chain end) =
    subst (λ (cs : List DeviceCall). MayEndBadly (stored_in cs)) (sym (calls_last seen last)) (devices_may (calls_in seen) last.calls (steps_well seen old mid chain) (end_may mid last new end))

pub run_went_well : (old new : Held) (seen : List Seen) → Runs old seen new → (before behind : List DeviceCall) → calls_in seen ≡ before ++ behind → AllButLast (stored_in before)
run_went_well old new seen runs before behind are =
    all_but_last (stored_in before) (first_may (stored_in before) (stored_in behind) (subst MayEndBadly (ap stored_in are ∙ stored-append before behind) (run_may old new seen runs)))
