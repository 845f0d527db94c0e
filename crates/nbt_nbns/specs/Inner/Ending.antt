-- What comes of a turn that went well, once the file was looked after (private functions alone).
use Rattle.std.specs.Prelude.{◌≡◌, ℕ, Option}
use Rattle.nbt_port.specs.Until.{IsOver}
use Rattle.nbt_port.specs.declared.fault.Fault.TheVariants.{Store}
use Rattle.nbt_port.specs.declared.staying.Turned.{Turned}
use Rattle.nbt_port.specs.declared.staying.Turned.TheVariants as t
use Rattle.nbt_server.specs.Serving.{ServerValue}
use Rattle.nbt_store.specs.Calls.{StoreCall}
use Rattle.nbt_nbns.specs.Staying.{IsIdle, LooksAfterState, FailsToLookAfter}
use Rattle.nbt_nbns.specs.declared.state.State.{State}

-- it was the last, or it wasn't
abbrev pub EndsSo : {S : Type 0} → (until : Option ℕ) → (at : ℕ) → Option (State S) → Turned → Type 0
EndsSo until at state t.Well = IsOver until at → ¬ IsIdle state
EndsSo until at state t.Last = IsOver until at × IsIdle state
EndsSo until at state _ = ⊥

abbrev pub ComesTo : {S D : Type 0} → (S → StoreCall → S → Type 0) → (D → ℕ → D → Type 0) → ServerValue → (until : Option ℕ) → (at : ℕ) → (old : Option (State S)) → (old_day : D) → (new : Option (State S)) → (day : D) → Turned → Type 0
ComesTo keeps days server until at old old_day new day (t.CutOff fault) = (fault ≡ Store) × FailsToLookAfter keeps days server at old old_day new day
ComesTo keeps days server until at old old_day new day turned = LooksAfterState keeps days server at old old_day new day × EndsSo until at new turned
