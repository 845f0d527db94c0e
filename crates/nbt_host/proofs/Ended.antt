-- The end of a host, by how the giving back came out.
use Rattle.std.proofs.Common.{◌≡◌, ℕ, Result, Ok, Err, sym, subst, inl, inr}
use Rattle.std.specs.Prelude.{OnOk, OnErr, ◌⊎◌}
use Rattle.nbt_port.specs.PortCalls.{PortCall}
use Rattle.nbt_port.specs.declared.fault.Fault.{Fault}
use Rattle.nbt_port.specs.declared.fault.Fault.TheVariants as f
use Rattle.nbt_port.specs.declared.port.Device.{Device}
use Rattle.nbt_port.specs.Numbers.{forever}
use Rattle.nbt_host.specs.Releasing.{GivesAllBack, FailsToGiveBack}
use Rattle.nbt_host.specs.declared.watching.Look.{Look}
use Rattle.nbt_host.specs.Hosting.{Terms}
use Rattle.nbt_host.specs.Host.{HostingValue, Running}
use Rattle.nbt_host.specs.ReleaseLines.{releasing, EndsWell, EndsBadly, PrintsEnding, GivingBackFails, breaks}

module _ {P K : Type 0} (does : P → PortCall → P → Type 0) (tells : K → ℕ → K → Type 0) (looks : K → Look → K → Type 0) (t : Terms) (old_port port : P) (old new : HostingValue K) (ended : K) (at : ℕ)
    (told : tells ended at new.watch) where
  pub ended_so : {A : Type 0} (r : Result A Device) → OnOk r (GivesAllBack does tells looks t forever (releasing old_port old) (releasing port (record new { watch = ended })))
      → OnErr r (FailsToGiveBack does tells looks t forever (releasing old_port old) (releasing port (record new { watch = ended })))
      → EndsWell does tells looks t old_port old at port new ⊎ EndsBadly does tells looks t old_port old at port new
  ended_so (Ok done) well badly = inl (ended, well, told)
  ended_so (Err failure) well badly = inr (ended, badly, told)

-- the fault that a failure of the device becomes
pub broke_down : {P K : Type 0} (does : P → PortCall → P → Type 0) (tells : K → ℕ → K → Type 0) (looks : K → Look → K → Type 0) (t : Terms) (fault : Fault) (old new : Running P K) (at : ℕ) → fault ≡ f.Device
    → EndsBadly does tells looks t old.port old.host at new.port new.host → PrintsEnding at new.host.last new.host.host.goals old.text new.text → GivingBackFails does tells looks t fault old new
broke_down does tells looks t fault old new at is ended printed = subst (λ (x : Fault). GivingBackFails does tells looks t x old new) (sym is) (breaks old new at ended printed)
