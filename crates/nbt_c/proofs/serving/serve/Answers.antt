use Rattle.nbt_c.proofs.Common.{◌≡◌, ◌<◌, ◌≤◌, ℕ, List, [], Err, refl, ap, subst, Addr, last_moment, ServerTakes, ServerForgets, ServesFor, above, given}
use Rattle.nbt_server.specs.declared.fault.ServerFault.{ServerFault}
use Rattle.nbt_server.specs.declared.fault.ServerFault.TheVariants.{ClockBack, OutOfMemory}
use Rattle.nbt_server.specs.Serving.{ServerValue}
use Rattle.nbt_server.specs.Numbers.{server_fault_number}
use Rattle.nbt_c.specs.Serving as is
use Rattle.nbt_c.proofs.serving.serve.Goals as goal

module _ (old : ServerValue) (now : ℕ) (from : Addr) (octets : List ℕ) (new : ServerValue) (out : List ℕ) where
  failed : (f : ServerFault) → now ≤ last_moment → out ≡ [] → (f ≡ ClockBack → (now < old.last) × (new ≡ old)) → (f ≡ OutOfMemory → ServerForgets old now from.ip octets new)
      → ServesFor old now from octets (server_fault_number f) new out
  failed ClockBack le none late full = given (ServesFor old now from octets) refl (late refl).1 none (is.ServesFor.is_late le (late refl).0)
  failed OutOfMemory le none late full = given (ServesFor old now from octets) refl refl none (is.ServesFor.lacks_memory new le (full refl))

pub returns-in_default : goal.returns-in_default
returns-in_default c = given (ServesFor c.args.server.now c.args.now c.args.from c.args.octets.now) refl refl c.clear.ensures (is.ServesFor.has_no_moment (above c.in_default.ensures.found))

pub returns-in-Ok : goal.returns-in-Ok
returns-in-Ok c =
    let served = c.in-Ok.ensures.served in
    is.ServesFor.serves served.0 c.on_datagram.new.self c.on_datagram.new.out.items (c.in-Some.ensures.found.0 refl)
    (subst (λ m. ServerTakes c.args.server.now m c.args.from.ip c.args.octets.now served.0 c.on_datagram.new.self) c.in-Some.ensures.value served.1) served.3

pub returns-in-Err : goal.returns-in-Err
returns-in-Err c =
    let at = c.in-Some.ensures.value in
    given (ServesFor c.args.server.now c.args.now c.args.from c.args.octets.now) c.number.ensures refl refl
    (failed c.args.server.now c.args.now c.args.from c.args.octets.now c.on_datagram.new.self c.on_datagram.new.out.items c.in-Err.fault (c.in-Some.ensures.found.0 refl) c.in-Err.ensures.empty
    (λ e. (subst (λ m. m < c.args.server.now.last) at (c.in-Err.ensures.clock_back.0 (ap Err e)), c.in-Err.ensures.unchanged (ap Err e)))
    (λ e. subst (λ m. ServerForgets c.args.server.now m c.args.from.ip c.args.octets.now c.on_datagram.new.self) at (c.in-Err.ensures.memory (ap Err e))))
