-- How a command line ends.
use Rattle.std.proofs.Common.{◌≡◌, ◌≤◌, ℕ, List, Option, refl, sym, subst, ◌∙◌, inl, inr, arith}
use Rattle.std.specs.Prelude.{◌≢◌, ◌⊎◌, if◌then◌else◌, Result, Ok, Err, IfOk, IfErr, IfSome}
use Rattle.std.specs.Io.KnownBytes.{Appends}
use Rattle.std.specs.String.{string_bytes}
use Rattle.nbt_args.specs.declared.texts.CommandLine.{CommandLine}
use Rattle.nbt_args.specs.declared.texts.CommandLine.TheVariants as line
use Rattle.nbt_port.specs.Faults.{fault_status}
use Rattle.nbt_port.specs.declared.fault.Fault.{Fault as Why}
use Rattle.nbt_port.specs.declared.fault.Fault.TheVariants as why
use Rattle.nbt_prog.specs.Printed.{ending_status, is_done}
use Rattle.nbt_prog.specs.declared.offline.printed.Ending.{Ending}
use Rattle.nbt_prog.specs.declared.offline.printed.Ending.TheVariants.{Done, Refused}
use Rattle.nbt_prog.specs.declared.offline.printed.Printed.{Printed}
use Rattle.nbt_prog.specs.Inner.Failure.{failure_status}
use Rattle.nbt_prog.specs.Inner.Outcome.{status_of_outcome, text_of_outcome}
use Rattle.nbt_prog.specs.Inner.Refusals.{FailsOn}
use Rattle.nbt_prog.specs.Running.{Ends, EndsOn, IsDone, Prints}
use Rattle.nbt_prog.specs.declared.failure.Failure.{Failure}
use Rattle.nbt_prog.specs.declared.failure.Failure.TheVariants.{Help, Usage, Unreadable, Complaint, Fault}

at_least_two : (fault : Why) → 2 ≤ fault_status fault
at_least_two why.NoPort = omega arith
at_least_two why.NoClock = omega arith
at_least_two why.Device = omega arith
at_least_two why.Output = omega arith
at_least_two why.Store = omega arith
at_least_two why.Memory = omega arith

status_is : (ending : Ending) (status : ℕ) → status ≡ ending_status ending → status ≡ (if is_done ending then 0 else 1)
status_is Done status is = is
status_is Refused status is = is

pub ends : (l : CommandLine) (known : Option (List ℕ)) (outcome : Result Printed Failure) (status : ℕ) (old new : Option (List ℕ))
    → IfOk outcome (λ printed. Prints l known (is_done printed.ending) (string_bytes printed.text)) → IfErr outcome (λ failure. failure_status failure ≢ 0)
    → ((status ≡ 3) ⊎ ((status ≡ status_of_outcome outcome) × IfSome (text_of_outcome outcome) (Appends old new))) → Ends l known status old new
ends l known outcome status old new prints fails (inl three) = inl (subst (λ (n : ℕ). 2 ≤ n) (sym three) (omega arith))
ends l known (Ok printed) status old new prints fails (inr (is, appends)) = inr (inl (record {
  well = is_done printed.ending;
  printed = string_bytes printed.text;
  prints = prints;
  appends = appends;
  status_is = status_is printed.ending status is;
}))
ends l known (Err (Help text)) status old new prints fails (inr (is, appends)) = absurd (fails refl)
ends l known (Err (Usage text)) status old new prints fails (inr (is, appends)) = inl (subst (λ (n : ℕ). 2 ≤ n) (sym is) (omega arith))
ends l known (Err Unreadable) status old new prints fails (inr (is, appends)) = inr (inr (is, appends))
ends l known (Err Complaint) status old new prints fails (inr (is, appends)) = inl (subst (λ (n : ℕ). 2 ≤ n) (sym is) (omega arith))
ends l known (Err (Fault fault)) status old new prints fails (inr (is, appends)) = inl (subst (λ (n : ℕ). 2 ≤ n) (sym is) (at_least_two fault))

not_done : (failure : Failure) (status : ℕ) → failure_status failure ≢ 0 → ((status ≡ 3) ⊎ (status ≡ failure_status failure)) → status ≢ 0
not_done failure status fails (inl three) = λ done. absurd (omega (arith, three, done))
not_done failure status fails (inr is) = λ done. fails (sym is ∙ done)

pub fails_on : (l : CommandLine) (known : Option (List ℕ)) (failure : Failure) (status : ℕ) (old new : Option (List ℕ))
    → FailsOn l failure → status ≤ 4 → ((status ≡ 3) ⊎ (status ≡ failure_status failure)) → EndsOn l known status old new
fails_on (line.Admin l) known failure status old new fails most (inl three) = inl (subst (λ (n : ℕ). 2 ≤ n) (sym three) (omega arith), most)
fails_on (line.Admin l) known failure status old new fails most (inr is) = inl (subst (λ (n : ℕ). 2 ≤ n) (sym is) fails, most)
fails_on (line.Serve texts) known failure status old new fails most is = λ done. absurd (not_done failure status fails is done)
fails_on (line.Node texts) known failure status old new fails most is = λ done. absurd (not_done failure status fails is done)
fails_on (line.Loop port) known failure status old new fails most is = tt
fails_on (line.Import texts) known failure status old new fails most is = absurd fails
fails_on (line.Leases texts) known failure status old new fails most is = absurd fails
fails_on (line.Answer texts) known failure status old new fails most is = absurd fails
fails_on (line.Show texts) known failure status old new fails most is = absurd fails
fails_on line.Check known failure status old new fails most is = absurd fails
fails_on line.Sim known failure status old new fails most is = absurd fails
fails_on line.Draw known failure status old new fails most is = absurd fails
