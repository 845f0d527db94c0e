-- What is said of a server that would begin over this machine.
use Rattle.std.proofs.Common.{◌≡◌, ◌⊎◌, ℕ, List, [], Option, Some, None, refl, inl, inr}
use Rattle.std.specs.Io.KnownBytes.{Appends}
use Rattle.nbt_lease.specs.Config.{ConfigValue}
use Rattle.nbt_server.specs.Serving.{ServerValue}
use Rattle.nbt_port.specs.Clocks.{MachineTells, SteadyTells, SteadyBegins, SystemShows}
use Rattle.nbt_port.specs.declared.fault.Fault.{Fault}
use Rattle.nbt_port.specs.declared.fault.Fault.TheVariants.{Memory, NoClock, Output}
use Rattle.nbt_nbns.specs.Begin.{manner_at_first}
use Rattle.nbt_nbns.specs.Checking.{ChecksNot, ChecksWith, IsCheck}
use Rattle.nbt_nbns.specs.Opening.{IsStoreFault}
use Rattle.nbt_nbns.specs.Running.{at_first}
use Rattle.nbt_nbns.specs.declared.arguments.NbnsArguments.{NbnsArguments}
use Rattle.nbt_nbns.specs.declared.first_line.Manner.{Manner}
use Rattle.nbt_nbns.specs.declared.server.Folder.TheVariants.{Own}

-- a server that starts then
abbrev starts_at : ConfigValue → (start : ℕ) → ServerValue
starts_at config start = record { start = start; last = start; table = record { config = config; last = start; rows = [] }; client_rows = None }

-- one without a state would begin so, by what the clocks told
pub checked_new : (a : NbnsArguments) (boot start day time : ℕ) (manner : Manner) (old_text text : Option (List ℕ)) (line : List ℕ)
    → SteadyBegins SystemShows boot → SteadyTells SystemShows boot start start → MachineTells day time time
    → manner ≡ manner_at_first a.config.longest (record { moment = start; time = time }) → IsCheck manner line → Appends old_text text line
    → ChecksWith a None Own old_text text
checked_new a boot start day time manner old_text text line begins told time_told manner_is is_line printed = record {
  manner = manner;
  line = line;
  would = (
    at_first a start time (starts_at a.config start) None,
    record {
      boot = boot;
      start = start;
      day = day;
      time = time;
      server = starts_at a.config start;
      clock_begins = begins;
      start_told = told;
      time_told = time_told;
      starts = record { start = refl; last = refl; config_is = refl; empty = refl; no_limit = refl };
      manner_is = manner_is;
      first_is = refl;
    },
  );
  is_line = is_line;
  printed = printed;
  no_lock = λ _. refl;
}

-- nothing is printed, for these faults
pub for_clock : (text : Option (List ℕ)) (why : Fault) → why ≡ NoClock → ChecksNot text text why
for_clock text why is = inr (refl, inl is)

pub for_folder : (text : Option (List ℕ)) (why : Fault) → IsStoreFault why → ChecksNot text text why
for_folder text why is = inr (refl, inr is)

-- a file is none that may be replaced, or memory is out
pub for_files : (text : Option (List ℕ)) (why : Fault) → (why ≡ Output) ⊎ (why ≡ Memory) → ChecksNot text text why
for_files text why (inl is) = inl is
for_files text why (inr is) = inr (refl, inr (inl is))

-- the line isn't printed
pub not_said : (old_text text : Option (List ℕ)) (why : Fault) → (why ≡ Output) ⊎ ((why ≡ Memory) × (text ≡ old_text)) → ChecksNot old_text text why
not_said old_text text why (inl is) = inl is
not_said old_text text why (inr (is, same)) = inr (same, inr (inl is))

-- a server with a state isn't one without
pub not_without : {A B : Type 0} (state : A) → ◌≡◌ {A = Option A} (Some state) None → B
not_without state none = absurd cc
