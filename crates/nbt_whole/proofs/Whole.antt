-- A whole server lives, from its start to its end.
use Rattle.std.proofs.Common.{◌≡◌, ℕ, [], Some, None, refl, sym, ap, subst, ◌∙◌}
use Rattle.nbt_port.specs.Clocks.{MachineTells, SteadyTells, SystemShows, TellsAhead}
use Rattle.nbt_port.specs.Until.{until_of}
use Rattle.nbt_port.specs.declared.ahead.Ahead.{Ahead}
use Rattle.nbt_port.specs.declared.fault.Fault.TheVariants as why
use Rattle.nbt_store.specs.declared.beginning.Begun.{Begun}
use Rattle.nbt_server.specs.Calls.{limited}
use Rattle.nbt_server.specs.Serving.{ServerValue}
use Rattle.nbt_serve.specs.Sharing.{share_of}
use Rattle.nbt_serve.specs.Waiting.{none_waits}
use Rattle.nbt_nbns.specs.Folders.{FolderDoes, FolderValue}
use Rattle.nbt_nbns.specs.Journaling.{Journals}
use Rattle.nbt_nbns.specs.Places.{Stays}
use Rattle.nbt_nbns.specs.Renewing.{NotesNames}
use Rattle.nbt_nbns.specs.Running.{Nbns, PortDoes, PortFailures, StartsAnew}
use Rattle.nbt_nbns.specs.Servers.{StartsKept, kept_at_first}
use Rattle.nbt_nbns.specs.declared.arguments.NbnsArguments.{NbnsArguments}
use Rattle.nbt_nbns.specs.declared.arguments.StateFolder.{StateFolder}
use Rattle.nbt_nbns.specs.declared.first_line.Manner.{Manner}
use Rattle.nbt_nbns.specs.declared.state.State.{State}
use Rattle.nbt_net.specs.Again.{StartBeginsARun}
use Rattle.nbt_net.specs.BareWorking.{IsBareAtWork}
use Rattle.nbt_net.specs.Headers.{IsHeaderOf}
use Rattle.nbt_net.specs.Working.{HaveAnyPair, PutsFront}
use Rattle.nbt_net.proofs.BareWorking.{bare_work_is_lived}
use Rattle.nbt_net.proofs.Started.{begun_config}
use Rattle.nbt_net.proofs.Working.{work_is_lived}
use Rattle.nbt_whole.specs.Nbns.{bare_of, NbnsIsLived, KeptIsLived, NbnsAreLived, FailedNbnsAreLived, KeptAreLived, FailedKeptAreLived}
use Rattle.nbt_whole.proofs.Unfolded.{Finished, bare_stayed, bare_ended, stayed, ended_early}

-- a header of a server is one with another pair too
any_pair : (server : ServerValue) → HaveAnyPair (IsHeaderOf server)
any_pair server header moment time own = record { start_is = own.start_is; life_is = own.life_is; longest_is = own.longest_is }

module _ (a : NbnsArguments) where
  -- without a state
  bare_lived : (first last : Nbns ℕ) (manner : Manner) (s : StartsAnew a manner first)
      → (first.served.state ≡ None → IsBareAtWork (PortDoes a.strict) PutsFront (SteadyTells SystemShows) (bare_of first.served) (bare_of last.served) × (last.served.state ≡ None)) → NbnsIsLived a s.boot first last
  bare_lived first last manner s over =
      bare_work_is_lived (PortDoes a.strict) PutsFront (SteadyTells SystemShows) a.config s.boot (bare_of first.served) (bare_of last.served)
      (record {
        now = s.start;
        rows = Some a.rows_per_client;
        server = s.server;
        told = subst (λ (clock : ℕ). SteadyTells SystemShows s.boot s.start clock) (sym (ap (λ (here : Nbns ℕ). here.served.clock) s.first_is)) s.start_told;
        starts = s.starts;
        limit = ap (λ (here : Nbns ℕ). here.served.server) s.first_is;
      })
      (over (ap (λ (here : Nbns ℕ). here.served.state) s.first_is)).0

  -- with one
  abbrev state_at_first : Begun → FolderValue → State FolderValue
  state_at_first b store = record { store = store; header = b.header; share = share_of a.changes_per_client; waiting = none_waits b.header.last; teller = [] }

  abbrev FinishedHere : Nbns (Ahead ℕ) → Nbns (Ahead ℕ) → Type 0
  FinishedHere first last = Finished (PortDoes a.strict) PortFailures FolderDoes (TellsAhead (SteadyTells SystemShows)) MachineTells (Journals MachineTells Stays Stays) NotesNames (IsHeaderOf first.served.server) (any_pair first.served.server) first last

  kept_lived : StartBeginsARun → (state : StateFolder) (first last : Nbns (Ahead ℕ)) (manner : Manner) (s : StartsKept a state manner first) → FinishedHere first last → KeptIsLived a s.finds.begun first last
  kept_lived law state first last manner s over = subst (λ (here : Nbns (Ahead ℕ)). FinishedHere here last → KeptIsLived a s.finds.begun here last) (sym s.first_is) from over
    where
      from : FinishedHere (kept_at_first a s.finds.begun s.store s.finds.told.monotonic s.finds.told.time first.text) last → KeptIsLived a s.finds.begun (kept_at_first a s.finds.begun s.store s.finds.told.monotonic s.finds.told.time first.text) last
      from over =
          let begun = law s.finds.found.found s.finds.begun (Some a.rows_per_client) s.finds.found.begins in
          let own = begun.1 in
          let end = over (state_at_first s.finds.begun s.store) refl (record { start_is = own.start; life_is = own.life; longest_is = own.longest }) in
          record {
            old = state_at_first s.finds.begun s.store;
            new = end.state;
            was_there = refl;
            is_there = end.there;
            began = refl;
            begins = begun.0;
            lived = work_is_lived (PortDoes a.strict) PutsFront FolderDoes (TellsAhead (SteadyTells SystemShows)) MachineTells (IsHeaderOf (limited (Some a.rows_per_client) s.finds.begun.server)) (any_pair (limited (Some a.rows_per_client) s.finds.begun.server)) a.config _ _ (begun_config s.finds.found.found s.finds.begun s.finds.found.begins ∙ s.finds.found.config_is) refl end.worked;
          }

pub nbns_are_lived : NbnsAreLived
nbns_are_lived a old_text text ran = bare_lived a ran.first ran.last ran.manner ran.begins
    (bare_stayed (PortDoes a.strict) PortFailures FolderDoes (SteadyTells SystemShows) MachineTells (Journals MachineTells Stays Stays) NotesNames (until_of ran.first.served.server.last a.time) ran.first ran.last ran.goes_on)

pub failed_nbns_are_lived : FailedNbnsAreLived
failed_nbns_are_lived a old_text text ran = bare_lived a ran.first ran.last ran.manner ran.begins
    (bare_ended (PortDoes a.strict) PortFailures FolderDoes (SteadyTells SystemShows) MachineTells (Journals MachineTells Stays Stays) NotesNames (until_of ran.first.served.server.last a.time) why.Device ran.first ran.last ran.goes_on)

pub kept_are_lived : StartBeginsARun → KeptAreLived
kept_are_lived law a state old_text text ran = kept_lived a law state ran.first ran.last ran.manner ran.begins
    (stayed (PortDoes a.strict) PortFailures FolderDoes (TellsAhead (SteadyTells SystemShows)) MachineTells (Journals MachineTells Stays Stays) NotesNames (IsHeaderOf ran.first.served.server) (any_pair ran.first.served.server) (until_of ran.first.served.server.last a.time) ran.first ran.last ran.goes_on)

pub failed_kept_are_lived : StartBeginsARun → FailedKeptAreLived
failed_kept_are_lived law a state cause old_text text ran = kept_lived a law state ran.first ran.last ran.manner ran.begins
    (ended_early (PortDoes a.strict) PortFailures FolderDoes (TellsAhead (SteadyTells SystemShows)) MachineTells (Journals MachineTells Stays Stays) NotesNames (IsHeaderOf ran.first.served.server) (any_pair ran.first.served.server) (until_of ran.first.served.server.last a.time) cause ran.first ran.last ran.goes_on)
