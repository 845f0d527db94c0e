-- A whole server is watched, from its start to its end.
use Rattle.std.proofs.Common.{◌≡◌, ℕ, List, [], Option, Some, None, refl, sym, ap, subst, ◌∙◌}
use Rattle.nbt_port.specs.Clocks.{SteadyTells, SystemShows, TellsAhead}
use Rattle.nbt_port.specs.Until.{until_of}
use Rattle.nbt_port.specs.declared.ahead.Ahead.{Ahead}
use Rattle.nbt_port.specs.declared.fault.Fault.TheVariants as why
use Rattle.nbt_store.specs.declared.beginning.Begun.{Begun}
use Rattle.nbt_serve.specs.Sharing.{share_of}
use Rattle.nbt_serve.specs.Waiting.{none_waits}
use Rattle.nbt_nbns.specs.Folders.{FolderDoes, FolderValue}
use Rattle.nbt_nbns.specs.Running.{Nbns, PortDoes, PortFailures, StartsAnew}
use Rattle.nbt_nbns.specs.Servers.{StartsKept, dates_of}
use Rattle.nbt_nbns.specs.declared.arguments.NbnsArguments.{NbnsArguments}
use Rattle.nbt_nbns.specs.declared.arguments.StateFolder.{StateFolder}
use Rattle.nbt_nbns.specs.declared.first_line.Manner.{Manner}
use Rattle.nbt_nbns.specs.declared.state.State.{State}
use Rattle.nbt_whole.specs.Watched.{watched_of, IsToldInTurn, NbnsIsWatched, KeptIsWatched, NbnsAreWatched, FailedNbnsAreWatched, KeptAreWatched, FailedKeptAreWatched}
use Rattle.nbt_whole.specs.Said.{IsNew, RunsBeginNew}
use Rattle.nbt_whole.proofs.Showing.{entries_of}
use Rattle.nbt_whole.proofs.Watching.{bare_stayed, bare_ended, Went, stayed, ended_early}

module _ (a : NbnsArguments) where
  no_state : (first : Nbns ℕ) (manner : Manner) → StartsAnew a manner first → first.served.state ≡ None
  no_state first manner s = ap (λ (here : Nbns ℕ). here.served.state) s.first_is

  abbrev state_at_first : Begun → FolderValue → State FolderValue
  state_at_first b store = record { store = store; header = b.header; share = share_of a.changes_per_client; waiting = none_waits b.header.last; teller = [] }

  some_state : (state : StateFolder) (first : Nbns (Ahead ℕ)) (manner : Manner) (s : StartsKept a state manner first) → first.served.state ≡ Some (state_at_first s.finds.begun s.store)
  some_state state first manner s = ap (λ (here : Nbns (Ahead ℕ)). here.served.state) s.first_is

  -- none waits to be shown at first
  kept_watched : (first last : Nbns (Ahead ℕ)) (b : Begun) (store : FolderValue) → Went (PortDoes a.strict) PortFailures FolderDoes (TellsAhead (SteadyTells SystemShows)) first last (state_at_first b store) → KeptIsWatched (watched_of first) (watched_of last)
  kept_watched first last b store went = record { events = went.events; happened = went.happened; still = entries_of went.state.teller; in_turn = went.in_order }

pub nbns_are_watched : NbnsAreWatched
nbns_are_watched a old_text text ran = (bare_stayed (PortDoes a.strict) PortFailures FolderDoes (SteadyTells SystemShows) (until_of ran.first.served.server.last a.time) ran.first ran.last ran.goes_on (no_state a ran.first ran.manner ran.begins)).0

pub failed_nbns_are_watched : FailedNbnsAreWatched
failed_nbns_are_watched a old_text text ran =
    (bare_ended (PortDoes a.strict) PortFailures FolderDoes (SteadyTells SystemShows) (until_of ran.first.served.server.last a.time) why.Device ran.first ran.last ran.goes_on (no_state a ran.first ran.manner ran.begins)).0

pub kept_are_watched : KeptAreWatched
kept_are_watched a state old_text text ran = kept_watched a ran.first ran.last ran.begins.finds.begun ran.begins.store
    (stayed (PortDoes a.strict) PortFailures FolderDoes (TellsAhead (SteadyTells SystemShows)) (until_of ran.first.served.server.last a.time) ran.first ran.last ran.goes_on _ (some_state a state ran.first ran.manner ran.begins))

pub failed_kept_are_watched : FailedKeptAreWatched
failed_kept_are_watched a state cause old_text text ran = kept_watched a ran.first ran.last ran.begins.finds.begun ran.begins.store
    (ended_early (PortDoes a.strict) PortFailures FolderDoes (TellsAhead (SteadyTells SystemShows)) (until_of ran.first.served.server.last a.time) cause ran.first ran.last ran.goes_on _ (some_state a state ran.first ran.manner ran.begins))

-- a run begins with a new journal
pub runs_begin_new : RunsBeginNew
runs_begin_new = record {
  bare = λ a manner first s. record { a = a; dates = record { moment = s.start; time = s.time }; day = s.time; start = s.start; journal_is = ap (λ (here : Nbns ℕ). here.watcher) s.first_is };
  kept = λ a state manner first s. record { a = a; dates = dates_of s.finds.begun s.finds.told.time; day = 0; start = s.finds.begun.start; journal_is = ap (λ (here : Nbns (Ahead ℕ)). here.watcher) s.first_is };
}
