-- How a server begins that keeps its leases, before its port serves (private functions alone).
use Rattle.std.specs.Prelude.{ℕ, List, Some}
use Rattle.nbt_port.specs.declared.ahead.Ahead.{Ahead}
use Rattle.nbt_server.specs.Calls.{limited}
use Rattle.nbt_nbns.specs.Folders.{FolderValue}
use Rattle.nbt_nbns.specs.Places.{FileValue}
use Rattle.nbt_nbns.specs.declared.journal.Journal.{Journal}
use Rattle.nbt_serve.specs.Sharing.{ShareValue}
use Rattle.nbt_serve.specs.Waiting.{WaitingValue}
use Rattle.nbt_nbns.specs.declared.starting.Started.{Started}
use Rattle.nbt_nbns.specs.declared.teller.Untold.{Untold}
use Rattle.nbt_store.specs.declared.beginning.Begun.{Begun}

-- what goes on of a server that begins so, beside its port, with this store, these clocks and what sees its turns: it limits its clients
abbrev pub kept_of : Begun → (store : FolderValue) → (clock day : ℕ) → ShareValue → WaitingValue → (teller : List Untold) → (journal : Journal ℕ FileValue) → (rows_per_client : ℕ) → Started FolderValue (Ahead ℕ) ℕ (Journal ℕ FileValue)
kept_of begun store clock day share waiting teller journal rows_per_client = record {
  clock = record { clock = clock; by = begun.header.ahead };
  server = limited (Some rows_per_client) begun.server;
  state = Some (record { store = store; header = begun.header; share = share; waiting = waiting; teller = teller });
  day = day;
  journal = journal;
}
