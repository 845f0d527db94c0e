-- How a server begins that keeps its leases (our profile).
use Rattle.std.specs.Prelude.{◌≡◌, Some, None}
use Rattle.nbt_server.specs.Calls.{ServerStarts}
use Rattle.nbt_store.specs.Headers.{header_of}
use Rattle.nbt_store.specs.Resuming.{ResumesAs}
use Rattle.nbt_store.specs.declared.beginning.Begun.{Begun}
use Rattle.nbt_store.specs.declared.resuming.Found.{Found}
use Rattle.nbt_store.specs.declared.resuming.Going.{Going}
use Rattle.nbt_store.specs.declared.resuming.Reason.{Reason}
use Rattle.nbt_store.specs.declared.resuming.Decided.{Decided}
use Rattle.nbt_store.specs.declared.resuming.Decided.TheVariants.{Goes, Silent}

-- A server that goes on has what was decided, and its file is of now.
pub record GoesOn (f : Found) (going : Going) (b : Begun) : Type 0 where
  pub server_is : b.server ≡ going.server
  pub start_is : b.start ≡ going.start
  pub reads_is : b.reads ≡ going.reads
  pub header_is : b.header ≡ header_of f.config f.seen.boot.now going.ahead going.start going.reads f.seen.day
  pub no_reason : b.reason ≡ None

-- One that begins anew has no lease, and its clock is the machine's.
pub record BeginsAnew (f : Found) (reason : Reason) (b : Begun) : Type 0 where
  pub starts : ServerStarts f.config f.seen.monotonic b.server
  pub start_is : b.start ≡ f.seen.monotonic
  pub reads_is : b.reads ≡ f.seen.monotonic
  pub header_is : b.header ≡ header_of f.config f.seen.boot.now 0 f.seen.monotonic f.seen.monotonic f.seen.day
  pub reason_is : b.reason ≡ Some reason

abbrev pub IsBegun : Found → Decided → Begun → Type 0
IsBegun f (Goes going) b = GoesOn f going b
IsBegun f (Silent reason) b = BeginsAnew f reason b

abbrev pub BeginsAs : Found → Begun → Type 0
BeginsAs f b = (decided : Decided) × ResumesAs f decided × IsBegun f decided b
