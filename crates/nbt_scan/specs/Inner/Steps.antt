-- Calls and turns that went by: words of contracts within the crate.
use Rattle.std.specs.Prelude.{◌≡◌, ℕ, List, length, Option, Some, None}
use Rattle.nbt_port.specs.PortCalls.{PortCall, Chain}
use Rattle.nbt_scan.specs.declared.form.Layout.{Layout}
use Rattle.nbt_scan.specs.declared.hearing.Heard.{Heard}
use Rattle.nbt_scan.specs.declared.plan.Plan.{Plan}
use Rattle.nbt_scan.specs.declared.progress.Step.{Step}
use Rattle.nbt_scan.specs.Scanning.{Scanning, Acts, Hears, Turn, Goes, Timed, Takes}
use Rattle.nbt_scan.specs.Sheets.{Reply, TellsIf}

-- what was heard, without where its octets lie in memory
abbrev pub reply_of : Heard → Reply
reply_of heard = record { ip = heard.ip; names = heard.names.now; statistics = heard.statistics.now }

abbrev pub reply_in : Option Heard → Option Reply
reply_in None = None
reply_in (Some heard) = Some (reply_of heard)

-- what was done at a moment; what was heard and told; and both
abbrev pub Acted : {P : Type 0} → (P → PortCall → P → Type 0) → Plan → (ids : List ℕ) → (now : ℕ) → Step → (old new : Scanning P) → Type 0
Acted does plan ids now step old new = (sending : List PortCall) × Acts does plan ids now old step sending new

pub record WasHeard {P : Type 0} (does : P → PortCall → P → Type 0) (plan : Plan) (ids : List ℕ) (layout : Layout) (old new : Scanning P) : Type 0 where
  pub hearing : PortCall
  pub reply : Option Reply
  pub receives : does old.port hearing new.port
  pub hears : Hears plan ids old.scan.progress old.scan.replied hearing reply new.scan.replied
  pub progress_stays : new.scan.progress ≡ old.scan.progress
  pub tells : TellsIf layout reply old.sheet new.sheet

abbrev pub Went : {P : Type 0} → (P → PortCall → P → Type 0) → Plan → (ids : List ℕ) → Layout → (now : ℕ) → (old new : Scanning P) → Type 0
Went does plan ids layout now old new = (turn : Turn) × (turn.now ≡ now) × Goes does plan ids layout old turn new

-- a number of turns that went by
abbrev pub Passed : {P C : Type 0} → (P → PortCall → P → Type 0) → (C → ℕ → C → Type 0) → Plan → (ids : List ℕ) → Layout → (count : ℕ) → (old new : Timed P C) → Type 0
Passed does tells plan ids layout count old new = (turns : List Turn) × Chain (Takes does tells plan ids layout) old turns new × (length turns ≡ count)
