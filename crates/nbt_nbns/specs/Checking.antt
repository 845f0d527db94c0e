-- What `nbns --check` says over this machine: what a server would do that started now (our profile).
use Rattle.std.specs.Prelude.{◌≡◌, ◌⊎◌, ℕ, List, ◌++◌, Option, Some, None, codes}
use Rattle.std.specs.Io.KnownBytes.{Appends}
use Rattle.nbt_text.specs.Lines.{newline}
use Rattle.nbt_port.specs.declared.fault.Fault.{Fault}
use Rattle.nbt_port.specs.declared.fault.Fault.TheVariants.{NoClock, Output}
use Rattle.nbt_nbns.specs.Begin.{IsManner}
use Rattle.nbt_nbns.specs.Opening.{IsStoreFault}
use Rattle.nbt_nbns.specs.Running.{Nbns, StartsAnew}
use Rattle.nbt_nbns.specs.Servers.{FindsKept}
use Rattle.nbt_nbns.specs.declared.arguments.NbnsArguments.{NbnsArguments}
use Rattle.nbt_nbns.specs.declared.arguments.ServerArguments.{ServerArguments}
use Rattle.nbt_nbns.specs.declared.arguments.StateFolder.{StateFolder}
use Rattle.nbt_nbns.specs.declared.first_line.Manner.{Manner}
use Rattle.nbt_nbns.specs.declared.server.Folder.{Folder}
use Rattle.nbt_nbns.specs.declared.server.Folder.TheVariants.{Own}

-- how a server would begin, in one line
abbrev pub IsCheck : Manner → List ℕ → Type 0
IsCheck manner line = (text : List ℕ) × IsManner manner text × (line ≡ codes "would serve" ++ text ++ newline)

-- a server that starts now begins in this manner
abbrev pub WouldBegin : NbnsArguments → Option StateFolder → Manner → Type 0
WouldBegin a None manner = (first : Nbns ℕ) × StartsAnew a manner first
WouldBegin a (Some state) manner = FindsKept a state manner

-- That is printed. Whether another server has the lock of the folder no contract can say; without a folder none has.
pub record ChecksWith (a : NbnsArguments) (state : Option StateFolder) (folder : Folder) (old_text text : Option (List ℕ)) : Type 0 where
  pub manner : Manner
  pub line : List ℕ
  pub would : WouldBegin a state manner
  pub is_line : IsCheck manner line
  pub printed : Appends old_text text line
  pub no_lock : state ≡ None → folder ≡ Own

abbrev pub ChecksServer : ServerArguments → Folder → (old_text text : Option (List ℕ)) → Type 0
ChecksServer a folder old_text text = ChecksWith a.nbns a.state folder old_text text

-- The line can't be written, or a file is none that may be replaced; or nothing is printed, and no clock can be read, memory is out, or the folder is at fault.
abbrev pub ChecksNot : (old_text text : Option (List ℕ)) → Fault → Type 0
ChecksNot old_text text why = (why ≡ Output) ⊎ ((text ≡ old_text) × ((why ≡ NoClock) ⊎ IsStoreFault why))
