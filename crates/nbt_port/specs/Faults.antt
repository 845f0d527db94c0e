-- Why work over this machine ends early, and what a program makes of it (our profile).
use Rattle.std.specs.Prelude.{◌≡◌, ◌⊎◌, ℕ, List, [], ◌∷◌, ◌++◌, codes}
use Rattle.std.specs.IoError.{error_kind}
use Rattle.std.specs.declared.io.Error.{Error}
use Rattle.std.specs.declared.io.ErrorKind.{ErrorKind}
use Rattle.std.specs.declared.io.ErrorKind.TheVariants as kind
use Rattle.nbt_port.specs.declared.fault.Fault.{Fault}
use Rattle.nbt_port.specs.declared.fault.Fault.TheVariants.{NoPort, NoClock, Device, Output, Store, Memory}

-- the status with which the program ends
abbrev pub fault_status : Fault → ℕ
fault_status NoPort = 3
fault_status NoClock = 3
fault_status Device = 3
fault_status Output = 3
fault_status Store = 3
fault_status Memory = 4

-- all that is printed of it: its word on a line of its own, and nothing where the output failed
abbrev pub fault_line : Fault → List ℕ
fault_line NoPort = codes "device" ++ 10 ∷ []
fault_line NoClock = codes "device" ++ 10 ∷ []
fault_line Device = codes "device" ++ 10 ∷ []
fault_line Output = []
fault_line Store = codes "device" ++ 10 ∷ []
fault_line Memory = codes "memory" ++ 10 ∷ []

abbrev pub fault_of_kind : ErrorKind → Fault
fault_of_kind kind.OutOfMemory = Memory
fault_of_kind _ = Device

-- a call that the machine refuses is a device's fault, but for want of memory
abbrev pub fault_of_io : Error → Fault
fault_of_io error = fault_of_kind (error_kind error)

-- a socket that the machine refuses to bind is no port, but for want of memory
abbrev pub fault_of_bind_kind : ErrorKind → Fault
fault_of_bind_kind kind.OutOfMemory = Memory
fault_of_bind_kind _ = NoPort

abbrev pub fault_of_bind : Error → Fault
fault_of_bind error = fault_of_bind_kind (error_kind error)

-- the faults of a socket that isn't bound
abbrev pub IsNotBound : Fault → Type 0
IsNotBound fault = (fault ≡ NoPort) ⊎ (fault ≡ Memory)
