-- A file of fixed names, or of networks, that can't be taken.
use Rattle.std.proofs.Common.{◌≡◌, ℕ, Option, List, refl}
use Rattle.std.specs.Borrow.{Bor}
use Rattle.nbt_front.specs.Files.{FileFails}
use Rattle.nbt_front.specs.declared.fault.FileFault.TheVariants as file
use Rattle.nbt_front.specs.NetworkFiles.{NetworksFail as FileOfNetworksFails}
use Rattle.nbt_admin.specs.Fronts.{FixedFails, NetworksFail}
use Rattle.nbt_admin.specs.declared.failure.BadLine.{BadLine}
use Rattle.nbt_admin.specs.declared.failure.BadNetworks.{BadNetworks}
use Rattle.nbt_admin.specs.declared.failure.Complaint.TheVariants as complaint
use Rattle.nbt_admin.specs.declared.failure.Failure.TheVariants.{Complaint}
use Rattle.std.proofs.Common.{Some}

pub fixed_fails : (path : Option (Bor (List ℕ))) (own : Bor (List ℕ)) (bad : BadLine) (octets : List ℕ) → path ≡ Some own → FileFails octets (file.Line bad.number bad.fault)
    → FixedFails path (Complaint (complaint.Line bad))
fixed_fails path own bad octets given fails = rw given (bad, refl, octets, fails)

pub networks_fail : (path : Option (Bor (List ℕ))) (own : Bor (List ℕ)) (bad : BadNetworks) (octets : List ℕ) → path ≡ Some own → FileOfNetworksFails octets bad.fault
    → NetworksFail path (Complaint (complaint.Networks bad))
networks_fail path own bad octets given fails = rw given (bad, refl, octets, fails)
