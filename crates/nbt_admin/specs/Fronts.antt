-- The files of networks and of fixed names (our profile).
use Rattle.std.specs.Prelude.{◌≡◌, ◌⊎◌, ℕ, List, [], ◌++◌, Option, Some, None}
use Rattle.std.specs.Borrow.{Bor}
use Rattle.nbt_args.specs.declared.texts.NbnsTexts.{NbnsTexts}
use Rattle.nbt_front.specs.Deciding.{FrontValue}
use Rattle.nbt_front.specs.Files.{IsFile, FileFails}
use Rattle.nbt_front.specs.NetworkFiles.{AreNetworks}
use Rattle.nbt_front.specs.NetworkFiles.{NetworksFail as FileOfNetworksFails}
use Rattle.nbt_front.specs.Networks.{NetworkValue}
use Rattle.nbt_front.specs.FixedNames.{FixedNames}
use Rattle.nbt_front.specs.declared.fault.FileFault.TheVariants as file
use Rattle.nbt_admin.specs.declared.failure.BadLine.{BadLine}
use Rattle.nbt_admin.specs.declared.failure.BadNetworks.{BadNetworks}
use Rattle.nbt_admin.specs.declared.failure.Complaint.TheVariants as complaint
use Rattle.nbt_admin.specs.declared.failure.Failure.{Failure}
use Rattle.nbt_admin.specs.declared.failure.Failure.TheVariants.{Complaint}

-- Without a file no name is fixed. Which octets a file has, no contract can say.
abbrev pub GivesFixed : Option (Bor (List ℕ)) → FixedNames → Type 0
GivesFixed None names = names ≡ []
GivesFixed (Some path) names = (octets : List ℕ) × IsFile octets names

-- its first line that can't be taken is reported
abbrev pub FixedFails : Option (Bor (List ℕ)) → Failure → Type 0
FixedFails None failure = ⊥
FixedFails (Some path) failure = (bad : BadLine) × (failure ≡ Complaint (complaint.Line bad)) × (octets : List ℕ) × FileFails octets (file.Line bad.number bad.fault)

-- Without a file there are no further networks.
abbrev pub GivesNetworks : Option (Bor (List ℕ)) → List NetworkValue → Type 0
GivesNetworks None networks = networks ≡ []
GivesNetworks (Some path) networks = (octets : List ℕ) × AreNetworks octets networks

abbrev pub NetworksFail : Option (Bor (List ℕ)) → Failure → Type 0
NetworksFail None failure = ⊥
NetworksFail (Some path) failure = (bad : BadNetworks) × (failure ≡ Complaint (complaint.Networks bad)) × (octets : List ℕ) × FileOfNetworksFails octets bad.fault

-- what stands before a server, with the networks and the names of its files; and the first of both that can't be taken
abbrev pub ReadsFront : NbnsTexts → (old new : FrontValue) → Type 0
ReadsFront texts old new = (networks : List NetworkValue) × GivesNetworks texts.allow_file networks × (names : FixedNames) × GivesFixed texts.fixed names × (new ≡ record old { allowed = old.allowed ++ networks; fixed = names })

abbrev pub FrontFails : NbnsTexts → Failure → Type 0
FrontFails texts failure = NetworksFail texts.allow_file failure ⊎ FixedFails texts.fixed failure
