-- What holds of all that is done with requests and where leases end, whatever the code does (our profile).
use Rattle.std.specs.Prelude.{◌≡◌, ℕ, Bool, true, List, Option, IfSome}
use Rattle.std.specs.List.{AllByRecursion}
use Rattle.nbt_name.specs.Wire.{NameValue}
use Rattle.nbt_confirm.specs.declared.further.Further.{Further}
use Rattle.nbt_confirm.specs.Inquiries.{ConfirmedValue}

-- it holds of each further address and its name
abbrev pub Are : (NameValue → ℕ → Bool) → List Further → Type 0
Are holds rows = AllByRecursion (λ row. holds row.name row.addr ≡ true) rows

-- it holds of the further address that was confirmed, if one was
abbrev pub IsConfirmed : (NameValue → ℕ → Bool) → Option ConfirmedValue → Type 0
IsConfirmed holds c = IfSome c (λ c. holds c.name c.addr ≡ true)

-- it holds of each further address that has answered
abbrev pub HaveAnswered : (NameValue → ℕ → Bool) → List Further → Type 0
HaveAnswered holds rows = AllByRecursion (λ row. row.reached ≡ true → holds row.name row.addr ≡ true) rows
