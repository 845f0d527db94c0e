-- Which form a file has (our profile).
use Rattle.std.specs.Prelude.{ℕ, List, codes}
use Rattle.nbt_store.specs.declared.form.Form.{Form}
use Rattle.nbt_store.specs.declared.form.Form.TheVariants.{Two, Three}

-- the first line
abbrev pub version : Form → List ℕ
version Two = codes "nbt leases, version 2"
version Three = codes "nbt leases, version 3"

-- From which checksum that of a line goes on: in the newer form from that of the line before, so that a line that is taken out is known.
abbrev pub chained : Form → (sum : ℕ) → ℕ
chained Two sum = 0
chained Three sum = sum
