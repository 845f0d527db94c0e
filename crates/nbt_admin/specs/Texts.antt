-- The addresses, names and paths that texts of arguments are read as (our profile).
use Rattle.std.specs.Prelude.{◌≡◌, ◌≢◌, ◌<◌, ◌≤◌, ◌⊎◌, ℕ, Bool, true, false, List, [], Option, Some, Result}
use Rattle.std.specs.Result.{MatchResult}
use Rattle.nbt_name.specs.Wire.{NameValue, IsStar}
use Rattle.nbt_name.specs.declared.addr.Addr.{Addr}
use Rattle.nbt_text.specs.declared.casing.Case.{Case}
use Rattle.nbt_text.specs.declared.casing.Case.TheVariants.{Folded, Exact}
use Rattle.nbt_text.specs.declared.fault.Fault.{Fault as NameFault}
use Rattle.nbt_text.specs.ScopedNames.{SpellsScopedName, MisspellsScopedName}
use Rattle.nbt_text.specs.Address.{SpellsEnd, SpellsSource}
use Rattle.nbt_admin.specs.Failures.{Reports, out_of_memory}
use Rattle.nbt_admin.specs.Reading.{Reads, Needs, Where}
use Rattle.nbt_admin.specs.declared.failure.Failure.{Failure}
use Rattle.nbt_admin.specs.declared.failure.ArgumentFault.{ArgumentFault}
use Rattle.nbt_admin.specs.declared.failure.ArgumentFault.TheVariants as w

-- ---- addresses

abbrev pub ReadsAddress : List ℕ → Result Addr Failure → Type 0
ReadsAddress text = Reads (SpellsEnd text) (Reports text w.Address)

-- The address of one machine isn't of 0.0.0.0/8 (RFC 1122 section 3.2.1.3), nor a multicast address, 224.0.0.0 to 239.255.255.255 (RFC 1112
-- section 4), nor 255.255.255.255, which is for all machines of a network (RFC 919 section 7).
abbrev pub IsOfOne : (ip : ℕ) → Type 0
IsOfOne ip = (0x01000000 ≤ ip) × (((ip < 0xE0000000) ⊎ (0xF0000000 ≤ ip)) × (ip ≢ 0xFFFFFFFF))

-- an address of this machine: of one machine, or 0.0.0.0, which stands for each that this machine has
abbrev pub IsOfHere : (ip : ℕ) → Type 0
IsOfHere ip = (ip ≡ 0) ⊎ IsOfOne ip

-- an address of this machine from which requests are sent
abbrev pub ReadsSource : List ℕ → Result Addr Failure → Type 0
ReadsSource text = Where (Reads (SpellsSource text) (Reports text w.Address)) (λ source. IsOfHere source.ip) (Reports text w.NotOne)

-- an address of this machine at which requests come
abbrev pub ReadsHere : List ℕ → Result Addr Failure → Type 0
ReadsHere text = Where (ReadsAddress text) (λ here. IsOfHere here.ip) (Reports text w.NotOne)

-- each address from the first to the last is of one machine
abbrev pub AreOfOne : (first last : ℕ) → Type 0
AreOfOne first last = (ip : ℕ) → first ≤ ip → ip ≤ last → IsOfOne ip

-- an address to which requests can be sent: of one machine, and not at port 0
abbrev pub ReadsPeer : List ℕ → Result Addr Failure → Type 0
ReadsPeer text = Where (Where (ReadsAddress text) (λ peer. IsOfOne peer.ip) (Reports text w.NotOne)) (λ peer. peer.port ≢ 0) (Reports text w.NoPort)

-- an address at which other hosts reach this machine: of one machine
abbrev pub ReadsOwn : List ℕ → Result Addr Failure → Type 0
ReadsOwn text = Where (ReadsAddress text) (λ own. IsOfOne own.ip) (Reports text w.Anywhere)

-- Nobody sends requests to itself, by the text of the other side's address.
abbrev pub NeedsApart : (to : List ℕ) → (peer own : Addr) → Result Unit Failure → Type 0
NeedsApart to peer own = Needs (peer ≢ own) (Reports to w.Itself)

-- ---- names

abbrev pub case_of : (exact : Bool) → Case
case_of true = Exact
case_of false = Folded

-- where a name is wanted, the text is no address
abbrev pub NeedsName : ArgumentFault → (text : List ℕ) → Result Unit Failure → Type 0
NeedsName fault text = Needs ((address : Addr) → ¬ SpellsEnd text address) (Reports text fault)

-- the name that a text spells, with this scope if it has none of its own, with lower-case letters kept or not
abbrev pub ReadsName : (exact : Bool) → (scope text : List ℕ) → Result NameValue Failure → Type 0
ReadsName exact scope text result = MatchResult result (SpellsScopedName (case_of exact) text scope)
    (λ failure. (fault : NameFault) × (MisspellsScopedName (case_of exact) text scope fault × Reports text (w.Name fault) failure))

-- A server is asked for one name, which doesn't begin with `*`.
abbrev pub ReadsSought : (exact : Bool) → (scope text : List ℕ) → Result NameValue Failure → Type 0
ReadsSought exact scope text = Where (ReadsName exact scope text) (λ name. ¬ IsStar name) (Reports text w.Star)
