-- Which senders may register (our profile).
use Rattle.std.specs.Prelude.{◌≡◌, ℕ, ◌/◌, ◌-◌, ◌^◌, ◌≤◌, ◌⊎◌, List, [], ◌∷◌, ◌++◌, Any}
use Rattle.std.specs.Net.Addr.{ipv4_bits}
use Rattle.std.specs.Net.Grammar.{IsIpv4Text}
use Rattle.std.specs.declared.net.ipv4_addr.Ipv4Addr.{Ipv4Addr}
use Rattle.nbt_text.specs.Lines.{HasNo}
use Rattle.nbt_text.specs.Number.{SpellsNumber}

-- A network: an address, and how many of its first bits the others share, of 32.
pub record NetworkValue : Type 0 where
  pub ip : ℕ
  pub bits : ℕ

-- the first bits of the address are the network's
abbrev pub IsIn : (ip : ℕ) → NetworkValue → Type 0
IsIn ip network = ip / 2 ^ (32 - network.bits) ≡ network.ip / 2 ^ (32 - network.bits)

-- Where no network is named, everybody may register.
abbrev pub IsAllowed : List NetworkValue → (ip : ℕ) → Type 0
IsAllowed networks ip = (networks ≡ []) ⊎ Any (λ network. IsIn ip network) networks

-- ---- as text: 192.0.2.0/24, or an address alone

abbrev pub slash : ℕ
slash = 0x2F

-- A.B.C.D in decimal
abbrev pub SpellsIp : List ℕ → (ip : ℕ) → Type 0
SpellsIp text ip = (addr : Ipv4Addr) × IsIpv4Text text addr × (ip ≡ ipv4_bits addr)

-- how many bits are shared: all, or as many as stand behind the slash
pub data SpellsBits : List ℕ → (bits : ℕ) → Type 0 where
  all_bits : SpellsBits [] 32
  some_bits : (digits : List ℕ) (bits : ℕ) → SpellsNumber digits bits → bits ≤ 32 → SpellsBits (slash ∷ digits) bits

pub record SpellsNetwork (text : List ℕ) (network : NetworkValue) : Type 0 where
  pub front : List ℕ
  pub tail : List ℕ
  pub text_is : text ≡ front ++ tail
  pub no_slash : HasNo slash front
  pub address : SpellsIp front network.ip
  pub share : SpellsBits tail network.bits
