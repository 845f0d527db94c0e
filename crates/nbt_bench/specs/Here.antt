-- Over this machine (our profile).
use Rattle.std.specs.Prelude.{◌≡◌, ◌≢◌, ℕ}
use Rattle.nbt_name.specs.declared.addr.Addr.{Addr}
use Rattle.nbt_port.specs.Udp.{UdpValue}

-- Something goes on over a UDP port of this machine that was bound to this address, and over the machine's clock, which has
-- told a moment other than 0.
pub record Here (bind : Addr) (goes : UdpValue → ℕ → UdpValue → ℕ → Type 0) : Type 0 where
  pub old_port : UdpValue
  pub port : UdpValue
  pub old_clock : ℕ
  pub clock : ℕ
  pub bound : old_port.addr ≡ bind
  pub is_readable : old_clock ≢ 0
  pub goes_on : goes old_port old_clock port clock
