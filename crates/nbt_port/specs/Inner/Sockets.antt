-- What a port makes of the answers of the machine's sockets (our profile).
use Rattle.std.specs.Prelude.{◌≡◌, ℕ, Bool, false, List, [], Option, None, Some, Result, Ok, Err, take}
use Rattle.std.specs.IoError.{error_kind}
use Rattle.std.specs.Net.Addr.{ipv4_bits}
use Rattle.std.specs.Net.Socket.{v4_ip, v4_port}
use Rattle.std.specs.declared.io.Error.{Error}
use Rattle.std.specs.declared.io.ErrorKind.{ErrorKind}
use Rattle.std.specs.declared.io.ErrorKind.TheVariants as kind
use Rattle.std.specs.declared.net.socket_addr.SocketAddr.{SocketAddr}
use Rattle.std.specs.declared.net.socket_addr.SocketAddr.TheVariants.{V4, V6}
use Rattle.nbt_name.specs.declared.addr.Addr.{Addr}
use Rattle.nbt_port.specs.declared.port.Device.{Device}
use Rattle.nbt_port.specs.declared.port.Route.{Route}

-- nothing came in time
abbrev pub IsNothing : ErrorKind → Type 0
IsNothing kind.WouldBlock = Unit {0}
IsNothing kind.TimedOut = Unit {0}
IsNothing kind.Interrupted = Unit {0}
IsNothing _ = ⊥

-- there is no way to where the datagram should go
abbrev pub HasNoWay : ErrorKind → Type 0
HasNoWay kind.InvalidInput = Unit {0}
HasNoWay kind.PermissionDenied = Unit {0}
HasNoWay kind.AddrNotAvailable = Unit {0}
HasNoWay kind.HostUnreachable = Unit {0}
HasNoWay kind.NetworkUnreachable = Unit {0}
HasNoWay kind.ConnectionRefused = Unit {0}
HasNoWay _ = ⊥

-- the route of a datagram that came at a socket, from a sender
abbrev pub IsRoute : SocketAddr → (local : Option Addr) → Option Route → Type 0
IsRoute (V4 from) local (Some route) = (route.peer.ip ≡ ipv4_bits (v4_ip from)) × (route.peer.port ≡ v4_port from) × (route.local ≡ local)
IsRoute (V4 from) local None = ⊥
IsRoute (V6 from) local route = route ≡ None

-- the octets of a datagram from a sender, or none
abbrev pub octets_from : SocketAddr → List ℕ → List ℕ
octets_from (V4 from) octets = octets
octets_from (V6 from) octets = []

-- What a receive hands out of an answer: its route and as many octets of the buffer as it says; nothing; or it fails, at
-- every other error.
abbrev pub Received : Result (ℕ × SocketAddr) Error → (local : Option Addr) → (buffer : List ℕ) → Result (Option Route) Device → (octets : List ℕ) → Type 0
Received (Ok (count, from)) local buffer (Ok route) octets = IsRoute from local route × (octets ≡ octets_from from (take count buffer))
Received (Ok (count, from)) local buffer (Err failure) octets = ⊥
Received (Err error) local buffer (Ok route) octets = IsNothing (error_kind error) × (route ≡ None) × (octets ≡ [])
Received (Err error) local buffer (Err failure) octets = (¬ IsNothing (error_kind error)) × (octets ≡ [])

-- What a send comes to: it fails at every error but those of a datagram without a way, which is lost, where the port isn't strict.
abbrev pub Sent : {A : Type 0} → (strict : Bool) → Result ℕ Error → Result A Device → Type 0
Sent strict (Ok count) (Ok done) = Unit {0}
Sent strict (Ok count) (Err failure) = ⊥
Sent strict (Err error) (Ok done) = (strict ≡ false) × HasNoWay (error_kind error)
Sent strict (Err error) (Err failure) = ¬ ((strict ≡ false) × HasNoWay (error_kind error))
