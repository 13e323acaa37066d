-- Where a peer is, and how many places it may have.
use Rattle.std.specs.Prelude.{◌≡◌, ◌↔◌, ℕ, ◌/◌, ◌^◌, max, if◌then◌else◌, IsTrue, Option, Some, None}
use Rattle.std.specs.Net.Addr.{IsCanonicalOf, IsLoopbackV4, IsLoopbackV6, MatchIp, ipv4_bits, ipv6_bits}
use Rattle.std.specs.Net.Socket.{socket_ip}
use Rattle.std.specs.declared.net.ip_addr.IpAddr.{IpAddr}
use Rattle.std.specs.declared.net.ip_addr.IpAddr.TheVariants.{V4, V6}
use Rattle.std.specs.declared.net.socket_addr.SocketAddr.{SocketAddr}
use Rattle.gate_limits.specs.declared.limits.Limits.{Limits}
use Rattle.gate_limits.specs.declared.peer_address.PeerAddress.{PeerAddress}

-- the bits of an IPv4 address, and the first 64 of an IPv6 one
abbrev pub address_number : IpAddr → ℕ
address_number (V4 ip) = ipv4_bits ip
address_number (V6 ip) = ipv6_bits ip / 2 ^ 64

-- an IPv4 address that is written as an IPv6 one is the IPv4 one, and each other is itself
abbrev pub IsCanonicalIp : IpAddr → IpAddr → Type 0
IsCanonicalIp written ip = MatchIp written (λ _. ip ≡ written) (λ six. IsCanonicalOf six ip)

-- a peer is at this address
pub record IsPeerAddress (address : SocketAddr) (peer : PeerAddress) : Type 0 where
  pub ip : IpAddr
  pub canonical : IsCanonicalIp (socket_ip address) ip
  pub number : peer.number ≡ address_number ip
  pub loopback : IsTrue peer.is_loopback ↔ MatchIp ip IsLoopbackV4 IsLoopbackV6

-- so many places where that is said; else a quarter of all, and one at least, and for this machine itself all
abbrev pub places_given : Option ℕ → ℕ → PeerAddress → ℕ
places_given (Some per_address) most peer = per_address
places_given None most peer = if peer.is_loopback then most else max 1 (most / 4)

-- how many places a peer's address may have
abbrev pub places_allowed : Limits → PeerAddress → ℕ
places_allowed limits peer = places_given limits.per_address limits.most peer
