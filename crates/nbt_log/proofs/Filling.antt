-- A name filled up with spaces, and the one host whose it is.
use Rattle.std.proofs.Common.{◌≡◌, ℕ, ◌-◌, ◌⊎◌, List, [], length, refl, inl, inr, arith, zero, suc}
use Rattle.std.specs.Prelude.{slice_index, replicate}
use Rattle.nbt_text.specs.SuffixedNames.{IsCutAt}
use Rattle.nbt_text.proofs.Words.{cut_is_one}
use Rattle.nbt_text.specs.HostNames.{IsHostCharacter, IsHostName}
use Rattle.nbt_log.specs.Hosts.{IsSpace, server_octets, space}

no_space : (octet : ℕ) → IsHostCharacter octet → ¬ IsSpace octet
no_space octet (inl (inl is)) e = omega (arith, is.0, e)
no_space octet (inl (inr is)) e = omega (arith, is.0, e)
no_space octet (inr (inl is)) e = omega (arith, is.0, e)
no_space octet (inr (inr is)) e = omega (arith, is, e)

spaces_first : (n : ℕ) → (replicate n space ≡ []) ⊎ IsSpace (slice_index (replicate n space) 0)
spaces_first zero = inl refl
spaces_first (suc n) = inr refl

server_cut : (host : List ℕ) → IsHostName host → IsCutAt IsSpace (server_octets host) host (replicate (16 - length host) space)
server_cut host is = record {
  word_is = refl;
  none = λ k h. no_space (slice_index host k) (is.characters k h);
  first = spaces_first (16 - length host);
}

-- what stands before the first space of a file server's octets is its host
pub host_is_one : (octets found rest host : List ℕ) → IsCutAt IsSpace octets found rest → IsHostName host → octets ≡ server_octets host → found ≡ host
host_is_one octets found rest host cut is e = (cut_is_one IsSpace octets (server_octets host) found host rest (replicate (16 - length host) space) cut (server_cut host is) e).0
