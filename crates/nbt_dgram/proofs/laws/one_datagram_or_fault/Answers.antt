use Rattle.std.proofs.Common.{◌≡◌, ℕ, inl, inr}
use Rattle.nbt_dgram.specs.Dgram.{DgramValue}
use Rattle.nbt_dgram.proofs.OneDatagram.{reads_dgram}
use Rattle.nbt_dgram.proofs.laws.one_datagram_or_fault.Goals as goal

pub returns-clause-found : goal.returns-clause-found
returns-clause-found c = λ octets fits. elim ((reads_dgram octets).found fits) [ inl x ↦ inl (x.0.0, x.0.1, x.1) | inr f ↦ inr (f.0, f.1) ]

pub returns-clause-one_datagram : goal.returns-clause-one_datagram
returns-clause-one_datagram c = λ octets a b n m fits x y.
    let same : ◌≡◌ {A = DgramValue × ℕ} (a, n) (b, m) = (reads_dgram octets).one_value (a, n) (b, m) x y in (λ i. (same i).0, λ i. (same i).1)

pub returns-clause-one_fault : goal.returns-clause-one_fault
returns-clause-one_fault c = λ octets f g fits. (reads_dgram octets).one_fault f g

pub returns-clause-not_both : goal.returns-clause-not_both
returns-clause-not_both c = λ octets d n fault fits. (reads_dgram octets).not_both (d, n) fault
