use Rattle.std.proofs.Common.{◌≡◌, ◌++◌, length, map}
use Rattle.nbt_front.proofs.fixed.Fixed.list_leases.Given as goal

abbrev pub invariant-addrs : goal.invariant-addrs
invariant-addrs l = l.rows.items ++ map (λ addr. (l.name, record { addr = addr; kind = l.self.kind; end = l.end })) l.rest ≡ l.fn.rows.items ++ map (λ addr. (l.name, record { addr = addr; kind = l.self.kind; end = l.end })) l.self.addrs

abbrev pub decreases-addrs : goal.decreases-addrs
decreases-addrs l = length l.rest
