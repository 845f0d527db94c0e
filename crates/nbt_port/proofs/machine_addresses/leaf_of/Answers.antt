use Rattle.std.proofs.Common.{ℕ, List, [], ◌∷◌, length, codes, sym, ap, subst, arith}
use Rattle.std.specs.Net.Grammar.{IsIpv4Text}
use Rattle.std.specs.declared.net.ipv4_addr.Ipv4Addr.{Ipv4Addr}
use Rattle.nbt_port.specs.OwnAddresses.{IsLeaf, IsOwn}
use Rattle.nbt_port.proofs.machine_addresses.leaf_of.Goals as goal

second : List (List ℕ) → List ℕ
second [] = []
second (x ∷ []) = []
second (x ∷ (y ∷ rest)) = y

no_leaf : (text : List ℕ) → ((addr : Ipv4Addr) → ¬ IsIpv4Text text addr) → (ip : ℕ) → ¬ IsLeaf (codes "|--" ∷ text ∷ []) ip
unfolding second
no_leaf text none ip leaf = none leaf.1 (subst (λ (t : List ℕ). IsIpv4Text t leaf.1) (sym (ap second leaf.2)) leaf.3)

no_own : (text : List ℕ) → ¬ IsOwn (codes "|--" ∷ text ∷ [])
no_own text own = let e = ap length own in absurd (omega (arith, e))

pub returns-in-Err : goal.returns-in-Err
returns-in-Err c = (no_leaf c.args.text.now c.in-Err.ensures, no_own c.args.text.now)
