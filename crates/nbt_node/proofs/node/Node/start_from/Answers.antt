use Rattle.std.proofs.Common.{◌≡◌, length, None, Option, List, ap}
use Rattle.std.specs.Prelude.{replicate}
use Rattle.std.proofs.Math.Nat.{le_refl}
use Rattle.nbt_node.specs.declared.state.Slot.{Slot}
use Rattle.nbt_node.specs.Node.{NodeValue}
use Rattle.nbt_node.proofs.Awake.{awake-none}
use Rattle.nbt_node.proofs.Known.{all_free, distinct-none}
use Rattle.nbt_node.proofs.node.Node.start_from.Goals as goal

pub invariant_of-result : goal.invariant_of-result
invariant_of-result g c =
    let count : length c.from_fn.result ≡ g.row.N = c.from_fn.ensures.items.long in
    let free : c.from_fn.result ≡ replicate g.row.N None = all_free c.from_fn.result g.row.N count (λ i within. (c.from_fn.ensures.items.at i None within).2.met.0) in
    record { slots_at_most = c.requires.slots_at_most; slots_at_least = c.requires.slots_at_least; count_is = count; apart = distinct-none c.from_fn.result g.row.N free; awake = awake-none c.from_fn.result g.row.N free; since = le_refl c.args.now }

pub returns : goal.returns
returns g c =
    let free : c.from_fn.result ≡ replicate g.row.N None = all_free c.from_fn.result g.row.N c.from_fn.ensures.items.long (λ i within. (c.from_fn.ensures.items.at i None within).2.met.0) in
    ap (λ (xs : List (Option Slot)). let node : NodeValue = record { addr = c.args.addr; server = c.args.server; config = c.args.config; start = c.args.now; last = c.args.now; next_id = c.args.first_id; lookup = None; slots = xs } in node) free
