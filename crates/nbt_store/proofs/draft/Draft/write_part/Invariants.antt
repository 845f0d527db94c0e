use Rattle.std.proofs.Common.{◌≡◌, ◌++◌, List, length}
use Rattle.std.specs.String.{string_bytes}
use Rattle.nbt_store.specs.declared.change.Change.{Change}
use Rattle.nbt_store.specs.DiskStores.{AreNewLines, beside_of}
use Rattle.nbt_store.proofs.draft.Draft.write_part.Given as goal

abbrev pub invariant-loop : goal.invariant-loop
invariant-loop l = (part : List Change) × ((beside_of l.initial.self).left ≡ part ++ (beside_of l.self).left) × (length part ≡ l.counter) × AreNewLines (beside_of l.initial.self).sum (string_bytes l.out) part (beside_of l.self).sum
    × ((beside_of l.self).leases ≡ (beside_of l.initial.self).leases) × ((beside_of l.self).lines ≡ (beside_of l.initial.self).lines)
