-- What is told of the replies to a scan: at once, or in the order of their addresses at its end (our profile).
use Rattle.std.specs.Prelude.{◌≡◌, ℕ, true, false, List, [], ◌∷◌, ◌++◌, Option, Some, None, IsPermutation}
use Rattle.std.specs.List.{flat_map}
use Rattle.std.specs.List.Sorted.{IsNonDecreasingBy}
use Rattle.std.specs.Io.KnownBytes.{Appends}
use Rattle.std.specs.String.{string_bytes}
use Rattle.nbt_scan.specs.declared.form.Layout.{Layout}
use Rattle.nbt_scan.specs.declared.sheet.Kept.{Kept}
use Rattle.nbt_scan.specs.Lines.{PrintsHost}

-- who replied, with which names, and the statistics behind them
pub record Reply : Type 0 where
  pub ip : ℕ
  pub names : List ℕ
  pub statistics : List ℕ

-- what is kept for the end, in the order of the replies, and what was printed
pub record Sheet : Type 0 where
  pub kept : List Kept
  pub text : Option (List ℕ)

-- The lines of a host are printed, or kept where the order is that of the addresses.
pub data Tells (layout : Layout) (reply : Reply) (old : Sheet) : Sheet → Type 0 where
  prints : (lines : List ℕ) (text : Option (List ℕ)) → layout.sorted ≡ false → PrintsHost layout.form reply.ip reply.names reply.statistics lines → Appends old.text text lines
      → Tells layout reply old (record old { text = text })
  keeps : (kept : Kept) → layout.sorted ≡ true → kept.ip ≡ reply.ip → PrintsHost layout.form reply.ip reply.names reply.statistics (string_bytes kept.text)
      → Tells layout reply old (record old { kept = old.kept ++ kept ∷ [] })

abbrev pub TellsIf : Layout → Option Reply → (old new : Sheet) → Type 0
TellsIf layout None old new = new ≡ old
TellsIf layout (Some reply) old new = Tells layout reply old new

-- At the end the kept lines are printed, by address.
pub record PrintsKept (kept : List Kept) (lines : List ℕ) : Type 0 where
  pub sorted : List Kept
  pub same : IsPermutation kept sorted
  pub ascending : IsNonDecreasingBy (λ host. host.ip) sorted
  pub lines_are : lines ≡ flat_map (λ host. string_bytes host.text) sorted
