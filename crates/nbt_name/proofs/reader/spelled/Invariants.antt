use Rattle.std.proofs.Common.{◌≡◌, ℕ, ◌+◌, ◌-◌, ◌*◌, ◌<◌, get_or}
use Rattle.nbt_name.proofs.reader.spelled.Given as goal

-- each octet so far is that of its two letters
abbrev pub invariant-loop-k : goal.invariant-loop-k
invariant-loop-k l = (j : ℕ) → j < l.k → get_or l.octet-items j 0 ≡ (get_or l.letters (2 * j) 0 - 0x41) * 16 + (get_or l.letters (2 * j + 1) 0 - 0x41)
