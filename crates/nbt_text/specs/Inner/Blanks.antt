-- What can fill up a name, and what is no digit: words of contracts within the crate.
use Rattle.std.specs.Prelude.{◌≡◌, ℕ, ◌<◌, ◌⊎◌}

-- a space, or a zero
abbrev pub IsBlank : ℕ → Type 0
IsBlank octet = (octet ≡ 0x20) ⊎ (octet ≡ 0)

-- outside `0` to `9`
abbrev pub IsNoDigit : ℕ → Type 0
IsNoDigit octet = (octet < 0x30) ⊎ (0x39 < octet)
