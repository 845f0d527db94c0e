-- The numbers of a front (our profile).
use Rattle.std.specs.Prelude.{ℕ}

-- so many names are fixed at most
abbrev pub names_most : ℕ
names_most = 65536

-- and a group has so many addresses at most: they fit beside any name in a response (RFC 1002 section 4.2.13)
abbrev pub addrs_most : ℕ
addrs_most = 48

-- a file names so many networks at most
abbrev pub networks_most : ℕ
networks_most = 1024
