-- The numbers of `loop` (our profile).
use Rattle.std.specs.Prelude.{ℕ}

-- the greatest first port: two more follow it
abbrev pub first_port_most : ℕ
first_port_most = 65533

-- the moment at which its clock begins: its server, which started at 0, isn't silent any more
abbrev pub loop_begin : ℕ
loop_begin = 60000
