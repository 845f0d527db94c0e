-- The limits of the values that arguments have, as the help says them (our profile).
use Rattle.std.specs.Prelude.{ℕ, ◌^◌}
use Rattle.nbt_args.specs.declared.limits.LimitedArgument.{LimitedArgument}
use Rattle.nbt_args.specs.declared.limits.LimitedArgument.TheVariants.{At, Wait, Life, Longest, Ttl, Turns, Port}

-- the least that a value may be: a server's time begins at 0, and a TTL of 0 is as long as may be
abbrev pub least_of : LimitedArgument → ℕ
least_of At = 0
least_of Ttl = 0
least_of _ = 1

-- the most that it may be: milliseconds of a server's time, of a wait and of a datagram's life, seconds of a lease and of what is asked
-- for, turns, and the first of three ports
abbrev pub most_of : LimitedArgument → ℕ
most_of At = 2 ^ 60
most_of Wait = 5000
most_of Life = 60000
most_of Longest = 1000000
most_of Ttl = 4294967295
most_of Turns = 1000000
most_of Port = 65533
