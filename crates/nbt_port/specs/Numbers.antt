-- The numbers of ports, and of servers and hosts that stay up (our profile).
use Rattle.std.specs.Prelude.{ℕ, ◌-◌, ◌^◌}

-- a port hands out so many octets of a datagram at most
abbrev pub octets_most : ℕ
octets_most = 2048

-- so many milliseconds a receive waits for a datagram, and an end after a turn that failed
abbrev pub receive_wait : ℕ
receive_wait = 100

-- an end gives up at the last of so many turns in a row that failed
abbrev pub failures_most : ℕ
failures_most = 100

-- a count of calls that failed goes so far at most
abbrev pub count_most : ℕ
count_most = 2 ^ 64 - 1

-- an end takes so many turns where it has no end: more than any system lives to see
abbrev pub forever : ℕ
forever = 2 ^ 61

-- so many milliseconds after the last look a port looks for the machine's addresses again
abbrev pub look_wait : ℕ
look_wait = 1000
