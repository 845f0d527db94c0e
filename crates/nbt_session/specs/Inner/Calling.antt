-- What a caller keeps.
use Rattle.std.specs.Prelude.{◌≤◌}
use Rattle.nbt_session.specs.declared.caller.CallerState.{CallerState}
use Rattle.nbt_session.specs.declared.caller.CallerState.TheVariants.{Connecting, Waiting}

-- no call has more than four tries
abbrev pub TriesFit : CallerState → Type 0
TriesFit (Connecting to tries) = tries ≤ 4
TriesFit (Waiting to tries) = tries ≤ 4
TriesFit _ = Unit {0}
