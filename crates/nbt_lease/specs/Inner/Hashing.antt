-- How names are hashed (private types alone).
use Rattle.std.specs.declared.hash.DefaultHasher.{DefaultHasher}
use Rattle.std.specs.Hash.DefaultHasher.{initial}
use Rattle.std.specs.RandomState.{initial_hasher}
use Rattle.nbt_lease.specs.declared.by_name.Hashing.{Hashing}
use Rattle.nbt_lease.specs.declared.by_name.Hashing.TheVariants.{Fixed, Keyed}

-- the hasher that begins each hash
abbrev pub hasher_of : Hashing → DefaultHasher
hasher_of Fixed = initial
hasher_of (Keyed keys) = initial_hasher keys
