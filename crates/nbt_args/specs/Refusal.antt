-- Why arguments name no command that can be run.
use Rattle.nbt_args.specs.declared.refusal.Refusal.{Refusal}
use Rattle.nbt_args.specs.declared.refusal.Refusal.TheVariants.{Help, Wrong, Memory}

-- the usage is wrong, unless it is out of memory; help was not requested
abbrev pub IsWrongUsage : Refusal → Type 0
IsWrongUsage (Help text) = ⊥
IsWrongUsage (Wrong text) = Unit {0}
IsWrongUsage Memory = Unit {0}
