-- Which refusal an error of clap is.
use Rattle.clap.specs.Words.{kind_of}
use Rattle.clap.specs.declared.error.Error.{Error}
use Rattle.clap.specs.declared.error.kind.ErrorKind.{ErrorKind}
use Rattle.clap.specs.declared.error.kind.ErrorKind.TheVariants as kind
use Rattle.nbt_args.specs.declared.refusal.Refusal.{Refusal}
use Rattle.nbt_args.specs.declared.refusal.Refusal.TheVariants.{Help, Wrong, Memory}

abbrev pub refusal_of_kind : Error → ErrorKind → Refusal
refusal_of_kind e kind.OutOfMemory = Memory
refusal_of_kind e kind.DisplayHelp = Help (record { error = e })
refusal_of_kind e kind.DisplayVersion = Help (record { error = e })
refusal_of_kind e _ = Wrong (record { error = e })

-- Help and the version were asked for; any other text of clap says what is wrong, unless an allocation was refused.
abbrev pub refusal_of : Error → Refusal
refusal_of e = refusal_of_kind e (kind_of e)
