-- Which failure says what is wrong with the arguments of `serve` and `node`.
use Rattle.std.specs.Prelude.{◌≡◌, ◌≢◌, ◌≤◌, ◌⊎◌, ℕ, List, Option, Some, None}
use Rattle.std.specs.Borrow.{Bor}
use Rattle.nbt_name.specs.Wire.{NameValue}
use Rattle.nbt_args.specs.declared.limits.LimitedArgument.TheVariants.{Life, Longest, Ttl, Turns}
use Rattle.nbt_args.specs.declared.texts.CommandLine.{CommandLine}
use Rattle.nbt_args.specs.declared.texts.CommandLine.TheVariants as line
use Rattle.nbt_args.specs.declared.texts.NodeTexts.{NodeTexts}
use Rattle.nbt_args.specs.declared.texts.ServeTexts.{ServeTexts}
use Rattle.nbt_prog.specs.Texts.{IsAddress}
use Rattle.nbt_prog.specs.Inner.Failure.{failure_status, out_of_memory}
use Rattle.nbt_prog.specs.Network.{SpellsHeld, IsWithin}
use Rattle.nbt_prog.specs.declared.failure.Failure.{Failure}
use Rattle.nbt_prog.specs.declared.failure.Failure.TheVariants.{Unreadable}

abbrev pub IsHeld : List ℕ → Type 0
IsHeld text = (name : NameValue) × SpellsHeld text name

abbrev pub AreLimits : (life longest : List ℕ) → Type 0
AreLimits life longest = IsWithin Life life × IsWithin Longest longest

abbrev pub AreTurns : Option (Bor (List ℕ)) → Type 0
AreTurns None = Unit {0}
AreTurns (Some text) = IsWithin Turns text.now

abbrev pub ServeNumbers : ServeTexts → Type 0
ServeNumbers texts = AreLimits texts.life.now texts.longest.now × AreTurns texts.turns

abbrev pub NodeNumbers : NodeTexts → Type 0
NodeNumbers texts = AreLimits texts.life.now texts.longest.now × IsWithin Ttl texts.ttl.now × AreTurns texts.turns

-- two addresses, and a name that can be held
abbrev pub AreNodeTexts : NodeTexts → Type 0
AreNodeTexts texts = IsAddress texts.bind.now × IsAddress texts.server.now × IsHeld texts.name.now

-- A number out of its limits is wrong usage, and is found before an address or a name that can't be read; memory may be out
-- at any step.
abbrev pub FirstFault : (Numbers Texts : Type 0) → Failure → Type 0
FirstFault Numbers Texts failure = (failure ≡ out_of_memory)
    ⊎ ((¬ Numbers × (failure_status failure ≡ 2))
    ⊎ (Numbers × ¬ Texts × (failure ≡ Unreadable)))

-- how a command line fails on a machine: those that open no socket end by themselves
abbrev pub FailsOn : CommandLine → Failure → Type 0
FailsOn (line.Admin l) failure = 2 ≤ failure_status failure
FailsOn (line.Serve texts) failure = failure_status failure ≢ 0
FailsOn (line.Node texts) failure = failure_status failure ≢ 0
FailsOn (line.Loop port) failure = Unit {0}
FailsOn _ failure = ⊥
