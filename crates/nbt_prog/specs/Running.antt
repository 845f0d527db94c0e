-- What a command line prints, and its status, as the texts of its arguments determine them (our profile).
use Rattle.std.specs.Prelude.{◌≡◌, ◌≤◌, ◌⊎◌, ℕ, Bool, true, false, if◌then◌else◌, List, Option, None, codes}
use Rattle.std.specs.Io.KnownBytes.{Appends}
use Rattle.nbt_admin.specs.Running.{Runs as RunsAdmin}
use Rattle.nbt_args.specs.declared.limits.LimitedArgument.TheVariants.{At}
use Rattle.nbt_args.specs.declared.texts.CommandLine.{CommandLine}
use Rattle.nbt_args.specs.declared.texts.CommandLine.TheVariants as line
use Rattle.nbt_args.specs.declared.texts.AnswerTexts.{AnswerTexts}
use Rattle.nbt_args.specs.declared.texts.ShowTexts.{ShowTexts}
use Rattle.nbt_bench.specs.Node.{RunsNodeHere}
use Rattle.nbt_bench.specs.Serve.{RunsServerHere}
use Rattle.nbt_bench.specs.declared.node.NodeArguments.{NodeArguments}
use Rattle.nbt_bench.specs.declared.serve.ServeArguments.{ServeArguments}
use Rattle.nbt_prog.specs.Answering.{Answers, AnswerArguments}
use Rattle.nbt_prog.specs.Drawing.{Draws}
use Rattle.nbt_prog.specs.Importing.{Imports}
use Rattle.nbt_prog.specs.Input.{IsInput}
use Rattle.nbt_prog.specs.Showing.{ShowsHex, ExplainsHex}
use Rattle.nbt_prog.specs.Texts.{IsHexadecimal}
use Rattle.nbt_show.specs.Verdicts.{PrintsChecked}
use Rattle.nbt_sim.specs.Script.{Plays}
use Rattle.nbt_text.specs.Lines.{lines, one_line}
use Rattle.nbt_prog.specs.Network.{ServeGiven, NodeGiven, SpellsWithin}

-- ---- commands that open no socket: what they print for the known input, and whether nothing is wrong

abbrev pub PrintsAnswer : AnswerTexts → (well : Bool) → (printed : List ℕ) → Type 0
PrintsAnswer texts well printed = (well ≡ true) × ((at : ℕ) × SpellsWithin At texts.at.now at × Answers texts.from.now texts.hex.now at printed)

abbrev pub PrintsShow : (texts : ShowTexts) → (explain : Bool) → (known : Option (List ℕ)) → (well : Bool) → (printed : List ℕ) → Type 0
PrintsShow texts true known well printed = ExplainsHex texts.kind.now texts.hex.now known well printed
PrintsShow texts false known well printed = ShowsHex texts.kind.now texts.hex.now well printed

abbrev pub Prints : CommandLine → (known : Option (List ℕ)) → (well : Bool) → (printed : List ℕ) → Type 0
Prints (line.Answer texts) known well printed = PrintsAnswer texts well printed
Prints (line.Show texts) known well printed = PrintsShow texts texts.explain known well printed
Prints line.Check known well printed = (input : List ℕ) × IsInput known input × PrintsChecked input well printed
Prints line.Sim known well printed = (input : List ℕ) × IsInput known input × Plays 1 None (lines input) well printed
Prints line.Draw known well printed = (input : List ℕ) × IsInput known input × Draws input well
Prints (line.Import texts) known well printed = Imports printed
Prints (line.Leases texts) known well printed = Unit {0}
Prints _ known well printed = ⊥

-- It was done: its output was appended, and the status is 0 if nothing is wrong, else 1.
pub record IsDone (l : CommandLine) (known : Option (List ℕ)) (status : ℕ) (old new : Option (List ℕ)) : Type 0 where
  pub well : Bool
  pub printed : List ℕ
  pub prints : Prints l known well printed
  pub appends : Appends old new printed
  pub status_is : status ≡ (if well then 0 else 1)

-- it was done, or its arguments or its input can't be read, or it failed otherwise
abbrev pub Ends : CommandLine → (known : Option (List ℕ)) → (status : ℕ) → (old new : Option (List ℕ)) → Type 0
Ends l known status old new = (2 ≤ status) ⊎ (IsDone l known status old new ⊎ ((status ≡ 1) × Appends old new (one_line (codes "unreadable"))))

-- ---- all commands, on a machine

-- The command was done as its texts say: with status 0, 1 or 5 by a command for people who run a network, with status 0 by `serve` and `node`, and
-- with status 0 or 1 by a command that opens no socket.
abbrev pub EndsOn : CommandLine → (known : Option (List ℕ)) → (status : ℕ) → (old new : Option (List ℕ)) → Type 0
EndsOn (line.Admin l) known status old new = ((2 ≤ status) × (status ≤ 4)) ⊎ RunsAdmin l status old new
EndsOn (line.Serve texts) known status old new = status ≡ 0 → (a : ServeArguments) × ServeGiven texts a × RunsServerHere a old new
EndsOn (line.Node texts) known status old new = status ≡ 0 → (a : NodeArguments) × NodeGiven texts a × RunsNodeHere a old new
EndsOn (line.Loop port) known status old new = Unit {0}
EndsOn l known status old new = Ends l known status old new
