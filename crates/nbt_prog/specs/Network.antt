-- The numbers that texts spell, and the arguments of `serve` and `node` that texts give.
use Rattle.std.specs.Prelude.{◌≡◌, ◌↔◌, ℕ, List, Option, Some, None, codes}
use Rattle.std.specs.Borrow.{Bor}
use Rattle.nbt_name.specs.Wire.{NameValue, IsStar}
use Rattle.nbt_name.specs.declared.addr.Kind.TheVariants.{Group}
use Rattle.nbt_lease.specs.Config.{ConfigValue}
use Rattle.nbt_text.specs.Address.{SpellsAddress}
use Rattle.nbt_text.specs.NameText.{SpellsName}
use Rattle.nbt_text.specs.Number.{SpellsWithin as NumberWithin}
use Rattle.nbt_bench.specs.declared.node.NodeArguments.{NodeArguments}
use Rattle.nbt_bench.specs.declared.serve.ServeArguments.{ServeArguments}
use Rattle.nbt_args.specs.Limits.{least_of, most_of}
use Rattle.nbt_args.specs.declared.limits.LimitedArgument.{LimitedArgument}
use Rattle.nbt_args.specs.declared.limits.LimitedArgument.TheVariants.{Life, Longest, Ttl, Turns}
use Rattle.nbt_args.specs.declared.texts.NodeTexts.{NodeTexts}
use Rattle.nbt_args.specs.declared.texts.ServeTexts.{ServeTexts}

-- the text is a number, in digits alone, within the limits that the help states
abbrev pub SpellsWithin : LimitedArgument → List ℕ → ℕ → Type 0
SpellsWithin limited text number = NumberWithin (least_of limited) (most_of limited) text number

abbrev pub IsWithin : LimitedArgument → List ℕ → Type 0
IsWithin limited text = (number : ℕ) × SpellsWithin limited text number

-- the text spells a name that can be held: it doesn't begin with `*`
abbrev pub SpellsHeld : List ℕ → NameValue → Type 0
SpellsHeld text name = SpellsName text name × (¬ IsStar name)

-- the limits of a server and its nodes that two texts spell
pub record IsConfigOf (life longest : List ℕ) (config : ConfigValue) : Type 0 where
  pub life_is : SpellsWithin Life life config.life
  pub longest_is : SpellsWithin Longest longest config.longest
  pub rows_are : config.rows ≡ 4096

-- the number of turns that a text spells; without a text there is no limit
abbrev pub SpellsTurns : Option (Bor (List ℕ)) → Option ℕ → Type 0
SpellsTurns None turns = turns ≡ None
SpellsTurns (Some text) turns = (number : ℕ) × (turns ≡ Some number) × SpellsWithin Turns text.now number

pub record ServeGiven (texts : ServeTexts) (a : ServeArguments) : Type 0 where
  pub bind : SpellsAddress texts.bind.now a.bind
  pub config : IsConfigOf texts.life.now texts.longest.now a.config
  pub turns : SpellsTurns texts.turns a.turns

pub record NodeGiven (texts : NodeTexts) (a : NodeArguments) : Type 0 where
  pub bind : SpellsAddress texts.bind.now a.bind
  pub server : SpellsAddress texts.server.now a.server
  pub config : IsConfigOf texts.life.now texts.longest.now a.config
  pub name : SpellsHeld texts.name.now a.want.name
  pub kind : (a.want.kind ≡ Group) ↔ (texts.kind.now ≡ codes "group")
  pub ttl : SpellsWithin Ttl texts.ttl.now a.want.ttl
  pub turns : SpellsTurns texts.turns a.turns
