use Rattle.std.proofs.Common.{List, ℕ, ◌∙◌, sym, subst}
use Rattle.nbt_name.specs.Wire.{name_of}
use Rattle.nbt_text.specs.NameText.{SpellsName}
use Rattle.nbt_text.proofs.Deciding.{if_some, if_none}
use Rattle.nbt_text.proofs.scoped_name.scoped.Goals as goal

pub returns-clause-read : goal.returns-clause-read
returns-clause-read c =
    let whole = c.as_slice.ensures.value ∙ c.with_a_name-whole.ensures in
    if_some _ c.parse_name.result (λ name is. record {
      octets = name.octets;
      few = c.if-text-gt-SCOPE_MOST.false;
      spells = subst (λ (text : List ℕ). SpellsName text (name_of name.octets name.scope)) whole ((c.parse_name.ensures (name_of name.octets name.scope)).0 is);
    })

pub returns-clause-none : goal.returns-clause-none
returns-clause-none c =
    let whole = c.as_slice.ensures.value ∙ c.with_a_name-whole.ensures in
    if_none _ c.parse_name.result (λ none scope s.
    let found = (c.parse_name.ensures (name_of s.octets scope)).1 (subst (λ (text : List ℕ). SpellsName text (name_of s.octets scope)) (sym whole) s.spells) in
    absurd cc)
