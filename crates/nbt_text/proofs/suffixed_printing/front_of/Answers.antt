use Rattle.std.proofs.Common.{◌≡◌, ◌∙◌, sym, subst, rules}
use Rattle.std.proofs.lemmas.Slice.Eq.{bytes_eq-Decides}
use Rattle.nbt_text.specs.SuffixedNames.{IsSeen}
use Rattle.nbt_text.proofs.Filling.{front_is_one}
use Rattle.nbt_text.proofs.suffixed_printing.front_of.Goals.{else-is_seen-via-then-is_seen+else-eq, else-is_seen-via-else-is_seen}
use Rattle.nbt_text.proofs.suffixed_printing.front_of.Goals as goal

pub returns-else-is_seen-clause-none : goal.returns-else-is_seen-clause-none
returns-else-is_seen-clause-none c = λ front suffix seen e.
    let cut = c.before_blank-front.ensures in
    let one = front_is_one c.args.octets.now c.before_blank-front.result.now cut.0 front suffix cut.1 seen e in
    elim c.else-is_seen.branch [
      | else-is_seen-via-then-is_seen+else-eq w ↦
          let same : w.filled.result ≡ c.args.octets.now = w.filled.ensures ∙ rw (one.0, one.1) (sym e) in
          let equal = w.eq.ensures ∙ (bytes_eq-Decides w.filled.result c.args.octets.now).1 same in
          let other = w.if-eq.false in
          absurd cc
      | else-is_seen-via-else-is_seen w ↦ let is = c.is_seen.ensures.1 (subst IsSeen (sym one.0) seen) in absurd (search (rules, is))
    ]
