use Rattle.std.proofs.Common.{refl}
use Rattle.std.specs.Prelude.{◌≢◌, slice_index}
use Rattle.nbt_text.specs.NameText.{SpellsName}
use Rattle.nbt_text.proofs.Taking.{both, neither, there}
use Rattle.nbt_prog.specs.Network.{SpellsHeld}
use Rattle.nbt_prog.proofs.network.name_to_hold.Goals as goal

pub returns-in-Some-clause-read : goal.returns-in-Some-clause-read
returns-in-Some-clause-read c = both (SpellsName c.args.text.now) (λ n. slice_index n.octets 0 ≢ 0x2A) c.in-Some.name c.without_star.result
    (rw (← c.as_bytes.ensures.value) ((c.in-Some.ensures c.in-Some.name).0 refl)) c.without_star.ensures.found c.without_star.ensures.value

pub returns-in-Some-clause-found : goal.returns-in-Some-clause-found
returns-in-Some-clause-found c = there (SpellsHeld c.args.text.now) c.without_star.result (neither (SpellsName c.args.text.now) (λ n. slice_index n.octets 0 ≢ 0x2A) c.in-Some.name c.without_star.result
    (λ n spelled.
    let name : SpellsName c.as_bytes.result.now n = rw c.as_bytes.ensures.value spelled in
    let one = (c.in-Some.ensures n).1 name in
    cc)
    c.without_star.ensures.found)

pub returns-in-None-clause-found : goal.returns-in-None-clause-found
returns-in-None-clause-found c = λ held.
    let name : SpellsName c.as_bytes.result.now held.0 = rw c.as_bytes.ensures.value held.1.0 in
    let one = (c.in-None.ensures held.0).1 name in
    absurd cc
