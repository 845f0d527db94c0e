use Rattle.std.proofs.Common.{◌≡◌, length, map, Some, None, arith}
use Rattle.std.proofs.lemmas.List.{get_or-map, length-map}
use Rattle.std.proofs.lemmas.List.Edits.{paste_more}
use Rattle.nbt_dgram.proofs.known.write.Goals as goal

pub loop-k-preserved : goal.loop-k-preserved
loop-k-preserved c =
    let marks : length (map Some c.args.payload.now) ≡ length c.args.payload.now = length-map c.args.payload.now Some in
    rw (c.loop-k.invariant, ← get_or-map Some c.args.payload.now c.loop-k.k 0 None c.loop-k-test.true)
    (paste_more c.args.known.now c.args.begin (map Some c.args.payload.now) c.loop-k.k None (omega (arith, c.requires)) (omega (arith, marks)))
