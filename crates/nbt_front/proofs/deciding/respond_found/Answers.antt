use Rattle.std.proofs.Common.{◌≡◌, ◌*◌, ◌∙◌, ℕ, List, [], ◌∷◌, length, length-append, refl, ap, arith}
use Rattle.std.specs.List.{flat_map}
use Rattle.nbt_name.specs.declared.addr.Kind.{Kind}
use Rattle.nbt_packet.specs.Text.{entry}
use Rattle.nbt_packet.proofs.Sizes.{length-entry}
use Rattle.nbt_front.proofs.deciding.respond_found.Goals as goal

-- each entry has six octets
length-entries : (kind : Kind) (addrs : List ℕ) → length (flat_map (λ addr. entry kind addr) addrs) ≡ 6 * length addrs
length-entries kind [] = refl
length-entries kind (addr ∷ rest) = omega (arith, length-append (entry kind addr) (flat_map (λ other. entry kind other) rest), length-entry kind addr, length-entries kind rest)

pub write-requires-clause-fits : goal.write-requires-clause-fits
write-requires-clause-fits c =
    let fixed = c.args.fixed.now in
    let six : length c.as_slice.result.now ≡ 6 * length fixed.addrs = ap length (c.as_slice.ensures.value ∙ c.entries-entries.ensures) ∙ length-entries fixed.kind fixed.addrs in
    (omega (arith, six, c.addrs.ensures.some), omega (arith, six, c.addrs.ensures.few), omega (arith, six))
