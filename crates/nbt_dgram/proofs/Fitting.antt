-- A datagram that is read has a written form.
use Rattle.std.proofs.Common.{◌≡◌, ℕ, ◌+◌, ◌-◌, ◌≤◌, List, length, ap, ◌∙◌, arith}
use Rattle.std.proofs.lemmas.List.{length-append, length-take-le}
use Rattle.std.proofs.lemmas.List.Edits.{length-between}
use Rattle.nbt_name.specs.declared.form.Form.TheVariants.{Plain}
use Rattle.nbt_name.specs.Words.{word_at}
use Rattle.nbt_name.specs.Wire.{AreOctets, wire}
use Rattle.nbt_name.proofs.Ends.{next_within}
use Rattle.nbt_name.proofs.Fits.{word_fits}
use Rattle.nbt_name.proofs.PlainForms.{plain_takes_wire}
use Rattle.nbt_dgram.specs.declared.dgram.Part.{Part}
use Rattle.nbt_dgram.specs.declared.dgram.Part.TheVariants.{First, Later}
use Rattle.nbt_dgram.specs.Fields.{end_at, within}
use Rattle.nbt_dgram.specs.Dgram.{FragmentValue, BodyValue, fragment, error, lookup, DgramValue, PartAt, FragmentAt, BodyAt, DgramIs}
use Rattle.nbt_dgram.specs.Text.{names_text, dgm_length, BodyFits, Fits}

-- ---- the names and the data are what DGM_LENGTH counts

-- where the data begin
begins : (octets : List ℕ) (part : Part) (begin : ℕ) → end_at octets ≤ length octets → PartAt octets part begin → (begin ≡ 14 + length (names_text part)) × (begin ≤ end_at octets)
begins octets (First names) begin whole at =
    let source = plain_takes_wire (within octets) 14 names.source at.2.named at.2.source in
    let destination = plain_takes_wire (within octets) at.2.named names.destination begin at.2.destination in
    let there = next_within Plain (within octets) at.2.named names.destination begin at.2.destination in
    let counted : length (within octets) ≡ end_at octets = length-take-le (end_at octets) octets whole in
    (omega (arith, source, destination, length-append (wire names.source) (wire names.destination)), omega (arith, there, counted))
begins octets (Later offset) begin whole at = (omega (arith, at.2), omega (arith, at.2))

counted_length : (octets : List ℕ) (f : FragmentValue) (next : ℕ) → FragmentAt octets f next → dgm_length f ≡ word_at octets 10
counted_length octets f next at =
    let begin = begins octets f.part at.begin at.whole at.part in
    let size : length f.payload ≡ end_at octets - at.begin = ap length at.payload ∙ length-between octets at.begin (end_at octets) at.whole in
    omega (arith, begin.0, begin.1, size)

body_fits : (octets : List ℕ) → AreOctets octets → (body : BodyValue) (next : ℕ) → BodyAt octets body next → BodyFits body
body_fits octets fits (fragment f) next at = omega (arith, counted_length octets f next at, word_fits octets 10 fits)
body_fits octets fits (error code) next at = tt
body_fits octets fits (lookup l name) next at = tt

pub read_fits : (octets : List ℕ) → AreOctets octets → (d : DgramValue) (n : ℕ) → DgramIs octets d n → Fits d
read_fits octets fits d n is = body_fits octets fits d.body n is.body
