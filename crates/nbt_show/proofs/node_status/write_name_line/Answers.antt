use Rattle.std.proofs.Common.{◌++◌, subst, refl, append_assoc, take, List, ℕ}
use Rattle.std.specs.String.{string_bytes}
use Rattle.nbt_text.proofs.Joining.{OnOk-map}
use Rattle.nbt_text.specs.SuffixedNames.{PrintsOctets}
use Rattle.nbt_show.specs.NodeStatus.{after_word}
use Rattle.nbt_show.proofs.node_status.write_name_line.Goals as goal

pub returns : goal.returns
returns c =
    let chunk = rw c.unwrap-octets.ensures at c.first_chunk.ensures.cases in
    let word = c.in_ok-write_octets.ensures in
    let prints : PrintsOctets (take 16 c.args.name.now) word.0 = subst (λ (octets : List ℕ). PrintsOctets octets word.0) chunk.same word.2 in
    OnOk-map c.write_after.result c.write_after.ensures (λ e. (
      word.0 ++ after_word c.args.name.now,
      (word.0, prints, refl),
      rw (e, word.1) (append_assoc (string_bytes c.args.out.now) word.0 (after_word c.args.name.now)),
    ))
