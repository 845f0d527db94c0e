use Rattle.std.proofs.Common.{◌≡◌, ◌+◌, ◌-◌, ◌≤◌, ℕ, List, length, take, drop, ap, subst, ◌∙◌, arith}
use Rattle.std.proofs.lemmas.List.{length-drop, take_all}
use Rattle.std.specs.String.{string_bytes}
use Rattle.std.specs.Io.KnownBytes.{Keeps, append_known}
use Rattle.nbt_nbns.specs.Outboxes.{OutboxValue}
use Rattle.nbt_nbns.proofs.Outgoing.{handed_on}
use Rattle.nbt_nbns.proofs.outbox.Outbox.push_out.Goals as goal

pub returns-clause-text : goal.returns-clause-text
returns-clause-text g c =
    let before = g.W.Write.contents c.args.writer.now in
    let after = g.W.Write.contents c.write_out-count.new.writer in
    let start = c.self.inside.start in
    let count = c.write_out-count.result.0 in
    let octets = string_bytes c.self.inside.text in
    let all = c.as_bytes.result.now in
    let left = length-drop start all in
    let fits : length (drop start all) ≤ length all - start = omega (arith, left) in
    let waits : take (length all - start) (drop start all) ≡ drop start octets = take_all (length all - start) (drop start all) fits ∙ ap (λ (l : List ℕ). drop start l) c.as_bytes.ensures.value in
    subst (λ (o : OutboxValue). Keeps (append_known before o.waiting) (append_known after (drop (start + count) octets))) c.self.view_is
    (handed_on before after start count octets (take (length all - start) (drop start all)) waits c.write_out-count.ensures.bytes)
