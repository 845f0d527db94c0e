use Rattle.std.proofs.Common.{◌+◌, [], ◌++◌, ℕ, List, drop, length, refl, sym, ap, ◌∙◌}
use Rattle.std.proofs.lemmas.List.{append-nil}
use Rattle.std.specs.String.{string_bytes}
use Rattle.nbt_packet.specs.Message.{MessageIs, status, internet_record, nbstat}
use Rattle.nbt_packet.specs.Packet.{packet_of}
use Rattle.nbt_show.specs.Holders.{cut_text, not_found_text}
use Rattle.nbt_show.specs.NodeStatus.{unit_text}
use Rattle.nbt_show.proofs.NoReply.{prints_nothing}
use Rattle.nbt_show.proofs.reply.write_message.Goals as goal

pub returns-in_ok-write_holders-in-Found : goal.returns-in_ok-write_holders-in-Found
returns-in_ok-write_holders-in-Found c =
    let told = c.in_ok-write_holders-in-Found.ensures in
    (told.0 ++ cut_text c.in-Found.cut, rw c.in-Found.is (refl, told.0, told.1, refl), told.2)

pub returns-in_ok-write_not_found-in-NotFound : goal.returns-in_ok-write_not_found-in-NotFound
returns-in_ok-write_not_found-in-NotFound c = (not_found_text c.in-NotFound.rcode, rw c.in-NotFound.is (refl, refl), c.in_ok-write_not_found-in-NotFound.ensures)

pub returns-in_ok-write_names-in-Status : goal.returns-in_ok-write_names-in-Status
returns-in_ok-write_names-in-Status c =
    let m = c.in-Status in
    let is : MessageIs (packet_of c.args.packet.now) (status m.id m.name m.names.now) = rw m.is at c.requires in
    let answer = internet_record m.name nbstat is.3 is.4 in
    let told = c.in_ok-write_names-in-Status.ensures in
    let rest = c.statistics_of.ensures answer is.5.answer_is in (
      told.0 ++ unit_text (drop (1 + length m.names.now) answer.rdata),
      rw m.is (refl, told.0, told.1, answer, is.5.answer_is, refl),
      told.2 ∙ ap (λ (z : List ℕ). string_bytes c.args.out.now ++ (told.0 ++ unit_text z)) rest,
    )

pub returns-in_default : goal.returns-in_default
returns-in_default c =
    ([], prints_nothing (packet_of c.args.packet.now) c.args.message.now c.in_default.not-Found c.in_default.not-NotFound c.in_default.not-Status, sym (append-nil (string_bytes c.args.out.now)))
