use Rattle.std.proofs.Common.{◌++◌, subst, append_assoc}
use Rattle.std.proofs.lemmas.Result.{IfOk-weaker}
use Rattle.std.specs.String.{string_bytes}
use Rattle.nbt_show.specs.declared.reply.Reply.{Reply}
use Rattle.nbt_show.specs.Replies.{PrintsReply}
use Rattle.nbt_client.specs.Answers.{silence, tells_not_found, tells_other}
use Rattle.nbt_client.proofs.Listed.{found_told}
use Rattle.nbt_client.proofs.answer.write_told.Goals as goal

pub returns-in-Found : goal.returns-in-Found
returns-in-Found c =
    let told = c.in_ok-write_reply.ensures in
    let found = subst (λ (reply : Reply). PrintsReply c.args.octets.now reply told.0) c.in-Found.is told.1 in
    IfOk-weaker c.end_found.result _ _
    (λ answer said. rw said.0 (found_told c.as_str-before.result.now (string_bytes c.args.out.now) told.0 (string_bytes c.write_reply.new.out) (string_bytes c.end_found.new.out) c.args.octets.now c.as_str-before.ensures.value found told.2 said.1))
    c.end_found.ensures

pub returns-in-NotFound : goal.returns-in-NotFound
returns-in-NotFound c =
    let told = c.in_ok-write_reply.ensures in
    (told.0, tells_not_found c.args.octets.now told.0 (subst (λ (reply : Reply). PrintsReply c.args.octets.now reply told.0) c.in-NotFound.is told.1), told.2)

pub returns-in-Other : goal.returns-in-Other
returns-in-Other c =
    let told = c.in_ok-write_reply.ensures in
    let other = subst (λ (reply : Reply). PrintsReply c.args.octets.now reply told.0) c.in-Other.is told.1 in
    IfOk-weaker c.write_silence.result _ _
    (λ answer said. (told.0 ++ silence, rw said.0 (tells_other c.args.octets.now told.0 other), rw (said.1, told.2) (append_assoc (string_bytes c.args.out.now) told.0 silence)))
    c.write_silence.ensures
