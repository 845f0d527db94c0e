use Rattle.std.proofs.Common.{◌≡◌, ◌+◌, List, map, ap, ◌∙◌, subst, rules, tests}
use Rattle.std.specs.Prelude.{nat_le}
use Rattle.std.proofs.lemmas.Fn.{filter_same}
use Rattle.nbt_serve.specs.declared.waiting.Reply.{Reply}
use Rattle.nbt_serve.specs.Waiting.{ReplyValue, WaitingValue, timely, value_of}
use Rattle.nbt_serve.proofs.Leaving.{timely_of}
use Rattle.nbt_serve.proofs.waiting.Waiting.drop_late.Goals as goal

pub returns : goal.returns
returns c =
    let inside = c.self.inside in
    let kept = filter_same _ (λ (reply : Reply). nat_le c.args.now (reply.read + c.args.limits.life)) _ (λ x b q k. (search (rules, tests), search rules)) inside.replies.items c.retain.new.self.items c.retain.ensures.filtered in
    subst (λ (w : WaitingValue). record { replies = map value_of c.retain.new.self.items; durable = inside.durable; unsynced = inside.unsynced } ≡ record w { replies = timely c.args.limits.life c.args.now w.replies }) c.self.view_is
    (ap (λ (rs : List ReplyValue). record { replies = rs; durable = inside.durable; unsynced = inside.unsynced }) (ap (map value_of) kept ∙ timely_of c.args.limits.life c.args.now inside.replies.items))
