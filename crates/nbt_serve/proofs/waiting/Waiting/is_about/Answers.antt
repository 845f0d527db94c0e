use Rattle.std.proofs.Common.{subst}
use Rattle.std.specs.Prelude.{◌↔◌, IsTrue}
use Rattle.nbt_serve.specs.Waiting.{WaitingValue, IsAbout}
use Rattle.nbt_serve.proofs.Asked.{about_values, about_replies}
use Rattle.nbt_serve.proofs.waiting.Waiting.is_about.Goals as goal

pub returns : goal.returns
returns c =
    let items = c.self.inside.replies.items in
    let name = c.args.name.now in
    subst (λ (w : WaitingValue). IsTrue c.is_any_about.result ↔ IsAbout name w.replies) c.self.view_is
    ((λ is. about_values name items (c.is_any_about.ensures.0 is)), (λ is. c.is_any_about.ensures.1 (about_replies name items is)))
