use Rattle.std.proofs.Common.{[], ◌≡◌, ap, ◌∙◌, refl}
use Rattle.nbt_waits.specs.Asking.{lease_at}
use Rattle.nbt_waits.specs.Doing.{Done, done_by, sent}
use Rattle.nbt_asking.proofs.Doing.{follows_quietly}
use Rattle.nbt_asking.proofs.port.AskingPort.follow_one.Goals as goal

pub returns : goal.returns
returns g c =
    let followed = c.in-Some.ensures.followed in
    let none : sent c.in-Some.settled.leaving [] ≡ [] =
    ap (λ (d : Done). d.sends) followed.done_is ∙ follows_quietly (lease_at c.args.table.now c.args.now followed.row.name) c.args.now followed.row c.self.inside.desk.asking in
    rw (c.note.ensures, ← c.self.view_is) (record { done = done_by c.in-Some.settled [] c.follow_lease.new.self; did = followed; port_did = rw none refl; new_is = refl })
