use Rattle.std.proofs.Common.{◌≡◌, false, rules}
use Rattle.nbt_packet.specs.Message.{found}
use Rattle.nbt_front.specs.Deciding.{desk_at, entries_of, finds}
use Rattle.nbt_front.proofs.Rulings.{at_none, denied, leased_query_passes, query_passes}
use Rattle.nbt_front.proofs.deciding.Front.find.Goals as goal

pub returns-in_err-fixed-clause-passed : goal.returns-in_err-fixed-clause-passed
returns-in_err-fixed-clause-passed c = λ ip. at_none c.from_residual.result (query_passes (desk_at c.args.self.now c.args.standing.now) c.args.standing.now.at ip c.args.id c.args.name (rw (← c.self.view_is) c.in_err-fixed.ensures.none))

pub returns-then-has-clause-passed : goal.returns-then-has-clause-passed
returns-then-has-clause-passed c = λ ip. leased_query_passes (desk_at c.args.self.now c.args.standing.now) c.args.standing.now.at ip c.args.id c.args.name (c.has.ensures.0 c.if-has.true)

pub returns-clause-decided : goal.returns-clause-decided
returns-clause-decided c =
    let longest_is : c.longest.result ≡ c.args.self.now.longest = search rules in
    λ ip. (
      found c.args.id c.args.name c.args.self.now.longest (entries_of c.in_ok-fixed.fixed.now) false,
      finds c.args.id c.args.name c.in_ok-fixed.fixed.now (rw (← c.self.view_is) c.in_ok-fixed.ensures.found) (denied c.has.result c.has.ensures.1 c.if-has.false),
      rw (← longest_is) c.respond_found.ensures,
    )
