use Rattle.std.proofs.Common.{refl}
use Rattle.nbt_log.specs.declared.entry.LineKind.TheVariants as kind
use Rattle.nbt_log.proofs.Remembering.{of_kind}
use Rattle.nbt_log.proofs.limiters.Limiters.take.Goals as goal

pub returns-in-Granted : goal.returns-in-Granted
returns-in-Granted c = rw c.in-Granted.is (of_kind c.args.self.now _ _ kind.Granted c.args.now c.take.result c.take.new.self c.self.view_is c.take.ensures refl)

pub returns-in-Renewed : goal.returns-in-Renewed
returns-in-Renewed c = rw c.in-Renewed.is (of_kind c.args.self.now _ _ kind.Renewed c.args.now c.take-in-Renewed.result c.take-in-Renewed.new.self c.self.view_is c.take-in-Renewed.ensures refl)

pub returns-in-Refused : goal.returns-in-Refused
returns-in-Refused c = rw c.in-Refused.is (of_kind c.args.self.now _ _ kind.Refused c.args.now c.take-in-Refused.result c.take-in-Refused.new.self c.self.view_is c.take-in-Refused.ensures refl)

pub returns-in-Released : goal.returns-in-Released
returns-in-Released c = rw c.in-Released.is (of_kind c.args.self.now _ _ kind.Released c.args.now c.take-in-Released.result c.take-in-Released.new.self c.self.view_is c.take-in-Released.ensures refl)

pub returns-in-NotReleased : goal.returns-in-NotReleased
returns-in-NotReleased c = rw c.in-NotReleased.is (of_kind c.args.self.now _ _ kind.NotReleased c.args.now c.take-in-NotReleased.result c.take-in-NotReleased.new.self c.self.view_is c.take-in-NotReleased.ensures refl)

pub returns-in-Unanswered : goal.returns-in-Unanswered
returns-in-Unanswered c = rw c.in-Unanswered.is (of_kind c.args.self.now _ _ kind.Unanswered c.args.now c.take-in-Unanswered.result c.take-in-Unanswered.new.self c.self.view_is c.take-in-Unanswered.ensures refl)

pub returns-in-Foreign : goal.returns-in-Foreign
returns-in-Foreign c = rw c.in-Foreign.is (of_kind c.args.self.now _ _ kind.Foreign c.args.now c.take-in-Foreign.result c.take-in-Foreign.new.self c.self.view_is c.take-in-Foreign.ensures refl)

pub returns-in-Malformed : goal.returns-in-Malformed
returns-in-Malformed c = rw c.in-Malformed.is (of_kind c.args.self.now _ _ kind.Malformed c.args.now c.take-in-Malformed.result c.take-in-Malformed.new.self c.self.view_is c.take-in-Malformed.ensures refl)

pub returns-in-Broadcast : goal.returns-in-Broadcast
returns-in-Broadcast c = rw c.in-Broadcast.is (of_kind c.args.self.now _ _ kind.Broadcast c.args.now c.take-in-Broadcast.result c.take-in-Broadcast.new.self c.self.view_is c.take-in-Broadcast.ensures refl)
