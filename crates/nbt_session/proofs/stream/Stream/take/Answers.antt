use Rattle.std.proofs.Common.{◌≡◌, length, ap, ◌∙◌, take, arith}
use Rattle.nbt_session.proofs.Gathering.{refused_at}
use Rattle.nbt_session.proofs.stream.Stream.take.Goals as goal

pub returns-in-Err-OutOfMemory-clause-takes : goal.returns-in-Err-OutOfMemory-clause-takes
returns-in-Err-OutOfMemory-clause-takes c =
    let fault = rw c.in-Err-OutOfMemory.is at c.gather.ensures.gathers in
    let gathers = rw c.in-Err-OutOfMemory.field-0-is at fault in
    let count : c.len-held.result ≡ length c.self.inside.message.items = omega (arith, c.len-held.ensures) in
    refused_at c.args.piece.now c.args.self.now c.self.inside.pieces c.copy-before.result c.gather.new.pieces c.self.inside.message.items c.gather.new.message.items c.truncate.new.self.items c.self.view_is gathers c.copy-before.ensures
    (c.truncate.ensures.items ∙ ap (λ n. take n c.gather.new.message.items) count)
