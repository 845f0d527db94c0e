use Rattle.std.proofs.Common.{◌≡◌, ℕ, Bool, false, if◌then◌else◌, refl, sym, ap, ◌∙◌}
use Rattle.nbt_server.specs.Serving.{server_error}
use Rattle.nbt_waits.specs.declared.note.Asked.TheVariants as came
use Rattle.nbt_waits.specs.Doing.{Done, refused}
use Rattle.nbt_waits.specs.Settling.{is_full, puts, until_of}
use Rattle.nbt_waits.proofs.asking.Asking.put_until.Goals as goal

otherwise : (full : Bool) (there here : Done) → full ≡ false → here ≡ if full then there else here
otherwise full there here free = rw free refl

pub returns : goal.returns
returns c =
    let r = c.args.request in
    let old = c.args.self.now in
    let whole = puts c.args.now (until_of c.args.table.now c.args.now r.ttl) c.args.end r c.args.confirmed.now old in
    c.put.ensures ∙ (ap (λ (until : ℕ). puts c.args.now until c.args.end r c.args.confirmed.now old) c.until_of-until.ensures.until
    ∙ otherwise (is_full c.args.table.now c.args.now r.name r.addr old) (refused came.Full server_error r old) whole (sym c.is_full.ensures ∙ c.if-is_full.false))
