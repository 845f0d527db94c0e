use Rattle.std.proofs.Common.{◌+◌, drop, get_or}
use Rattle.std.specs.Prelude.{Ok, Err}
use Rattle.std.proofs.lemmas.List.{drop_more, drop_all}
use Rattle.nbt_admin.proofs.Each.{no_text, one_on, all_read}
use Rattle.nbt_admin.proofs.reading.read_each.Goals as goal

pub loop-text-init : goal.loop-text-init
loop-text-init g c = λ r x. x

pub loop-text-preserved : goal.loop-text-preserved
loop-text-preserved g c = λ r x.
    let i = c.loop-text.text-index in
    let texts = c.args.texts.now in
    c.loop-text.invariant r
    (one_on (g.R.ReadEach.reads c.args.reader.now) c.loop-text.values.items c.push.new.self.items (get_or texts i no_text) (drop i texts) (drop (i + 1) texts) c.in_ok-value.value r (drop_more texts i no_text c.loop-text-test.true)
    (rw (← c.as_slice.ensures.value) c.in_ok-value.ensures) c.in_ok-push.ensures.items x)

pub returns-clause-read : goal.returns-clause-read
returns-clause-read g c =
    let i = c.loop-text.text-index in
    let texts = c.args.texts.now in
    c.loop-text.invariant (Ok c.loop-text.values.items) (all_read (g.R.ReadEach.reads c.args.reader.now) c.loop-text.values.items (drop i texts) (drop_all i texts c.loop-text-test.false))
