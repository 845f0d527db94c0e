use Rattle.std.proofs.Common.{◌≡◌, Err, refl, ap, ◌∙◌, arith}
use Rattle.nbt_server.specs.declared.fault.ResumeFault.TheVariants as fault
use Rattle.nbt_store.specs.Resuming.{too_old, later_rows}
use Rattle.nbt_store.proofs.Deciding.{goes, full, unsound}
use Rattle.nbt_store.proofs.resuming.resume_on.Goals as goal

pub returns-then-not-is_recent : goal.returns-then-not-is_recent
returns-then-not-is_recent c = too_old (λ recent. let is = c.is_recent.ensures.1 recent in let other = c.if-not-is_recent.true in absurd cc)

pub returns-in-Ok : goal.returns-in-Ok
returns-in-Ok c =
    let a = c.args in
    let loaded = a.loaded.now in
    let n = c.moment_of-now.ensures in
    let l = c.moment_of-last.ensures in
    let later = c.requires.later in
    let serves = c.requires.serves in
    goes a.found.now loaded.header loaded.times loaded.rows.items c.as_slice-2.result.now a.onward c.moment_of-start.result c.moment_of-last.result c.moment_of-now.result c.moment_of.result c.in-Ok.server
    n c.moment_of.ensures c.moment_of-start.ensures l (omega (arith, n, l, later, serves)) (c.as_slice-2.ensures.value ∙ c.in_ok-rows.ensures ∙ ap (later_rows a.onward.shift) c.as_slice.ensures.value)
    c.in-Ok.ensures.resumes c.in-Ok.ensures.last (c.in-Ok.ensures.sound refl) (c.is_recent.ensures.0 c.if-not-is_recent.false)

pub returns-in-Err-TableFull : goal.returns-in-Err-TableFull
returns-in-Err-TableFull c =
    let a = c.args in
    let loaded = a.loaded.now in
    let failed = c.in-Err-TableFull.is in
    let same = c.in-Err-TableFull.field-0-is in
    let is : c.resume.result ≡ Err fault.TableFull = cc in
    full a.found.now loaded.header loaded.times loaded.rows.items c.as_slice-2.result.now a.onward c.moment_of-now.result c.moment_of-now.ensures (c.as_slice-2.ensures.value ∙ c.in_ok-rows.ensures ∙ ap (later_rows a.onward.shift) c.as_slice.ensures.value) (c.resume.ensures.full.0 is).2

pub returns-in-Err-Unsound : goal.returns-in-Err-Unsound
returns-in-Err-Unsound c =
    let a = c.args in
    let loaded = a.loaded.now in
    let failed = c.in-Err-Unsound.is in
    let same = c.in-Err-Unsound.field-0-is in
    let is : c.resume.result ≡ Err fault.Unsound = cc in
    unsound a.found.now loaded.header loaded.times loaded.rows.items c.as_slice-2.result.now a.onward c.moment_of-now.result c.moment_of-now.ensures (c.as_slice-2.ensures.value ∙ c.in_ok-rows.ensures ∙ ap (later_rows a.onward.shift) c.as_slice.ensures.value) (c.resume.ensures.unsound is)
