use Rattle.std.proofs.Common.{[], inl, inr, Ok, Err}
use Rattle.std.proofs.lemmas.Result.{err_from_is_err_and}
use Rattle.nbt_admin.specs.Reading.{Each, Then}
use Rattle.nbt_admin.specs.Serving.{NeedsPaths, ReadsNetwork, ReadsNbns}
use Rattle.nbt_admin.proofs.Each.{from_none, goes_on}
use Rattle.nbt_admin.proofs.serving.server_arguments.Goals as goal

pub returns-in_err-allowed : goal.returns-in_err-allowed
returns-in_err-allowed c =
    let p = err_from_is_err_and c.from_residual.result c.from_residual.ensures.1 in
    rw (p.1, p.2) (inr (inl (from_none ReadsNetwork c.new.result.items c.as_slice.result.now c.args.texts.now.allow.items (Err c.in_err-allowed.field-0.0) c.new.ensures.items c.as_slice.ensures.value c.in_err-allowed.ensures.failure)))

pub returns-in_err-expect_paths : goal.returns-in_err-expect_paths
returns-in_err-expect_paths c =
    let p = err_from_is_err_and c.from_residual-in_err-expect_paths.result c.from_residual-in_err-expect_paths.ensures.1 in
    rw (p.1, p.2) (inr (inr (c.in_ok-allowed.allowed.items, (from_none ReadsNetwork c.new.result.items c.as_slice.result.now c.args.texts.now.allow.items (Ok c.in_ok-allowed.allowed.items) c.new.ensures.items c.as_slice.ensures.value c.in_ok-allowed.ensures.read, inr (inl c.in_err-expect_paths.ensures)))))

pub returns : goal.returns
returns c =
    let texts = c.args.texts.now in
    let allowed = c.in_ok-allowed.allowed.items in
    let result = c.nbns_arguments.result in
    goes_on (Each ReadsNetwork [] texts.allow.items) (λ networks. Then (NeedsPaths texts) (λ _. ReadsNbns texts networks)) allowed result
    (from_none ReadsNetwork c.new.result.items c.as_slice.result.now c.args.texts.now.allow.items (Ok c.in_ok-allowed.allowed.items) c.new.ensures.items c.as_slice.ensures.value c.in_ok-allowed.ensures.read)
    (goes_on (NeedsPaths texts) (λ _. ReadsNbns texts allowed) tt result c.in_ok-expect_paths.ensures c.nbns_arguments.ensures)
