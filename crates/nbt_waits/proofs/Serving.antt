-- What is done with the first request that an answer serves.
use Rattle.std.proofs.Common.{◌≡◌, ℕ, Option, Some, ap, ◌∙◌}
use Rattle.std.specs.List.{find}
use Rattle.std.specs.Option.{option_map}
use Rattle.nbt_lease.specs.Lease.{TableValue}
use Rattle.nbt_confirm.specs.declared.outcome.Outcome.{Outcome}
use Rattle.nbt_confirm.specs.declared.request.Request.{Request}
use Rattle.nbt_confirm.specs.declared.waits.Served.{Served}
use Rattle.nbt_confirm.specs.Firsts.{without_first}
use Rattle.nbt_confirm.specs.Inquiries.{ConfirmedValue, MachineValue}
use Rattle.nbt_confirm.specs.Waiting.{WaitsValue, answer_of, outcome_of, served_by}
use Rattle.nbt_waits.specs.declared.asking.Asking.{Asking}
use Rattle.nbt_waits.specs.Asking.{without_waiting}
use Rattle.nbt_waits.specs.Doing.{Done}
use Rattle.nbt_waits.specs.Settling.{Serves, further_of, settles, waits_for}
use Rattle.nbt_waits.proofs.Passing.{one_served}

pub serves_one : (table : TableValue) (now : ℕ) (machine : MachineValue) (old : Asking) (served : Served) (waits : WaitsValue) (further : Option ConfirmedValue) (done : Done)
    → Some served ≡ option_map (served_by (answer_of machine)) (find (waits_for machine) old.waits.requests)
    → waits ≡ record old.waits { requests = without_first (waits_for machine) old.waits.requests }
    → further ≡ further_of machine served.request.addr
    → done ≡ settles table now served.outcome served.request further (record old { waits = waits })
    → Serves table now machine old done
serves_one table now machine old served waits further done was left is did =
    let (r, found, one) = one_served (served_by (answer_of machine)) (find (waits_for machine) old.waits.requests) served was in
    let request : served.request ≡ r = ap (λ (s : Served). s.request) one in
    let outcome : served.outcome ≡ outcome_of r.awaits (answer_of machine r) = ap (λ (s : Served). s.outcome) one in
    let addr : further ≡ further_of machine r.addr = is ∙ ap (λ (q : Request). further_of machine q.addr) request in
    let asking : record old { waits = waits } ≡ without_waiting (waits_for machine) old = ap (λ (w : WaitsValue). record old { waits = w }) left in
    record {
      request = r;
      is_first = found;
      done_is = did ∙ (ap (λ (o : Outcome). settles table now o served.request further (record old { waits = waits })) outcome
          ∙ (ap (λ (q : Request). settles table now (outcome_of r.awaits (answer_of machine r)) q further (record old { waits = waits })) request
          ∙ (ap (λ (c : Option ConfirmedValue). settles table now (outcome_of r.awaits (answer_of machine r)) r c (record old { waits = waits })) addr
          ∙ ap (λ (a : Asking). settles table now (outcome_of r.awaits (answer_of machine r)) r (further_of machine r.addr) a) asking)));
    }
