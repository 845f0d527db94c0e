-- Where nothing waits nothing is done.
use Rattle.std.proofs.Common.{◌≡◌, ℕ, Bool, false, List, Option, Some, None, refl, sym, ap, ◌∙◌, arith}
use Rattle.std.specs.Prelude.{◌&&◌, not}
use Rattle.std.specs.List.{find}
use Rattle.nbt_lease.specs.Lease.{TableValue}
use Rattle.nbt_log.specs.declared.entry.Entry.{Entry}
use Rattle.nbt_port.specs.PortCalls.{PortCall}
use Rattle.nbt_confirm.specs.declared.further.Further.{Further}
use Rattle.nbt_confirm.specs.declared.request.Request.{Request}
use Rattle.nbt_confirm.specs.declared.waits.Pending.{Pending}
use Rattle.nbt_confirm.specs.Further.{kept_at}
use Rattle.nbt_confirm.specs.Waiting.{is_asking, is_past, is_to_repeat, is_unanswered, is_under_way}
use Rattle.nbt_waits.specs.Lapsing.{is_over}
use Rattle.nbt_asking.specs.Attending.{AttendsAt, LooksAtTurn, at_time, lets_be, nobody, nothing_there, swept}
use Rattle.nbt_asking.specs.Inner.Doing.{IsIdle, IsLetBe}
use Rattle.nbt_asking.specs.Port.{AskingPortValue}
use Rattle.nbt_asking.specs.Steps.{all, none}
use Rattle.nbt_asking.proofs.Doing.{not_both}

module _ {P I : Type 0} (does : P → PortCall → P → Type 0) (draws : I → Option ℕ → I → Type 0) (table : TableValue) (now : ℕ) (octets : List ℕ) where
  turn_is : (entry : Option Entry) (s : AskingPortValue P I) → IsLetBe entry → LooksAtTurn does table now octets entry entry s s
  turn_is None s is = (refl, refl)
  turn_is (Some entry) s is = (false, lets_be is.0 is.1, refl)

  pub idles : (entry : Option Entry) (old : AskingPortValue P I) → IsIdle (at_time now old).desk → IsLetBe entry → AttendsAt does draws table now octets entry entry old (at_time now old)
  idles entry old is let_be =
      let s : AskingPortValue P I = at_time now old in
      let unswept : s ≡ swept now s = ap (λ (rows : List Further). record s { desk = record s.desk { asking = record s.desk.asking { further = rows } } }) (is.further ∙ ap (kept_at now) (sym is.further)) in
      let unserved : (test : Request → Bool) → find test s.desk.asking.waits.requests ≡ None = λ test. ap (find test) is.requests in
      let unfound : (test : Pending → Bool) → find test s.desk.asking.waits.pending ≡ None = λ test. ap (find test) is.pending in
      let unfurthered : (test : Further → Bool) → find test s.desk.asking.further ≡ None = λ test. ap (find test) is.further in
      record {
        looked = s;
        turned = s;
        given_up = s;
        woken = s;
        followed = s;
        repeated = s;
        looks_aside = nothing_there is.aside;
        looks_at_turn = turn_is entry s let_be;
        gives_up = all 0 s s (omega arith) none (refl, λ next given. not_both (find (is_unanswered now) s.desk.asking.waits.pending) given.p (unfound (is_unanswered now)) given.is_first);
        wakes = all 0 (swept now s) s (omega arith) none (unswept, λ next d. not_both (find (λ r. is_past now r.awaits) s.desk.asking.waits.requests) d.did.request (unserved (λ r. is_past now r.awaits)) d.did.is_first);
        follows = all 0 s s (omega arith) none (refl, λ next d. not_both (find (is_over now) s.desk.asking.further) d.did.row (unfurthered (is_over now)) d.did.is_first);
        repeats = all 0 s s (omega arith) none (refl, λ next d. not_both (find (is_to_repeat now) s.desk.asking.waits.pending) d.did.p (unfound (is_to_repeat now)) d.did.is_first);
        begins = all 0 s s (omega arith) none (nobody (unserved (λ r. is_asking r.awaits && not (is_under_way s.desk.asking.waits.pending r.name))));
      }
