-- What becomes of a client's share, after each step.
use Rattle.std.proofs.Common.{◌≡◌, ℕ, ◌+◌, ◌-◌, ◌<◌, ◌≤◌, Bool, true, false, List, ◌∙◌, refl, sym, ap, ⊎_elim, inl, inr, arith}
use Rattle.std.specs.Prelude.{nat_eq, ◌&&◌, if◌then◌else◌}
use Rattle.std.proofs.lemmas.Bool.{cases_Bool, eqb-true}
use Rattle.nbt_store.specs.declared.room.Room.{Room}
use Rattle.nbt_serve.specs.Sharing.{ShareValue, AsksForChange, Shares, SharesBy, has_room, has_no_limit, asks_for_none, is_within, is_beyond, has_no_memory, count_in, had, one_barred, second_of}
use Rattle.nbt_serve.specs.Inner.Sharing.{Admits, AdmitsBy, is_let_in, is_kept_out, is_free, is_counted, is_barred, IsHandled}
use Rattle.nbt_serve.specs.declared.share.Admission.{Admission}
use Rattle.nbt_serve.specs.declared.share.Admission.TheVariants as to

module _ (old mid new : ShareValue) (now client : ℕ) where
  -- one change more of the client, and of no other
  more_so : (count : ℕ) → count ≡ had old now client → ((any : ℕ) → count_in mid.made any ≡ had old now any) → ((any : ℕ) → count_in new.made any ≡ (if nat_eq client any then count + 1 else count_in mid.made any))
      → (any : ℕ) → count_in new.made any ≡ had old now any + (if nat_eq client any && true then 1 else 0)
  more_so count is entered put any =
      ⊎_elim
      (λ (own : nat_eq client any ≡ true).
      let same : had old now client ≡ had old now any = ap (λ (n : ℕ). had old now n) (eqb-true client any own) in
      let p : count_in new.made any ≡ count + 1 = rw own at (put any) in
      rw own (omega (arith, p, is, same)))
      (λ (other : nat_eq client any ≡ false).
      let p : count_in new.made any ≡ count_in mid.made any = rw other at (put any) in
      let e = entered any in
      rw other (omega (arith, p, e)))
      (cases_Bool (nat_eq client any))

  -- and one fewer again
  back_so : ((any : ℕ) → count_in mid.made any ≡ had old now any + (if nat_eq client any && true then 1 else 0)) → ((any : ℕ) → count_in new.made any ≡ (if nat_eq client any then count_in mid.made any - 1 else count_in mid.made any))
      → (any : ℕ) → count_in new.made any ≡ had old now any + (if nat_eq client any && false then 1 else 0)
  back_so more back any =
      ⊎_elim
      (λ (own : nat_eq client any ≡ true).
      let m : count_in mid.made any ≡ had old now any + 1 = rw own at (more any) in
      let b : count_in new.made any ≡ count_in mid.made any - 1 = rw own at (back any) in
      rw own (omega (arith, m, b)))
      (λ (other : nat_eq client any ≡ false).
      let m : count_in mid.made any ≡ had old now any + 0 = rw other at (more any) in
      let b : count_in new.made any ≡ count_in mid.made any = rw other at (back any) in
      rw other (omega (arith, m, b)))
      (cases_Bool (nat_eq client any))

  -- no change more
  none_so : ((any : ℕ) → count_in new.made any ≡ had old now any) → (any : ℕ) → count_in new.made any ≡ had old now any + (if nat_eq client any && false then 1 else 0)
  none_so same any =
      let e = same any in
      ⊎_elim
      (λ (own : nat_eq client any ≡ true). rw own (omega (arith, e)))
      (λ (other : nat_eq client any ≡ false). rw other (omega (arith, e)))
      (cases_Bool (nat_eq client any))

  -- A change of the client is counted, after its second was entered.
  pub counted_one : (count : ℕ) → count ≡ had old now client → count < old.limit
      → mid.second ≡ second_of now → ((any : ℕ) → count_in mid.made any ≡ had old now any) → mid.limit ≡ old.limit → mid.barred ≡ old.barred
      → new.second ≡ mid.second → ((any : ℕ) → count_in new.made any ≡ (if nat_eq client any then count + 1 else count_in mid.made any)) → new.limit ≡ mid.limit → new.barred ≡ mid.barred
      → (octets : List ℕ) → AsksForChange octets → Admits now client octets old to.Counted new
  counted_one count is room ms mm ml mb ns nm nl nb octets asks =
      is_counted new asks (let r : had old now client < old.limit = omega (arith, is, room) in r)
      (record { limit = nl ∙ ml; second = ns ∙ ms; made = more_so count is mm nm; barred = nb ∙ mb })

  -- It isn't, for want of memory.
  pub not_counted : (last : ShareValue) → 0 < old.limit
      → mid.second ≡ second_of now → ((any : ℕ) → count_in mid.made any ≡ had old now any) → mid.limit ≡ old.limit → mid.barred ≡ old.barred
      → new.second ≡ mid.second → ((any : ℕ) → count_in new.made any ≡ count_in mid.made any) → new.limit ≡ mid.limit → new.barred ≡ mid.barred → count_in mid.made client ≡ 0 → last ≡ one_barred new
      → (octets : List ℕ) → AsksForChange octets → Admits now client octets old to.Barred last
  not_counted last some ms mm ml mb ns nm nl nb none last_is octets asks =
      is_barred last (rw last_is (has_no_memory new some asks (sym (mm client) ∙ none) (record { limit = nl ∙ ml; second = ns ∙ ms; made = none_so (λ any. nm any ∙ mm any); barred = nb ∙ mb })))

  -- the client has had its share
  pub beyond_one : (count : ℕ) → count ≡ had old now client → 0 < old.limit → old.limit ≤ count → new ≡ one_barred old → (octets : List ℕ) → AsksForChange octets → Admits now client octets old to.Barred new
  beyond_one count is some most new_is octets asks = is_barred new (rw new_is (is_beyond some asks (let m : old.limit ≤ had old now client = omega (arith, is, most) in m)))

  -- What was counted made no change.
  taken_one_back : (octets : List ℕ) → ((any : ℕ) → count_in new.made any ≡ (if nat_eq client any then count_in mid.made any - 1 else count_in mid.made any)) → new.second ≡ mid.second → new.limit ≡ mid.limit → new.barred ≡ mid.barred
      → Admits now client octets old to.Counted mid → Shares now client octets old false false new
  taken_one_back octets back second limit barred (is_counted counts asks room counted) =
      is_within false new asks room (record { limit = limit ∙ counted.limit; second = second ∙ counted.second; made = back_so counted.made back; barred = barred ∙ counted.barred })

  -- the same by the room that the store has
  pub taken_back : (room : Room) (octets : List ℕ) → ((any : ℕ) → count_in new.made any ≡ (if nat_eq client any then count_in mid.made any - 1 else count_in mid.made any)) → new.second ≡ mid.second → new.limit ≡ mid.limit → new.barred ≡ mid.barred
      → AdmitsBy room now client octets old to.Counted mid → SharesBy room now client octets old false false new
  taken_back room octets back second limit barred (is_let_in _ counts let_in admits) = has_room false false new let_in (taken_one_back octets back second limit barred admits)

-- a change was made, or none was counted
settled_one : (now client : ℕ) (octets : List ℕ) (old new : ShareValue) (admission : Admission) (changed : Bool) → (admission ≡ to.Counted → changed ≡ true) → Admits now client octets old admission new → IsHandled admission
    → Shares now client octets old false changed new
settled_one now client octets old _ _ changed only (is_free (inl none)) handled = has_no_limit changed none
settled_one now client octets old _ _ changed only (is_free (inr not)) handled = asks_for_none changed not
settled_one now client octets old _ _ changed only (is_counted new asks room counted) handled = rw (only refl) (is_within true new asks room counted)
settled_one now client octets old _ _ changed only (is_barred new shares) handled = absurd handled

-- the same by the room that the store has
pub settled : (room : Room) (now client : ℕ) (octets : List ℕ) (old new : ShareValue) (admission : Admission) (changed : Bool) → (admission ≡ to.Counted → changed ≡ true) → AdmitsBy room now client octets old admission new → IsHandled admission
    → SharesBy room now client octets old false changed new
settled room now client octets old new admission changed only (is_let_in _ counts let_in admits) handled = has_room false changed new let_in (settled_one now client octets old new admission changed only admits handled)
settled room now client octets old _ _ changed only (is_kept_out out) handled = absurd handled
