-- What comes to the server, and what leaves of a reply.
use Rattle.std.proofs.Common.{◌≡◌, ℕ, Bool, true, List, [], Option, Some, None, sym, subst}
use Rattle.std.specs.Prelude.{◌↔◌, IsTrue}
use Rattle.nbt_port.specs.declared.port.Route.{Route}
use Rattle.nbt_confirm.specs.declared.request.Came.{Came}
use Rattle.nbt_waits.specs.declared.asking.Asking.{Asking}
use Rattle.nbt_waits.specs.declared.sending.Reply.{Reply}
use Rattle.nbt_waits.specs.declared.sending.Reply.TheVariants as reply
use Rattle.nbt_waits.specs.Looking.{IsAside, IsBack, Kept, nothing, aside, back}
use Rattle.nbt_waits.specs.Sending.{held_back, left_by, leaves_with}
use Rattle.nbt_asking.specs.declared.desk.Desk.{Desk}
use Rattle.nbt_asking.specs.Desk.{ComesBack, IsQuiet, LeavesAs, Passes, Replies, any_under_way, came_by, handed, hands_on, is_granted, leaves_as, looked_at, nothing_came, octets_by, route_of, sets_aside}
use Rattle.nbt_asking.specs.Inner.Doing.{TakesGranted}

pub looked_back : (old new : Desk) (came : Came) (octets : List ℕ) (route : Route) (kept : Kept) → old.aside ≡ back came octets → kept ≡ nothing → new ≡ handed came (record old { aside = kept }) → route ≡ route_of came → ComesBack old route octets new
looked_back old new came octets route kept was is_nothing is by = rw (by, is, is_nothing) (looked_at came octets was)

pub granted_back : (old new : Desk) (came : Came) (octets : List ℕ) (route : Route) (kept : Kept) (asking : Asking) → ¬ IsBack old.aside → kept ≡ old.aside → TakesGranted old.asking octets asking came
    → new ≡ handed came (record old { aside = kept; asking = asking }) → route ≡ route_of came → ComesBack old route octets new
granted_back old new came octets route kept asking not same taken is by = rw (by, is, same, taken.new_is, taken.came_is, taken.octets_are) (is_granted taken.request taken.others not taken.was)

module _ (old : Desk) (flags : ℕ) (from : Option Route) (octets : List ℕ) where
  pub pass_none : (result : Option Route) → from ≡ None → result ≡ None → Passes old flags from octets result octets old
  pass_none result none is = rw (none, is) (nothing_came octets)

  module _ (route : Route) (asking answer : Bool) (slice : List ℕ) (is : from ≡ Some route) (same : slice ≡ octets) (under_way : asking ≡ any_under_way old.asking.waits.pending) (tells : IsTrue answer ↔ IsAside asking (came_by route flags) slice) where
    pub pass_aside : (kept : Kept) (put out : List ℕ) → answer ≡ true → put ≡ octets → kept ≡ aside (came_by route flags) put → out ≡ [] → Passes old flags from octets None out (record old { aside = kept })
    pass_aside kept put out so whole kept_is none =
        let is_so = subst (λ (b : Bool). IsAside b (came_by route flags) octets) under_way (subst (λ (xs : List ℕ). IsAside asking (came_by route flags) xs) same (tells.0 so)) in
        rw (is, none, kept_is, whole) (sets_aside route octets is_so)

    pub pass_on : (IsTrue answer → ⊥) → Passes old flags from octets (Some route) octets (record old { last = came_by route flags })
    pass_on never =
        let not_so : ¬ IsAside (any_under_way old.asking.waits.pending) (came_by route flags) octets = λ so.
        never (tells.1 (subst (λ (xs : List ℕ). IsAside asking (came_by route flags) xs) (sym same) (subst (λ (b : Bool). IsAside b (came_by route flags) octets) (sym under_way) so))) in
        rw is (hands_on route octets not_so)

pub replied : (old : Desk) (to : Route) (octets out : List ℕ) (result : Reply) (asking : Asking) → ¬ IsQuiet old to octets → LeavesAs old to octets (left_by result octets out asking.further) → asking ≡ record old.asking { further = asking.further }
    → Replies old to octets (octets_by result octets out) (record old { asking = asking })
replied old to octets out reply.HeldBack asking not leaves same = subst (λ (a : Asking). Replies old to octets None (record old { asking = a })) (sym same) (leaves_as (held_back asking.further) not leaves)
replied old to octets out reply.AsItIs asking not leaves same = subst (λ (a : Asking). Replies old to octets (Some octets) (record old { asking = a })) (sym same) (leaves_as (leaves_with octets asking.further) not leaves)
replied old to octets out reply.Changed asking not leaves same = subst (λ (a : Asking). Replies old to octets (Some out) (record old { asking = a })) (sym same) (leaves_as (leaves_with out asking.further) not leaves)
