-- A front decides of a message in one way, and with one reply.
use Rattle.std.proofs.Common.{◌≡◌, ℕ, Option, Some, None, inl, inr, refl, sym, ap, ◌∙◌, true, false}
use Rattle.std.specs.Prelude.{◌⊎◌}
use Rattle.nbt_name.specs.Wire.{NameValue}
use Rattle.nbt_name.specs.declared.addr.Kind.{Kind}
use Rattle.nbt_packet.specs.declared.message.Registration.{Registration}
use Rattle.nbt_packet.specs.Message.{MessageValue, registration, overwrite, refresh, release, query, registered, released, found}
use Rattle.nbt_lease.specs.Config.{granted}
use Rattle.nbt_server.specs.Serving.{by_registration, by_refresh, refusal, refused_error, active_error}
use Rattle.nbt_front.specs.FixedNames.{FixedValue, fixed_of}
use Rattle.nbt_front.specs.Networks.{IsAllowed}
use Rattle.nbt_front.specs.Standing.{IsLeased, is_taken}
use Rattle.nbt_front.specs.Deciding.{DeskValue, by_request, by_overwrite, IsHolder, MayHave, entries_of, Decides, confirms, refuses, refuses_overwrite, confirms_release, refuses_release, finds, refuses_past, turns_away}
use Rattle.nbt_front.specs.declared.deciding.Decision.{Decision}
use Rattle.nbt_front.specs.declared.deciding.Decision.TheVariants.{NotAllowed, FixedRefused, FixedConfirmed, FixedFound}

pub same_fixed : {found : Option FixedValue} {a b : FixedValue} → found ≡ Some a → found ≡ Some b → a ≡ b
same_fixed e f = cc

pub not_both : {found : Option FixedValue} {a : FixedValue} → found ≡ Some a → found ≡ None → ⊥
not_both e f = cc

module _ (desk : DeskValue) (now ip : ℕ) where
  -- what becomes of a registration or a refresh, of an overwrite, and of each message
  abbrev pub Confirmed : Registration → Decision → MessageValue → Type 0
  Confirmed r d reply = (fixed : FixedValue) × (fixed_of desk.front.fixed r.name ≡ Some fixed) × MayHave desk now ip r.name r.kind r.addr fixed × (d ≡ FixedConfirmed) × (reply ≡ registered 0 (record r { ttl = granted desk.front.longest r.ttl }))

  abbrev pub Refused : Registration → Decision → MessageValue → Type 0
  Refused r d reply = (fixed : FixedValue) × (fixed_of desk.front.fixed r.name ≡ Some fixed) × (¬ MayHave desk now ip r.name r.kind r.addr fixed) × (d ≡ FixedRefused r.name) × (reply ≡ refusal active_error r)

  abbrev pub TurnedAway : Registration → Decision → MessageValue → Type 0
  TurnedAway r d reply = (fixed_of desk.front.fixed r.name ≡ None) × (¬ IsAllowed desk.front.allowed ip) × (d ≡ NotAllowed r.name) × (reply ≡ refusal refused_error r)

  abbrev pub PastRefused : Registration → Decision → MessageValue → Type 0
  PastRefused r d reply = (fixed_of desk.front.fixed r.name ≡ None) × IsAllowed desk.front.allowed ip × (d ≡ FixedRefused r.name) × (reply ≡ refusal active_error r) × (is_taken desk.past now r.name r.kind ip ≡ true)

  -- of a name that isn't fixed
  abbrev pub Other : Registration → Decision → MessageValue → Type 0
  Other r d reply = PastRefused r d reply ⊎ TurnedAway r d reply

  abbrev pub Asked : Registration → Decision → MessageValue → Type 0
  Asked r d reply = Confirmed r d reply ⊎ (Refused r d reply ⊎ Other r d reply)

  abbrev pub Overwritten : Registration → Decision → MessageValue → Type 0
  Overwritten r d reply = ((fixed : FixedValue) × (fixed_of desk.front.fixed r.name ≡ Some fixed) × (d ≡ FixedRefused r.name) × (reply ≡ refusal active_error r)) ⊎ Other r d reply

  abbrev pub Gets : MessageValue → Decision → MessageValue → Type 0
  Gets (registration r) d reply = Asked r d reply
  Gets (refresh r) d reply = Asked r d reply
  Gets (overwrite r) d reply = Overwritten r d reply
  Gets (release id name kind addr) d reply =
      ((fixed : FixedValue) × (fixed_of desk.front.fixed name ≡ Some fixed) × IsHolder ip kind addr fixed × (d ≡ FixedConfirmed) × (reply ≡ released id 0 name kind addr) × (¬ IsLeased desk.kept now name))
      ⊎ ((fixed : FixedValue) × (fixed_of desk.front.fixed name ≡ Some fixed) × (¬ IsHolder ip kind addr fixed) × (d ≡ FixedRefused name) × (reply ≡ released id active_error name kind addr) × (¬ IsLeased desk.kept now name))
  Gets (query id name) d reply = (fixed : FixedValue) × (fixed_of desk.front.fixed name ≡ Some fixed) × (d ≡ FixedFound) × (reply ≡ found id name desk.front.longest (entries_of fixed) false) × (¬ IsLeased desk.kept now name)
  Gets _ d reply = ⊥

  pub gets : (m : MessageValue) (d : Decision) (reply : MessageValue) → Decides desk now ip m d reply → Gets m d reply
  gets _ _ _ (confirms _ _ fixed (by_registration r) is holds) = inl (fixed, is, holds, refl, refl)
  gets _ _ _ (confirms _ _ fixed (by_refresh r) is holds) = inl (fixed, is, holds, refl, refl)
  gets _ _ _ (refuses _ _ fixed (by_registration r) is not) = inr (inl (fixed, is, not, refl, refl))
  gets _ _ _ (refuses _ _ fixed (by_refresh r) is not) = inr (inl (fixed, is, not, refl, refl))
  gets _ _ _ (refuses_overwrite r fixed is) = inl (fixed, is, refl, refl)
  gets _ _ _ (confirms_release id name kind addr fixed is free holds) = inl (fixed, is, holds, refl, refl, free)
  gets _ _ _ (refuses_release id name kind addr fixed is free not) = inr (fixed, is, not, refl, refl, free)
  gets _ _ _ (finds id name fixed is free) = (fixed, is, refl, refl, free)
  gets _ _ _ (refuses_past _ _ (by_request _ _ (by_registration r)) free allowed taken) = inr (inr (inl (free, allowed, refl, refl, taken)))
  gets _ _ _ (refuses_past _ _ (by_request _ _ (by_refresh r)) free allowed taken) = inr (inr (inl (free, allowed, refl, refl, taken)))
  gets _ _ _ (refuses_past _ _ (by_overwrite r) free allowed taken) = inr (inl (free, allowed, refl, refl, taken))
  gets _ _ _ (turns_away _ _ (by_request _ _ (by_registration r)) free not) = inr (inr (inr (free, not, refl, refl)))
  gets _ _ _ (turns_away _ _ (by_request _ _ (by_refresh r)) free not) = inr (inr (inr (free, not, refl, refl)))
  gets _ _ _ (turns_away _ _ (by_overwrite r) free not) = inr (inr (free, not, refl, refl))

  holds_both : {fixed other : FixedValue} {kind : Kind} {addr : ℕ} → fixed ≡ other → IsHolder ip kind addr fixed → ¬ IsHolder ip kind addr other → ⊥
  holds_both e holds not = not (rw (← e) holds)

  has_both : {fixed other : FixedValue} {name : NameValue} {kind : Kind} {addr : ℕ} → fixed ≡ other → MayHave desk now ip name kind addr fixed → ¬ MayHave desk now ip name kind addr other → ⊥
  has_both e has not = not (rw (← e) has)

  one_other : (q : Registration) (c d : Decision) (r s : MessageValue) → Other q c r → Other q d s → (c ≡ d) × (r ≡ s)
  one_other q c d r s (inl a) (inl b) = (a.2 ∙ sym b.2, a.3 ∙ sym b.3)
  one_other q c d r s (inl a) (inr b) = absurd (b.1 a.1)
  one_other q c d r s (inr a) (inl b) = absurd (a.1 b.1)
  one_other q c d r s (inr a) (inr b) = (a.2 ∙ sym b.2, a.3 ∙ sym b.3)

  -- such a name isn't fixed
  is_free : (q : Registration) (c : Decision) (r : MessageValue) → Other q c r → fixed_of desk.front.fixed q.name ≡ None
  is_free q c r (inl a) = a.0
  is_free q c r (inr a) = a.0

  one_asked : (q : Registration) (c d : Decision) (r s : MessageValue) → Asked q c r → Asked q d s → (c ≡ d) × (r ≡ s)
  one_asked q c d r s (inl a) (inl b) = (a.3 ∙ sym b.3, a.4 ∙ sym b.4)
  one_asked q c d r s (inl a) (inr (inl b)) = absurd (has_both (same_fixed a.1 b.1) a.2 b.2)
  one_asked q c d r s (inl a) (inr (inr b)) = absurd (not_both a.1 (is_free q d s b))
  one_asked q c d r s (inr (inl a)) (inl b) = absurd (has_both (same_fixed b.1 a.1) b.2 a.2)
  one_asked q c d r s (inr (inl a)) (inr (inl b)) = (a.3 ∙ sym b.3, a.4 ∙ sym b.4)
  one_asked q c d r s (inr (inl a)) (inr (inr b)) = absurd (not_both a.1 (is_free q d s b))
  one_asked q c d r s (inr (inr a)) (inl b) = absurd (not_both b.1 (is_free q c r a))
  one_asked q c d r s (inr (inr a)) (inr (inl b)) = absurd (not_both b.1 (is_free q c r a))
  one_asked q c d r s (inr (inr a)) (inr (inr b)) = one_other q c d r s a b

  one_got : (m : MessageValue) (c d : Decision) (r s : MessageValue) → Gets m c r → Gets m d s → (c ≡ d) × (r ≡ s)
  one_got (registration q) c d r s a b = one_asked q c d r s a b
  one_got (refresh q) c d r s a b = one_asked q c d r s a b
  one_got (overwrite q) c d r s (inl a) (inl b) = (a.2 ∙ sym b.2, a.3 ∙ sym b.3)
  one_got (overwrite q) c d r s (inl a) (inr b) = absurd (not_both a.1 (is_free q d s b))
  one_got (overwrite q) c d r s (inr a) (inl b) = absurd (not_both b.1 (is_free q c r a))
  one_got (overwrite q) c d r s (inr a) (inr b) = one_other q c d r s a b
  one_got (release id name kind addr) c d r s (inl a) (inl b) = (a.3 ∙ sym b.3, a.4 ∙ sym b.4)
  one_got (release id name kind addr) c d r s (inl a) (inr b) = absurd (holds_both (same_fixed a.1 b.1) a.2 b.2)
  one_got (release id name kind addr) c d r s (inr a) (inl b) = absurd (holds_both (same_fixed b.1 a.1) b.2 a.2)
  one_got (release id name kind addr) c d r s (inr a) (inr b) = (a.3 ∙ sym b.3, a.4 ∙ sym b.4)
  one_got (query id name) c d r s a b =
      let same : a.0 ≡ b.0 = same_fixed a.1 b.1 in
      (a.2 ∙ sym b.2, a.3 ∙ ap (λ (fixed : FixedValue). found id name desk.front.longest (entries_of fixed) false) same ∙ sym b.3)
  one_got m c d r s a b = absurd a

  pub one_decision : (m : MessageValue) (c d : Decision) (r s : MessageValue) → Decides desk now ip m c r → Decides desk now ip m d s → (c ≡ d) × (r ≡ s)
  one_decision m c d r s a b = one_got m c d r s (gets m c r a) (gets m d s b)
