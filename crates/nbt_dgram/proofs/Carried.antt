-- What packets leave unfinished of a key, and how a slot carries it.
use Rattle.std.proofs.Common.{◌≡◌, ℕ, ◌+◌, ◌<◌, ◌≤◌, List, [], ◌∷◌, ◌++◌, refl, sym, ap, subst, ◌∙◌, arith, append_assoc}
use Rattle.std.specs.List.{Contains}
use Rattle.nbt_dgram.specs.declared.slot.Key.{Key}
use Rattle.nbt_dgram.specs.declared.slot.Slot.{Slot}
use Rattle.nbt_dgram.specs.declared.joined.Dropped.TheVariants.{ClockBack}
use Rattle.nbt_dgram.specs.Dgram.{FragmentValue, fragment}
use Rattle.nbt_dgram.specs.Fragments.{end_of, MakesUp}
use Rattle.nbt_dgram.specs.Slot.{fresh, Agrees, joined, Since, begun, one_more}
use Rattle.nbt_dgram.specs.Joiner.{dropped, key_of}
use Rattle.nbt_dgram.specs.Carrying.{Put, IsAlone, Waits, Passes, other_key, went_back, is_alone, Ends, GoesOn, nobody, one_waits, one_passes, none, since, Leaves, none_came, was_ended, was_given_up, is_left}
use Rattle.nbt_dgram.proofs.Agreeing.{agrees_with_nothing}
use Rattle.nbt_dgram.proofs.Cutting.{only}
use Rattle.nbt_dgram.proofs.OnePut.{one_fragment}

-- ---- one packet more

push_behind : (before after : List Put) (x p : Put) → (before ++ x ∷ after) ++ p ∷ [] ≡ before ++ x ∷ (after ++ p ∷ [])
push_behind before after x p = append_assoc before (x ∷ after) (p ∷ [])

-- what is no datagram by itself, and is dropped for another cause than its moment, or makes data whole, ends its key's
pub not_passing : (p : Put) (f : FragmentValue) → p.packet.body ≡ fragment f → ¬ IsAlone f → (p.outcome ≡ dropped ClockBack → ⊥) → ¬ Passes (key_of p.packet) p
not_passing p f body cut later (other_key not) = not refl
not_passing p f body cut later (went_back is) = later is
not_passing p f body cut later (is_alone g other alone) = cut (subst IsAlone (one_fragment p.packet.body g f other body) alone)

-- ---- nothing is unfinished

goes_on_later : (key : Key) (until later : ℕ) (puts : List Put) (fragments : List FragmentValue) → until ≤ later → GoesOn key until puts fragments → GoesOn key later puts fragments
goes_on_later key until later _ _ le nobody = nobody
goes_on_later key until later _ _ le (one_waits puts p fragments f goes waits fits) = one_waits puts p fragments f (goes_on_later key until later puts fragments le goes) waits (omega (arith, fits, le))
goes_on_later key until later _ _ le (one_passes puts p fragments goes pass) = one_passes puts p fragments (goes_on_later key until later puts fragments le goes) pass

pub none_later : (key : Key) (puts : List Put) (now later : ℕ) → now ≤ later → Leaves key puts now none → Leaves key puts later none
none_later key _ _ later le (none_came puts now goes) = none_came puts later (goes_on_later key now later puts [] le goes)
none_later key _ _ later le (was_ended before after last now ends goes) = was_ended before after last later ends (goes_on_later key now later after [] le goes)
none_later key _ _ later le (was_given_up before after first f fragments now idle waits goes past) = was_given_up before after first f fragments later idle waits goes (omega (arith, past, le))

pub none_passes : (key : Key) (puts : List Put) (now : ℕ) (p : Put) → Passes key p → Leaves key puts now none → Leaves key (puts ++ p ∷ []) now none
none_passes key _ _ p pass (none_came puts now goes) = none_came (puts ++ p ∷ []) now (one_passes puts p [] goes pass)
none_passes key _ _ p pass (was_ended before after last now ends goes) =
    subst (λ (xs : List Put). Leaves key xs now none) (sym (push_behind before after last p)) (was_ended before (after ++ p ∷ []) last now ends (one_passes after p [] goes pass))
none_passes key _ _ p pass (was_given_up before after first f fragments now idle waits goes past) =
    subst (λ (xs : List Put). Leaves key xs now none) (sym (push_behind before after first p)) (was_given_up before (after ++ p ∷ []) first f fragments now idle waits (one_passes after p fragments goes pass) past)

pub none_ended : (key : Key) (puts : List Put) (now : ℕ) (p : Put) → Ends key p → Leaves key (puts ++ p ∷ []) now none
none_ended key puts now p ends = was_ended puts [] p now ends nobody

-- ---- what a slot carries

-- The slot's fragments are those of its key since the first one, which came when nothing was unfinished.
pub data Held : List Put → Slot → Type 0 where
  held : (before after : List Put) (first : Put) (f : FragmentValue) (fragments : List FragmentValue) (s : Slot) → Leaves s.key before first.now none → Waits s.key first f
      → GoesOn s.key (first.now + 2000) after fragments → first.now ≡ s.began → Since (f ∷ fragments) s → Held (before ++ first ∷ after) s

pub held_begins : (puts : List Put) (p : Put) (key : Key) (f : FragmentValue) → Leaves key puts p.now none → Waits key p f → end_of f ≤ 512 → Held (puts ++ p ∷ []) (joined f (fresh key p.now f.delivery))
held_begins puts p key f idle waits fits =
    held puts [] p f [] (joined f (fresh key p.now f.delivery)) idle waits nobody refl (one_more [] (fresh key p.now f.delivery) f (begun key p.now f.delivery) fits (agrees_with_nothing key p.now f))

pub held_joins : (puts : List Put) (s : Slot) (p : Put) (f : FragmentValue) → Waits s.key p f → p.now ≤ s.began + 2000 → end_of f ≤ 512 → Agrees s f → Held puts s → Held (puts ++ p ∷ []) (joined f s)
held_joins _ _ p f waits young fits agrees (held before after first g fragments s idle was goes began has) =
    subst (λ (xs : List Put). Held xs (joined f s)) (sym (push_behind before after first p))
    (held before (after ++ p ∷ []) first g (fragments ++ f ∷ []) (joined f s) idle was (one_waits after p fragments f goes waits (omega (arith, young, began))) began (one_more (g ∷ fragments) s f has fits agrees))

pub held_passes : (puts : List Put) (s : Slot) (p : Put) → Passes s.key p → Held puts s → Held (puts ++ p ∷ []) s
held_passes _ _ p pass (held before after first f fragments s idle was goes began has) =
    subst (λ (xs : List Put). Held xs s) (sym (push_behind before after first p)) (held before (after ++ p ∷ []) first f fragments s idle was (one_passes after p fragments goes pass) began has)

pub held_given_up : (puts : List Put) (s : Slot) (now : ℕ) → s.began + 2000 < now → Held puts s → Leaves s.key puts now none
held_given_up _ _ now past (held before after first f fragments s idle was goes began has) = was_given_up before after first f fragments now idle was goes (omega (arith, past, began))

pub held_left : (puts : List Put) (s : Slot) (now : ℕ) → now ≤ s.began + 2000 → Held puts s → (fragments : List FragmentValue) × Leaves s.key puts now (since s.began fragments) × Since fragments s × (first : FragmentValue) × Contains fragments first
held_left _ _ now young (held before after first f fragments s idle was goes began has) = (
  f ∷ fragments,
  subst (λ (k : ℕ). Leaves s.key (before ++ first ∷ after) now (since k (f ∷ fragments))) began (is_left before after first f fragments now idle was goes (omega (arith, young, began))),
  has,
  f,
  (0, omega arith, refl),
)

-- ---- one fragment alone

pub cut_makes_nothing : (f : FragmentValue) → ¬ IsAlone f → (payload : List ℕ) → ¬ MakesUp (f ∷ []) payload
cut_makes_nothing f cut payload made =
    let first : f ≡ made.first.0 = only f made.first.0 made.first.1 in
    let last : f ≡ made.last.0 = only f made.last.0 made.last.1 in
    cut (made.first.2, ap (λ (h : FragmentValue). h.part) first ∙ made.first.3, ap (λ (h : FragmentValue). h.more) last ∙ made.last.2)
