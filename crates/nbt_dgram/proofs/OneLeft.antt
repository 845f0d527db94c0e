-- What packets leave unfinished of a key is one thing.
use Rattle.std.proofs.Common.{◌≡◌, ℕ, ◌+◌, ◌<◌, ◌≤◌, List, [], ◌∷◌, ◌++◌, refl, sym, ap, subst, ◌∙◌, arith, append_assoc}
use Rattle.std.proofs.lemmas.List.{append-nil}
use Rattle.nbt_dgram.specs.declared.joined.Dropped.TheVariants.{ClockBack}
use Rattle.nbt_dgram.specs.declared.slot.Key.{Key}
use Rattle.nbt_dgram.specs.Dgram.{FragmentValue}
use Rattle.nbt_dgram.specs.Joiner.{waiting, dropped}
use Rattle.nbt_dgram.specs.Carrying.{Put, IsAlone, Waits, Passes, other_key, went_back, is_alone, Ends, GoesOn, nobody, one_waits, one_passes, Unfinished, none, since, fragments_in, Leaves, none_came, was_ended, was_given_up, is_left}
use Rattle.nbt_dgram.proofs.OnePut.{one_fragment}

-- ---- packets, the last one first

abbrev onto : List Put → List Put → List Put
onto [] latest = latest
onto (p ∷ puts) latest = onto puts (p ∷ latest)

onto-append : (front back latest : List Put) → onto (front ++ back) latest ≡ onto back (onto front latest)
onto-append [] back latest = refl
onto-append (p ∷ front) back latest = onto-append front back (p ∷ latest)

module _ (key : Key) where
  -- no datagram of the key takes what comes now
  abbrev IsOver : Unfinished → ℕ → Type 0
  IsOver none now = Unit {0}
  IsOver (since began fragments) now = began + 2000 < now

  -- the same, packet by packet, the last one first
  data Left : List Put → Unfinished → Type 0 where
    at_first : Left [] none
    begins : (puts : List Put) (u : Unfinished) (p : Put) (f : FragmentValue) → Left puts u → IsOver u p.now → Waits key p f → Left (p ∷ puts) (since p.now (f ∷ []))
    joins : (puts : List Put) (began : ℕ) (fragments : List FragmentValue) (p : Put) (f : FragmentValue) → Left puts (since began fragments) → p.now ≤ began + 2000 → Waits key p f → Left (p ∷ puts) (since began (fragments ++ f ∷ []))
    stays : (puts : List Put) (u : Unfinished) (p : Put) → Left puts u → Passes key p → Left (p ∷ puts) u
    ends : (puts : List Put) (p : Put) → Ends key p → Left (p ∷ puts) none

  -- ---- a packet is one thing to a datagram

  waits_or_passes : (p : Put) (f : FragmentValue) → Waits key p f → Passes key p → ⊥
  waits_or_passes p f waits (other_key other) = other waits.of_key
  waits_or_passes p f waits (went_back back) = let e : waiting ≡ dropped ClockBack = sym waits.outcome ∙ back in cc
  waits_or_passes p f waits (is_alone g body alone) = waits.cut (subst IsAlone (one_fragment p.packet.body g f body waits.body) alone)

  one_waiting : (p : Put) (f g : FragmentValue) → Waits key p f → Waits key p g → f ≡ g
  one_waiting p f g x y = one_fragment p.packet.body f g x.body y.body

  same_began : (a b : ℕ) (x y : List FragmentValue) → since a x ≡ since b y → a ≡ b
  same_began a b x y e = cc

  one_left : (puts : List Put) (u v : Unfinished) → Left puts u → Left puts v → u ≡ v
  one_left _ _ _ at_first at_first = refl
  one_left _ _ _ (begins puts u p f left over waits) (begins _ v _ g also over_too waits_too) = ap (λ (h : FragmentValue). since p.now (h ∷ [])) (one_waiting p f g waits waits_too)
  one_left _ _ _ (begins puts u p f left over waits) (joins _ began fragments _ g also young waits_too) =
      absurd (let past : began + 2000 < p.now = subst (λ (w : Unfinished). IsOver w p.now) (one_left puts u (since began fragments) left also) over in omega (arith, past, young))
  one_left _ _ _ (begins puts u p f left over waits) (stays _ v _ also pass) = absurd (waits_or_passes p f waits pass)
  one_left _ _ _ (begins puts u p f left over waits) (ends _ _ ending) = absurd (ending.0 waits.outcome)
  one_left _ _ _ (joins puts began fragments p f left young waits) (begins _ v _ g also over waits_too) =
      absurd (let past : began + 2000 < p.now = subst (λ (w : Unfinished). IsOver w p.now) (sym (one_left puts (since began fragments) v left also)) over in omega (arith, past, young))
  one_left _ _ _ (joins puts began fragments p f left young waits) (joins _ other more _ g also young_too waits_too) =
      let same = one_left puts (since began fragments) (since other more) left also in
      let began_is : began ≡ other = same_began began other fragments more same in
      let f_is = one_waiting p f g waits waits_too in
      λ i. since (began_is i) (fragments_in (same i) ++ f_is i ∷ [])
  one_left _ _ _ (joins puts began fragments p f left young waits) (stays _ v _ also pass) = absurd (waits_or_passes p f waits pass)
  one_left _ _ _ (joins puts began fragments p f left young waits) (ends _ _ ending) = absurd (ending.0 waits.outcome)
  one_left _ _ _ (stays puts u p left pass) (begins _ v _ g also over waits) = absurd (waits_or_passes p g waits pass)
  one_left _ _ _ (stays puts u p left pass) (joins _ began fragments _ g also young waits) = absurd (waits_or_passes p g waits pass)
  one_left _ _ _ (stays puts u p left pass) (stays _ v _ also pass_too) = one_left puts u v left also
  one_left _ _ _ (stays puts u p left pass) (ends _ _ ending) = absurd (ending.1 pass)
  one_left _ _ _ (ends puts p ending) (begins _ v _ g also over waits) = absurd (ending.0 waits.outcome)
  one_left _ _ _ (ends puts p ending) (joins _ began fragments _ g also young waits) = absurd (ending.0 waits.outcome)
  one_left _ _ _ (ends puts p ending) (stays _ v _ also pass) = absurd (ending.1 pass)
  one_left _ _ _ (ends puts p ending) (ends _ _ ending_too) = refl

  -- ---- a datagram that goes on

  push_is : (puts latest : List Put) (p : Put) (u : Unfinished) → Left (p ∷ onto puts latest) u → Left (onto (puts ++ p ∷ []) latest) u
  push_is puts latest p u left = subst (λ (xs : List Put). Left xs u) (sym (onto-append puts (p ∷ []) latest)) left

  some_left : (fragments : List FragmentValue) (f : FragmentValue) → fragments ++ f ∷ [] ≡ [] → ⊥
  some_left [] f e = cc
  some_left (g ∷ fragments) f e = cc

  none_goes_on : (until : ℕ) (puts latest : List Put) (fragments : List FragmentValue) → fragments ≡ [] → Left latest none → GoesOn key until puts fragments → Left (onto puts latest) none
  none_goes_on until _ latest _ empty left nobody = left
  none_goes_on until _ latest _ empty left (one_waits puts p fragments f goes waits fits) = absurd (some_left fragments f empty)
  none_goes_on until _ latest _ empty left (one_passes puts p fragments goes pass) = push_is puts latest p none (stays (onto puts latest) none p (none_goes_on until puts latest fragments empty left goes) pass)

  some_go_on : (began : ℕ) (puts latest : List Put) (front fragments : List FragmentValue) → Left latest (since began front) → GoesOn key (began + 2000) puts fragments → Left (onto puts latest) (since began (front ++ fragments))
  some_go_on began _ latest front _ left nobody = subst (λ (xs : List FragmentValue). Left latest (since began xs)) (sym (append-nil front)) left
  some_go_on began _ latest front _ left (one_waits puts p fragments f goes waits fits) =
      subst (λ (xs : List FragmentValue). Left (onto (puts ++ p ∷ []) latest) (since began xs)) (append_assoc front fragments (f ∷ []))
      (push_is puts latest p (since began ((front ++ fragments) ++ f ∷ [])) (joins (onto puts latest) began (front ++ fragments) p f (some_go_on began puts latest front fragments left goes) fits waits))
  some_go_on began _ latest front _ left (one_passes puts p fragments goes pass) =
      push_is puts latest p (since began (front ++ fragments)) (stays (onto puts latest) (since began (front ++ fragments)) p (some_go_on began puts latest front fragments left goes) pass)

  -- ---- what is seen of it at a moment

  data Seen : Unfinished → ℕ → Unfinished → Type 0 where
    seen_none : (now : ℕ) → Seen none now none
    seen_over : (began now : ℕ) (fragments : List FragmentValue) → began + 2000 < now → Seen (since began fragments) now none
    seen_left : (began now : ℕ) (fragments : List FragmentValue) → now ≤ began + 2000 → Seen (since began fragments) now (since began fragments)

  none_is_over : (u : Unfinished) (now : ℕ) → Seen u now none → IsOver u now
  none_is_over _ _ (seen_none now) = tt
  none_is_over _ _ (seen_over began now fragments past) = past

  one_seen : (w : Unfinished) (now : ℕ) (u v : Unfinished) → Seen w now u → Seen w now v → u ≡ v
  one_seen _ _ _ _ (seen_none now) (seen_none _) = refl
  one_seen _ _ _ _ (seen_over began now fragments past) (seen_over _ _ _ past_too) = refl
  one_seen _ _ _ _ (seen_over began now fragments past) (seen_left _ _ _ young) = absurd (omega (arith, past, young))
  one_seen _ _ _ _ (seen_left began now fragments young) (seen_over _ _ _ past) = absurd (omega (arith, past, young))
  one_seen _ _ _ _ (seen_left began now fragments young) (seen_left _ _ _ young_too) = refl

  left_behind : (before after : List Put) (p : Put) (u : Unfinished) → Left (onto after (p ∷ onto before [])) u → Left (onto (before ++ p ∷ after) []) u
  left_behind before after p u left = subst (λ (xs : List Put). Left xs u) (sym (onto-append before (p ∷ after) [])) left

  leaves_left : (puts : List Put) (now : ℕ) (u : Unfinished) → Leaves key puts now u → (w : Unfinished) × Left (onto puts []) w × Seen w now u
  leaves_left _ _ _ (none_came puts now goes) = (none, none_goes_on now puts [] [] refl at_first goes, seen_none now)
  leaves_left _ _ _ (was_ended before after last now ending goes) = (none, left_behind before after last none (none_goes_on now after (last ∷ onto before []) [] refl (ends (onto before []) last ending) goes), seen_none now)
  leaves_left _ _ _ (was_given_up before after first f fragments now idle waits goes past) =
      let w = leaves_left before first.now none idle in (
        since first.now (f ∷ fragments),
        left_behind before after first (since first.now (f ∷ fragments))
            (some_go_on first.now after (first ∷ onto before []) (f ∷ []) fragments (begins (onto before []) w.0 first f w.1 (none_is_over w.0 first.now w.2) waits) goes),
        seen_over first.now now (f ∷ fragments) past,
      )
  leaves_left _ _ _ (is_left before after first f fragments now idle waits goes young) =
      let w = leaves_left before first.now none idle in (
        since first.now (f ∷ fragments),
        left_behind before after first (since first.now (f ∷ fragments))
            (some_go_on first.now after (first ∷ onto before []) (f ∷ []) fragments (begins (onto before []) w.0 first f w.1 (none_is_over w.0 first.now w.2) waits) goes),
        seen_left first.now now (f ∷ fragments) young,
      )

  pub one_unfinished : (puts : List Put) (now : ℕ) (u v : Unfinished) → Leaves key puts now u → Leaves key puts now v → u ≡ v
  one_unfinished puts now u v x y =
      let a = leaves_left puts now u x in
      let b = leaves_left puts now v y in
      one_seen b.0 now u v (subst (λ (w : Unfinished). Seen w now u) (one_left (onto puts []) a.0 b.0 a.1 b.1) a.2) b.2
