-- Packets put to a joiner one after the other, and which fragments of a key they leave unfinished (our profile, after
-- RFC 1002 section 5.3.3). Nothing here speaks of slots.
use Rattle.std.specs.Prelude.{◌≡◌, ◌≢◌, ℕ, ◌+◌, ◌<◌, ◌≤◌, false, List, [], ◌∷◌, ◌++◌, replicate, None}
use Rattle.std.specs.List.{Contains}
use Rattle.nbt_dgram.specs.declared.dgram.Names.{Names}
use Rattle.nbt_dgram.specs.declared.dgram.Part.TheVariants.{First}
use Rattle.nbt_dgram.specs.declared.slot.Key.{Key}
use Rattle.nbt_dgram.specs.declared.joined.Dropped.TheVariants.{TooLong, Conflict, Full, ClockBack}
use Rattle.nbt_dgram.specs.Dgram.{FragmentValue, fragment, DgramValue}
use Rattle.nbt_dgram.specs.Fragments.{end_of, Covers, octet_in, MakesUp}
use Rattle.nbt_dgram.specs.Joiner.{JoinedValue, whole, waiting, dropped, JoinerValue, joiner_of, key_of, Puts, Sweeps}

-- A packet that was put at a time, and what it led to.
pub record Put : Type 0 where
  pub now : ℕ
  pub packet : DgramValue
  pub outcome : JoinedValue

abbrev pub put : ℕ → DgramValue → JoinedValue → Put
put now d outcome = record { now = now; packet = d; outcome = outcome }

-- The packets that a joiner with `count` slots was given since it was new, in their order, and the joiner afterwards.
-- Sweeps may come between them.
pub data Run (count : ℕ) : List Put → JoinerValue → Type 0 where
  is_new : Run count [] (joiner_of 0 (replicate count None))
  after_put : (puts : List Put) (now : ℕ) (d : DgramValue) (outcome : JoinedValue) (old new : JoinerValue) → Run count puts old → Puts old now d outcome new → Run count (puts ++ put now d outcome ∷ []) new
  after_sweep : (puts : List Put) (now given_up : ℕ) (old new : JoinerValue) → Run count puts old → Sweeps old now given_up new → Run count puts new

-- ---- what a packet is to the datagram of a key

-- a whole datagram by itself
abbrev pub IsAlone : FragmentValue → Type 0
IsAlone f = (names : Names) × (f.part ≡ First names) × (f.more ≡ false)

-- its fragment waits for others
pub record Waits (key : Key) (p : Put) (f : FragmentValue) : Type 0 where
  pub of_key : key_of p.packet ≡ key
  pub body : p.packet.body ≡ fragment f
  pub cut : ¬ IsAlone f
  pub outcome : p.outcome ≡ waiting

-- it leaves the datagram as it was: it has another key, the clock went back, or it is whole by itself
pub data Passes (key : Key) (p : Put) : Type 0 where
  other_key : key_of p.packet ≢ key → Passes key p
  went_back : p.outcome ≡ dropped ClockBack → Passes key p
  is_alone : (f : FragmentValue) → p.packet.body ≡ fragment f → IsAlone f → Passes key p

-- it ends it: it makes it whole, or is dropped with it
abbrev pub Ends : Key → Put → Type 0
Ends key p = (p.outcome ≢ waiting) × ¬ Passes key p

-- ---- the fragments of a key that are unfinished

-- These packets end no datagram of the key, and these are the fragments that wait, none of them later than `until`.
pub data GoesOn (key : Key) (until : ℕ) : List Put → List FragmentValue → Type 0 where
  nobody : GoesOn key until [] []
  one_waits : (puts : List Put) (p : Put) (fragments : List FragmentValue) (f : FragmentValue) → GoesOn key until puts fragments → Waits key p f → p.now ≤ until → GoesOn key until (puts ++ p ∷ []) (fragments ++ f ∷ [])
  one_passes : (puts : List Put) (p : Put) (fragments : List FragmentValue) → GoesOn key until puts fragments → Passes key p → GoesOn key until (puts ++ p ∷ []) fragments

-- no fragment, or those since a time
pub data Unfinished : Type 0 where
  none : Unfinished
  since : (began : ℕ) → List FragmentValue → Unfinished

abbrev pub fragments_in : Unfinished → List FragmentValue
fragments_in none = []
fragments_in (since began fragments) = fragments

-- What is unfinished of a key at a time, after these packets. Nothing: no fragment came, or none since a packet ended
-- their datagram, or more than 2,000 ms have passed since it began. Otherwise all fragments since the one that came
-- when nothing was unfinished.
pub data Leaves (key : Key) : List Put → (now : ℕ) → Unfinished → Type 0 where
  none_came : (puts : List Put) (now : ℕ) → GoesOn key now puts [] → Leaves key puts now none
  was_ended : (before after : List Put) (last : Put) (now : ℕ) → Ends key last → GoesOn key now after [] → Leaves key (before ++ last ∷ after) now none
  was_given_up : (before after : List Put) (first : Put) (f : FragmentValue) (fragments : List FragmentValue) (now : ℕ) → Leaves key before first.now none → Waits key first f
      → GoesOn key (first.now + 2000) after fragments → first.now + 2000 < now → Leaves key (before ++ first ∷ after) now none
  is_left : (before after : List Put) (first : Put) (f : FragmentValue) (fragments : List FragmentValue) (now : ℕ) → Leaves key before first.now none → Waits key first f
      → GoesOn key (first.now + 2000) after fragments → now ≤ first.now + 2000 → Leaves key (before ++ first ∷ after) now (since first.now (f ∷ fragments))

-- ---- what is reported of fragments

-- all names that they have are these
abbrev pub AreNamed : List FragmentValue → Names → Type 0
AreNamed fragments names = (f : FragmentValue) (own : Names) → Contains fragments f → f.part ≡ First own → own ≡ names

-- A fragment that came before, and one that comes, agree: they are of one type, and say the same of names and of octets.
-- Where the earlier one is the last, the later one ends no further; where the later one is the last, the earlier one
-- has no octet after its end; and where both are, they end at one place.
pub record AgreesWith (g f : FragmentValue) : Type 0 where
  pub type : g.delivery ≡ f.delivery
  pub names : (a b : Names) → g.part ≡ First a → f.part ≡ First b → a ≡ b
  pub octets : (place : ℕ) → Covers g place → Covers f place → octet_in g place ≡ octet_in f place
  pub within : g.more ≡ false → end_of f ≤ end_of g
  pub end_is : f.more ≡ false → g.more ≡ false → end_of f ≡ end_of g
  pub last : f.more ≡ false → (place : ℕ) → Covers g place → place < end_of f

abbrev pub AllAgree : List FragmentValue → FragmentValue → Type 0
AllAgree fragments f = (g : FragmentValue) → Contains fragments g → AgreesWith g f

-- What a fragment leads to by those that are unfinished, a line for each case: Whole where all make up data, with these
-- names; Waiting where they make up none.
pub data Tells (fragments : List FragmentValue) (f : FragmentValue) : JoinedValue → Type 0 where
  is_too_long : 512 < end_of f → Tells fragments f (dropped TooLong)
  is_full : end_of f ≤ 512 → fragments ≡ [] → Tells fragments f (dropped Full)
  is_conflict : end_of f ≤ 512 → ¬ AllAgree fragments f → Tells fragments f (dropped Conflict)
  is_whole : (names : Names) (payload : List ℕ) → end_of f ≤ 512 → AllAgree fragments f → MakesUp (fragments ++ f ∷ []) payload → AreNamed (fragments ++ f ∷ []) names → Tells fragments f (whole names payload)
  is_unfinished : end_of f ≤ 512 → AllAgree fragments f → ((payload : List ℕ) → ¬ MakesUp (fragments ++ f ∷ []) payload) → Tells fragments f waiting
