-- What lines say: that the code finds the instruction of a line, and no other.
use Rattle.std.proofs.Common.{◌≡◌, ℕ, List, [], ◌∷◌, Option, Some, None, Result, Ok, Err, refl, sym, ap, subst, ◌∙◌}
use Rattle.std.specs.Prelude.{◌↔◌, IfOk, IsSomeAnd, MatchOption}
use Rattle.std.specs.Global.{Vec}
use Rattle.nbt_name.specs.declared.addr.Addr.{Addr}
use Rattle.nbt_lease.specs.Config.{ConfigValue, config_of}
use Rattle.nbt_text.specs.Address.{SpellsAddress}
use Rattle.nbt_text.specs.Lines.{SpellsOctets}
use Rattle.nbt_text.specs.Number.{SpellsNumber}
use Rattle.nbt_sim.specs.declared.instruction.Instruction.{Instruction}
use Rattle.nbt_sim.specs.declared.instruction.Instruction.TheVariants.{Kept}
use Rattle.nbt_sim.specs.declared.verb.Verb.{Verb}
use Rattle.nbt_sim.specs.Arguments.{NoMore, Then, AreLimits, SpellsWorld, first, second, third, fourth}
use Rattle.nbt_sim.specs.Line.{Makes, Says, says, SaysOf, SpellsComing}
use Rattle.nbt_sim.specs.Words.{SpellsEnd, verb_word}

abbrev Reads : (A : Type 0) → Option A → (A → Type 0) → Type 0
Reads A r P = (x : A) → (r ≡ Some x) ↔ P x

-- ---- what the words after a verb spell, and what is made of it

pub made : {A : Type 0} (Spell : List (List ℕ) → A → Type 0) (make : A → Instruction) (ws : List (List ℕ)) (found : Option A) (r : Option Instruction) (Gives : A → Instruction → Type 0) (i : Instruction)
    → Reads A found (Spell ws) → MatchOption found (r ≡ None) (λ x. IsSomeAnd r (Gives x)) → ((x : A) (j : Instruction) → Gives x j → j ≡ make x) → (r ≡ Some i) ↔ Makes Spell make ws i
made Spell make ws None r Gives i reads none given = (
  λ same. absurd cc,
  λ m. let there = (reads m.values).1 m.spelled in absurd cc,
)
made Spell make ws (Some x) (Some j) Gives i reads one given = (
  λ same. let is : i ≡ make x = sym (ap (λ (k : Option Instruction). or_kept k) same) ∙ given x j one in record { values = x; spelled = (reads x).0 refl; instruction_is = is },
  λ m. let there = (reads m.values).1 m.spelled in let same : x ≡ m.values = cc in let other = m.instruction_is in let is = given x j one in cc,
) where
  or_kept : Option Instruction → Instruction
  or_kept None = Kept
  or_kept (Some k) = k
made Spell make ws (Some x) None Gives i reads one given = absurd one

-- ---- a world

abbrev Four : Type 0
Four = ℕ × (ℕ × (ℕ × (ℕ × Unit {0})))

-- the numbers were read, and their limits are refused or not
abbrev ReadsLimits : Four → Option ConfigValue → Type 0
ReadsLimits n found = (x : ConfigValue) → (found ≡ Some x) ↔ (AreLimits (first n) (second n) (third n) × (x ≡ config_of (first n) (second n) (third n)))

module _ (ws : List (List ℕ)) (found : Option Four) (reads : Reads Four found (Then SpellsNumber (Then SpellsNumber (Then SpellsNumber (Then SpellsNumber NoMore))) ws)) where
  pub no_numbers : (r : Option (ConfigValue × ℕ)) (w : ConfigValue × ℕ) → found ≡ None → r ≡ None → (r ≡ Some w) ↔ SpellsWorld ws w
  no_numbers r w none e = (λ same. absurd cc, λ s. let there = (reads s.numbers).1 s.spelled in absurd cc)

  pub no_limits : (n : Four) (limits : Option ConfigValue) (r : Option (ConfigValue × ℕ)) (w : ConfigValue × ℕ) → found ≡ Some n → ReadsLimits n limits → limits ≡ None → r ≡ None → (r ≡ Some w) ↔ SpellsWorld ws w
  no_limits n limits r w some tells none e = (
    λ same. absurd cc,
    λ s.
        let there = (reads s.numbers).1 s.spelled in
        let same : s.numbers ≡ n = cc in
        let fits = rw same at s.are_limits in
        let also = (tells (config_of (first n) (second n) (third n))).1 (fits, refl) in absurd cc,
  )

  pub world_read : (n : Four) (limits : Option ConfigValue) (config : ConfigValue) (w : ConfigValue × ℕ) → found ≡ Some n → ReadsLimits n limits → limits ≡ Some config → (◌≡◌ {A = Option (ConfigValue × ℕ)} (Some (config, fourth n)) (Some w)) ↔ SpellsWorld ws w
  world_read n limits config w some tells there = (
    λ e.
        let known = (tells config).0 there in
        let same : w ≡ (config, fourth n) = cc in
        record { numbers = n; spelled = (reads n).0 some; are_limits = known.0; world_is = same ∙ ap (λ (x : ConfigValue). (x, fourth n)) known.1 },
    λ s.
        let known = (tells config).0 there in
        let also = (reads s.numbers).1 s.spelled in
        let same : s.numbers ≡ n = cc in
        let is = rw same at s.world_is in cc,
  )

-- ---- datagrams from outside

pub coming_read : (make : Addr × (ℕ × (Vec ℕ × Unit {0})) → Instruction) (ws : List (List ℕ)) (a b c : List ℕ) (froms : Option Addr) (from : Addr) (tos : Option ℕ) (to : ℕ) (octets : Vec ℕ) → ws ≡ a ∷ b ∷ c ∷ [] → Reads Addr froms (SpellsAddress a) → froms ≡ Some from
    → Reads ℕ tos (SpellsEnd b) → tos ≡ Some to → SpellsOctets c octets.items → Makes SpellsComing make ws (make (from, (to, (octets, tt))))
coming_read make ws a b c froms from tos to octets whole r0 s0 r1 s1 o = record {
  values = (from, (to, (octets, tt)));
  spelled = record { word = a; rest = b ∷ c ∷ []; words_are = whole; one = (r0 from).0 s0; others = record { word = b; rest = c ∷ []; words_are = refl; one = (r1 to).0 s1; others = record { word = c; rest = []; words_are = refl; one = o; others = refl } } };
  instruction_is = refl;
}

-- ---- the verb

says_in : (ws : List (List ℕ)) (i : Instruction) → Says ws i → (v : Verb) × (rest : List (List ℕ)) × (ws ≡ verb_word v ∷ rest) × SaysOf v rest i
says_in _ _ (says v rest i p) = (v, rest, refl, p)

abbrev pub IsSaidOf : Verb → List (List ℕ) → Option Instruction → Type 0
IsSaidOf v rest found = MatchOption found ((i : Instruction) → ¬ SaysOf v rest i) (SaysOf v rest)

abbrev pub IsSaid : List (List ℕ) → Option Instruction → Type 0
IsSaid ws found = MatchOption found ((i : Instruction) → ¬ Says ws i) (Says ws)

pub said_exactly : (v : Verb) (rest : List (List ℕ)) (found : Option Instruction) → Reads Instruction found (SaysOf v rest) → IsSaidOf v rest found
said_exactly v rest None reads = λ i s. let there = (reads i).1 s in cc
said_exactly v rest (Some i) reads = (reads i).0 refl

pub by_verb : (ws rest : List (List ℕ)) (word : List ℕ) (found_verb : Option Verb) (v : Verb) (found : Option Instruction) → ws ≡ word ∷ rest → ((x : Verb) → (found_verb ≡ Some x) ↔ (word ≡ verb_word x)) → found_verb ≡ Some v
    → IsSaidOf v rest found → IsSaid ws found
by_verb ws rest word found_verb v None whole tells there none = λ i s.
    let p = says_in ws i s in
    let same_word : word ≡ verb_word p.0 = cc in
    let other = (tells p.0).1 same_word in
    let same : p.0 ≡ v = cc in
    let same_rest : p.1 ≡ rest = cc in
    none i (subst (λ (x : Verb). SaysOf x rest i) same (subst (λ (x : List (List ℕ)). SaysOf p.0 x i) same_rest p.3))
by_verb ws rest word found_verb v (Some i) whole tells there p = rw (whole, (tells v).0 there) (says v rest i p)

pub by_verb_if : {E : Type 0} (ws rest : List (List ℕ)) (word : List ℕ) (found_verb : Option Verb) (v : Verb) (r : Result (Option Instruction) E) → ws ≡ word ∷ rest → ((x : Verb) → (found_verb ≡ Some x) ↔ (word ≡ verb_word x)) → found_verb ≡ Some v
    → IfOk r (IsSaidOf v rest) → IfOk r (IsSaid ws)
by_verb_if ws rest word found_verb v (Ok found) whole tells there p = by_verb ws rest word found_verb v found whole tells there p
by_verb_if ws rest word found_verb v (Err e) whole tells there p = tt
