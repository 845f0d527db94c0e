-- A life that is cut off behind any call of its devices is one so far.
use Rattle.std.proofs.Common.{◌≡◌, ℕ, List, [], ◌∷◌, ◌++◌, sym, subst, ◌∙◌, append-nil, append_assoc}
use Rattle.nbt_port.specs.PortCalls.{came, sent, send_failed, Chain}
use Rattle.nbt_net.specs.Wire.{Act}
use Rattle.nbt_net.specs.Devices.{Call, of_port, reads, Story, no_story, going_on, AreActs, ends, is_quiet, acts_at, acts_on, sends, loses, IsCutAt}
use Rattle.nbt_net.proofs.Ordering.{chain_split}

-- the acts of a story so far come first
record Grows (old new : Story) : Type 0 where
  pub later : List Act
  pub rest : new.acts ≡ old.acts ++ later

grows_on : {old new : Story} (now : ℕ) (acts : List Act) → Grows (going_on now acts old) new → Grows old new
grows_on {old} now acts g = record { later = acts ++ g.later; rest = g.rest ∙ append_assoc old.acts acts g.later }

grows : {slack : ℕ} {old new : Story} {calls : List Call} → AreActs slack old calls new → Grows old new
grows (ends story) = record { later = []; rest = sym (append-nil story.acts) }
grows (is_quiet old new call calls quiet more) = grows more
grows (acts_at old new now acts calls at none more) = grows_on now acts (grows more)
grows (acts_on old new from octets now acts calls at one more) = grows_on now acts (grows more)
grows (sends old new to octets calls own more) = grows more
grows (loses old new to octets calls own more) = grows more

-- up to some call
record Cut (slack : ℕ) (old new : Story) (before : List Call) : Type 0 where
  pub so_far : Story
  pub are_acts : AreActs slack old before so_far
  pub grown : Grows so_far new

nothing_yet : {slack : ℕ} {old new : Story} {calls : List Call} → AreActs slack old calls new → Cut slack old new []
nothing_yet {old = old} more = record { so_far = old; are_acts = ends old; grown = grows more }

cut : {slack : ℕ} {old new : Story} {calls : List Call} → AreActs slack old calls new → (before behind : List Call) → calls ≡ before ++ behind → Cut slack old new before
cut more [] behind is = nothing_yet more
cut (ends story) (x ∷ before) behind is = absurd cc
cut {slack} (is_quiet old new call calls quiet more) (x ∷ before) behind is =
    let same : call ≡ x = cc in
    let rest = cut more before behind cc in
    record { so_far = rest.so_far; are_acts = subst (λ (c : Call). AreActs slack old (c ∷ before) rest.so_far) same (is_quiet old rest.so_far call before quiet rest.are_acts); grown = rest.grown }
cut {slack} (acts_at old new now acts calls at none more) (x ∷ before) behind is =
    let same : reads now ≡ x = cc in
    let rest = cut more before behind cc in
    record { so_far = rest.so_far; are_acts = subst (λ (c : Call). AreActs slack old (c ∷ before) rest.so_far) same (acts_at old rest.so_far now acts before at none rest.are_acts); grown = rest.grown }
cut {slack} (acts_on old new from octets now acts calls at one more) (x ∷ []) behind is =
    let same : of_port (came from octets) ≡ x = cc in
    record { so_far = old; are_acts = subst (λ (c : Call). AreActs slack old (c ∷ []) old) same (is_quiet old old (of_port (came from octets)) [] tt (ends old)); grown = grows_on now acts (grows more) }
cut {slack} (acts_on old new from octets now acts calls at one more) (x ∷ y ∷ before) behind is =
    let same : of_port (came from octets) ≡ x = cc in
    let next : reads now ≡ y = cc in
    let rest = cut more before behind cc in
    record {
      so_far = rest.so_far;
      are_acts = subst (λ (c : Call). AreActs slack old (c ∷ y ∷ before) rest.so_far) same (subst (λ (c : Call). AreActs slack old (of_port (came from octets) ∷ c ∷ before) rest.so_far) next (acts_on old rest.so_far from octets now acts before at one rest.are_acts));
      grown = rest.grown;
    }
cut {slack} (sends old new to octets calls own more) (x ∷ before) behind is =
    let same : of_port (sent to octets) ≡ x = cc in
    let rest = cut more before behind cc in
    record { so_far = rest.so_far; are_acts = subst (λ (c : Call). AreActs slack old (c ∷ before) rest.so_far) same (sends old rest.so_far to octets before own rest.are_acts); grown = rest.grown }
cut {slack} (loses old new to octets calls own more) (x ∷ before) behind is =
    let same : of_port (send_failed to octets) ≡ x = cc in
    let rest = cut more before behind cc in
    record { so_far = rest.so_far; are_acts = subst (λ (c : Call). AreActs slack old (c ∷ before) rest.so_far) same (loses old rest.so_far to octets before own rest.are_acts); grown = rest.grown }

pub cut_at : {E : Type 0} (lives : E → Act → E → Type 0) (slack : ℕ) (old_end new_end : E) (calls : List Call) (story : Story) → Chain lives old_end story.acts new_end → AreActs slack no_story calls story
    → (before behind : List Call) → calls ≡ before ++ behind → IsCutAt lives slack old_end before story
cut_at lives slack old_end new_end calls story lived acts before behind is =
    let c = cut acts before behind is in
    let parts = chain_split lives c.so_far.acts c.grown.later old_end new_end (subst (λ (all : List Act). Chain lives old_end all new_end) c.grown.rest lived) in
    record { mid_end = parts.0; so_far = c.so_far; lived = parts.1; are_acts = c.are_acts; later = c.grown.later; rest = c.grown.rest }
