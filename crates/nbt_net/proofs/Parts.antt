-- Parts of a program's life, each from where the one before led.
use Rattle.std.proofs.Common.{◌≡◌, ℕ, List, [], ◌∷◌, ◌++◌, map, Contains, refl, sym, ap, subst, ◌∙◌, append-nil, append_assoc}
use Rattle.std.specs.List.{AllByRecursion}
use Rattle.std.proofs.lemmas.List.Elements.{Contains-append_left, Contains-append_right}
use Rattle.nbt_port.specs.PortCalls.{PortCall, nothing_came, came, receive_failed, sent, send_failed, Chain}
use Rattle.nbt_port.proofs.Chains.{chain-append}
use Rattle.nbt_store.specs.Calls.{StoreCall}
use Rattle.nbt_serve.specs.Devices.{DeviceCall, on_port, on_store}
use Rattle.nbt_net.specs.Wire.{Act}
use Rattle.nbt_net.specs.Devices.{Call, of_port, reads, of_store, Machine, MachineDoes, Story, no_story, going_on, IsOfAnAct, AreActs, ends, is_quiet, acts_at, acts_on, sends, loses, IsLived}
use Rattle.nbt_net.proofs.Ordering.{calls_of}

-- ---- acts, one part after another

pub acts-append : {slack : ℕ} {old mid new : Story} {calls more : List Call} → AreActs slack old calls mid → AreActs slack mid more new → AreActs slack old (calls ++ more) new
acts-append (ends story) back = back
acts-append {more = more} (is_quiet old mid call calls quiet front) back = is_quiet old _ call (calls ++ more) quiet (acts-append front back)
acts-append {more = more} (acts_at old mid now acts calls at none front) back = acts_at old _ now acts (calls ++ more) at none (acts-append front back)
acts-append {more = more} (acts_on old mid from octets now acts calls at one front) back = acts_on old _ from octets now acts (calls ++ more) at one (acts-append front back)
acts-append {more = more} (sends old mid to octets calls own front) back = sends old _ to octets (calls ++ more) own (acts-append front back)
acts-append {more = more} (loses old mid to octets calls own front) back = loses old _ to octets (calls ++ more) own (acts-append front back)

-- a reading at which nothing is done
pub quiet_reading : {slack : ℕ} {old new : Story} {calls : List Call} (now : ℕ) → AreActs slack (going_on now [] old) calls new → AreActs slack old (reads now ∷ calls) new
quiet_reading {old = old} {new} {calls} now rest = acts_at old new now [] calls tt refl rest

-- ---- calls that are sendings of acts before, or are the store's

abbrev pub IsInOrder : (slack : ℕ) → Story → DeviceCall → Type 0
IsInOrder slack story (on_port (sent to octets)) = IsOfAnAct slack story to octets
IsInOrder slack story (on_port (send_failed to octets)) = IsOfAnAct slack story to octets
IsInOrder slack story (on_port (came from octets)) = Unit {0}
IsInOrder slack story (on_port nothing_came) = Unit {0}
IsInOrder slack story (on_port receive_failed) = Unit {0}
IsInOrder slack story (on_store call) = Unit {0}

pub all_in_order : {slack : ℕ} {story : Story} (calls : List DeviceCall) → AllByRecursion (IsInOrder slack story) calls → AreActs slack story (calls_of calls) story
all_in_order {story = story} [] all = ends story
all_in_order {story = story} (on_port (sent to octets) ∷ calls) all = sends story story to octets (calls_of calls) all.0 (all_in_order calls all.1)
all_in_order {story = story} (on_port (send_failed to octets) ∷ calls) all = loses story story to octets (calls_of calls) all.0 (all_in_order calls all.1)
all_in_order {story = story} (on_port (came from octets) ∷ calls) all = is_quiet story story (of_port (came from octets)) (calls_of calls) tt (all_in_order calls all.1)
all_in_order {story = story} (on_port nothing_came ∷ calls) all = is_quiet story story (of_port nothing_came) (calls_of calls) tt (all_in_order calls all.1)
all_in_order {story = story} (on_port receive_failed ∷ calls) all = is_quiet story story (of_port receive_failed) (calls_of calls) tt (all_in_order calls all.1)
all_in_order {story = story} (on_store call ∷ calls) all = is_quiet story story (of_store call) (calls_of calls) tt (all_in_order calls all.1)

pub all-append : {A : Type 0} (P : A → Type 0) (xs ys : List A) → AllByRecursion P xs → AllByRecursion P ys → AllByRecursion P (xs ++ ys)
all-append P [] ys front back = back
all-append P (x ∷ xs) ys front back = (front.0, all-append P xs ys front.1 back)

pub all_stored : (slack : ℕ) (story : Story) (calls : List StoreCall) → AllByRecursion (IsInOrder slack story) (map on_store calls)
all_stored slack story [] = tt
all_stored slack story (call ∷ calls) = (tt, all_stored slack story calls)

-- ---- parts

-- nothing is known
abbrev pub Always : Story → Type 0
Always story = Unit {0}

module _ {E P C S : Type 0} (lives : E → Act → E → Type 0) (slack : ℕ) (does : P → PortCall → P → Type 0) (tells : C → ℕ → C → Type 0) (keeps : S → StoreCall → S → Type 0) where
  -- After a story of which this is known the program made these calls, which are acts of its life, and that is known then.
  pub record Part (Known : Story → Type 0) (old_end : E) (old : Machine P C S) (Then : Story → Type 0) (new_end : E) (new : Machine P C S) : Type 0 where
    pub calls : List Call
    pub acts : List Act
    pub did : Chain (MachineDoes does tells keeps) old calls new
    pub lived : Chain lives old_end acts new_end
    pub goes : (story : Story) → Known story → (after : Story) × (after.acts ≡ story.acts ++ acts) × AreActs slack story calls after × Then after

  unfoldable pub no_part : {Known : Story → Type 0} {old_end new_end : E} {old new : Machine P C S} → new_end ≡ old_end → new ≡ old → Part Known old_end old Known new_end new
  no_part end_is is = record { calls = []; acts = []; did = is; lived = end_is; goes = λ story known. (story, sym (append-nil story.acts), ends story, known) }

  unfoldable pub parts : {Known Mid Then : Story → Type 0} {old_end mid_end new_end : E} {old mid new : Machine P C S} → Part Known old_end old Mid mid_end mid → Part Mid mid_end mid Then new_end new → Part Known old_end old Then new_end new
  parts {old_end = old_end} {mid_end} {new_end} {old} {mid} {new} a b = record {
    calls = a.calls ++ b.calls;
    acts = a.acts ++ b.acts;
    did = chain-append (MachineDoes does tells keeps) old mid new a.calls b.calls a.did b.did;
    lived = chain-append lives old_end mid_end new_end a.acts b.acts a.lived b.lived;
    goes = λ story known.
        let front = a.goes story known in
        let back = b.goes front.0 front.3 in
        (back.0, back.1 ∙ (ap (λ (acts : List Act). acts ++ b.acts) front.1 ∙ append_assoc story.acts a.acts b.acts), acts-append front.2 back.2, back.3);
  }

  -- the clock is read, and nothing is done
  unfoldable pub read_alone : {Known : Story → Type 0} {end : E} {old new : Machine P C S} (now : ℕ) → ((story : Story) → Known story → Known (going_on now [] story)) → tells old.clock now new.clock → new.port ≡ old.port → new.store ≡ old.store → Part Known end old Known end new
  read_alone {end = end} {old} {new} now still told port store = record {
    calls = reads now ∷ [];
    acts = [];
    did = (new, (told, port, store), refl);
    lived = refl;
    goes = λ story known. (going_on now [] story, refl, quiet_reading now (ends (going_on now [] story)), still story known);
  }

  -- ---- the whole

  unfoldable pub whole : {Known Then : Story → Type 0} {old_end new_end : E} {old new : Machine P C S} → Known no_story → Part Known old_end old Then new_end new → IsLived lives slack does tells keeps old_end old new_end new
  whole {old_end = old_end} {new_end} known part =
      let all = part.goes no_story known in
      record {
        calls = part.calls;
        story = all.0;
        did = part.did;
        lived = subst (λ (acts : List Act). Chain lives old_end acts new_end) (sym all.1) part.lived;
        are_acts = all.2;
      }

-- ---- what stays in a story

pub still_acted : (now : ℕ) (acts : List Act) (story : Story) (act : Act) → Contains story.acts act → Contains (going_on now acts story).acts act
still_acted now acts story act there = Contains-append_left story.acts acts act there

pub just_acted : (now : ℕ) (acts : List Act) (story : Story) (act : Act) → Contains acts act → Contains (going_on now acts story).acts act
just_acted now acts story act there = Contains-append_right story.acts acts act there
