-- A wire on which nothing happened yet, and the same wire once all clocks went on by as much.
use Rattle.std.proofs.Common.{◌≡◌, ℕ, zero, suc, ◌+◌, ◌-◌, ◌*◌, ◌≤◌, true, List, [], ◌∷◌, Some, refl, sym, ap, subst, ◌∙◌, arith}
use Rattle.std.specs.Prelude.{map, slice_get, slice_index, slice_index_or}
use Rattle.std.proofs.lemmas.Option.{none-some}
use Rattle.nbt_name.specs.declared.addr.Addr.{Addr}
use Rattle.nbt_lease.specs.Config.{ConfigValue, last_moment}
use Rattle.nbt_world.specs.declared.clocks.Clocks.{Clocks}
use Rattle.nbt_world.specs.declared.clocks.Least.{Least}
use Rattle.nbt_world.specs.Drift.{reading, later, least_of, numbers_of, lesser, IsAllowed}
use Rattle.nbt_world.specs.World.{WorldValue, IsFresh, IsEnd, ends_at}
use Rattle.nbt_world.specs.Step.{Advances}
use Rattle.nbt_world.proofs.Apart.{addrs_at, none_at}

-- one value for each end
each_is : {X : Type 0} (x d : X) (addrs : List Addr) (n : ℕ) (a : Addr) → slice_get addrs n ≡ Some a → slice_index_or (map (λ (_ : Addr). x) addrs) n d ≡ x
each_is x d [] n a e = absurd (none-some a e)
each_is x d (b ∷ bs) zero a e = refl
each_is x d (b ∷ bs) (suc n) a e = each_is x d bs n a e

abbrev pub all_zero : Clocks
all_zero = record { clock = 0; readings = [] }

-- all clocks read this
abbrev pub all_at : ℕ → List Addr → Clocks
all_at ms addrs = record { clock = ms; readings = map (λ (_ : Addr). ms) addrs }

abbrev pub numbers_at : ℕ → Least
numbers_at ms = record { ahead = 1000 * ms + 1001 * (last_moment - ms); behind = 999 * ms + 1000 * (last_moment - ms) }

abbrev pub wire_with : ConfigValue → (server : Addr) (others : List Addr) → Clocks → Least → WorldValue
wire_with config server others now least = record { now = now; config = config; ends = ends_at server others; sent = []; least = map (λ (_ : Addr). least) (server ∷ others); kept = true; timely = true }

abbrev pub new_wire : ConfigValue → (server : Addr) (others : List Addr) → WorldValue
new_wire config server others = wire_with config server others all_zero (numbers_at 0)

abbrev pub later_wire : ConfigValue → (server : Addr) (others : List Addr) → ℕ → WorldValue
later_wire config server others ms = wire_with config server others (all_at ms (server ∷ others)) (lesser (numbers_at 0) (numbers_at ms))

module _ (config : ConfigValue) (server : Addr) (others : List Addr) where
  there : (n : ℕ) → (e : IsEnd (ends_at server others) n) → slice_get (server ∷ others) n ≡ Some e.0
  there n e = sym (addrs_at server others n) ∙ e.1

  pub new_is_fresh : IsFresh config (server ∷ others) (new_wire config server others)
  new_is_fresh = record {
    now = refl;
    readings = λ n. refl;
    least = λ n e. each_is (numbers_at 0) _ (server ∷ others) n e.0 (there n e);
    kept = refl;
    timely = refl;
    config_is = refl;
    addrs_are = addrs_at server others;
    no_server = refl;
    none_crashed = refl;
    no_node = none_at server others;
    nothing_sent = refl;
  }

  -- what each end reads
  pub reads_at : (ms n : ℕ) (a : Addr) → slice_get (server ∷ others) n ≡ Some a → reading (all_at ms (server ∷ others)) n ≡ ms
  reads_at ms n a at = each_is ms 0 (server ∷ others) n a at

  module _ (ms : ℕ) (few : ms ≤ last_moment) where
    numbers_then : (n : ℕ) → IsEnd (ends_at server others) n → numbers_of (all_at ms (server ∷ others)) n ≡ numbers_at ms
    numbers_then n e = ap (λ (r : ℕ). record { ahead = 1000 * r + 1001 * (last_moment - ms); behind = 999 * ms + 1000 * (last_moment - r) }) (reads_at ms n e.0 (there n e))

    least_then : (n : ℕ) → IsEnd (ends_at server others) n → least_of (later_wire config server others ms).least n ≡ lesser (numbers_at 0) (numbers_at ms)
    least_then n e = each_is (lesser (numbers_at 0) (numbers_at ms)) _ (server ∷ others) n e.0 (there n e)

    ahead_few : 1000 * ms + 1001 * (last_moment - ms) ≤ (lesser (numbers_at 0) (numbers_at ms)).ahead + 1000
    ahead_few = omega arith

    behind_few : 999 * ms + 1000 * (last_moment - ms) ≤ (lesser (numbers_at 0) (numbers_at ms)).behind + 1000
    behind_few = omega arith

    allowed : (n : ℕ) → IsEnd (ends_at server others) n → IsAllowed (least_of (later_wire config server others ms).least n) (all_at ms (server ∷ others)) n
    allowed n e = record {
      not_ahead = subst (λ (l : Least). (numbers_of (all_at ms (server ∷ others)) n).ahead ≤ l.ahead + 1000) (sym (least_then n e)) (subst (λ (l : Least). l.ahead ≤ (lesser (numbers_at 0) (numbers_at ms)).ahead + 1000) (sym (numbers_then n e)) ahead_few);
      not_behind = subst (λ (l : Least). (numbers_of (all_at ms (server ∷ others)) n).behind ≤ l.behind + 1000) (sym (least_then n e)) (subst (λ (l : Least). l.behind ≤ (lesser (numbers_at 0) (numbers_at ms)).behind + 1000) (sym (numbers_then n e)) behind_few);
    }

    pub all_go_on : Advances (new_wire config server others) ms (slice_index (map (λ (_ : Addr). ms) (server ∷ others))) (later_wire config server others ms)
    all_go_on = record {
      now = omega arith;
      readings = λ n e. reads_at ms n e.0 (there n e) ∙ (let all : later 0 ms ≡ ms = omega arith in sym (ap (later 0) (each_is ms 0 (server ∷ others) n e.0 (there n e)) ∙ all));
      least = λ n e. least_then n e ∙ ap (lesser (numbers_at 0)) (sym (numbers_then n e)) ∙ ap (λ (l : Least). lesser l (numbers_of (all_at ms (server ∷ others)) n)) (sym (each_is (numbers_at 0) _ (server ∷ others) n e.0 (there n e)));
      kept = (λ on. (refl, allowed), λ on. refl);
      timely = (λ on. (refl, λ n e. record { not_ahead = (allowed n e).not_ahead; not_behind = λ ne. (allowed n e).not_behind }), λ on. refl);
      others = refl;
    }
