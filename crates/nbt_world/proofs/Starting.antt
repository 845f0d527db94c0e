-- What a world keeps when an end starts, and when one crashes.
use Rattle.std.proofs.Common.{◌≡◌, ℕ, zero, suc, [], Option, Some, None, refl, sym, ap, subst, ◌∙◌, arith}
use Rattle.std.specs.Prelude.{replicate}
use Rattle.std.specs.Option.{option_map, option_or}
use Rattle.std.proofs.lemmas.Option.{none-some, same_Some}
use Rattle.nbt_name.specs.Wire.{NameValue}
use Rattle.nbt_lease.specs.Config.{ConfigValue}
use Rattle.nbt_lease.specs.Lease.{Leases, Rows, leases_at, AreSound, group, IsSound}
use Rattle.nbt_server.specs.Serving.{ServerValue}
use Rattle.nbt_server.specs.Calls.{limited}
use Rattle.nbt_node.specs.declared.state.State.TheVariants.{Idle}
use Rattle.nbt_node.specs.Node.{NodeValue, state_in}
use Rattle.nbt_node.specs.Calls.{started}
use Rattle.nbt_node.proofs.Known.{distinct-none}
use Rattle.nbt_world.specs.declared.ends.Ends.{Ends}
use Rattle.nbt_world.specs.Drift.{reading}
use Rattle.nbt_world.specs.World.{WorldValue, latest, with_limit, with_server}
use Rattle.nbt_world.specs.Step.{Starts, server_starts, node_starts, Crashes, server_crashes, node_crashes, Resumes, server_resumes}
use Rattle.nbt_world.specs.Inner.Kept.{Asked, Replied, known, RequestsEnded, RepliesFresh, IsNodeOf, IsServerOf, Invariant}
use Rattle.nbt_world.proofs.Knowing.{ended-start, ended-down, fresh-start, fresh-down}
use Rattle.nbt_world.proofs.Keeping.{adds_nothing, addr_there, asked_read, server_changes, latest-up}
use Rattle.nbt_world.proofs.Naming.{nothing_new}
use Rattle.nbt_world.proofs.Served.{still_claims}
use Rattle.nbt_world.proofs.Covering.{down_claims, idle_claims, node_kept, same_claims, started_claims}

no_lease : (latest now : ℕ) (name : NameValue) → AreSound latest (leases_at now [] name)
unfolding leases_at
no_lease latest now name = record { apart = tt; one_kind = group tt; most = omega arith; in_time = tt }

pub new_is_sound : (config : ConfigValue) (now : ℕ) (rows : Rows) → rows ≡ [] → IsSound config now (leases_at now rows)
new_is_sound config now rows e = subst (λ (r : Rows). IsSound config now (leases_at now r)) (sym e) (λ name. no_lease _ now name)

idle_in : (count : ℕ) (q : NameValue) → state_in (replicate count None) q ≡ Idle
idle_in zero q = refl
idle_in (suc n) q = idle_in n q

pub starts_kept : (w : WorldValue) (number : ℕ) (ends : Ends) → Invariant w → Starts w.config (reading w.now number) w.ends number ends → Invariant (record w { ends = ends })
starts_kept w number ends kept (server_starts server down new) =
    server_changes w (Some server) None w.sent kept (λ s e. subst (λ (x : ServerValue). IsServerOf w x) (same_Some server s e) is) (nothing_new w w.ends.server_addr) kept.replies (λ on. started_claims w server kept on new)
  where
    is : IsServerOf w server
    is = record { life_is = ap (λ (c : ConfigValue). c.life) new.config_is; longest_is = ap (λ (c : ConfigValue). c.longest) new.config_is; past = let e = new.last in omega arith; sound = new_is_sound w.config (reading w.now 0) server.table.rows new.empty }
starts_kept w number ends kept (node_starts i addr at down) =
    node_kept (adds_nothing i kept at) (Some (started 14 addr w.ends.server_addr w.config (reading w.now (suc i))))
    (λ s e. subst (λ (x : NodeValue). IsNodeOf w (suc i) addr x) (same_Some (started 14 addr w.ends.server_addr w.config (reading w.now (suc i))) s e)
    (record { addr_is = refl; server_is = refl; config_is = refl; distinct = distinct-none _ 14 refl; past = omega arith }))
    (λ on q.
    record {
      requests = rw (idle_in 14 q)
          (ended-start (subst (λ (x : Option NodeValue). RequestsEnded w.config.life (suc i) w.now.clock (reading w.now (suc i)) (Asked w.sent addr.ip q) (known x q)) down (kept.requests on (suc i) addr q at)));
      replies = rw (idle_in 14 q)
          (fresh-start (subst (λ (x : Option NodeValue). RepliesFresh w.config.life (suc i) w.now.clock (reading w.now (suc i)) (Asked w.sent addr.ip q) (Replied w.sent w.ends.server_addr addr q) (known x q)) down (kept.replies on (suc i) addr q at)));
      claims = λ kind end c. absurd (idle_claims (rw (idle_in 14 q) at c));
    })

-- the server is as it was
same_kept : (w : WorldValue) (x y : Option ServerValue) → option_or x y ≡ latest w.ends → Invariant w → Invariant (record w { ends = with_server w.ends x y })
same_kept w x y same kept =
    server_changes w x y w.sent kept (λ s e. kept.server s (sym same ∙ e)) (nothing_new w w.ends.server_addr) kept.replies (λ on. same_claims w x y same kept on)

pub resumes_kept : (w : WorldValue) (ends : Ends) → Invariant w → Resumes (reading w.now 0) w.ends ends → Invariant (record w { ends = ends })
resumes_kept w ends kept (server_resumes was server down is resumes) =
    server_changes w (Some server) None w.sent kept (λ s e. subst (λ (x : ServerValue). IsServerOf w x) (same_Some server s e) as_kept) (nothing_new w w.ends.server_addr) kept.replies
    (λ on. still_claims kept on there resumes.leases resumes.start (ap (λ (c : ConfigValue). c.longest) resumes.config))
  where
    there : latest w.ends ≡ Some was
    there = rw (down, is) refl

    as_kept : IsServerOf w server
    as_kept =
        let k = kept.server was there in
        record {
          life_is = ap (λ (c : ConfigValue). c.life) resumes.config ∙ k.life_is;
          longest_is = ap (λ (c : ConfigValue). c.longest) resumes.config ∙ k.longest_is;
          past = resumes.called;
          sound = subst (λ (l : Leases). IsSound w.config (reading w.now 0) l) (sym resumes.leases) k.sound;
        }

-- the server is another one, whose leases, start and longest lease are the same
stays_kept : (w : WorldValue) (server new : ServerValue) → Invariant w → w.ends.server ≡ Some server → (IsServerOf w server → IsServerOf w new) → leases_at (reading w.now 0) new.table.rows ≡ leases_at (reading w.now 0) server.table.rows
    → new.start ≡ server.start → new.table.config.longest ≡ server.table.config.longest → Invariant (record w { ends = with_server w.ends (Some new) w.ends.crashed })
stays_kept w server new kept is stays leases start longest =
    server_changes w (Some new) w.ends.crashed w.sent kept (λ s e. subst (λ (x : ServerValue). IsServerOf w x) (same_Some new s e) (stays (kept.server server there))) (nothing_new w w.ends.server_addr) kept.replies
    (λ on. still_claims kept on there leases start longest)
  where
    there : latest w.ends ≡ Some server
    there = latest-up w.ends server is

-- a limit of its clients changes no lease, and neither does lifting it
pub limit_kept : (w : WorldValue) (server : ServerValue) (rows : Option ℕ) → Invariant w → w.ends.server ≡ Some server → Invariant (record w { ends = with_server w.ends (Some (limited rows server)) w.ends.crashed })
limit_kept w server rows kept is =
    stays_kept w server (limited rows server) kept is (λ k. record { life_is = k.life_is; longest_is = k.longest_is; past = k.past; sound = k.sound }) refl refl refl

-- nor does another number of rows
pub rows_kept : (w : WorldValue) (server : ServerValue) (rows : ℕ) → Invariant w → w.ends.server ≡ Some server
    → Invariant (record w { ends = with_server w.ends (Some (record server { table = record server.table { config = record server.table.config { rows = rows } } })) w.ends.crashed })
rows_kept w server rows kept is =
    stays_kept w server (record server { table = record server.table { config = record server.table.config { rows = rows } } }) kept is (λ k. record { life_is = k.life_is; longest_is = k.longest_is; past = k.past; sound = k.sound }) refl refl refl

pub limited_kept : (w : WorldValue) (rows : ℕ) → Invariant w → Invariant (record w { ends = with_limit w.ends rows })
limited_kept w rows kept = by_server w.ends.server refl
  where
    by_server : (server : Option ServerValue) → w.ends.server ≡ server → Invariant (record w { ends = with_server w.ends (option_map (limited (Some rows)) server) w.ends.crashed })
    by_server None is = same_kept w None w.ends.crashed (ap (λ (x : Option ServerValue). option_or x w.ends.crashed) (sym is)) kept
    by_server (Some server) is = limit_kept w server (Some rows) kept is

pub crashes_kept : (w : WorldValue) (number : ℕ) (ends : Ends) → Invariant w → Crashes w.ends number ends → Invariant (record w { ends = ends })
crashes_kept w number ends kept (server_crashes server up) = same_kept w None (Some server) (sym (latest-up w.ends server up)) kept
crashes_kept w number ends kept (node_crashes i node up) =
    let there = addr_there w.ends (suc i) node up in
    node_kept (adds_nothing i kept there.1) None (λ s e. absurd (none-some s e))
    (λ on q.
    record {
      requests = ended-down (asked_read w (suc i) there kept.sent);
      replies = fresh-down (asked_read w (suc i) there kept.sent) (kept.replies on (suc i) there.0 q there.1);
      claims = λ kind end c. absurd (down_claims c);
    })
