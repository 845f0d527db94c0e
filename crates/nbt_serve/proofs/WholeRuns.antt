-- The laws of whole runs.
use Rattle.std.proofs.Common.{◌≡◌, ℕ, ◌+◌, ◌≤◌, List, [], ◌∷◌, ◌++◌, Option, Some, None, refl, sym, ap, ◌∙◌, subst, arith}
use Rattle.std.proofs.lemmas.List.{append-nil}
use Rattle.std.proofs.lemmas.List.Concat.{flat_map-append}
use Rattle.nbt_port.specs.declared.port.Route.{Route}
use Rattle.nbt_port.specs.Memory.{DatagramValue}
use Rattle.nbt_port.specs.PortCalls.{nothing_came, came, receive_failed, sent, send_failed, Chain}
use Rattle.nbt_port.proofs.Chains.{chain-append}
use Rattle.nbt_server.specs.Serving.{ServerValue}
use Rattle.nbt_store.specs.declared.change.Change.{Change}
use Rattle.nbt_store.specs.declared.form.Form.TheVariants.{Three}
use Rattle.nbt_store.specs.Lines.{AllStand}
use Rattle.nbt_store.specs.Calls.{StoreCall, renewal_failed, Draft, Kept, after_call, after_calls, MayLeaveAfter, first_changes, as_drafted}
use Rattle.nbt_store.specs.Changes.{after_all, no_leases, last_of, MayLeave}
use Rattle.nbt_serve.specs.Serving.{Turn, Turns}
use Rattle.nbt_serve.specs.Changing.{IsKept}
use Rattle.nbt_serve.specs.Devices.{DeviceCall, on_port, on_store}
use Rattle.nbt_serve.specs.Waiting.{WaitingValue, durable_then}
use Rattle.nbt_serve.specs.declared.waiting.Unsynced.{Unsynced}
use Rattle.nbt_serve.specs.Turning.{Took, TakesAny, reach}
use Rattle.nbt_serve.specs.Runs.{Held, Seen, Steps, takes_turn, port_fails, looks, begins_renewal, goes_on_renewing, renews, Ends, store_fails, look_fails, renewal_fails, Runs, goes_on, ends, calls_in, turn_of, turns_in, replies_in, stored_in, gone_in, last_by, last_after, last_left, Begins, AreAmong, nothing, IsEarlier, NoReplyPrecedesItsChange, CrashLeavesAnEarlierServer, ServersGoByTurns}
use Rattle.nbt_serve.proofs.Among.{among_front}
use Rattle.nbt_serve.proofs.Crashes.{Past, Drafted, by_call, by_calls, datagrams, Along, Good, Goes, along_more, along-append, durable_good, then_later}
use Rattle.nbt_serve.proofs.Runs.{gone_on, ran, store_failed, look_failed, crashed, sent_durable}

-- ---- the servers alone

any_turn : (t : Option Took) (old new : ServerValue) → TakesAny old t new → Chain Turns old (turn_of t) new
any_turn None old new takes = takes
any_turn (Some t) old new takes = (new, takes.server, refl)

step_turns : (seen : Seen) (old new : Held) → Steps old seen new → Chain Turns old.server (turn_of seen.took) new.server
step_turns _ old _ (takes_turn life t ahead calls readings server waiting takes passes) = (server, takes.server, refl)
step_turns _ old _ (port_fails life t calls readings server waiting takes fails) = any_turn t old.server server takes
step_turns _ old _ (looks day at clear onward) = refl
step_turns _ old _ (begins_renewal header clear onward) = refl
step_turns _ old _ (goes_on_renewing clear) = refl
step_turns _ old _ (renews clear) = refl

end_turns : (seen : Seen) (old new : Held) → Ends old seen new → Chain Turns old.server (turn_of seen.took) new.server
end_turns _ old _ (store_fails life t calls readings server waiting takes fails) = any_turn t old.server server takes
end_turns _ old _ (look_fails day at calls clear onward fails) = refl
end_turns _ old _ (renewal_fails clear) = refl

steps_turns : (seen : List Seen) (old new : Held) → Chain Steps old seen new → Chain Turns old.server (turns_in seen) new.server
steps_turns [] old new chain = ap (λ (h : Held). h.server) chain
steps_turns (x ∷ xs) old new chain = chain-append Turns old.server chain.0.server new.server (turn_of x.took) (turns_in xs) (step_turns x old chain.0 chain.1) (steps_turns xs chain.0 new chain.2)

turns_last : (seen : List Seen) (last : Seen) → turns_in (seen ++ last ∷ []) ≡ turns_in seen ++ turn_of last.took
turns_last seen last = flat_map-append (λ (s : Seen). turn_of s.took) seen (last ∷ []) ∙ ap (λ (ts : List Turn). turns_in seen ++ ts) (append-nil (turn_of last.took))

calls_last : (seen : List Seen) (last : Seen) → calls_in (seen ++ last ∷ []) ≡ calls_in seen ++ last.calls
calls_last seen last = flat_map-append (λ (s : Seen). s.calls) seen (last ∷ []) ∙ ap (λ (cs : List DeviceCall). calls_in seen ++ cs) (append-nil last.calls)

run_turns : (old new : Held) (seen : List Seen) → Runs old seen new → Chain Turns old.server (turns_in seen) new.server
run_turns old new _ (goes_on seen _ chain) = steps_turns seen old new chain
run_turns old new _ (ends seen mid last _ chain end) =
    subst (λ (ts : List Turn). Chain Turns old.server ts new.server) (sym (turns_last seen last))
    (chain-append Turns old.server mid.server new.server (turns_in seen) (turn_of last.took) (steps_turns seen old mid chain) (end_turns last mid new end))

pub servers_go : ServersGoByTurns
servers_go = run_turns

-- ---- the beginning

-- nothing has left
abbrev at_first : Kept → (last : ℕ) → Past
at_first kept last = record { kept = kept; last = last; gone = [] }

begun_good : (kept : Kept) (last : ℕ) (old : Held) → Begins kept last old → Good old.server [] old.server old.waiting (at_first kept last)
begun_good kept last old b =
    durable_good old.server [] old.server old.waiting (at_first kept last) refl b.leases b.stand (subst (λ (w : WaitingValue). AreAmong (datagrams w.replies) []) (sym b.clear) tt) b.all
    (subst (λ (u : Option Unsynced). durable_then old.waiting.durable u ≤ last_of last kept.changes) (sym (ap (λ (w : WaitingValue). w.unsynced) b.clear)) b.durable) b.soon
    (subst (Drafted old.server (durable_then old.waiting.durable old.waiting.unsynced)) (sym b.alone) tt)

steps_go : (kept : Kept) (last : ℕ) (old new : Held) (seen : List Seen) → Begins kept last old → Chain Steps old seen new → Goes old.server (turns_in seen) new.server new.waiting (at_first kept last) (calls_in seen)
steps_go kept last old new seen b chain = ran old.server seen old new [] (at_first kept last) chain (begun_good kept last old b)

-- the calls of a step in which the store fails, but a renewal
end_along : (kept : Kept) (last : ℕ) (old mid : Held) (seen : List Seen) (end : Seen) → Begins kept last old → Chain Steps old seen mid
    → (Good old.server (turns_in seen) mid.server mid.waiting (by_calls (calls_in seen) (at_first kept last)) → Along old.server (turns_in seen ++ turn_of end.took) (by_calls (calls_in seen) (at_first kept last)) end.calls)
    → Along old.server (turns_in (seen ++ end ∷ [])) (at_first kept last) (calls_in (seen ++ end ∷ []))
end_along kept last old mid seen end b chain fails =
    let g = steps_go kept last old mid seen b chain in
    subst (λ (ts : List Turn). Along old.server ts (at_first kept last) (calls_in (seen ++ end ∷ []))) (sym (turns_last seen end))
    (subst (Along old.server (turns_in seen ++ turn_of end.took) (at_first kept last)) (sym (calls_last seen end))
    (along-append old.server (turns_in seen ++ turn_of end.took) (calls_in seen) end.calls (at_first kept last) (along_more old.server (turns_in seen) (turn_of end.took) (calls_in seen) (at_first kept last) g.along) (fails g.good)))

-- a call behind others
data Splits (xs : List DeviceCall) (last : DeviceCall) (before behind : List DeviceCall) : Type 0 where
  inside : (rest : List DeviceCall) → xs ≡ before ++ rest → behind ≡ rest ++ last ∷ [] → Splits xs last before behind
  at_end : before ≡ xs ++ last ∷ [] → behind ≡ [] → Splits xs last before behind

one_more : (x y : DeviceCall) (xs : List DeviceCall) (last : DeviceCall) (before behind : List DeviceCall) → x ≡ y → Splits xs last before behind → Splits (x ∷ xs) last (y ∷ before) behind
one_more x y xs last before behind same (inside rest is end) = inside rest (cc) end
one_more x y xs last before behind same (at_end is none) = at_end (cc) none

split_last : (xs : List DeviceCall) (last : DeviceCall) (before behind : List DeviceCall) → xs ++ last ∷ [] ≡ before ++ behind → Splits xs last before behind
split_last xs last [] behind e = inside xs refl (sym e)
split_last [] last (y ∷ []) [] e = at_end (sym e) refl
split_last [] last (y ∷ []) (z ∷ behind) e = absurd cc
split_last [] last (y ∷ z ∷ before) behind e = absurd cc
split_last (x ∷ xs) last (y ∷ before) behind e = let same : x ≡ y = cc in let rest : xs ++ last ∷ [] ≡ before ++ behind = cc in one_more x y xs last before behind same (split_last xs last before behind rest)

-- ---- a reply that is sent

sent_inside : (xs : List DeviceCall) (last : DeviceCall) (before behind : List DeviceCall) (to : Route) (octets : List ℕ) → ¬ (last ≡ on_port (sent to octets)) → Splits xs last before (on_port (sent to octets) ∷ behind)
    → (rest : List DeviceCall) × (xs ≡ before ++ on_port (sent to octets) ∷ rest)
sent_inside xs last before behind to octets other (inside [] is end) = absurd (other cc)
sent_inside xs last before behind to octets other (inside (z ∷ rest) is end) = let same : on_port (sent to octets) ≡ z = cc in (rest, is ∙ ap (λ (c : DeviceCall). before ++ c ∷ rest) (sym same))
sent_inside xs last before behind to octets other (at_end is none) = absurd cc

pub replies_follow : NoReplyPrecedesItsChange
replies_follow kept last old new _ b (goes_on seen _ chain) before behind to octets is =
    sent_durable old.server before behind to octets (turns_in seen) (at_first kept last) (subst (Along old.server (turns_in seen) (at_first kept last)) is (steps_go kept last old new seen b chain).along)
replies_follow kept last old new _ b (ends seen mid end _ chain (store_fails life t calls readings server waiting takes fails)) before behind to octets is =
    sent_durable old.server before behind to octets (turns_in (seen ++ end ∷ [])) (at_first kept last)
    (subst (Along old.server (turns_in (seen ++ end ∷ [])) (at_first kept last)) is
    (end_along kept last old mid seen end b chain (λ g. store_failed old.server (turns_in seen) mid.server mid.waiting _ g life t calls readings server waiting takes fails)))
replies_follow kept last old new _ b (ends seen mid end _ chain (look_fails day at calls clear onward fails)) before behind to octets is =
    sent_durable old.server before behind to octets (turns_in (seen ++ end ∷ [])) (at_first kept last)
    (subst (Along old.server (turns_in (seen ++ end ∷ [])) (at_first kept last)) is
    (end_along kept last old mid seen end b chain (λ g. look_failed old.server (turns_in seen) mid.server mid.waiting _ g day at calls fails)))
replies_follow kept last old new _ b (ends seen mid end _ chain (renewal_fails clear)) before behind to octets is =
    let failed : DeviceCall = on_store renewal_failed in
    let at = sent_inside (calls_in seen) failed before behind to octets (λ e. absurd cc) (split_last (calls_in seen) failed before (on_port (sent to octets) ∷ behind) (sym (calls_last seen (record { took = None; calls = failed ∷ [] })) ∙ is)) in
    sent_durable old.server before at.0 to octets (turns_in seen) (at_first kept last) (subst (Along old.server (turns_in seen) (at_first kept last)) at.1 (steps_go kept last old mid seen b chain).along)

-- ---- a crash

earlier_in : (first : ServerValue) (turns more : List Turn) (gone : List DatagramValue) (last : ℕ) (left : List Change) → turns ≡ more → IsEarlier first turns gone last left → IsEarlier first more gone last left
earlier_in first turns more gone last left same e = subst (λ (ts : List Turn). IsEarlier first ts gone last left) same e

failed_keeps : (calls : List StoreCall) (kept : Kept) → after_calls (calls ++ renewal_failed ∷ []) kept ≡ after_calls calls kept
failed_keeps [] kept = refl
failed_keeps (call ∷ calls) kept = failed_keeps calls (after_call call kept)

last_stays : (calls : List StoreCall) (kept : Kept) (last : ℕ) → last_after kept (calls ++ renewal_failed ∷ []) last ≡ last_after kept calls last
last_stays [] kept last = refl
last_stays (call ∷ calls) kept last = last_stays calls (after_call call kept) (last_by call kept last)

none_behind : (xs : List StoreCall) (x : StoreCall) → xs ++ x ∷ [] ≡ [] → ⊥
none_behind [] x e = absurd cc
none_behind (y ∷ xs) x e = absurd cc

-- the calls before the last
all_before : (xs ys : List StoreCall) (x y : StoreCall) → xs ++ x ∷ [] ≡ ys ++ y ∷ [] → xs ≡ ys
all_before [] [] x y e = refl
all_before [] (z ∷ ys) x y e = let none : ys ++ y ∷ [] ≡ [] = cc in absurd (none_behind ys y none)
all_before (z ∷ xs) [] x y e = let none : xs ++ x ∷ [] ≡ [] = cc in absurd (none_behind xs x none)
all_before (w ∷ xs) (z ∷ ys) x y e = let rest : xs ++ x ∷ [] ≡ ys ++ y ∷ [] = cc in let first : w ≡ z = cc in ap (λ (c : StoreCall). c ∷ xs) first ∙ ap (λ (cs : List StoreCall). z ∷ cs) (all_before xs ys x y rest)

-- The failed renewal is the last call: it is as if it weren't, or all of the new file is left.
data Renewal (kept : Kept) (calls : List StoreCall) (last : ℕ) (left : List Change) (time : ℕ) : Type 0 where
  as_before : (m : MayLeaveAfter kept calls left) → last_left last m ≡ time → Renewal kept calls last left time
  as_new : (draft : Draft) → (after_calls calls kept).draft ≡ Some draft → left ≡ draft.changes → draft.last ≡ time → Renewal kept calls last left time

renewal_left : (calls : List StoreCall) (kept : Kept) (last : ℕ) (left : List Change) (m : MayLeaveAfter kept (calls ++ renewal_failed ∷ []) left) → Renewal kept calls last left (last_left last m)
renewal_left calls kept last left (first_changes m) = as_before (first_changes (subst (λ (k : Kept). MayLeave k.changes k.durable left) (failed_keeps calls kept) m)) (sym (last_stays calls kept last))
renewal_left calls kept last left (as_drafted before draft same there is) =
    as_new draft (subst (λ (cs : List StoreCall). (after_calls cs kept).draft ≡ Some draft) (sym (all_before calls before renewal_failed renewal_failed same)) there) is refl

stored-append : (xs ys : List DeviceCall) → stored_in (xs ++ ys) ≡ stored_in xs ++ stored_in ys
stored-append [] ys = refl
stored-append (on_port call ∷ xs) ys = stored-append xs ys
stored-append (on_store call ∷ xs) ys = ap (λ (cs : List StoreCall). call ∷ cs) (stored-append xs ys)

gone_same : (xs : List DeviceCall) (call : StoreCall) → gone_in (xs ++ on_store call ∷ []) ≡ gone_in xs
gone_same [] call = refl
gone_same (on_port nothing_came ∷ xs) call = gone_same xs call
gone_same (on_port (came from octets) ∷ xs) call = gone_same xs call
gone_same (on_port receive_failed ∷ xs) call = gone_same xs call
gone_same (on_port (sent to octets) ∷ xs) call = ap (λ (ds : List DatagramValue). record { route = to; octets = octets } ∷ ds) (gone_same xs call)
gone_same (on_port (send_failed to octets) ∷ xs) call = ap (λ (ds : List DatagramValue). record { route = to; octets = octets } ∷ ds) (gone_same xs call)
gone_same (on_store other ∷ xs) call = gone_same xs call

gone_by_is : (xs : List DeviceCall) (p : Past) → (by_calls xs p).gone ≡ p.gone ++ gone_in xs
gone_by_is [] p = sym (append-nil p.gone)
gone_by_is (x ∷ xs) p = gone_by_is xs (by_call x p) ∙ gone_on x xs p

kept_by_is : (xs : List DeviceCall) (p : Past) → (by_calls xs p).kept ≡ after_calls (stored_in xs) p.kept
kept_by_is [] p = refl
kept_by_is (on_port nothing_came ∷ xs) p = kept_by_is xs p
kept_by_is (on_port (came from octets) ∷ xs) p = kept_by_is xs p
kept_by_is (on_port receive_failed ∷ xs) p = kept_by_is xs p
kept_by_is (on_port (sent to octets) ∷ xs) p = kept_by_is xs (by_call (on_port (sent to octets)) p)
kept_by_is (on_port (send_failed to octets) ∷ xs) p = kept_by_is xs (by_call (on_port (send_failed to octets)) p)
kept_by_is (on_store call ∷ xs) p = kept_by_is xs (by_call (on_store call) p)

-- a crash at the calls before the failed renewal, or within it
in_renewal : (kept : Kept) (last : ℕ) (old mid : Held) (seen : List Seen) (before behind : List DeviceCall) (left : List Change) → Begins kept last old → Chain Steps old seen mid
    → Splits (calls_in seen) (on_store renewal_failed) before behind → (m : MayLeaveAfter kept (stored_in before) left) → IsEarlier old.server (turns_in seen) (gone_in before) (last_left last m) left
in_renewal kept last old mid seen before behind left b chain (inside rest is end) m =
    crashed old.server before rest (turns_in seen) (at_first kept last) left (subst (Along old.server (turns_in seen) (at_first kept last)) is (steps_go kept last old mid seen b chain).along) m
in_renewal kept last old mid seen before behind left b chain (at_end is none) m = by_end before is m
  where
    calls : List DeviceCall
    calls = calls_in seen

    g : Goes old.server (turns_in seen) mid.server mid.waiting (at_first kept last) calls
    g = steps_go kept last old mid seen b chain

    -- what the new file has
    drafted : (draft : Draft) → (after_calls (stored_in calls) kept).draft ≡ Some draft → Drafted mid.server (durable_then mid.waiting.durable mid.waiting.unsynced) (Some draft)
    drafted draft there = subst (Drafted mid.server (durable_then mid.waiting.durable mid.waiting.unsynced)) (ap (λ (k : Kept). k.draft) (kept_by_is calls (at_first kept last)) ∙ there) g.good.drafted

    by_kind : (time : ℕ) → Renewal kept (stored_in calls) last left time → IsEarlier old.server (turns_in seen) (gone_in calls) time left
    by_kind time (as_before n same) =
        subst (λ (l : ℕ). IsEarlier old.server (turns_in seen) (gone_in calls) l left) same (crashed old.server calls [] (turns_in seen) (at_first kept last) left (subst (Along old.server (turns_in seen) (at_first kept last)) (sym (append-nil calls)) g.along) n)
    by_kind time (as_new draft there all same) = record {
      front = turns_in seen;
      back = [];
      asked = [];
      server = mid.server;
      turns_are = sym (append-nil (turns_in seen));
      some = nothing;
      answers = tt;
      run = subst (λ (ts : List Turn). Chain Turns old.server ts mid.server) (sym (append-nil (turns_in seen))) g.good.run;
      leases = subst (λ (cs : List Change). IsKept (after_all cs no_leases) mid.server) (sym all) (drafted draft there).0;
      stand = subst (λ (cs : List Change). AllStand Three cs no_leases) (sym all) (drafted draft there).1;
      replies =
          subst (λ (ts : List Turn). AreAmong (gone_in calls) (replies_in ts)) (sym (append-nil (turns_in seen)))
          (among_front (gone_in calls) (datagrams mid.waiting.replies) (replies_in (turns_in seen))
          (subst (λ (ds : List DatagramValue). AreAmong (ds ++ datagrams mid.waiting.replies) (replies_in (turns_in seen))) (gone_by_is calls (at_first kept last)) g.good.replies));
      soon =
          subst (λ (cs : List Change). mid.server.last ≤ last_of time cs + reach) (sym all)
          (subst (λ (l : ℕ). mid.server.last ≤ last_of l draft.changes + reach) same (let l = then_later mid.waiting.durable mid.waiting.unsynced in let d = (drafted draft there).2 in let s = g.good.soon in omega (arith, l, d, s)));
    }

    by_end : (before : List DeviceCall) → before ≡ calls ++ on_store renewal_failed ∷ [] → (m : MayLeaveAfter kept (stored_in before) left) → IsEarlier old.server (turns_in seen) (gone_in before) (last_left last m) left
    by_end before is m =
        let stored : stored_in before ≡ stored_in calls ++ renewal_failed ∷ [] = ap stored_in is ∙ stored-append calls (on_store renewal_failed ∷ []) in
        subst (λ (ds : List DatagramValue). IsEarlier old.server (turns_in seen) ds (last_left last m) left) (sym (ap gone_in is ∙ gone_same calls renewal_failed)) (by_calls_of (stored_in before) stored m)
      where
        renewal_as : (stored : List StoreCall) → stored ≡ stored_in calls ++ renewal_failed ∷ [] → (m : MayLeaveAfter kept stored left) → Renewal kept (stored_in calls) last left (last_left last m)
        renewal_as stored is m = subst (λ (cs : List StoreCall). (n : MayLeaveAfter kept cs left) → Renewal kept (stored_in calls) last left (last_left last n)) (sym is) (renewal_left (stored_in calls) kept last left) m

        by_calls_of : (stored : List StoreCall) → stored ≡ stored_in calls ++ renewal_failed ∷ [] → (m : MayLeaveAfter kept stored left) → IsEarlier old.server (turns_in seen) (gone_in calls) (last_left last m) left
        by_calls_of stored is m = by_kind (last_left last m) (renewal_as stored is m)

pub crash_leaves : CrashLeavesAnEarlierServer
crash_leaves kept last old new _ b (goes_on seen _ chain) before behind left is m =
    crashed old.server before behind (turns_in seen) (at_first kept last) left (subst (Along old.server (turns_in seen) (at_first kept last)) is (steps_go kept last old new seen b chain).along) m
crash_leaves kept last old new _ b (ends seen mid end _ chain (store_fails life t calls readings server waiting takes fails)) before behind left is m =
    crashed old.server before behind (turns_in (seen ++ end ∷ [])) (at_first kept last) left
    (subst (Along old.server (turns_in (seen ++ end ∷ [])) (at_first kept last)) is
    (end_along kept last old mid seen end b chain (λ g. store_failed old.server (turns_in seen) mid.server mid.waiting _ g life t calls readings server waiting takes fails))) m
crash_leaves kept last old new _ b (ends seen mid end _ chain (look_fails day at calls clear onward fails)) before behind left is m =
    crashed old.server before behind (turns_in (seen ++ end ∷ [])) (at_first kept last) left
    (subst (Along old.server (turns_in (seen ++ end ∷ [])) (at_first kept last)) is
    (end_along kept last old mid seen end b chain (λ g. look_failed old.server (turns_in seen) mid.server mid.waiting _ g day at calls fails))) m
crash_leaves kept last old new _ b (ends seen mid end _ chain (renewal_fails clear)) before behind left is m =
    let failed : DeviceCall = on_store renewal_failed in
    earlier_in old.server (turns_in seen) _ (gone_in before) (last_left last m) left (sym (turns_last seen end ∙ append-nil (turns_in seen)))
    (in_renewal kept last old mid seen before behind left b chain (split_last (calls_in seen) failed before behind (sym (calls_last seen (record { took = None; calls = failed ∷ [] })) ∙ is)) m)
