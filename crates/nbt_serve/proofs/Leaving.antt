-- What waits leaves: the calls of a store and of a port as calls of both.
use Rattle.std.proofs.Common.{◌≡◌, ℕ, ◌+◌, true, false, ⊎_elim, List, [], ◌∷◌, ◌++◌, map, refl, sym, ap, subst, ◌∙◌, Result, Ok, Err}
use Rattle.std.specs.Prelude.{is_some, nat_le, filter, OnErr}
use Rattle.std.proofs.lemmas.List.{append_assoc, map-append}
use Rattle.nbt_lease.proofs.Common.{cases_Bool}
use Rattle.nbt_port.specs.PortCalls.{PortCall, sent, send_failed, Chain}
use Rattle.nbt_port.proofs.Chains.{chain-append}
use Rattle.nbt_store.specs.Calls.{StoreCall, sync_failed}
use Rattle.nbt_serve.specs.Devices.{DeviceCall, on_port, on_store, DeviceDoes}
use Rattle.nbt_serve.specs.Waiting.{ReplyValue, WaitingValue, all_durable, dropped, syncs_of, sends_of, timely, leaving, value_of}
use Rattle.nbt_serve.specs.Turning.{LeavingFails, sync_fails, send_fails}
use Rattle.nbt_serve.specs.declared.waiting.Reply.{Reply}
use Rattle.nbt_serve.specs.declared.fault.KeepFault.TheVariants as fault

-- a refusal that says this says that
pub err_weaker : {A E : Type 0} {P Q : Type 0} (r : Result A E) → (P → Q) → OnErr r P → OnErr r Q
err_weaker (Ok done) f was = tt
err_weaker (Err why) f was = f was

module _ {P S : Type 0} (does : P → PortCall → P → Type 0) (keeps : S → StoreCall → S → Type 0) where
  pub by_port : (p q : P) (s : S) (calls : List PortCall) → Chain does p calls q → Chain (DeviceDoes does keeps) (record { port = p; store = s }) (map on_port calls) (record { port = q; store = s })
  by_port p q s [] chain = ap (λ (x : P). record { port = x; store = s }) chain
  by_port p q s (call ∷ calls) chain = (record { port = chain.0; store = s }, (chain.1, refl), by_port chain.0 q s calls chain.2)

  pub by_store : (p : P) (s t : S) (calls : List StoreCall) → Chain keeps s calls t → Chain (DeviceDoes does keeps) (record { port = p; store = s }) (map on_store calls) (record { port = p; store = t })
  by_store p s t [] chain = ap (λ (x : S). record { port = p; store = x }) chain
  by_store p s t (call ∷ calls) chain = (record { port = p; store = chain.0 }, (chain.1, refl), by_store p chain.0 t calls chain.2)

  -- calls of the store, and then of the port
  pub both : (p q : P) (s t : S) (stored : List StoreCall) (posted : List PortCall) → Chain keeps s stored t → Chain does p posted q
      → Chain (DeviceDoes does keeps) (record { port = p; store = s }) (map on_store stored ++ map on_port posted) (record { port = q; store = t })
  both p q s t stored posted kept did =
      chain-append (DeviceDoes does keeps) (record { port = p; store = s }) (record { port = p; store = t }) (record { port = q; store = t }) (map on_store stored) (map on_port posted) (by_store p s t stored kept) (by_port p q t posted did)

  pub one_failed : (p : P) (s t : S) → keeps s sync_failed t → Chain (DeviceDoes does keeps) (record { port = p; store = s }) (on_store sync_failed ∷ []) (record { port = p; store = t })
  one_failed p s t did = (record { port = p; store = t }, (did, refl), refl)

-- one reply more was sent
pub sent_more : {P : Type 0} (does : P → PortCall → P → Type 0) (p q r : P) (before : List ReplyValue) (reply : ReplyValue) → Chain does p (sends_of before) q → does q (sent reply.datagram.route reply.datagram.octets) r
    → Chain does p (sends_of (before ++ reply ∷ [])) r
sent_more does p q r before reply chain did =
    subst (λ (cs : List PortCall). Chain does p cs r) (sym (map-append (λ (d : ReplyValue). sent d.datagram.route d.datagram.octets) before (reply ∷ [])))
    (chain-append does p q r (sends_of before) (sent reply.datagram.route reply.datagram.octets ∷ []) chain (r, did, refl))

-- or that failed
pub sent_failed : {P : Type 0} (does : P → PortCall → P → Type 0) (p q r : P) (before : List ReplyValue) (reply : ReplyValue) → Chain does p (sends_of before) q → does q (send_failed reply.datagram.route reply.datagram.octets) r
    → Chain does p (sends_of before ++ send_failed reply.datagram.route reply.datagram.octets ∷ []) r
sent_failed does p q r before reply chain did = chain-append does p q r (sends_of before) (send_failed reply.datagram.route reply.datagram.octets ∷ []) chain (r, did, refl)

-- the first reply goes, and those behind it are left
pub one_further : (before : List ReplyValue) (reply : Reply) (all rest : List Reply) (first : List ReplyValue) → all ≡ reply ∷ rest → before ++ map value_of all ≡ first → (before ++ value_of reply ∷ []) ++ map value_of rest ≡ first
one_further before reply all rest first is left = append_assoc before (value_of reply ∷ []) (map value_of rest) ∙ (ap (λ (rs : List Reply). before ++ map value_of rs) (sym is) ∙ left)

pub one_lost : (before : List ReplyValue) (reply : Reply) (all rest : List Reply) (first : List ReplyValue) → all ≡ reply ∷ rest → before ++ map value_of all ≡ first → first ≡ before ++ value_of reply ∷ map value_of rest
one_lost before reply all rest first is left = sym left ∙ ap (λ (rs : List Reply). before ++ map value_of rs) is

-- the replies that are in time, of those that the queue has
pub timely_of : (life now : ℕ) (replies : List Reply) → map value_of (filter (λ (reply : Reply). nat_le now (reply.read + life)) replies) ≡ timely life now (map value_of replies)
timely_of life now [] = refl
timely_of life now (r ∷ rs) =
    let rest = timely_of life now rs in
    ⊎_elim
    (λ (is : nat_le now (r.read + life) ≡ true). rw is (ap (λ (vs : List ReplyValue). value_of r ∷ vs) rest))
    (λ (is : nat_le now (r.read + life) ≡ false). rw is rest)
    (cases_Bool (nat_le now (r.read + life)))

-- ---- what waits leaves, by what its parts returned

module _ {P S C : Type 0} (does : P → PortCall → P → Type 0) (keeps : S → StoreCall → S → Type 0) (tells : C → ℕ → C → Type 0) (p q : P) (s t : S) (c d : C) (life now : ℕ) (old mid later new : WaitingValue) where
  abbrev Calls : List DeviceCall → Type 0
  Calls calls = Chain (DeviceDoes does keeps) (record { port = p; store = s }) calls (record { port = q; store = t })

  timely_is : mid ≡ all_durable old → later ≡ record mid { replies = timely life now mid.replies } → later ≡ record (all_durable old) { replies = timely life now old.replies }
  timely_is mid_is later_is = later_is ∙ ap (λ (w : WaitingValue). record w { replies = timely life now w.replies }) mid_is

  pub all_left : Chain keeps s (syncs_of old.unsynced) t → mid ≡ all_durable old → tells c now d → later ≡ record mid { replies = timely life now mid.replies } → Chain does p (sends_of later.replies) q → new ≡ record later { replies = [] }
      → Calls (leaving life now old) × Chain tells c (now ∷ []) d × (new ≡ dropped (all_durable old))
  all_left kept mid_is told later_is did new_is = (
    both does keeps p q s t (syncs_of old.unsynced) (sends_of (timely life now old.replies)) kept (subst (λ (w : WaitingValue). Chain does p (sends_of w.replies) q) (timely_is mid_is later_is) did),
    (d, told, refl),
    new_is ∙ ap (λ (w : WaitingValue). record w { replies = [] }) (timely_is mid_is later_is),
  )

  pub one_left : Chain keeps s (syncs_of old.unsynced) t → mid ≡ all_durable old → tells c now d → later ≡ record mid { replies = timely life now mid.replies }
      → ((before : List ReplyValue) × (lost : ReplyValue) × (later.replies ≡ before ++ lost ∷ new.replies) × Chain does p (sends_of before ++ send_failed lost.datagram.route lost.datagram.octets ∷ []) q × (new ≡ record later { replies = new.replies }))
      → (calls : List DeviceCall) × (readings : List ℕ) × LeavingFails life old fault.Port calls readings new × Calls calls × Chain tells c readings d
  one_left kept mid_is told later_is failed =
      let calls = map on_store (syncs_of old.unsynced) ++ map on_port (sends_of failed.0 ++ send_failed failed.1.datagram.route failed.1.datagram.octets ∷ []) in
      let new_is : record (all_durable old) { replies = new.replies } ≡ new = sym (failed.4 ∙ ap (λ (w : WaitingValue). record w { replies = new.replies }) (timely_is mid_is later_is)) in (
        calls,
        now ∷ [],
        subst (LeavingFails life old fault.Port calls (now ∷ [])) new_is (send_fails now failed.0 failed.1 new.replies (sym (ap (λ (w : WaitingValue). w.replies) (timely_is mid_is later_is)) ∙ failed.2)),
        both does keeps p q s t (syncs_of old.unsynced) (sends_of failed.0 ++ send_failed failed.1.datagram.route failed.1.datagram.octets ∷ []) kept failed.3,
        (d, told, refl),
      )

pub none_left : {P S C : Type 0} (does : P → PortCall → P → Type 0) (keeps : S → StoreCall → S → Type 0) (tells : C → ℕ → C → Type 0) (p : P) (s t : S) (c : C) (life : ℕ) (old new : WaitingValue) → (is_some old.unsynced ≡ true) × keeps s sync_failed t × (new ≡ dropped old)
    → (calls : List DeviceCall) × (readings : List ℕ) × LeavingFails life old fault.Store calls readings new × Chain (DeviceDoes does keeps) (record { port = p; store = s }) calls (record { port = p; store = t }) × Chain tells c readings c
none_left does keeps tells p s t c life old new failed =
    (on_store sync_failed ∷ [], [], subst (LeavingFails life old fault.Store (on_store sync_failed ∷ []) []) (sym failed.2) (sync_fails failed.0), one_failed does keeps p s t failed.1, refl)
