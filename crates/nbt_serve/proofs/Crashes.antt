-- What a crash leaves, call by call, of a server that keeps its leases.
use Rattle.std.proofs.Common.{◌≡◌, ℕ, ◌+◌, ◌≤◌, true, Bool, List, [], ◌∷◌, ◌++◌, length, take, map, Option, Some, None, inl, inr, refl, sym, ap, ◌∙◌, subst, ⊎_elim, arith}
use Rattle.std.specs.Prelude.{max, nat_le, nat_lt, filter, is_some}
use Rattle.std.specs.List.{flat_map}
use Rattle.std.proofs.Math.Nat.{le-max_left, le-max_right, max-le}
use Rattle.std.proofs.lemmas.Bool.{cases_lt, ltb-false}
use Rattle.std.proofs.lemmas.List.{take_all, take-append-le, length-append, append_assoc, append-nil, map-append}
use Rattle.std.proofs.lemmas.List.Concat.{flat_map-append}
use Rattle.std.proofs.lemmas.List.Quantifiers.{Any-push}
use Rattle.nbt_lease.specs.Lease.{Leases}
use Rattle.nbt_lease.proofs.Common.{cases_Bool, NameValue}
use Rattle.nbt_packet.specs.Message.{MessageValue}
use Rattle.nbt_port.specs.Memory.{DatagramValue}
use Rattle.nbt_port.specs.PortCalls.{sent, send_failed, Chain}
use Rattle.nbt_port.proofs.Chains.{chain_on}
use Rattle.nbt_server.specs.Serving.{ServerValue}
use Rattle.nbt_store.specs.declared.change.Change.{Change}
use Rattle.nbt_store.specs.declared.change.Change.TheVariants.{Reached}
use Rattle.nbt_store.specs.declared.form.Form.TheVariants.{Three}
use Rattle.nbt_store.specs.Lines.{AllStand}
use Rattle.nbt_store.specs.Calls.{StoreCall, appended, append_failed, synced, sync_failed, renewal_failed, Draft, Kept, after_call, with_change}
use Rattle.nbt_store.specs.Changes.{after, after_all, at_of, last_of, no_leases, Stands}
use Rattle.nbt_packet.specs.Text.{text}
use Rattle.nbt_port.specs.declared.port.Route.{Route}
use Rattle.nbt_server.specs.Calls.{ServerTakes}
use Rattle.nbt_serve.specs.Serving.{Turn, is_empty, is_taken, is_lost, moments_in, Turns, passes, takes, goes_back, has_no_memory}
use Rattle.nbt_serve.specs.Changing.{IsKept}
use Rattle.nbt_serve.specs.Devices.{DeviceCall, on_port, on_store}
use Rattle.nbt_serve.specs.Waiting.{ReplyValue, WaitingValue, IsAbout, counted, one_less, with_line, durable_then, all_durable, dropped, lay_down, laid_down, LineFails, not_appended, not_synced, syncs_of, sends_of, timely, leaving}
use Rattle.nbt_serve.specs.declared.waiting.Unsynced.{Unsynced}
use Rattle.nbt_serve.specs.Turning.{Barred, Took, Takes, reply_in, about_in, answered, asked_for, receive_in, reach, reached, with_lines, before_it, with_any, behind_it, appends_of, behind, taking}
use Rattle.nbt_serve.specs.Runs.{IsEarlier, nothing, AreAmong, AreAnswers, last_by, replies_in, MayBeSent}
use Rattle.nbt_serve.proofs.Left.{stand_more, out_behind, out_on, last_on, last_at}
use Rattle.nbt_serve.proofs.Among.{among_behind, among_inside, among_front, among_without}
use Rattle.nbt_serve.proofs.Asked.{AreAlike, any_front, one_other, alike_run, turn_onward, live_alike, taken_too, server_after}
use Rattle.nbt_serve.proofs.Told.{kept_at, is_kept}

-- ---- one call

-- what is kept, LAST of the file's header, and what has left
pub record Past : Type 0 where
  pub kept : Kept
  pub last : ℕ
  pub gone : List DatagramValue

abbrev pub one_gone : DatagramValue → Past → Past
one_gone reply p = record p { gone = p.gone ++ reply ∷ [] }

abbrev pub by_call : DeviceCall → Past → Past
by_call (on_port (sent to octets)) p = one_gone (record { route = to; octets = octets }) p
by_call (on_port (send_failed to octets)) p = one_gone (record { route = to; octets = octets }) p
by_call (on_port call) p = p
by_call (on_store call) p = record p { kept = after_call call p.kept; last = last_by call p.kept p.last }

-- a reply is sent only where it may be, and no renewal fails
abbrev pub May : Past → DeviceCall → Type 0
May p (on_port (sent to octets)) = MayBeSent p.kept octets
May p (on_store renewal_failed) = ⊥
May p call = Unit {0}

abbrev pub by_calls : List DeviceCall → Past → Past
by_calls [] p = p
by_calls (call ∷ calls) p = by_calls calls (by_call call p)

by_calls-append : (xs ys : List DeviceCall) (p : Past) → by_calls (xs ++ ys) p ≡ by_calls ys (by_calls xs p)
by_calls-append [] ys p = refl
by_calls-append (x ∷ xs) ys p = by_calls-append xs ys (by_call x p)

all_then : (changes : List Change) (change : Change) (start : Leases) → after_all (changes ++ change ∷ []) start ≡ after change (after_all changes start)
all_then [] change start = refl
all_then (c ∷ cs) change start = all_then cs change (after c start)

-- ---- times

pub then_later : (durable : ℕ) (unsynced : Option Unsynced) → durable ≤ durable_then durable unsynced
then_later durable None = omega arith
then_later durable (Some unsynced) = le-max_left durable unsynced.at

lines_later : (moments : List ℕ) (w : WaitingValue) → w.durable ≤ (with_lines (map Reached moments) w).durable
lines_later [] w = omega arith
lines_later (m ∷ ms) w = let h = lines_later ms (laid_down (Reached m) w) in let l = le-max_left w.durable m in omega (arith, h, l)

-- a datagram that is handled at this moment
within : (now : ℕ) (w : WaitingValue) → now ≤ (with_lines (reached w.durable (now ∷ [])) w).durable + reach
within now w =
    ⊎_elim
    (λ past. rw past (let l = le-max_right w.durable now in omega (arith, l)))
    (λ near. rw near (let l = ltb-false (w.durable + reach) now near in omega (arith, l)))
    (cases_Bool (nat_lt (w.durable + reach) now))

-- the server's time after a turn isn't too far past the durable one
pub turn_soon : (old new : ServerValue) (turn : Turn) (w : WaitingValue) → Turns old turn new → old.last ≤ w.durable + reach → new.last ≤ (before_it turn w).durable + reach
turn_soon old _ _ w passes soon = soon
turn_soon old _ _ w (takes now from octets reply new does) soon = let l = within now w in let e = does.last in omega (arith, l, e)
turn_soon old _ _ w (goes_back now from octets early) soon = let l = later now w in omega (arith, l, soon)
  where
    later : (now : ℕ) (w : WaitingValue) → w.durable ≤ (with_lines (reached w.durable (now ∷ [])) w).durable
    later now w = lines_later (filter (λ moment. nat_lt (w.durable + reach) moment) (now ∷ [])) w
turn_soon old _ _ w (has_no_memory now from octets new forgets) soon = let l = within now w in let e = forgets.last in omega (arith, l, e)

-- ---- what holds between calls

-- A new file, if there is one, has the server's live leases, and its last time isn't before this one.
abbrev pub Drafted : ServerValue → (time : ℕ) → Option Draft → Type 0
Drafted server time None = Unit {0}
Drafted server time (Some draft) = IsKept (after_all draft.changes no_leases) server × AllStand Three draft.changes no_leases × (time ≤ last_of draft.last draft.changes)

-- also of a later server, of which no lease that is kept changed
drafted_on : (server new : ServerValue) (time later : ℕ) (draft : Option Draft) → ((kept : Leases) → IsKept kept server → IsKept kept new) → later ≤ time → Drafted server time draft → Drafted new later draft
drafted_on server new time later None keeps less d = tt
drafted_on server new time later (Some draft) keeps less d = (keeps (after_all draft.changes no_leases) d.0, d.1, let l = d.2 in omega (arith, less, l))

-- and with a change more
drafted_more : (server new : ServerValue) (time later : ℕ) (change : Change) (draft : Option Draft) → ((kept : Leases) → IsKept kept server → IsKept (after change kept) new) → ((kept : Leases) → IsKept kept server → Stands change kept)
    → later ≤ max time (at_of change) → Drafted server time draft → Drafted new later (with_change change draft)
drafted_more server new time later change None keeps stands less d = tt
drafted_more server new time later change (Some draft) keeps stands less d = (
  subst (λ (f : Leases). IsKept f new) (sym (all_then draft.changes change no_leases)) (keeps (after_all draft.changes no_leases) d.0),
  stand_more draft.changes change no_leases d.1 (stands (after_all draft.changes no_leases) d.0),
  let l = last_on draft.last draft.changes change in let a = last_at draft.last draft.changes change in let t = d.2 in omega (arith, less, l, a, t),
)

abbrev pub datagrams : List ReplyValue → List DatagramValue
datagrams replies = map (λ reply. reply.datagram) replies

module _ (first : ServerValue) where
  -- what a crash may leave now
  abbrev pub Safe : List Turn → Past → Type 0
  Safe turns p = (count : ℕ) → p.kept.durable ≤ count → count ≤ length p.kept.changes → IsEarlier first turns p.gone p.last (take count p.kept.changes)

  -- and at each of these calls
  abbrev pub Along : List Turn → Past → List DeviceCall → Type 0
  Along turns p [] = Safe turns p
  Along turns p (call ∷ calls) = Safe turns p × May p call × Along turns (by_call call p) calls

  -- An earlier server, whose time is at most this, and what is left of what is kept: also of the durable time, and of each name about which no
  -- reply waits.
  pub record At (turns : List Turn) (most durable : ℕ) (replies : List ReplyValue) (gone : List DatagramValue) (last : ℕ) (kept left : List Change) : Type 0 where
    pub earlier : IsEarlier first turns gone last left
    pub time : earlier.server.last ≤ most
    pub late : durable ≤ last_of last left
    pub rest : (name : NameValue) → ¬ IsAbout name replies → after_all left no_leases name ≡ after_all kept no_leases name

  abbrev pub Sound : List Turn → ServerValue → WaitingValue → Past → Type 0
  Sound turns server w p = (count : ℕ) → p.kept.durable ≤ count → count ≤ length p.kept.changes → At turns server.last w.durable w.replies p.gone p.last p.kept.changes (take count p.kept.changes)

  -- what holds between the calls, of all turns by then, their server and what waits
  pub record Good (turns : List Turn) (server : ServerValue) (w : WaitingValue) (p : Past) : Type 0 where
    pub run : Chain Turns first turns server
    pub leases : IsKept (after_all p.kept.changes no_leases) server
    pub stand : AllStand Three p.kept.changes no_leases
    pub sound : Sound turns server w p
    pub replies : AreAmong (p.gone ++ datagrams w.replies) (replies_in turns)
    pub all : w.unsynced ≡ None → p.kept.durable ≡ length p.kept.changes
    pub times : durable_then w.durable w.unsynced ≤ last_of p.last p.kept.changes
    pub soon : server.last ≤ w.durable + reach
    pub drafted : Drafted server (durable_then w.durable w.unsynced) p.kept.draft

  pub safe_of : (turns : List Turn) (server : ServerValue) (w : WaitingValue) (p : Past) → Good turns server w p → Safe turns p
  safe_of turns server w p g = λ count least most. (g.sound count least most).earlier

  -- after these calls
  pub record Goes (turns : List Turn) (server : ServerValue) (w : WaitingValue) (p : Past) (calls : List DeviceCall) : Type 0 where
    pub along : Along turns p calls
    pub good : Good turns server w (by_calls calls p)

  abbrev earlier_more : (turns more : List Turn) (gone : List DatagramValue) (last : ℕ) (left : List Change) → IsEarlier first turns gone last left → IsEarlier first (turns ++ more) gone last left
  earlier_more turns more gone last left e = record {
    front = e.front;
    back = e.back ++ more;
    asked = e.asked;
    server = e.server;
    turns_are = ap (λ (ts : List Turn). ts ++ more) e.turns_are ∙ append_assoc e.front e.back more;
    some = out_on e.asked e.back more e.some;
    answers = e.answers;
    run = e.run;
    leases = e.leases;
    stand = e.stand;
    replies = e.replies;
    soon = e.soon;
  }

  pub safe_more : (turns more : List Turn) (p : Past) → Safe turns p → Safe (turns ++ more) p
  safe_more turns more p safe = λ count least most. earlier_more turns more p.gone p.last (take count p.kept.changes) (safe count least most)

  pub along_more : (turns more : List Turn) (calls : List DeviceCall) (p : Past) → Along turns p calls → Along (turns ++ more) p calls
  along_more turns more [] p a = safe_more turns more p a
  along_more turns more (call ∷ calls) p a = (safe_more turns more p a.0, a.1, along_more turns more calls (by_call call p) a.2)

  pub along-append : (turns : List Turn) (xs ys : List DeviceCall) (p : Past) → Along turns p xs → Along turns (by_calls xs p) ys → Along turns p (xs ++ ys)
  along-append turns [] ys p a b = b
  along-append turns (x ∷ xs) ys p a b = (a.0, a.1, along-append turns xs ys (by_call x p) a.2 b)

  -- what a crash leaves of all of it
  whole : (turns : List Turn) (server : ServerValue) (durable : ℕ) (replies : List ReplyValue) (p : Past) → Chain Turns first turns server → IsKept (after_all p.kept.changes no_leases) server → AllStand Three p.kept.changes no_leases
      → AreAmong (p.gone ++ datagrams replies) (replies_in turns) → durable ≤ last_of p.last p.kept.changes → server.last ≤ durable + reach → At turns server.last durable replies p.gone p.last p.kept.changes p.kept.changes
  whole turns server durable replies p run leases stand are late soon = record {
    earlier = record {
      front = turns;
      back = [];
      asked = [];
      server = server;
      turns_are = sym (append-nil turns);
      some = nothing;
      answers = tt;
      run = subst (λ (ts : List Turn). Chain Turns first ts server) (sym (append-nil turns)) run;
      leases = leases;
      stand = stand;
      replies = subst (λ (ts : List Turn). AreAmong p.gone (replies_in ts)) (sym (append-nil turns)) (among_front p.gone (datagrams replies) (replies_in turns) are);
      soon = omega (arith, late, soon);
    };
    time = omega arith;
    late = late;
    rest = λ name not. refl;
  }

  -- all is durable
  pub durable_good : (turns : List Turn) (server : ServerValue) (w : WaitingValue) (p : Past) → Chain Turns first turns server → IsKept (after_all p.kept.changes no_leases) server → AllStand Three p.kept.changes no_leases → AreAmong (p.gone ++ datagrams w.replies) (replies_in turns)
      → p.kept.durable ≡ length p.kept.changes → durable_then w.durable w.unsynced ≤ last_of p.last p.kept.changes → server.last ≤ w.durable + reach → Drafted server (durable_then w.durable w.unsynced) p.kept.draft → Good turns server w p
  durable_good turns server w p run leases stand are all times soon drafted = record {
    run = run;
    leases = leases;
    stand = stand;
    sound = λ count least most.
        subst (At turns server.last w.durable w.replies p.gone p.last p.kept.changes) (sym (take_all count p.kept.changes (omega (arith, all, least))))
        (whole turns server w.durable w.replies p run leases stand are (let l = then_later w.durable w.unsynced in omega (arith, l, times)) soon);
    replies = are;
    all = λ _. all;
    times = times;
    soon = soon;
    drafted = drafted;
  }

  -- ---- the parts of a step

  -- nothing is called
  still : (turns : List Turn) (server : ServerValue) (w : WaitingValue) (p : Past) → Good turns server w p → Goes turns server w p []
  still turns server w p g = record { along = safe_of turns server w p g; good = g }

  -- some calls, and then others
  pub and_then : (turns : List Turn) (mid server : ServerValue) (v w : WaitingValue) (p : Past) (xs ys : List DeviceCall) → Goes turns mid v p xs → (Good turns mid v (by_calls xs p) → Goes turns server w (by_calls xs p) ys) → Goes turns server w p (xs ++ ys)
  and_then turns mid server v w p xs ys a then = let b = then a.good in record { along = along-append turns xs ys p a.along b.along; good = subst (Good turns server w) (sym (by_calls-append xs ys p)) b.good }

  -- and then others of more turns
  pub joined : (turns more : List Turn) (mid server : ServerValue) (v w : WaitingValue) (p : Past) (xs ys : List DeviceCall) → Goes turns mid v p xs
      → (Good turns mid v (by_calls xs p) → Goes (turns ++ more) server w (by_calls xs p) ys) → Goes (turns ++ more) server w p (xs ++ ys)
  joined turns more mid server v w p xs ys a then =
      let b = then a.good in
      record { along = along-append (turns ++ more) xs ys p (along_more turns more xs p a.along) b.along; good = subst (Good (turns ++ more) server w) (sym (by_calls-append xs ys p)) b.good }

  -- the receive of a turn
  pub received : (barred : Option Barred) (turn : Turn) (turns : List Turn) (server : ServerValue) (w : WaitingValue) (p : Past) → Good turns server w p → Goes turns server w p (on_port (receive_in barred turn) ∷ [])
  received (Some barred) turn turns server w p g = let s = safe_of turns server w p g in record { along = (s, tt, s); good = g }
  received None is_empty turns server w p g = let s = safe_of turns server w p g in record { along = (s, tt, s); good = g }
  received None (is_taken now from octets reply) turns server w p g = let s = safe_of turns server w p g in record { along = (s, tt, s); good = g }
  received None (is_lost now from octets) turns server w p g = let s = safe_of turns server w p g in record { along = (s, tt, s); good = g }

  -- the replies of one turn more
  replies_then : (turns : List Turn) (turn : Turn) → replies_in (turns ++ turn ∷ []) ≡ replies_in turns ++ datagrams (reply_in turn)
  replies_then turns turn =
      let here = reply_in turn in
      ap datagrams (flat_map-append reply_in turns (turn ∷ []) ∙ ap (λ (rs : List ReplyValue). flat_map reply_in turns ++ rs) (append-nil here)) ∙ map-append (λ (r : ReplyValue). r.datagram) (flat_map reply_in turns) here

  more_replies : (turn : Turn) (turns : List Turn) (replies : List ReplyValue) (gone : List DatagramValue) → AreAmong (gone ++ datagrams replies) (replies_in turns) → AreAmong (gone ++ datagrams (replies ++ reply_in turn)) (replies_in (turns ++ turn ∷ []))
  more_replies turn turns replies gone are =
      let here = reply_in turn in
      let waiting : gone ++ datagrams (replies ++ here) ≡ (gone ++ datagrams replies) ++ datagrams here =
      ap (λ (ds : List DatagramValue). gone ++ ds) (map-append (λ (r : ReplyValue). r.datagram) replies here) ∙ sym (append_assoc gone (datagrams replies) (datagrams here)) in
      subst (AreAmong (gone ++ datagrams (replies ++ here))) (sym (replies_then turns turn))
      (subst (λ (ds : List DatagramValue). AreAmong ds (replies_in turns ++ datagrams here)) (sym waiting) (among_behind (gone ++ datagrams replies) (replies_in turns) (datagrams here) are))

  -- what is kept with one change more
  abbrev more : Past → Change → Past
  more p change = record p { kept = record { changes = p.kept.changes ++ change ∷ []; durable = p.kept.durable; draft = with_change change p.kept.draft } }

  -- A change is appended: the server is one that has it, and so many replies wait.
  module _ (turns : List Turn) (change : Change) (server : ServerValue) (w : WaitingValue) (replies : List ReplyValue) (p : Past) (run : Chain Turns first turns server) (leases : IsKept (after_all (p.kept.changes ++ change ∷ []) no_leases) server) (stand : AllStand Three (p.kept.changes ++ change ∷ []) no_leases)
      (sound : (count : ℕ) → p.kept.durable ≤ count → count ≤ length p.kept.changes → At turns server.last w.durable replies p.gone p.last (p.kept.changes ++ change ∷ []) (take count p.kept.changes))
      (are : AreAmong (p.gone ++ datagrams replies) (replies_in turns)) (times : w.durable ≤ last_of p.last p.kept.changes) (soon : server.last ≤ w.durable + reach)
      (drafted : Drafted server (max w.durable (at_of change)) (with_change change p.kept.draft)) where
    grown_late : w.durable ≤ last_of p.last (p.kept.changes ++ change ∷ [])
    grown_late = let l = last_on p.last p.kept.changes change in omega (arith, l, times)

    grown_sound : (count : ℕ) → p.kept.durable ≤ count → count ≤ length (p.kept.changes ++ change ∷ []) → At turns server.last w.durable replies p.gone p.last (p.kept.changes ++ change ∷ []) (take count (p.kept.changes ++ change ∷ []))
    grown_sound count least most =
        ⊎_elim
        (λ few. subst (At turns server.last w.durable replies p.gone p.last (p.kept.changes ++ change ∷ [])) (sym (take-append-le count p.kept.changes (change ∷ []) (omega (arith, few)))) (sound count least (omega (arith, few))))
        (λ many. subst (At turns server.last w.durable replies p.gone p.last (p.kept.changes ++ change ∷ [])) (sym (take_all count (p.kept.changes ++ change ∷ []) (let l = length-append p.kept.changes (change ∷ []) in omega (arith, l, many))))
        (whole turns server w.durable replies (more p change) run leases stand are grown_late soon))
        (cases_lt count (length p.kept.changes + 1))

    was_safe : Safe turns p
    was_safe = λ count least most. (sound count least most).earlier

    grown_safe : Safe turns (more p change)
    grown_safe = λ count least most. (grown_sound count least most).earlier

    pub grown : Goes turns server (record (with_line change w) { replies = replies }) p (on_store (appended change) ∷ [])
    grown = record {
      along = (was_safe, tt, grown_safe);
      good = record {
        run = run;
        leases = leases;
        stand = stand;
        sound = grown_sound;
        replies = are;
        all = λ none. absurd cc;
        times = let l = last_on p.last p.kept.changes change in let a = last_at p.last p.kept.changes change in max-le (omega (arith, l, times)) a;
        soon = soon;
        drafted = drafted;
      };
    }

    -- or may have been appended
    pub maybe_grown : Along turns p (on_store (append_failed change) ∷ [])
    maybe_grown = (was_safe, tt, grown_safe)

  -- all becomes durable
  now_durable : (turns : List Turn) (server : ServerValue) (w : WaitingValue) (p : Past) → Good turns server w p → Goes turns server (all_durable w) p (map on_store (syncs_of w.unsynced))
  now_durable turns server w p g = by_kind w.unsynced refl
    where
      good_then : (q : Past) → q.gone ≡ p.gone → q.last ≡ p.last → q.kept.changes ≡ p.kept.changes → q.kept.draft ≡ p.kept.draft → q.kept.durable ≡ length q.kept.changes → Good turns server (all_durable w) q
      good_then q gone last changes drafts all =
          durable_good turns server (all_durable w) q g.run (subst (λ (cs : List Change). IsKept (after_all cs no_leases) server) (sym changes) g.leases) (subst (λ (cs : List Change). AllStand Three cs no_leases) (sym changes) g.stand) (subst (λ (ds : List DatagramValue). AreAmong (ds ++ datagrams w.replies) (replies_in turns)) (sym gone) g.replies)
          all (subst (λ (n : ℕ). durable_then w.durable w.unsynced ≤ n) (sym (ap (λ (n : ℕ). last_of n q.kept.changes) last ∙ ap (last_of p.last) changes)) g.times) (let l = then_later w.durable w.unsynced in let s = g.soon in omega (arith, l, s))
          (subst (Drafted server (durable_then w.durable w.unsynced)) (sym drafts) g.drafted)

      by_kind : (u : Option Unsynced) → w.unsynced ≡ u → Goes turns server (all_durable w) p (map on_store (syncs_of u))
      by_kind None is = record { along = safe_of turns server w p g; good = good_then p refl refl refl refl (g.all is) }
      by_kind (Some unsynced) is =
          let h = good_then (record p { kept = record { changes = p.kept.changes; durable = length p.kept.changes; draft = p.kept.draft } }) refl refl refl refl refl in
          record { along = (safe_of turns server w p g, tt, safe_of turns server (all_durable w) _ h); good = h }

  -- a line that changes no lease is appended, and becomes durable
  module _ (turns : List Turn) (server : ServerValue) (w : WaitingValue) (p : Past) (line : Change) (same : (leases : Leases) → after line leases ≡ leases) (stands : (leases : Leases) → Stands line leases) (g : Good turns server w p) where
    line_kept : IsKept (after_all (p.kept.changes ++ line ∷ []) no_leases) server
    line_kept = subst (λ (f : Leases). IsKept f server) (sym (all_then p.kept.changes line no_leases ∙ same (after_all p.kept.changes no_leases))) g.leases

    line_stands : AllStand Three (p.kept.changes ++ line ∷ []) no_leases
    line_stands = stand_more p.kept.changes line no_leases g.stand (stands (after_all p.kept.changes no_leases))

    line_sound : (count : ℕ) → p.kept.durable ≤ count → count ≤ length p.kept.changes → At turns server.last w.durable w.replies p.gone p.last (p.kept.changes ++ line ∷ []) (take count p.kept.changes)
    line_sound count least most =
        let a = g.sound count least most in
        record {
          earlier = a.earlier;
          time = a.time;
          late = a.late;
          rest = λ name not. a.rest name not ∙ sym (ap (λ (leases : Leases). leases name) (all_then p.kept.changes line no_leases ∙ same (after_all p.kept.changes no_leases)));
        }

    durable_by : w.durable ≤ last_of p.last p.kept.changes
    durable_by = let l = then_later w.durable w.unsynced in let t = g.times in omega (arith, l, t)

    line_drafted : Drafted server (max w.durable (at_of line)) (with_change line p.kept.draft)
    line_drafted =
        drafted_more server server (durable_then w.durable w.unsynced) (max w.durable (at_of line)) line p.kept.draft (λ kept k. subst (λ (f : Leases). IsKept f server) (sym (same kept)) k) (λ kept k. stands kept)
        (let l = then_later w.durable w.unsynced in omega (arith, l)) g.drafted

    line_grown : Goes turns server (with_line line w) p (on_store (appended line) ∷ [])
    line_grown = grown turns line server w w.replies p g.run line_kept line_stands line_sound g.replies durable_by g.soon line_drafted

    pub laid : Goes turns server (laid_down line w) p (map on_store (lay_down line))
    laid = and_then turns server server (with_line line w) (laid_down line w) p (on_store (appended line) ∷ []) (on_store synced ∷ []) line_grown (λ h. now_durable turns server (with_line line w) _ h)

    -- or the store fails at that
    pub not_laid : (calls : List StoreCall) → LineFails line calls → Along turns p (map on_store calls)
    not_laid _ not_appended = maybe_grown turns line server w w.replies p g.run line_kept line_stands line_sound g.replies durable_by g.soon line_drafted
    not_laid _ not_synced = let a = line_grown in let s = safe_of turns server (with_line line w) _ a.good in along-append turns (on_store (appended line) ∷ []) (on_store sync_failed ∷ []) p a.along (s, tt, s)

  all_laid : (moments : List ℕ) (turns : List Turn) (server : ServerValue) (w : WaitingValue) (p : Past) → Good turns server w p
      → Goes turns server (with_lines (map Reached moments) w) p (map on_store (flat_map lay_down (map Reached moments)))
  all_laid [] turns server w p g = still turns server w p g
  all_laid (m ∷ ms) turns server w p g =
      and_then turns server server (laid_down (Reached m) w) (with_lines (map Reached (m ∷ ms)) w) p (map on_store (lay_down (Reached m))) (map on_store (flat_map lay_down (map Reached ms))) (laid turns server w p (Reached m) (λ leases. refl) (λ leases. tt) g)
      (λ h. all_laid ms turns server (laid_down (Reached m) w) _ h)

  -- the lines before a datagram is handled
  pub came_to : (barred : Option Barred) (turn : Turn) (turns : List Turn) (server : ServerValue) (w : WaitingValue) (p : Past) → Good turns server w p
      → Goes turns server (before_it turn w) p (on_port (receive_in barred turn) ∷ map on_store (flat_map lay_down (reached w.durable (moments_in turn))))
  came_to barred turn turns server w p g =
      and_then turns server server w (before_it turn w) p (on_port (receive_in barred turn) ∷ []) (map on_store (flat_map lay_down (reached w.durable (moments_in turn)))) (received barred turn turns server w p g)
      (λ h. all_laid (filter (λ moment. nat_lt (w.durable + reach) moment) (moments_in turn)) turns server w _ h)

  -- about the name of a reply that waits
  about_last : (turn : Turn) (replies : List ReplyValue) (name : NameValue) → about_in turn ≡ Some name → IsAbout name (replies ++ reply_in turn)
  about_last is_empty replies name is = absurd cc
  about_last (is_taken now from octets None) replies name is = absurd cc
  about_last (is_taken now from octets (Some reply)) replies name is = Any-push (λ (r : ReplyValue). r.about ≡ Some name) replies _ is
  about_last (is_lost now from octets) replies name is = absurd cc

  -- A turn, once those lines are durable: `v` is what waits then.
  module _ (barred : Option Barred) (turn : Turn) (turns : List Turn) (server new : ServerValue) (v : WaitingValue) (onward : server.last ≤ new.last) (soon : new.last ≤ v.durable + reach) where
    -- an earlier server stays one, where more replies wait, and these changes more are kept
    at_more : (replies : List ReplyValue) (gone : List DatagramValue) (last : ℕ) (kept all left : List Change)
        → ((name : NameValue) → ¬ IsAbout name (v.replies ++ replies) → after_all kept no_leases name ≡ after_all all no_leases name)
        → At turns server.last v.durable v.replies gone last kept left → At (turns ++ turn ∷ []) new.last v.durable (v.replies ++ replies) gone last all left
    at_more replies gone last kept all left same a = record {
      earlier = earlier_more turns (turn ∷ []) gone last left a.earlier;
      time = let t : a.earlier.server.last ≤ new.last = (let l = a.time in omega (arith, l, onward)) in t;
      late = a.late;
      rest = λ name not. a.rest name (λ is. not (any_front (λ (r : ReplyValue). r.about ≡ Some name) v.replies replies is)) ∙ same name not;
    }

    -- it changes nothing that is kept
    quiet : (p : Past) → Takes server (record { turn = turn; change = None; barred = barred }) new → Good turns server v p → Good (turns ++ turn ∷ []) new (behind (reply_in turn) v) p
    quiet p taken g = record {
      run = chain_on Turns first server new turns turn g.run taken.server;
      leases = taken.keeps (after_all p.kept.changes no_leases) g.leases;
      stand = g.stand;
      sound = λ count least most. at_more (reply_in turn) p.gone p.last p.kept.changes p.kept.changes (take count p.kept.changes) (λ name not. refl) (g.sound count least most);
      replies = more_replies turn turns v.replies p.gone g.replies;
      all = g.all;
      times = g.times;
      soon = soon;
      drafted = drafted_on server new (durable_then v.durable v.unsynced) (durable_then v.durable v.unsynced) p.kept.draft taken.keeps (omega arith) g.drafted;
    }

    -- its change is appended, or may have been
    module _ (p : Past) (change : Change) (taken : Takes server (record { turn = turn; change = Some change; barred = barred }) new) (g : Good turns server v p) where
      kept_more : IsKept (after_all (p.kept.changes ++ change ∷ []) no_leases) new
      kept_more = subst (λ (f : Leases). IsKept f new) (sym (all_then p.kept.changes change no_leases)) (taken.keeps (after_all p.kept.changes no_leases) g.leases)

      stand_here : AllStand Three (p.kept.changes ++ change ∷ []) no_leases
      stand_here = stand_more p.kept.changes change no_leases g.stand (taken.stands (after_all p.kept.changes no_leases) g.leases)

      durable_here : v.durable ≤ last_of p.last p.kept.changes
      durable_here = let l = then_later v.durable v.unsynced in let t = g.times in omega (arith, l, t)

      of_others : (name : NameValue) → ¬ IsAbout name (v.replies ++ reply_in turn) → after_all p.kept.changes no_leases name ≡ after_all (p.kept.changes ++ change ∷ []) no_leases name
      of_others name not =
          sym (ap (λ (leases : Leases). leases name) (all_then p.kept.changes change no_leases)
          ∙ one_other change (after_all p.kept.changes no_leases) name (λ is. not (about_last turn v.replies name (sym taken.named ∙ is))))

      sound_here : (count : ℕ) → p.kept.durable ≤ count → count ≤ length p.kept.changes → At (turns ++ turn ∷ []) new.last v.durable (v.replies ++ reply_in turn) p.gone p.last (p.kept.changes ++ change ∷ []) (take count p.kept.changes)
      sound_here count least most = at_more (reply_in turn) p.gone p.last p.kept.changes (p.kept.changes ++ change ∷ []) (take count p.kept.changes) of_others (g.sound count least most)

      drafted_here : Drafted new (max v.durable (at_of change)) (with_change change p.kept.draft)
      drafted_here =
          drafted_more server new (durable_then v.durable v.unsynced) (max v.durable (at_of change)) change p.kept.draft taken.keeps taken.stands (let l = then_later v.durable v.unsynced in omega (arith, l)) g.drafted

      pub changed : Goes (turns ++ turn ∷ []) new (behind (reply_in turn) (with_any (Some change) v)) p (on_store (appended change) ∷ [])
      changed = grown (turns ++ turn ∷ []) change new v (v.replies ++ reply_in turn) p (chain_on Turns first server new turns turn g.run taken.server) kept_more stand_here sound_here (more_replies turn turns v.replies p.gone g.replies) durable_here soon drafted_here

      pub maybe_changed : Along (turns ++ turn ∷ []) p (on_store (append_failed change) ∷ [])
      maybe_changed = maybe_grown (turns ++ turn ∷ []) change new v (v.replies ++ reply_in turn) p (chain_on Turns first server new turns turn g.run taken.server) kept_more stand_here sound_here (more_replies turn turns v.replies p.gone g.replies) durable_here soon drafted_here

  changed_so : (barred : Option Barred) (turn : Turn) (change : Option Change) (turns : List Turn) (server new : ServerValue) (v : WaitingValue) (onward : server.last ≤ new.last) (soon : new.last ≤ v.durable + reach) (p : Past) → Takes server (record { turn = turn; change = change; barred = barred }) new → Good turns server v p
      → Goes (turns ++ turn ∷ []) new (behind (reply_in turn) (with_any change v)) p (map on_store (appends_of change))
  changed_so barred turn None turns server new v onward soon p taken g = still (turns ++ turn ∷ []) new (behind (reply_in turn) v) p (quiet barred turn turns server new v onward soon p taken g)
  changed_so barred turn (Some change) turns server new v onward soon p taken g = changed barred turn turns server new v onward soon p change taken g

  -- a datagram more came
  counted_good : (turns : List Turn) (server : ServerValue) (w : WaitingValue) (p : Past) → Good turns server w p → Good turns server (counted w) p
  counted_good turns server w p g = record {
    run = g.run;
    leases = g.leases;
    stand = g.stand;
    sound = g.sound;
    replies = g.replies;
    all = λ none. g.all (was_none w.unsynced none);
    times = subst (λ (n : ℕ). n ≤ last_of p.last p.kept.changes) (same_time w.unsynced) g.times;
    soon = g.soon;
    drafted = subst (λ (n : ℕ). Drafted server n p.kept.draft) (same_time w.unsynced) g.drafted;
  }
    where
      was_none : (u : Option Unsynced) → one_less u ≡ None → u ≡ None
      was_none None none = refl
      was_none (Some u) none = absurd cc

      same_time : (u : Option Unsynced) → durable_then w.durable u ≡ durable_then w.durable (one_less u)
      same_time None = refl
      same_time (Some u) = refl

  pub counted_goes : (turns : List Turn) (server : ServerValue) (w : WaitingValue) (p : Past) (calls : List DeviceCall) → Goes turns server w p calls → Goes turns server (counted w) p calls
  counted_goes turns server w p calls a = record { along = a.along; good = counted_good turns server w _ a.good }

  -- what a turn takes, whose reply waits
  pub took : (t : Took) (turns : List Turn) (server new : ServerValue) (w : WaitingValue) (p : Past) → Takes server t new → Good turns server w p → Goes (turns ++ t.turn ∷ []) new (behind (reply_in t.turn) (behind_it t w)) p (taking t w)
  took t turns server new w p taken g =
      let lines = flat_map lay_down (reached w.durable (moments_in t.turn)) in
      subst (λ (cs : List DeviceCall). Goes (turns ++ t.turn ∷ []) new (behind (reply_in t.turn) (behind_it t w)) p (on_port (receive_in t.barred t.turn) ∷ cs)) (sym (map-append on_store lines (appends_of t.change)))
      (joined turns (t.turn ∷ []) server new (before_it t.turn w) (behind (reply_in t.turn) (behind_it t w)) p (on_port (receive_in t.barred t.turn) ∷ map on_store lines) (map on_store (appends_of t.change)) (came_to t.barred t.turn turns server w p g)
      (λ h. changed_so t.barred t.turn t.change turns server new (before_it t.turn w) (turn_onward server new t.turn taken.server) (turn_soon server new t.turn w taken.server g.soon) _ taken h))

  -- ---- a reply goes ahead

  answers_on : (asked : List Turn) (turn : Turn) → AreAnswers asked → is_some (asked_for turn) ≡ true → AreAnswers (asked ++ turn ∷ [])
  answers_on [] turn all one = (one, tt)
  answers_on (t ∷ ts) turn all one = (all.0, answers_on ts turn all.1 one)

  -- A query is answered, about whose name no reply waits: an earlier server would have answered it alike.
  module _ (turns : List Turn) (server new : ServerValue) (w : WaitingValue) (now : ℕ) (from : Route) (octets : List ℕ) (reply : MessageValue) (name : NameValue) (does : ServerTakes server now from.peer.ip octets (Some reply) new)
      (asks : answered (Some reply) ≡ Some name) (not : ¬ IsAbout name w.replies) (soon : new.last ≤ w.durable + reach) where
    abbrev asking : Turn
    asking = is_taken now from octets (Some reply)

    abbrev leaving_one : DatagramValue
    leaving_one = record { route = from; octets = text reply }

    at_asked : (gone : List DatagramValue) (last : ℕ) (kept left : List Change) → Chain Turns first turns server → IsKept (after_all kept no_leases) server → At turns server.last w.durable w.replies gone last kept left
        → At (turns ++ asking ∷ []) new.last w.durable w.replies (gone ++ leaving_one ∷ []) last kept left
    at_asked gone last kept left run leases a =
        let e = a.earlier in
        let onward : server.last ≤ now = does.goes_on in
        let before : e.server.last ≤ now = let t = a.time in omega (arith, t, onward) in
        let one = alike_run (e.front ++ e.asked) first e.server e.run in
        let other = alike_run turns first server run in
        let alike : AreAlike e.server server = record { start = one.start ∙ sym other.start; config = one.config ∙ sym other.config } in
        let same = live_alike server e.server (after_all kept no_leases) (after_all left no_leases) now name leases e.leases onward before (a.rest name not) in
        let taken = taken_too server e.server new now from octets (Some reply) name alike same before asks does in
        let after = server_after e.server now in
        let turns_then : e.front ++ (e.asked ++ asking ∷ []) ≡ (e.front ++ e.asked) ++ asking ∷ [] = sym (append_assoc e.front e.asked (asking ∷ [])) in
        record {
          earlier = record {
            front = e.front;
            back = e.back ++ asking ∷ [];
            asked = e.asked ++ asking ∷ [];
            server = after;
            turns_are = ap (λ (ts : List Turn). ts ++ asking ∷ []) e.turns_are ∙ append_assoc e.front e.back (asking ∷ []);
            some = out_behind e.asked e.back (asking ∷ []) e.some;
            answers = answers_on e.asked asking e.answers (ap is_some asks);
            run = subst (λ (ts : List Turn). Chain Turns first ts after) (sym turns_then) (chain_on Turns first e.server after (e.front ++ e.asked) asking e.run (takes now from octets (Some reply) after taken));
            leases = is_kept (after_all left no_leases) after now refl (kept_at (after_all left no_leases) e.server now before e.leases);
            stand = e.stand;
            replies =
                subst (λ (ts : List Turn). AreAmong (gone ++ leaving_one ∷ []) (replies_in ts)) (sym turns_then)
                (subst (AreAmong (gone ++ leaving_one ∷ [])) (sym (replies_then (e.front ++ e.asked) asking)) (among_behind gone (replies_in (e.front ++ e.asked)) (leaving_one ∷ []) e.replies));
            soon = let t = a.late in let l = does.last in omega (arith, t, l, soon);
          };
          time = let l = does.last in omega (arith, l);
          late = a.late;
          rest = a.rest;
        }

    -- the reply that left is counted among those that left, and none waits more
    pub asked_good : (p : Past) → ((kept : Leases) → IsKept kept server → IsKept kept new) → Good turns server w p → Good (turns ++ asking ∷ []) new w (one_gone leaving_one p)
    asked_good p keeps g = record {
      run = chain_on Turns first server new turns asking g.run (takes now from octets (Some reply) new does);
      leases = keeps (after_all p.kept.changes no_leases) g.leases;
      stand = g.stand;
      sound = λ count least most. at_asked p.gone p.last p.kept.changes (take count p.kept.changes) g.run g.leases (g.sound count least most);
      replies = subst (AreAmong ((p.gone ++ leaving_one ∷ []) ++ datagrams w.replies)) (sym (replies_then turns asking)) (among_inside p.gone (datagrams w.replies) (replies_in turns) (leaving_one ∷ []) g.replies);
      all = g.all;
      times = g.times;
      soon = soon;
      drafted = drafted_on server new (durable_then w.durable w.unsynced) (durable_then w.durable w.unsynced) p.kept.draft keeps (omega arith) g.drafted;
    }

    -- it may be sent
    pub may_ask : (p : Past) → Good turns server w p → MayBeSent p.kept (text reply)
    may_ask p g = inr (record {
      message = reply;
      name = name;
      octets_are = refl;
      answers = asks;
      durable = λ left m. subst (λ (cs : List Change). after_all cs no_leases name ≡ after_all p.kept.changes no_leases name) (sym m.left_is) ((g.sound m.count m.at_least m.at_most).rest name not);
    })

  -- ---- what waits leaves

  -- a reply leaves, or is lost
  gone_good : (reply : ReplyValue) (turns : List Turn) (server : ServerValue) (w : WaitingValue) (replies : List ReplyValue) (p : Past) → w.replies ≡ reply ∷ replies → w.unsynced ≡ None → Good turns server w p
      → Good turns server (record w { replies = replies }) (one_gone reply.datagram p)
  gone_good reply turns server w replies p is clear g =
      durable_good turns server (record w { replies = replies }) (one_gone reply.datagram p) g.run g.leases g.stand
      (subst (λ (ds : List DatagramValue). AreAmong ds (replies_in turns)) (ap (λ (rs : List ReplyValue). p.gone ++ datagrams rs) is ∙ sym (append_assoc p.gone (reply.datagram ∷ []) (datagrams replies))) g.replies)
      (g.all clear) g.times g.soon g.drafted

  all_sent : (replies rest : List ReplyValue) (turns : List Turn) (server : ServerValue) (w : WaitingValue) (p : Past) → w.replies ≡ replies ++ rest → w.unsynced ≡ None → Good turns server w p
      → Goes turns server (record w { replies = rest }) p (map on_port (sends_of replies))
  all_sent [] rest turns server w p is clear g = subst (λ (rs : List ReplyValue). Goes turns server (record w { replies = rs }) p []) is (still turns server w p g)
  all_sent (reply ∷ replies) rest turns server w p is clear g =
      let h = all_sent replies rest turns server (record w { replies = replies ++ rest }) (one_gone reply.datagram p) refl clear (gone_good reply turns server w (replies ++ rest) p is clear g) in
      record { along = (safe_of turns server w p g, inl (g.all clear), h.along); good = h.good }

  lost_one : (reply : ReplyValue) (rest : List ReplyValue) (turns : List Turn) (server : ServerValue) (w : WaitingValue) (p : Past) → w.replies ≡ reply ∷ rest → w.unsynced ≡ None → Good turns server w p
      → Goes turns server (record w { replies = rest }) p (on_port (send_failed reply.datagram.route reply.datagram.octets) ∷ [])
  lost_one reply rest turns server w p is clear g = let h = gone_good reply turns server w rest p is clear g in record { along = (safe_of turns server w p g, tt, safe_of turns server (record w { replies = rest }) _ h); good = h }

  -- what is sent late is dropped
  among_timely : (p : ReplyValue → Bool) (gone : List DatagramValue) (replies : List ReplyValue) (ys : List DatagramValue) → AreAmong (gone ++ datagrams replies) ys → AreAmong (gone ++ datagrams (filter p replies)) ys
  among_timely p gone [] ys a = a
  among_timely p gone (r ∷ rs) ys a =
      ⊎_elim
      (λ is. rw is
      (subst (λ (ds : List DatagramValue). AreAmong ds ys) (append_assoc gone (r.datagram ∷ []) (datagrams (filter p rs)))
      (among_timely p (gone ++ r.datagram ∷ []) rs ys (subst (λ (ds : List DatagramValue). AreAmong ds ys) (sym (append_assoc gone (r.datagram ∷ []) (datagrams rs))) a))))
      (λ is. rw is (among_timely p gone rs ys (among_without gone r.datagram (datagrams rs) ys a)))
      (cases_Bool (p r))

  in_time : (life now : ℕ) (turns : List Turn) (server : ServerValue) (w : WaitingValue) (p : Past) → w.unsynced ≡ None → Good turns server w p → Good turns server (record w { replies = timely life now w.replies }) p
  in_time life now turns server w p clear g =
      durable_good turns server (record w { replies = timely life now w.replies }) p g.run g.leases g.stand (among_timely (λ (reply : ReplyValue). nat_le now (reply.read + life)) p.gone w.replies (replies_in turns) g.replies) (g.all clear) g.times g.soon g.drafted

  -- all that waits leaves
  pub left : (life now : ℕ) (turns : List Turn) (server : ServerValue) (w : WaitingValue) (p : Past) → Good turns server w p → Goes turns server (dropped (all_durable w)) p (leaving life now w)
  left life now turns server w p g =
      and_then turns server server (all_durable w) (dropped (all_durable w)) p (map on_store (syncs_of w.unsynced)) (map on_port (sends_of (timely life now w.replies))) (now_durable turns server w p g)
      (λ h. all_sent (timely life now w.replies) [] turns server (record (all_durable w) { replies = timely life now w.replies }) _ (sym (append-nil (timely life now w.replies))) refl (in_time life now turns server (all_durable w) _ refl h))

  -- a send of what waits fails
  pub part_left : (life now : ℕ) (turns : List Turn) (server : ServerValue) (w : WaitingValue) (before : List ReplyValue) (lost : ReplyValue) (rest : List ReplyValue) (p : Past) → timely life now w.replies ≡ before ++ lost ∷ rest → Good turns server w p
      → Goes turns server (record (all_durable w) { replies = rest }) p (map on_store (syncs_of w.unsynced) ++ map on_port (sends_of before ++ send_failed lost.datagram.route lost.datagram.octets ∷ []))
  part_left life now turns server w before lost rest p is g =
      let failed = send_failed lost.datagram.route lost.datagram.octets in
      and_then turns server server (all_durable w) (record (all_durable w) { replies = rest }) p (map on_store (syncs_of w.unsynced)) (map on_port (sends_of before ++ failed ∷ [])) (now_durable turns server w p g)
      (λ h. subst (Goes turns server (record (all_durable w) { replies = rest }) _) (sym (map-append on_port (sends_of before) (failed ∷ [])))
      (and_then turns server server (record (all_durable w) { replies = lost ∷ rest }) (record (all_durable w) { replies = rest }) _ (map on_port (sends_of before)) (on_port failed ∷ [])
      (all_sent before (lost ∷ rest) turns server (record (all_durable w) { replies = timely life now w.replies }) _ is refl (in_time life now turns server (all_durable w) _ refl h))
      (λ k. lost_one lost rest turns server (record (all_durable w) { replies = lost ∷ rest }) _ refl refl k)))

  -- the reply of a turn before which nothing waits leaves at once, or is lost
  pub sent_at_once : (turns : List Turn) (server : ServerValue) (w : WaitingValue) (replies : List ReplyValue) (p : Past) → w.replies ≡ replies → w.unsynced ≡ None → Good turns server w p → Goes turns server (dropped w) p (map on_port (sends_of replies))
  sent_at_once turns server w replies p is clear g = all_sent replies [] turns server w p (is ∙ sym (append-nil replies)) clear g

  pub lost_at_once : (turns : List Turn) (server : ServerValue) (w : WaitingValue) (lost : ReplyValue) (p : Past) → w.replies ≡ lost ∷ [] → w.unsynced ≡ None → Good turns server w p
      → Goes turns server (dropped w) p (on_port (send_failed lost.datagram.route lost.datagram.octets) ∷ [])
  lost_at_once turns server w lost p is clear g = lost_one lost [] turns server w p is clear g
