-- What is shown of some turns, and of others behind them.
use Rattle.std.proofs.Common.{◌≡◌, ℕ, nat_lt, Bool, true, false, if◌then◌else◌, not, ◌||◌, ◌<◌, ◌⊎◌, List, [], ◌∷◌, ◌++◌, length, map, filter, Option, Some, None, refl, sym, ap, subst, ◌∙◌, append_assoc, inl, inr, arith}
use Rattle.std.proofs.lemmas.List.{map-append, length-append, length-map}
use Rattle.std.specs.List.{AllByRecursion}
use Rattle.std.proofs.lemmas.Bool.{cases_Bool, ltb-false}
use Rattle.nbt_port.specs.Clocks.{MachineTells}
use Rattle.nbt_port.specs.PortCalls.{Chain}
use Rattle.nbt_server.specs.Outcomes.{has_reply}
use Rattle.nbt_server.specs.Serving.{ServerValue}
use Rattle.nbt_log.specs.declared.entry.Entry.{Entry}
use Rattle.nbt_serve.specs.Waiting.{ReplyValue, WaitingValue, batch}
use Rattle.nbt_serve.specs.declared.waiting.Sent.{Sent}
use Rattle.nbt_nbns.specs.Journaling.{Journals}
use Rattle.nbt_nbns.specs.Places.{FileValue, Stays}
use Rattle.nbt_nbns.specs.Teller.{Seeing, SeesOne, Tells, queued, has_left, is_shown, each_or_none, entries_shown, still_untold}
use Rattle.nbt_nbns.specs.declared.journal.Journal.{Journal}
use Rattle.nbt_nbns.specs.declared.staying.Shown.{Shown}
use Rattle.nbt_nbns.specs.declared.teller.Untold.{Untold}
use Rattle.nbt_whole.specs.Watched.{Watched, Event, acted, was_shown, were_fixed, Happens, sees, had, with_entry, told, HasReply, MayBeLeftOut, IsNext, IsToldInTurn}

-- ---- lists of steps

pub chain_on : {S X : Type 0} (step : S → X → S → Type 0) (xs ys : List X) (a b c : S) → Chain step a xs b → Chain step b ys c → Chain step a (xs ++ ys) c
chain_on {S} step [] ys a b c first second = subst (λ (s : S). Chain step s ys c) first second
chain_on step (x ∷ xs) ys a b c first second = (first.0, first.1, chain_on step xs ys first.0 b c first.2 second)

-- ---- what is left out may be more

all_on : (more left_out : List Entry) → AllByRecursion HasReply more → AllByRecursion HasReply left_out → AllByRecursion HasReply (more ++ left_out)
all_on [] left_out first second = second
all_on (entry ∷ more) left_out first second = (first.0, all_on more left_out first.1 second)

-- more entries may be left out
abbrev pub MayGo : (more untold : List Entry) → Type 0
MayGo more untold = MayBeLeftOut (more ++ untold) more

may_more : (more untold left_out : List Entry) → MayGo more untold → MayBeLeftOut untold left_out → MayBeLeftOut (more ++ untold) (more ++ left_out)
may_more more untold left_out (inl first) (inl second) = inl (all_on more left_out first second)
may_more more untold left_out (inl first) (inr many) = let len = length-append more untold in inr (omega (arith, len, many))
may_more more untold left_out (inr many) may = inr many

may_grow : (more untold : List Entry) (entry : Entry) → MayGo more untold → MayGo more (untold ++ entry ∷ [])
may_grow more untold entry (inl first) = inl first
may_grow more untold entry (inr many) =
    let len = length-append more untold in
    let longer = length-append more (untold ++ entry ∷ []) in
    let one = length-append untold (entry ∷ []) in
    inr (omega (arith, len, longer, one, many))

next_more : (entry : Option Entry) (more untold : List Entry) (goes_on : List Entry → Type 0) → MayGo more untold → (goes_on untold → goes_on (more ++ untold)) → IsNext entry untold goes_on → IsNext entry (more ++ untold) goes_on
next_more None more untold goes_on may on next = on next
next_more (Some entry) more untold goes_on may on next = (more ++ next.0, next.1, ap (λ (all : List Entry). more ++ all) next.2 ∙ sym (append_assoc more next.0 (entry ∷ next.1)), may_more more untold next.0 may next.3, next.4)

pub more_untold : (more untold : List Entry) (events : List Event) (still : List Entry) → MayGo more untold → IsToldInTurn untold events still → IsToldInTurn (more ++ untold) events still
more_untold more untold [] still may in_turn = (more ++ in_turn.0, ap (λ (all : List Entry). more ++ all) in_turn.1 ∙ sym (append_assoc more in_turn.0 still), may_more more untold in_turn.0 may in_turn.2)
more_untold more untold (acted None ∷ events) still may in_turn = more_untold more untold events still may in_turn
more_untold more untold (acted (Some entry) ∷ events) still may in_turn =
    subst (λ (all : List Entry). IsToldInTurn all events still) (sym (append_assoc more untold (entry ∷ []))) (more_untold more (untold ++ entry ∷ []) events still (may_grow more untold entry may) in_turn)
more_untold more untold (was_shown shown ∷ events) still may in_turn = next_more shown.entry more untold (λ rest. IsToldInTurn rest events still) may (λ first. more_untold more untold events still may first) in_turn
more_untold more untold (were_fixed capitals ∷ events) still may in_turn = more_untold more untold events still may in_turn

-- ---- one after the other

next_on : (entry : Option Entry) (untold : List Entry) (P Q : List Entry → Type 0) → ((rest : List Entry) → P rest → Q rest) → IsNext entry untold P → IsNext entry untold Q
next_on None untold P Q on next = on untold next
next_on (Some entry) untold P Q on next = (next.0, next.1, next.2, next.3, on next.1 next.4)

pub in_turn_on : (events others : List Event) (a b c : List Entry) → IsToldInTurn a events b → IsToldInTurn b others c → IsToldInTurn a (events ++ others) c
in_turn_on [] others a b c first second = subst (λ (all : List Entry). IsToldInTurn all others c) (sym first.1) (more_untold first.0 b others c (subst (λ (all : List Entry). MayBeLeftOut all first.0) first.1 first.2) second)
in_turn_on (acted None ∷ events) others a b c first second = in_turn_on events others a b c first second
in_turn_on (acted (Some entry) ∷ events) others a b c first second = in_turn_on events others (a ++ entry ∷ []) b c first second
in_turn_on (was_shown shown ∷ events) others a b c first second =
    next_on shown.entry a (λ rest. IsToldInTurn rest events b) (λ rest. IsToldInTurn rest (events ++ others) c) (λ rest early. in_turn_on events others rest b c early second) first
in_turn_on (were_fixed capitals ∷ events) others a b c first second = in_turn_on events others a b c first second

had_on : (events others : List Event) → had (events ++ others) ≡ had events ++ had others
had_on [] others = refl
had_on (acted None ∷ events) others = had_on events others
had_on (acted (Some entry) ∷ events) others = ap (λ (all : List Entry). entry ∷ all) (had_on events others)
had_on (was_shown shown ∷ events) others = had_on events others
had_on (were_fixed capitals ∷ events) others = had_on events others

with_on : (entry : Option Entry) (entries others : List Entry) → with_entry entry (entries ++ others) ≡ with_entry entry entries ++ others
with_on None entries others = refl
with_on (Some entry) entries others = refl

pub told_on : (events others : List Event) → told (events ++ others) ≡ told events ++ told others
told_on [] others = refl
told_on (acted entry ∷ events) others = told_on events others
told_on (was_shown shown ∷ events) others = ap (λ (all : List Entry). with_entry shown.entry all) (told_on events others) ∙ with_on shown.entry (told events) (told others)
told_on (were_fixed capitals ∷ events) others = told_on events others

pub each_on : (events others : List Event) → told events ≡ had events → told others ≡ had others → told (events ++ others) ≡ had (events ++ others)
each_on events others first second = told_on events others ∙ ap (λ (all : List Entry). all ++ told others) first ∙ ap (λ (all : List Entry). had events ++ all) second ∙ sym (had_on events others)

-- ---- a turn that is shown at once

pub shown_at_once : (entry : Option Entry) → with_entry entry [] ≡ had (acted entry ∷ [])
shown_at_once None = refl
shown_at_once (Some entry) = refl

pub had_at_once : (entry : Option Entry) (shown : Shown) → had (acted entry ∷ was_shown shown ∷ []) ≡ had (acted entry ∷ [])
had_at_once None shown = refl
had_at_once (Some entry) shown = refl

pub in_turn_at_once : (entry : Option Entry) (shown : Shown) → shown.entry ≡ entry → IsToldInTurn [] (acted entry ∷ was_shown shown ∷ []) []
in_turn_at_once None shown is = subst (λ (e : Option Entry). IsNext e [] (λ rest. IsToldInTurn rest [] [])) (sym is) ([], refl, inl tt)
in_turn_at_once (Some entry) shown is = subst (λ (e : Option Entry). IsNext e (entry ∷ []) (λ rest. IsToldInTurn rest [] [])) (sym is) ([], [], refl, inl tt, ([], refl, inl tt))

-- ---- turns that wait for their replies

abbrev pub entries_of : List Untold → List Entry
entries_of untold = map (λ one. one.entry) untold

-- with the moment and the health of this
abbrev pub shown_so : Shown → List (Option Entry) → List Event
shown_so shown entries = map (λ entry. was_shown (record shown { entry = entry })) entries

-- what is watched, and what was printed
abbrev seen_in : ServerValue → Seeing (Journal ℕ FileValue) → Watched
seen_in server s = record { server = server; journal = s.watcher; text = s.text }

-- the journal is shown them one after the other
sees_each : (server : ServerValue) (shown : Shown) (entries : List (Option Entry)) (before after : Seeing (Journal ℕ FileValue)) → Chain (SeesOne (Journals MachineTells Stays Stays) server) before (map (λ entry. record shown { entry = entry }) entries) after
    → Chain Happens (record { server = server; journal = before.watcher; text = before.text }) (shown_so shown entries) (record { server = server; journal = after.watcher; text = after.text })
sees_each server shown [] before after chain = ap (seen_in server) chain
sees_each server shown (entry ∷ entries) before after chain = (
  record { server = server; journal = chain.0.watcher; text = chain.0.text },
  sees (record shown { entry = entry }) chain.0.watcher chain.0.text chain.1,
  sees_each server shown entries chain.0 after chain.2,
)

-- one that is picked, and one that isn't
is_picked : (picked : Untold → Bool) (one : Untold) (others : List Untold) → picked one ≡ true → filter picked (one ∷ others) ≡ one ∷ filter picked others
is_picked picked one others is = rw is refl

is_not_picked : (picked : Untold → Bool) (one : Untold) (others : List Untold) → picked one ≡ false → filter picked (one ∷ others) ≡ filter picked others
is_not_picked picked one others not = rw not refl

-- those that are shown come one after the other, and the others are left out
some_shown : (picked : Untold → Bool) → ((one : Untold) → picked one ≡ false → HasReply one.entry) → (shown : Shown) (untold : List Untold) → IsToldInTurn (entries_of untold) (shown_so shown (map (λ one. Some one.entry) (filter picked untold))) []
some_shown picked dropped shown [] = ([], refl, inl tt)
some_shown picked dropped shown (one ∷ others) = elim (cases_Bool (picked one)) [
  | inl is ↦ subst (λ (all : List Untold). IsToldInTurn (one.entry ∷ entries_of others) (shown_so shown (map (λ one. Some one.entry) all)) []) (sym (is_picked picked one others is)) ([], entries_of others, refl, inl tt, some_shown picked dropped shown others)
  | inr not ↦ subst (λ (all : List Untold). IsToldInTurn (one.entry ∷ entries_of others) (shown_so shown (map (λ one. Some one.entry) all)) []) (sym (is_not_picked picked one others not)) (more_untold (one.entry ∷ []) (entries_of others) (shown_so shown (map (λ one. Some one.entry) (filter picked others))) [] (inl (dropped one not, tt)) (some_shown picked dropped shown others))
]

-- what isn't shown has a reply
replied : (has other : Bool) → (not has || other) ≡ false → has ≡ true
replied true other is = refl
replied false other is = absurd cc

or_none : (shown : Shown) (untold : List Entry) (picked : List Untold) → IsToldInTurn untold (shown_so shown (map (λ one. Some one.entry) picked)) [] → IsToldInTurn untold (shown_so shown (each_or_none picked)) []
or_none shown untold [] in_turn = in_turn
or_none shown untold (one ∷ others) in_turn = in_turn

by_replies : (life : ℕ) (left : Option ℕ) (shown : Shown) (replies : List ReplyValue) (untold : List Untold) → IsToldInTurn (entries_of untold) (shown_so shown (entries_shown life left replies untold)) (entries_of (still_untold replies untold))
by_replies life left shown [] untold = or_none shown (entries_of untold) (filter (is_shown life left) untold) (some_shown (is_shown life left) (λ one not. replied (has_reply one.entry.outcome) (one.ahead || has_left life left one.read) not) shown untold)
by_replies life left shown (reply ∷ replies) untold = ([], refl, inl tt)

-- one more turn waits, and where too many wait those before it are left out
one_more : (has_room : Bool) (read : ℕ) (ahead : Bool) (entry : Entry) (untold : List Untold) (events : List Event) (still : List Entry) → nat_lt (length untold) batch ≡ has_room
    → IsToldInTurn (entries_of ((if has_room then untold else []) ++ record { read = read; ahead = ahead; entry = entry } ∷ [])) events still → IsToldInTurn (entries_of untold ++ entry ∷ []) events still
one_more true read ahead entry untold events still has in_turn = subst (λ (all : List Entry). IsToldInTurn all events still) (map-append (λ (one : Untold). one.entry) untold (record { read = read; ahead = ahead; entry = entry } ∷ [])) in_turn
one_more false read ahead entry untold events still has in_turn =
    let full = ltb-false (length untold) batch has in
    let len = length-append (entries_of untold) (entry ∷ []) in
    let same = length-map untold (λ (one : Untold). one.entry) in
    more_untold (entries_of untold) (entry ∷ []) events still (inr (omega (arith, full, len, same))) in_turn

then_queued : (read : ℕ) (ahead : Bool) (entry : Option Entry) (untold : List Untold) (events : List Event) (still : List Entry) → IsToldInTurn (entries_of (queued untold read ahead entry)) events still → IsToldInTurn (entries_of untold) (acted entry ∷ events) still
then_queued read ahead None untold events still in_turn = in_turn
then_queued read ahead (Some entry) untold events still in_turn = one_more (nat_lt (length untold) batch) read ahead entry untold events still refl in_turn

-- ---- what a turn shows, with a state

abbrev pub told_events : (server : ServerValue) → (waiting : WaitingValue) → (sent : Sent) → (shown : Shown) → (untold : List Untold) → List Event
told_events server waiting sent shown untold = shown_so shown (entries_shown server.table.config.life sent.left waiting.replies (queued untold server.last sent.ahead shown.entry))

pub tells_chain : (server : ServerValue) (waiting : WaitingValue) (sent : Sent) (shown : Shown) (old new : List Untold) (before after : Seeing (Journal ℕ FileValue)) → Tells (Journals MachineTells Stays Stays) server waiting sent shown old before new after
    → Chain Happens (record { server = server; journal = before.watcher; text = before.text }) (told_events server waiting sent shown old) (record { server = server; journal = after.watcher; text = after.text })
tells_chain server waiting sent shown old new before after tell = sees_each server shown _ before after tell.seen

pub tells_in_turn : (server : ServerValue) (waiting : WaitingValue) (sent : Sent) (shown : Shown) (old new : List Untold) (before after : Seeing (Journal ℕ FileValue)) → Tells (Journals MachineTells Stays Stays) server waiting sent shown old before new after
    → IsToldInTurn (entries_of old) (acted shown.entry ∷ told_events server waiting sent shown old) (entries_of new)
tells_in_turn server waiting sent shown old new before after tell =
    subst (λ (still : List Untold). IsToldInTurn (entries_of old) (acted shown.entry ∷ told_events server waiting sent shown old) (entries_of still)) (sym tell.untold_is)
    (then_queued server.last sent.ahead shown.entry old _ _ (by_replies server.table.config.life sent.left shown waiting.replies (queued old server.last sent.ahead shown.entry)))
