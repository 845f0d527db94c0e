-- The listener's table: one line at a time, and what its lines keep.
use Rattle.std.proofs.Common.{◌≡◌, ◌≢◌, ℕ, ◌+◌, ◌<◌, ◌≤◌, cond, List, length, get_or, Option, Some, None, refl, sym, ap, subst, ◌∙◌, arith, inl, inr}
use Rattle.std.specs.Prelude.{slice_get, slice_set, slice_index_or, All, Any, ◌⊎◌}
use Rattle.std.specs.List.{AllWithin}
use Rattle.std.proofs.lemmas.Bool.{cases_lt}
use Rattle.std.proofs.lemmas.List.Sums.{sum_by-set}
use Rattle.std.proofs.lemmas.Option.{get_or_from_slice_get, slice_get_within}
use Rattle.nbt_name.specs.declared.addr.Addr.{Addr}
use Rattle.nbt_name.specs.declared.addr.Kind.{Kind}
use Rattle.nbt_name.specs.Wire.{NameValue}
use Rattle.nbt_session.specs.declared.listener.Entry.{Entry}
use Rattle.nbt_session.specs.declared.listener.Slot.{Slot}
use Rattle.nbt_session.specs.declared.listener.Slot.TheVariants.{Free, Open}
use Rattle.nbt_session.specs.Event.{EventValue, packet}
use Rattle.nbt_session.specs.Packet.{request, retarget}
use Rattle.nbt_session.specs.Listener.{ListenerValue, ListenerAnswerValue, send_and_close, is_open, open_count, TakesCall, FirstThatTakes, CallMoves, name_is_not_present, nobody_listens, nobody_listens_for_it, too_many_are_open, goes_elsewhere, is_taken, SlotMoves, stands, is_lost, is_called, waits_on, gets_no_request, gets_a_message, stays_alive, gets_what_has_no_place, is_not_there, stands_already, is_open_already, ListenerMoves, LetsIn}

got : {X : Type 0} (xs : List X) (k : ℕ) (x d : X) → slice_get xs k ≡ Some x → (slice_index_or xs k d ≡ x) × (k < length xs)
got xs k x d e = (get_or_from_slice_get xs k x d e, slice_get_within xs k x e)

not_before : (es : List Entry) (called calling : NameValue) (e : Entry) (k n : ℕ) → slice_get es k ≡ Some e → k < n → TakesCall e called calling → AllWithin (λ x. ¬ TakesCall x called calling) es 0 n → ⊥
not_before es called calling e k n there less takes none =
    none k e (omega arith) less (subst (λ (x : Entry). TakesCall x called calling) (sym (got es k e e there).0) takes)

first_is_one : (es : List Entry) (called calling : NameValue) (e f : Entry) → FirstThatTakes es called calling e → FirstThatTakes es called calling f → e ≡ f
first_is_one es called calling e f a b =
    elim (cases_lt a.place b.place) [
      | inl less ↦ absurd (not_before es called calling e a.place b.place a.stands less a.takes b.before)
      | inr le ↦ elim (cases_lt b.place a.place) [
        | inl less ↦ absurd (not_before es called calling f b.place a.place b.stands less b.takes a.before)
        | inr le2 ↦
            let same : a.place ≡ b.place = omega arith in
            let both : Some e ≡ Some f = sym a.stands ∙ ap (slice_get es) same ∙ b.stands in
            cc
      ]
    ]

-- an entry that takes a call is one of those that none is
no_taker : (es : List Entry) (called calling : NameValue) (e : Entry) → FirstThatTakes es called calling e → All (λ x. ¬ TakesCall x called calling) es → ⊥
no_taker es called calling e a none =
    let there = got es a.place e e a.stands in
    none a.place e there.1 (subst (λ (x : Entry). TakesCall x called calling) (sym there.0) a.takes)

no_listener : (es : List Entry) (called calling : NameValue) (e : Entry) → FirstThatTakes es called calling e → All (λ x. x.called ≢ called) es → ⊥
no_listener es called calling e a none =
    let there = got es a.place e e a.stands in
    none a.place e there.1 (ap (λ (x : Entry). x.called) there.0 ∙ a.takes.0)

none_and_some : (es : List Entry) (called : NameValue) → Any (λ x. x.called ≡ called) es → All (λ x. x.called ≢ called) es → ⊥
none_and_some es called (k, x, less, is, has) none = none k x less (ap (λ (y : Entry). y.called) is ∙ has)

one_call : (holds : NameValue → Option Kind) (es : List Entry) (most opened : ℕ) (called calling : NameValue) (s t : Slot) (a b : ListenerAnswerValue) → CallMoves holds es most opened called calling s a → CallMoves holds es most opened called calling t b → (s ≡ t) × (a ≡ b)
one_call holds es most opened called calling _ _ _ _ (name_is_not_present h) (name_is_not_present h2) = (refl, refl)
one_call holds es most opened called calling _ _ _ _ (name_is_not_present h) (nobody_listens k h2 none) = absurd cc
one_call holds es most opened called calling _ _ _ _ (name_is_not_present h) (nobody_listens_for_it k h2 some none) = absurd cc
one_call holds es most opened called calling _ _ _ _ (name_is_not_present h) (too_many_are_open k e h2 first full) = absurd cc
one_call holds es most opened called calling _ _ _ _ (name_is_not_present h) (goes_elsewhere k e to h2 first room is) = absurd cc
one_call holds es most opened called calling _ _ _ _ (name_is_not_present h) (is_taken k e h2 first room is) = absurd cc
one_call holds es most opened called calling _ _ _ _ (nobody_listens k h none) (name_is_not_present h2) = absurd cc
one_call holds es most opened called calling _ _ _ _ (nobody_listens k h none) (nobody_listens k2 h2 none2) = (refl, refl)
one_call holds es most opened called calling _ _ _ _ (nobody_listens k h none) (nobody_listens_for_it k2 h2 some none2) = absurd (none_and_some es called some none)
one_call holds es most opened called calling _ _ _ _ (nobody_listens k h none) (too_many_are_open k2 e h2 first full) = absurd (no_listener es called calling e first none)
one_call holds es most opened called calling _ _ _ _ (nobody_listens k h none) (goes_elsewhere k2 e to h2 first room is) = absurd (no_listener es called calling e first none)
one_call holds es most opened called calling _ _ _ _ (nobody_listens k h none) (is_taken k2 e h2 first room is) = absurd (no_listener es called calling e first none)
one_call holds es most opened called calling _ _ _ _ (nobody_listens_for_it k h some none) (name_is_not_present h2) = absurd cc
one_call holds es most opened called calling _ _ _ _ (nobody_listens_for_it k h some none) (nobody_listens k2 h2 none2) = absurd (none_and_some es called some none2)
one_call holds es most opened called calling _ _ _ _ (nobody_listens_for_it k h some none) (nobody_listens_for_it k2 h2 some2 none2) = (refl, refl)
one_call holds es most opened called calling _ _ _ _ (nobody_listens_for_it k h some none) (too_many_are_open k2 e h2 first full) = absurd (no_taker es called calling e first none)
one_call holds es most opened called calling _ _ _ _ (nobody_listens_for_it k h some none) (goes_elsewhere k2 e to h2 first room is) = absurd (no_taker es called calling e first none)
one_call holds es most opened called calling _ _ _ _ (nobody_listens_for_it k h some none) (is_taken k2 e h2 first room is) = absurd (no_taker es called calling e first none)
one_call holds es most opened called calling _ _ _ _ (too_many_are_open k e h first full) (name_is_not_present h2) = absurd cc
one_call holds es most opened called calling _ _ _ _ (too_many_are_open k e h first full) (nobody_listens k2 h2 none) = absurd (no_listener es called calling e first none)
one_call holds es most opened called calling _ _ _ _ (too_many_are_open k e h first full) (nobody_listens_for_it k2 h2 some none) = absurd (no_taker es called calling e first none)
one_call holds es most opened called calling _ _ _ _ (too_many_are_open k e h first full) (too_many_are_open k2 e2 h2 first2 full2) = (refl, refl)
one_call holds es most opened called calling _ _ _ _ (too_many_are_open k e h first full) (goes_elsewhere k2 e2 to h2 first2 room is) = absurd (omega arith)
one_call holds es most opened called calling _ _ _ _ (too_many_are_open k e h first full) (is_taken k2 e2 h2 first2 room is) = absurd (omega arith)
one_call holds es most opened called calling _ _ _ _ (goes_elsewhere k e to h first room is) (name_is_not_present h2) = absurd cc
one_call holds es most opened called calling _ _ _ _ (goes_elsewhere k e to h first room is) (nobody_listens k2 h2 none) = absurd (no_listener es called calling e first none)
one_call holds es most opened called calling _ _ _ _ (goes_elsewhere k e to h first room is) (nobody_listens_for_it k2 h2 some none) = absurd (no_taker es called calling e first none)
one_call holds es most opened called calling _ _ _ _ (goes_elsewhere k e to h first room is) (too_many_are_open k2 e2 h2 first2 full) = absurd (omega arith)
one_call holds es most opened called calling _ _ _ _ (goes_elsewhere k e to h first room is) (goes_elsewhere k2 e2 to2 h2 first2 room2 is2) =
    let same : e ≡ e2 = first_is_one es called calling e e2 first first2 in
    let both : Some to ≡ Some to2 = sym is ∙ ap (λ (x : Entry). x.retarget) same ∙ is2 in
    let goal : to ≡ to2 = cc in
    (refl, ap (λ (x : Addr). send_and_close (retarget x)) goal)
one_call holds es most opened called calling _ _ _ _ (goes_elsewhere k e to h first room is) (is_taken k2 e2 h2 first2 room2 is2) =
    let same : e ≡ e2 = first_is_one es called calling e e2 first first2 in
    let both : Some to ≡ None = sym is ∙ ap (λ (x : Entry). x.retarget) same ∙ is2 in
    absurd cc
one_call holds es most opened called calling _ _ _ _ (is_taken k e h first room is) (name_is_not_present h2) = absurd cc
one_call holds es most opened called calling _ _ _ _ (is_taken k e h first room is) (nobody_listens k2 h2 none) = absurd (no_listener es called calling e first none)
one_call holds es most opened called calling _ _ _ _ (is_taken k e h first room is) (nobody_listens_for_it k2 h2 some none) = absurd (no_taker es called calling e first none)
one_call holds es most opened called calling _ _ _ _ (is_taken k e h first room is) (too_many_are_open k2 e2 h2 first2 full) = absurd (omega arith)
one_call holds es most opened called calling _ _ _ _ (is_taken k e h first room is) (goes_elsewhere k2 e2 to h2 first2 room2 is2) =
    let same : e ≡ e2 = first_is_one es called calling e e2 first first2 in
    let both : None ≡ Some to = sym is ∙ ap (λ (x : Entry). x.retarget) same ∙ is2 in
    absurd cc
one_call holds es most opened called calling _ _ _ _ (is_taken k e h first room is) (is_taken k2 e2 h2 first2 room2 is2) = (refl, refl)

one_slot_move : (holds : NameValue → Option Kind) (es : List Entry) (most opened : ℕ) (s t u : Slot) (e : EventValue) (a b : ListenerAnswerValue) → SlotMoves holds es most opened s e t a → SlotMoves holds es most opened s e u b → (t ≡ u) × (a ≡ b)
one_slot_move holds es most opened _ _ _ _ _ _ stands stands = (refl, refl)
one_slot_move holds es most opened _ _ _ _ _ _ (is_lost slot) (is_lost slot2) = (refl, refl)
one_slot_move holds es most opened _ _ _ _ _ _ (is_called called calling t a move) (is_called called2 calling2 u b move2) = one_call holds es most opened _ _ t u a b move move2
one_slot_move holds es most opened _ _ _ _ _ _ (is_called called calling t a move) (gets_no_request p no_request no_alive) = absurd (no_request refl)
one_slot_move holds es most opened _ _ _ _ _ _ waits_on waits_on = (refl, refl)
one_slot_move holds es most opened _ _ _ _ _ _ waits_on (gets_no_request p no_request no_alive) = absurd (no_alive refl)
one_slot_move holds es most opened _ _ _ _ _ _ (gets_no_request p no_request no_alive) (is_called called calling t a move) = absurd (no_request refl)
one_slot_move holds es most opened _ _ _ _ _ _ (gets_no_request p no_request no_alive) waits_on = absurd (no_alive refl)
one_slot_move holds es most opened _ _ _ _ _ _ (gets_no_request p no_request no_alive) (gets_no_request p2 no_request2 no_alive2) = (refl, refl)
one_slot_move holds es most opened _ _ _ _ _ _ (gets_a_message octets) (gets_a_message octets2) = (refl, refl)
one_slot_move holds es most opened _ _ _ _ _ _ (gets_a_message octets) (gets_what_has_no_place p no_message no_alive) = absurd (no_message refl)
one_slot_move holds es most opened _ _ _ _ _ _ stays_alive stays_alive = (refl, refl)
one_slot_move holds es most opened _ _ _ _ _ _ stays_alive (gets_what_has_no_place p no_message no_alive) = absurd (no_alive refl)
one_slot_move holds es most opened _ _ _ _ _ _ (gets_what_has_no_place p no_message no_alive) (gets_a_message octets) = absurd (no_message refl)
one_slot_move holds es most opened _ _ _ _ _ _ (gets_what_has_no_place p no_message no_alive) stays_alive = absurd (no_alive refl)
one_slot_move holds es most opened _ _ _ _ _ _ (gets_what_has_no_place p no_message no_alive) (gets_what_has_no_place p2 no_message2 no_alive2) = (refl, refl)
one_slot_move holds es most opened _ _ _ _ _ _ (is_not_there p) (is_not_there p2) = (refl, refl)
one_slot_move holds es most opened _ _ _ _ _ _ stands_already stands_already = (refl, refl)
one_slot_move holds es most opened _ _ _ _ _ _ is_open_already is_open_already = (refl, refl)

pub one_listener_move : (holds : NameValue → Option Kind) (old a b : ListenerValue) (slot : ℕ) (event : EventValue) (x y : ListenerAnswerValue) → ListenerMoves holds old slot event a x → ListenerMoves holds old slot event b y → (a ≡ b) × (x ≡ y)
one_listener_move holds old a b slot event x y m n =
    let both : Some m.before ≡ Some n.before = sym m.was ∙ n.was in
    let same : n.before ≡ m.before = cc in
    let moves : SlotMoves holds old.entries old.most (open_count old.slots) m.before event n.after y = subst (λ (s : Slot). SlotMoves holds old.entries old.most (open_count old.slots) s event n.after y) same n.moves in
    let one = one_slot_move holds old.entries old.most (open_count old.slots) m.before m.after n.after event x y m.moves moves in
    (m.others ∙ ap (λ (s : Slot). record old { slots = slice_set old.slots slot s }) one.0 ∙ sym n.others, one.1)

-- ---- held names

call_held : (holds : NameValue → Option Kind) (es : List Entry) (most opened : ℕ) (called calling : NameValue) (s : Slot) (a : ListenerAnswerValue) → CallMoves holds es most opened called calling s a → LetsIn a → (kind : Kind) × (holds called ≡ Some kind)
call_held holds es most opened called calling _ _ (is_taken k e h first room is) lets = (k, h)
call_held holds es most opened called calling _ _ (goes_elsewhere k e to h first room is) lets = (k, h)
call_held holds es most opened called calling _ _ _ lets = elim lets [ ]

-- whose call goes on
pub record Called (holds : NameValue → Option Kind) (event : EventValue) : Type 0 where
  pub called : NameValue
  pub calling : NameValue
  pub kind : Kind
  pub asks : event ≡ packet (request called calling)
  pub held : holds called ≡ Some kind

slot_held : (holds : NameValue → Option Kind) (es : List Entry) (most opened : ℕ) (s t : Slot) (e : EventValue) (a : ListenerAnswerValue) → SlotMoves holds es most opened s e t a → LetsIn a → Called holds e
slot_held holds es most opened _ _ _ _ (is_called called calling t a move) lets =
    let held = call_held holds es most opened called calling t a move lets in
    record { called = called; calling = calling; kind = held.0; asks = refl; held = held.1 }
slot_held holds es most opened _ _ _ _ _ lets = elim lets [ ]

pub lets_in_held : (holds : NameValue → Option Kind) (old new : ListenerValue) (slot : ℕ) (event : EventValue) (answer : ListenerAnswerValue) → ListenerMoves holds old slot event new answer → LetsIn answer
    → (called calling : NameValue) × (kind : Kind) × (event ≡ packet (request called calling)) × (holds called ≡ Some kind)
lets_in_held holds old new slot event answer m lets =
    let c = slot_held holds old.entries old.most (open_count old.slots) m.before m.after event answer m.moves lets in
    (c.called, c.calling, c.kind, c.asks, c.held)

-- ---- how many are open

-- what a connection counts
abbrev worth : Slot → ℕ
worth s = cond (is_open s) 1 0

count_set : (slots : List Slot) (k : ℕ) (before after : Slot) → slice_get slots k ≡ Some before → open_count (slice_set slots k after) + worth before ≡ open_count slots + worth after
count_set slots k before after e =
    let there = got slots k before before e in
    let counted : open_count (slice_set slots k after) + worth (get_or slots k before) ≡ open_count slots + worth after = sum_by-set worth slots k after before there.1 in
    let same : worth (get_or slots k before) ≡ worth before = ap worth there.0 in
    omega arith

call_room : (holds : NameValue → Option Kind) (es : List Entry) (most opened : ℕ) (called calling : NameValue) (s : Slot) (a : ListenerAnswerValue) → CallMoves holds es most opened called calling s a → (s ≡ Free) ⊎ (opened < most)
call_room holds es most opened called calling _ _ (is_taken k e h first room is) = inr room
call_room holds es most opened called calling _ _ _ = inl refl

-- a connection that is open was so before, or there was room
slot_room : (holds : NameValue → Option Kind) (es : List Entry) (most opened : ℕ) (s t : Slot) (e : EventValue) (a : ListenerAnswerValue) → SlotMoves holds es most opened s e t a → (worth t ≤ worth s) ⊎ (opened < most)
slot_room holds es most opened _ _ _ _ (is_called called calling t a move) =
    elim (call_room holds es most opened called calling t a move) [
      | inl free ↦ inl (omega (arith, ap worth free))
      | inr room ↦ inr room
    ]
slot_room holds es most opened _ _ _ _ _ = inl (omega arith)

at_most_one : (s : Slot) → worth s ≤ 1
at_most_one Open = omega arith
at_most_one _ = omega arith

pub most_are_open : (holds : NameValue → Option Kind) (old new : ListenerValue) (slot : ℕ) (event : EventValue) (answer : ListenerAnswerValue) → ListenerMoves holds old slot event new answer → open_count old.slots ≤ old.most → open_count new.slots ≤ new.most
most_are_open holds old new slot event answer m fits =
    let count = count_set old.slots slot m.before m.after m.was in
    let small : open_count (slice_set old.slots slot m.after) ≤ old.most = elim (slot_room holds old.entries old.most (open_count old.slots) m.before m.after event answer m.moves) [
      | inl less ↦ omega (arith, count, less)
      | inr room ↦ omega (arith, count, at_most_one m.after)
    ] in
    subst (λ (l : ListenerValue). open_count l.slots ≤ l.most) (sym m.others) small
