-- What is done between two turns keeps what holds of each further address, but for one that is confirmed.
use Rattle.std.proofs.Common.{◌≡◌, ◌<◌, ℕ, Bool, true, false, List, [], ◌∷◌, Option, Some, None, refl, sym, subst}
use Rattle.std.specs.Prelude.{◌^◌, Contains, filter, nat_eq, slice_index_or}
use Rattle.std.specs.List.{list_any}
use Rattle.std.proofs.lemmas.Bool.{eqb-true, eqb-false}
use Rattle.std.proofs.lemmas.List.Folds.{Any-from_list_any}
use Rattle.nbt_name.specs.Wire.{NameValue}
use Rattle.nbt_name.specs.declared.addr.Addr.{Addr}
use Rattle.nbt_packet.specs.Message.{MessageValue}
use Rattle.nbt_packet.specs.Spelling.{Spells}
use Rattle.nbt_lease.specs.Lease.{TableValue}
use Rattle.nbt_port.specs.PortCalls.{PortCall}
use Rattle.nbt_port.specs.declared.port.Route.{Route}
use Rattle.nbt_log.specs.declared.entry.Entry.{Entry}
use Rattle.nbt_server.specs.declared.outcome.Outcome.{Outcome}
use Rattle.nbt_confirm.specs.declared.further.Further.{Further}
use Rattle.nbt_confirm.specs.declared.inquiry.Inquiry.{Inquiry}
use Rattle.nbt_confirm.specs.declared.outcome.Answer.TheVariants.{Silent}
use Rattle.nbt_confirm.specs.declared.request.Came.{Came}
use Rattle.nbt_confirm.specs.Further.{is_kept}
use Rattle.nbt_confirm.specs.Inquiries.{ConfirmedValue, Confirms, IsFurther, ListsItselfAlone, MachineValue}
use Rattle.nbt_confirm.specs.Waiting.{answer_of, outcome_of}
use Rattle.nbt_confirm.proofs.Confirming.{heard as was_confirmed}
use Rattle.nbt_waits.specs.declared.asking.Asking.{Asking}
use Rattle.nbt_waits.specs.Asking.{lease_at, without_waiting}
use Rattle.nbt_waits.specs.Doing.{Done}
use Rattle.nbt_waits.specs.Lapsing.{Follows, Wakes}
use Rattle.nbt_waits.specs.Laws.{Are, IsConfirmed}
use Rattle.nbt_waits.specs.Looking.{aside}
use Rattle.nbt_waits.specs.Sending.{Left}
use Rattle.nbt_waits.specs.Settling.{Serves, ServesSilence, further_of, waited_for, waits_for}
use Rattle.nbt_waits.proofs.Keeping.{follows_keeps, holds_back_keeps, leaves_keeps, passes_on_keeps, put_so, settles_keeps}
use Rattle.nbt_asking.specs.Attending.{AttendsAt, Begins, BeginsNone, DoesAll, DoesSo, GivesUp, LooksAside, LooksAtClaim, LooksAtOutcome, LooksAtResponse, LooksAtTurn, Refuses, Repeats, answers, answers_none, at_claim, at_response, at_time, comes_back, heard, holds, leaves, left_before, lets_be, no_id, no_room, nobody, nothing_there, passes, refuses, swept, waits}
use Rattle.nbt_asking.specs.Laws.{AreConfirmed, ListsItsOwn}
use Rattle.nbt_asking.specs.declared.desk.Desk.{Desk}
use Rattle.nbt_asking.specs.Desk.{ComesBack, Passes, Replies, hands_on, is_granted, is_quiet, leaves_as, looked_at, nothing_came, sets_aside}
use Rattle.nbt_asking.specs.Port.{AskingDoes, AskingPortValue}
use Rattle.nbt_asking.specs.Port as calls
use Rattle.nbt_asking.specs.Steps.{AsMany, NoneIsLeft, Times, all, enough, none, one_more}

finds_one : (addrs : List ℕ) (addr : ℕ) → list_any (λ other. nat_eq other addr) addrs ≡ true → Contains addrs addr
finds_one addrs addr found =
    let (k, other, within, is, same) = Any-from_list_any (λ (other : ℕ). nat_eq other addr) addrs found in
    (k, within, subst (λ (n : ℕ). slice_index_or addrs k n ≡ n) (eqb-true other addr same) is)

-- ---- steps

module _ {S : Type 0} (P : S → Type 0) (step ends : S → S → Type 0) (keeps : (old new : S) → step old new → P old → P new) where
  times_keep : (old : S) (n : ℕ) (new : S) → Times step old n new → P old → P new
  times_keep old n new none is = is
  times_keep old n new (one_more before mid _ times one) is = keeps mid new one (times_keep old before mid times is)

  pub many_keep : (most : ℕ) → ((old new : S) → ends old new → P old → P new) → (old new : S) → AsMany most step ends old new → P old → P new
  many_keep most ends_keep old new (all n last _ few times end) is = ends_keep last new end (times_keep old n last times is)
  many_keep most ends_keep old new (enough _ times) is = times_keep old most new times is

-- ---- what holds of further addresses

module _ (so : NameValue → ℕ → Bool) where
  kept_filtered : (test : Further → Bool) (rows : List Further) → Are so rows → Are so (filter test rows)
  kept_filtered test [] are = tt
  kept_filtered test (row ∷ rows) are = elim (test row) as (λ b. test row ≡ b → Are so (filter test (row ∷ rows))) [
    | true ↦ λ is. rw is (are.0, kept_filtered test rows are.1)
    | false ↦ λ is. rw is (kept_filtered test rows are.1)
  ] refl

  -- the address that a machine listed is confirmed, if it is a further one
  confirmed_of : (m : MachineValue) (addr : ℕ) → ((f : ConfirmedValue) → IsFurther m f → so f.name f.addr ≡ true) → IsConfirmed so (further_of m addr)
  confirmed_of m addr is = elim (list_any (λ other. nat_eq other addr) m.addrs) as (λ b. list_any (λ other. nat_eq other addr) m.addrs ≡ b → IsConfirmed so (further_of m addr)) [
    | false ↦ λ unlisted. rw unlisted tt
    | true ↦ λ listed. elim (nat_eq addr m.asked) as (λ b. nat_eq addr m.asked ≡ b → IsConfirmed so (further_of m addr)) [
      | true ↦ λ same. rw (listed, same) tt
      | false ↦ λ other. rw (listed, other) (is (record { name = m.name; holder = m.asked; addr = addr }) (record { name_is = refl; holder_is = refl; listed_is = finds_one m.addrs addr listed; other = eqb-false addr m.asked other }))
    ] refl
  ] refl

  abbrev pub RowIs : Further → Type 0
  RowIs row = so row.name row.addr ≡ true

  module _ {P I : Type 0} (does : P → PortCall → P → Type 0) (draws : I → Option ℕ → I → Type 0) (table : TableValue) (now : ℕ) where
    abbrev pub Keep : AskingPortValue P I → Type 0
    Keep s = Are so s.desk.asking.further

    -- a thing keeps it
    so_keeps : (what : Asking → Done → Type 0) → ((old : Asking) (done : Done) → what old done → Are so old.further → Are so done.asking.further) → (old new : AskingPortValue P I) → DoesSo does what old new → Keep old → Keep new
    so_keeps what keeps old new did are = subst Keep (sym did.new_is) (keeps old.desk.asking did.done did.did are)

    none_keeps : (step : AskingPortValue P I → AskingPortValue P I → Type 0) (old new : AskingPortValue P I) → NoneIsLeft step old new → Keep old → Keep new
    none_keeps step old new end are = subst Keep (sym end.0) are

    all_keep : (most : ℕ) (what : Asking → Done → Type 0) → ((old : Asking) (done : Done) → what old done → Are so old.further → Are so done.asking.further) → (old new : AskingPortValue P I) → DoesAll most does what old new → Keep old → Keep new
    all_keep most what keeps = many_keep Keep (DoesSo does what) (NoneIsLeft (DoesSo does what)) (so_keeps what keeps) most (none_keeps (DoesSo does what))

    serves_keeps : (m : MachineValue) → ((f : ConfirmedValue) → IsFurther m f → so f.name f.addr ≡ true) → (old : Asking) (done : Done) → Serves table now m old done → Are so old.further → Are so done.asking.further
    serves_keeps m is old done one are =
        let r = one.request in
        subst (λ (d : Done). Are so d.asking.further) (sym one.done_is)
        (settles_keeps RowIs (λ row holder until end row_is. row_is) table now (outcome_of r.awaits (answer_of m r)) r (further_of m r.addr) (without_waiting (waits_for m) old) are (put_so so (further_of m r.addr) (confirmed_of m r.addr is)) (λ reached row at row_is. row_is))

    silence_keeps : (i : Inquiry) (old : Asking) (done : Done) → ServesSilence table now i old done → Are so old.further → Are so done.asking.further
    silence_keeps i old done one are =
        let r = one.request in
        subst (λ (d : Done). Are so d.asking.further) (sym one.done_is)
        (settles_keeps RowIs (λ row holder until end row_is. row_is) table now (outcome_of r.awaits Silent) r None (without_waiting (waited_for i) old) are tt (λ reached row at row_is. row_is))

    gives_up_keeps : (old new : AskingPortValue P I) → GivesUp does table now old new → Keep old → Keep new
    gives_up_keeps old new given are = all_keep _ (ServesSilence table now given.p.inquiry) (silence_keeps given.p.inquiry) _ new given.served are

    wakes_keeps : (old : Asking) (done : Done) → Wakes table now old done → Are so old.further → Are so done.asking.further
    wakes_keeps old done one are = subst (λ (d : Done). Are so d.asking.further) (sym one.done_is) are

    lapses_keep : (old : Asking) (done : Done) → Follows table now old done → Are so old.further → Are so done.asking.further
    lapses_keep old done one are = subst (λ (d : Done). Are so d.asking.further) (sym one.done_is) (follows_keeps RowIs (λ row holder until end row_is. row_is) (lease_at table now one.row.name) now one.row old are)

    repeats_keeps : (old : Asking) (done : Done) → Repeats now old done → Are so old.further → Are so done.asking.further
    repeats_keeps old done one are = subst (λ (d : Done). Are so d.asking.further) (sym one.done_is) are

    begins_keeps : (old new : AskingPortValue P I) → Begins does draws now old new → Keep old → Keep new
    begins_keeps old new one are = so_keeps _ (λ asking done began kept. subst (λ (d : Done). Are so d.asking.further) (sym began.done_is) kept) _ new one.began are

    begins_none_keeps : (old new : AskingPortValue P I) → BeginsNone draws old new → Keep old → Keep new
    begins_none_keeps old new (nobody empty) are = are
    begins_none_keeps old new (no_id r ids asks drew) are = are
    begins_none_keeps old new (no_room r id ids asks drew full) are = are

    claim_keeps : (c : Came) (octets : List ℕ) (old new : AskingPortValue P I) → LooksAtClaim table now c octets old new → Keep old → Keep new
    claim_keeps c octets old new (waits done looks) are = subst (λ (d : Done). Are so d.asking.further) (sym looks.done_is) are
    claim_keeps c octets old new (comes_back empty) are = are

    response_keeps : (c : Came) (octets : List ℕ) (old new : AskingPortValue P I) → old.desk.aside ≡ aside c octets → AreConfirmed so old.desk → LooksAtResponse does table now c octets old new → Keep old → Keep new
    response_keeps c octets old new was is (answers machine pending _ hears served) are =
        let (k, p, within, at, confirms) = was_confirmed c.from octets old.desk.asking.waits.pending pending machine hears in
        let confirmed : (f : ConfirmedValue) → IsFurther machine f → so f.name f.addr ≡ true = λ f further. is c octets p machine f was (k, within, at) confirms further in
        all_keep _ (Serves table now machine) (serves_keeps machine confirmed) (heard pending old) new served are
    response_keeps c octets old new was is (answers_none pending hears) are = are

    aside_keeps : (old new : AskingPortValue P I) → AreConfirmed so old.desk → LooksAside does table now old new → Keep old → Keep new
    aside_keeps old new is (nothing_there empty) are = are
    aside_keeps old new is (at_claim c octets _ was request looks) are = claim_keeps c octets old new looks are
    aside_keeps old new is (at_response c octets _ was response looks) are = response_keeps c octets old new was is looks are

    refuses_keeps : (c : Came) (octets : List ℕ) (old new : AskingPortValue P I) → Refuses does c octets old new → Keep old → Keep new
    refuses_keeps c octets old new (leaves r port claims unique sent) are = are
    refuses_keeps c octets old new (left_before empty) are = are

    outcome_keeps : (c : Came) (octets : List ℕ) (outcome : Outcome) (old : AskingPortValue P I) (held : Bool) (new : AskingPortValue P I) → LooksAtOutcome does table now c octets outcome old held new → Keep old → Keep new
    outcome_keeps c octets outcome old held new (lets_be active released) are = are
    outcome_keeps c octets outcome old held new (passes claim _ is unique did) are =
        so_keeps _ (λ asking done is kept. subst (λ (d : Done). Are so d.asking.further) (sym is) (passes_on_keeps RowIs (λ row holder until end row_is. row_is) now claim.name claim.addr asking kept)) old new did are
    outcome_keeps c octets outcome old held new (holds r _ is did) are =
        so_keeps _ (λ asking done is kept. subst (λ (d : Done). Are so d.asking.further) (sym is) (holds_back_keeps RowIs (λ row holder until end row_is. row_is) table now r asking kept)) old new did are
    outcome_keeps c octets outcome old held new (refuses _ active unheld refused) are = refuses_keeps c octets old new refused are

    turn_keeps : (octets : List ℕ) (entry logged : Option Entry) (old new : AskingPortValue P I) → LooksAtTurn does table now octets entry logged old new → Keep old → Keep new
    turn_keeps octets None logged old new turn are = subst Keep (sym turn.1) are
    turn_keeps octets (Some entry) logged old new turn are = outcome_keeps (record old.desk.last { from = entry.from }) octets entry.outcome old turn.0 new turn.1 are

    pub attends_keeps : (octets : List ℕ) (entry logged : Option Entry) (old new : AskingPortValue P I) → AreConfirmed so old.desk → AttendsAt does draws table now octets entry logged old new → Keep old → Keep new
    attends_keeps octets entry logged old new is did are =
        let looked = aside_keeps (at_time now old) did.looked is did.looks_aside are in
        let turned = turn_keeps octets entry logged did.looked did.turned did.looks_at_turn looked in
        let given_up = many_keep Keep (GivesUp does table now) (NoneIsLeft (GivesUp does table now)) gives_up_keeps _ (none_keeps (GivesUp does table now)) did.turned did.given_up did.gives_up turned in
        let woken = all_keep _ (Wakes table now) wakes_keeps (swept now did.given_up) did.woken did.wakes (kept_filtered (is_kept now) did.given_up.desk.asking.further given_up) in
        let followed = all_keep _ (Follows table now) lapses_keep did.woken did.followed did.follows woken in
        let repeated = all_keep _ (Repeats now) repeats_keeps did.followed did.repeated did.repeats followed in
        many_keep Keep (Begins does draws now) (BeginsNone draws) begins_keeps _ begins_none_keeps did.repeated new did.begins repeated

-- ---- calls of the port

-- what isn't refuted of further addresses holds of them
module _ (so : NameValue → ℕ → Bool) where
  is_true : (b : Bool) → ((b ≡ true → ⊥) → ⊥) → b ≡ true
  is_true true unrefuted = refl
  is_true false unrefuted = absurd (unrefuted (λ (e : false ≡ true). absurd cc))

  are_so : (rows : List Further) → ((Are so rows → ⊥) → ⊥) → Are so rows
  are_so [] unrefuted = tt
  are_so (row ∷ rows) unrefuted = (is_true (so row.name row.addr) (λ not_so. unrefuted (λ are. not_so are.0)), are_so rows (λ not_so. unrefuted (λ are. not_so are.1)))

  replies_keep : (old new : Desk) (to : Route) (octets : List ℕ) (out : Option (List ℕ)) → Replies old to octets out new → Are so old.asking.further → Are so new.asking.further
  replies_keep old new to octets out (is_quiet quiet) are = are
  replies_keep old new to octets out (leaves_as left loud reply) are = are_so left.further (λ not_so.
      let unspelled : (m : MessageValue) → ¬ Spells octets m = λ m spelled.
      not_so (subst (λ (l : Left). Are so l.further) (sym (reply.by_message m spelled)) (leaves_keeps (RowIs so) (λ row holder until end row_is. row_is) old.at to.peer.ip octets old.asking.further m are)) in
      not_so (subst (λ (l : Left). Are so l.further) (sym (reply.by_nothing unspelled)) are))

  back_keeps : (old new : Desk) (from : Route) (octets : List ℕ) → ComesBack old from octets new → Are so old.asking.further → Are so new.asking.further
  back_keeps old new from octets (looked_at c _ was) are = are
  back_keeps old new from octets (is_granted r others none_back was) are = are

  pass_keeps : (old new : Desk) (flags : ℕ) (from to_server : Option Route) (octets out : List ℕ) → Passes old flags from octets to_server out new → Are so old.asking.further → Are so new.asking.further
  pass_keeps old new flags from to_server octets out (nothing_came _) are = are
  pass_keeps old new flags from to_server octets out (sets_aside route _ is) are = are
  pass_keeps old new flags from to_server octets out (hands_on route _ is) are = are

  pub call_keeps : {P I : Type 0} (does : P → PortCall → P → Type 0) (told : P → ℕ) (old : AskingPortValue P I) (call : PortCall) (new : AskingPortValue P I) → AskingDoes does told old call new → Are so old.desk.asking.further → Are so new.desk.asking.further
  call_keeps does told old call new (calls.comes_back from octets desk back) are = back_keeps old.desk desk from octets back are
  call_keeps does told old call new (calls.passes from to_server octets out port desk nothing_back did pass) are = pass_keeps old.desk desk (told port) from to_server octets out pass are
  call_keeps does told old call new (calls.fails port nothing_back did) are = are
  call_keeps does told old call new (calls.holds_back to octets desk reply) are = replies_keep old.desk desk to octets None reply are
  call_keeps does told old call new (calls.leaves result to octets out port desk reply did) are = replies_keep old.desk desk to octets (Some out) reply are

-- nothing holds of a further address only where there is none
abbrev pub never : NameValue → ℕ → Bool
never name addr = false

none_is : (rows : List Further) → Are never rows → rows ≡ []
none_is [] are = refl
none_is (row ∷ rows) are = absurd (let e : false ≡ true = are.0 in cc)

pub none_put : {P I : Type 0} (does : P → PortCall → P → Type 0) (draws : I → Option ℕ → I → Type 0) (table : TableValue) (now : ℕ) (octets : List ℕ) (entry logged : Option Entry) (old new : AskingPortValue P I)
    → ((i : Inquiry) (from : Addr) (octets : List ℕ) (machine : MachineValue) (c : ConfirmedValue) → from.ip < 2 ^ 32 → ListsItselfAlone from octets → Confirms i from octets machine → ¬ IsFurther machine c)
    → old.desk.asking.further ≡ [] → ListsItsOwn old.desk → AttendsAt does draws table now octets entry logged old new → new.desk.asking.further ≡ []
none_put does draws table now octets entry logged old new law empty own did =
    let confirmed : AreConfirmed never old.desk = λ c octets p machine f was there confirms further. let lists = own c octets p machine was confirms in absurd (law p.inquiry c.from octets machine f lists.0 lists.1 confirms further) in
    none_is new.desk.asking.further (attends_keeps never does draws table now octets entry logged old new confirmed did (subst (Are never) (sym empty) tt))

pub none_called : {P I : Type 0} (does : P → PortCall → P → Type 0) (told : P → ℕ) (old : AskingPortValue P I) (call : PortCall) (new : AskingPortValue P I) → old.desk.asking.further ≡ [] → AskingDoes does told old call new → new.desk.asking.further ≡ []
none_called does told old call new empty did = none_is new.desk.asking.further (call_keeps never does told old call new did (subst (Are never) (sym empty) tt))
