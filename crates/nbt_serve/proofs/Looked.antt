-- What came of a look at the file, by what its parts returned.
use Rattle.std.proofs.Common.{◌≡◌, ℕ, ◌≤◌, List, sym, ap, subst, ◌∙◌, Result, Ok, Err, arith}
use Rattle.std.specs.Prelude.{MatchResult, OnOk, OnErr, max, true, false, None}
use Rattle.nbt_port.specs.PortCalls.{Chain}
use Rattle.nbt_server.specs.Serving.{ServerValue}
use Rattle.nbt_store.specs.Calls.{StoreCall, beginning, renewal_began, renewal_failed}
use Rattle.nbt_store.specs.Changes.{begun_all}
use Rattle.nbt_store.specs.declared.change.Change.{Change}
use Rattle.nbt_store.specs.declared.change.Change.TheVariants.{Looked}
use Rattle.nbt_store.specs.declared.header.Header.{Header}
use Rattle.nbt_store.specs.declared.store.Broken.{Broken}
use Rattle.nbt_serve.specs.Waiting.{ReplyValue, WaitingValue, none_waits, IsClear, with_line, dropped, lay_down, laid_down, LineFails}
use Rattle.nbt_serve.specs.Runs.{live_rows}
use Rattle.nbt_serve.specs.Looking.{Desk, header_at, is_line_due, LooksAfter, looked, begun, went_on, written, FailsToLook, line_fails, begin_fails, renewal_fails, GoesOn, one_part, last_part, FailsToBegin, at_line, at_begin}

greater : (a b : ℕ) → a ≤ b → max a b ≡ b
greater a b l = omega arith

-- what waits after a line of both clocks
pub clear_then : (day at : ℕ) (w : WaitingValue) → IsClear w → w.durable ≤ at → laid_down (Looked day at) w ≡ none_waits at
clear_then day at w clear onward =
    ap (λ (rs : List ReplyValue). record { replies = rs; durable = max w.durable at; unsynced = None }) (ap (λ (v : WaitingValue). v.replies) clear) ∙ ap none_waits (greater w.durable at onward)

module _ {S D : Type 0} (keeps : S → StoreCall → S → Type 0) (days : D → ℕ → D → Type 0) (server : ServerValue) (at : ℕ) (old : Desk S D) (time : ℕ) (day : D) (clear : IsClear old.waiting) (onward : old.waiting.durable ≤ at) (told : days old.day time day) where
  module _ {A : Type 0} (r : Result A Broken) (store : S) (header : Header) (waiting : WaitingValue) (header_is : header ≡ header_at old.header at time) where
    abbrev new : Desk S D
    new = record { store = store; day = day; header = header; waiting = waiting }

    pub line_look : is_line_due old.header old.waiting.durable at time ≡ true → OnOk r (Chain keeps old.store (lay_down (Looked time at)) store × (waiting ≡ laid_down (Looked time at) old.waiting))
        → OnErr r ((calls : List StoreCall) × LineFails (Looked time at) calls × Chain keeps old.store calls store × (waiting ≡ dropped (with_line (Looked time at) old.waiting)))
        → MatchResult r (λ _. LooksAfter keeps days server at old new) (λ _. FailsToLook keeps days server at old new)
    line_look due ok err = by_result r ok err
      where
        by_result : (r : Result A Broken) → OnOk r (Chain keeps old.store (lay_down (Looked time at)) store × (waiting ≡ laid_down (Looked time at) old.waiting))
            → OnErr r ((calls : List StoreCall) × LineFails (Looked time at) calls × Chain keeps old.store calls store × (waiting ≡ dropped (with_line (Looked time at) old.waiting)))
            → MatchResult r (λ _. LooksAfter keeps days server at old new) (λ _. FailsToLook keeps days server at old new)
        by_result (Ok done) ok err =
            subst (λ (h : Header). LooksAfter keeps days server at old (record { store = store; day = day; header = h; waiting = waiting })) (sym header_is)
            (subst (λ (w : WaitingValue). LooksAfter keeps days server at old (record { store = store; day = day; header = header_at old.header at time; waiting = w })) (sym (ok.1 ∙ clear_then time at old.waiting clear onward))
            (looked time day store clear onward told due ok.0))
        by_result (Err broken) ok err =
            subst (λ (h : Header). FailsToLook keeps days server at old (record { store = store; day = day; header = h; waiting = waiting })) (sym header_is)
            (subst (λ (w : WaitingValue). FailsToLook keeps days server at old (record { store = store; day = day; header = header_at old.header at time; waiting = w })) (sym err.3)
            (line_fails time day store err.0 clear onward told err.1 err.2))

  -- where no such line is due
  module _ (not_due : is_line_due old.header old.waiting.durable at time ≡ false) where
    pub part_look : {A : Type 0} (r : Result A Broken) (store : S) → MatchResult r (λ _. GoesOn keeps old.store store) (λ _. keeps old.store renewal_failed store)
        → MatchResult r (λ _. LooksAfter keeps days server at old (record { store = store; day = day; header = old.header; waiting = old.waiting })) (λ _. FailsToLook keeps days server at old (record { store = store; day = day; header = old.header; waiting = old.waiting }))
    part_look (Ok done) store (one_part did) = went_on time day store clear onward told not_due did
    part_look (Ok done) store (last_part did) = written time day store clear onward told not_due did
    part_look (Err broken) store did = renewal_fails time day store clear onward told did

    begins_well : (store : S) (header : Header) (waiting : WaitingValue) (changes : List Change) → header ≡ header_at old.header at time → changes ≡ begun_all at (live_rows server)
        → (mid : S) × Chain keeps old.store (lay_down (Looked time at)) mid × keeps mid (renewal_began header changes) store × (waiting ≡ laid_down (Looked time at) old.waiting) → LooksAfter keeps days server at old (record { store = store; day = day; header = header; waiting = waiting })
    begins_well store header waiting changes header_is live did =
        subst (λ (h : Header). LooksAfter keeps days server at old (record { store = store; day = day; header = h; waiting = waiting })) (sym header_is)
        (subst (λ (w : WaitingValue). LooksAfter keeps days server at old (record { store = store; day = day; header = header_at old.header at time; waiting = w })) (sym (did.3 ∙ clear_then time at old.waiting clear onward))
        (begun time day did.0 store clear onward told not_due did.1 (subst (λ (cs : List Change). keeps did.0 (renewal_began (header_at old.header at time) cs) store) live (subst (λ (h : Header). keeps did.0 (renewal_began h changes) store) header_is did.2))))

  begins_badly : (store : S) (header : Header) (waiting : WaitingValue) → header ≡ header_at old.header at time → FailsToBegin keeps (Looked time at) old.waiting old.store store waiting → FailsToLook keeps days server at old (record { store = store; day = day; header = header; waiting = waiting })
  begins_badly store header _ header_is (at_line calls _ fails did) =
      subst (λ (h : Header). FailsToLook keeps days server at old (record { store = store; day = day; header = h; waiting = dropped (with_line (Looked time at) old.waiting) })) (sym header_is) (line_fails time day store calls clear onward told fails did)
  begins_badly store header _ header_is (at_begin mid _ laid did) =
      subst (λ (h : Header). FailsToLook keeps days server at old (record { store = store; day = day; header = h; waiting = laid_down (Looked time at) old.waiting })) (sym header_is)
      (subst (λ (w : WaitingValue). FailsToLook keeps days server at old (record { store = store; day = day; header = header_at old.header at time; waiting = w })) (sym (clear_then time at old.waiting clear onward)) (begin_fails time day mid store clear onward told laid did))

  pub begin_look : is_line_due old.header old.waiting.durable at time ≡ false → {A : Type 0} (r : Result A Broken) (store : S) (header : Header) (waiting : WaitingValue) (changes : List Change) → header ≡ header_at old.header at time → changes ≡ begun_all at (live_rows server)
      → OnOk r ((mid : S) × Chain keeps old.store (lay_down (Looked time at)) mid × keeps mid (renewal_began header changes) store × (waiting ≡ laid_down (Looked time at) old.waiting))
      → OnErr r (FailsToBegin keeps (Looked time at) old.waiting old.store store waiting)
      → MatchResult r (λ _. LooksAfter keeps days server at old (record { store = store; day = day; header = header; waiting = waiting })) (λ _. FailsToLook keeps days server at old (record { store = store; day = day; header = header; waiting = waiting }))
  begin_look not_due (Ok done) store header waiting changes header_is live ok err = begins_well not_due store header waiting changes header_is live ok
  begin_look not_due (Err broken) store header waiting changes header_is live ok err = begins_badly store header waiting header_is err

-- ---- a line is laid down, and then a new file is begun

module _ {S : Type 0} (keeps : S → StoreCall → S → Type 0) (day at : ℕ) (waiting : WaitingValue) (old : S) where
  pub not_laid : (new : S) (after : WaitingValue) → (calls : List StoreCall) × LineFails (Looked day at) calls × Chain keeps old calls new × (after ≡ dropped (with_line (Looked day at) waiting)) → FailsToBegin keeps (Looked day at) waiting old new after
  not_laid new after did = subst (FailsToBegin keeps (Looked day at) waiting old new) (sym did.3) (at_line did.0 new did.1 did.2)

  pub not_begun : (mid to : S) (after : WaitingValue) → Chain keeps old (lay_down (Looked day at)) mid → after ≡ laid_down (Looked day at) waiting → {A : Type 0} (header : Header) (changes : List Change) (r : Result A Broken) → keeps mid (beginning header changes r) to
      → OnErr r (FailsToBegin keeps (Looked day at) waiting old to after)
  not_begun mid to after laid is header changes (Ok done) did = tt
  not_begun mid to after laid is header changes (Err broken) did = subst (FailsToBegin keeps (Looked day at) waiting old to) (sym is) (at_begin mid to laid did)
