-- What the log has after some events.
use Rattle.std.proofs.Common.{◌≡◌, ◌≢◌, ◌≤◌, ℕ, ◌+◌, ◌-◌, ◌^◌, min, Bool, List, [], ◌∷◌, ◌++◌, Option, Some, None, refl, sym, ap, subst, ◌∙◌, append-nil, append_assoc, arith}
use Rattle.std.specs.Io.KnownBytes.{Appends, append_known}
use Rattle.std.proofs.lemmas.Option.{same_Some}
use Rattle.nbt_port.specs.PortCalls.{Chain}
use Rattle.nbt_log.specs.Tallies.{counted}
use Rattle.nbt_log.specs.declared.dates.Dates.{Dates}
use Rattle.nbt_log.specs.declared.entry.Entry.{Entry}
use Rattle.nbt_log.specs.declared.tally.Tally.{Tally}
use Rattle.nbt_nbns.specs.Journaling.{LogsIn, no_log, logged, was_refused, dropped_of}
use Rattle.nbt_nbns.specs.Logging as logging
use Rattle.nbt_nbns.specs.Logging.{LoggerValue, PrintsOrDrops, is_made, is_unmade, drops_one}
use Rattle.nbt_nbns.specs.Outboxes as outbox
use Rattle.nbt_nbns.specs.Outboxes.{OutboxValue, Adds, AddsOrDrops, adds, drops, note, one_dropped}
use Rattle.nbt_nbns.specs.declared.journal.Journal.{Journal}
use Rattle.nbt_nbns.specs.Places.{FileValue}
use Rattle.nbt_nbns.specs.declared.staying.Shown.{Shown}
use Rattle.nbt_whole.specs.Watched.{Watched, Event, acted, was_shown, were_fixed, Happens, acts, sees, notes}
use Rattle.nbt_whole.specs.Printed.{IsLineOf, AreLines, IsLog, ends, is_empty, is_printed, is_dropped, Prints, EachLineIsPrintedOrCounted}

-- ---- texts that grow

appends_none : (known : Option (List ℕ)) → Appends known known []
appends_none None = tt
appends_none (Some text) = sym (append-nil text)

appends_on : (a b c : Option (List ℕ)) (first second : List ℕ) → Appends a b first → Appends b c second → Appends a c (first ++ second)
appends_on None b c first second one two = tt
appends_on (Some a) None c first second one two = absurd one
appends_on (Some a) (Some b) None first second one two = absurd two
appends_on (Some a) (Some b) (Some c) first second one two = two ∙ ap (λ (all : List ℕ). all ++ second) one ∙ append_assoc a first second

-- ---- a line

-- a line is printed, or there is none, or it is dropped, and counted
data Comes (before : ℕ) : Option (List ℕ) → (added : List ℕ) → (after : ℕ) → Type 0 where
  prints_it : (line : List ℕ) → line ≢ [] → Comes before (Some line) (note before ++ line) 0
  has_none : Comes before (Some []) [] before
  drops_it : (line : Option (List ℕ)) → line ≢ Some [] → Comes before line [] (one_dropped before)

some_line : (line : List ℕ) → line ≢ [] → Some line ≢ Some []
some_line line some none = some (same_Some line [] none)

no_known_line : (known line : Option (List ℕ)) → known ≡ None → line ≡ Some [] → known ≢ line
no_known_line known line none some same = absurd cc

came_of : (old : OutboxValue) (line added : List ℕ) (new : OutboxValue) → Adds old line added new → Comes old.dropped (Some line) added new.dropped
came_of old line _ _ (outbox.is_added rest some) = prints_it line some
came_of old line _ _ (outbox.is_none rest none) = subst (λ (l : List ℕ). Comes old.dropped (Some l) [] old.dropped) (sym none) has_none
came_of old line _ _ (outbox.is_dropped rest some waits) = drops_it (Some line) (some_line line some)

came_in_any_case : (old : OutboxValue) (line added : List ℕ) (new : OutboxValue) → AddsOrDrops old line added new → Comes old.dropped (Some line) added new.dropped
came_in_any_case old line _ _ (adds added new came) = came_of old line added new came
came_in_any_case old line _ _ (drops rest some) = drops_it (Some line) (some_line line some)

-- what came of the line of a showing
record Handed (dates : Dates) (shown : Shown) (old_text : Option (List ℕ)) (old : LoggerValue) (new : Option LoggerValue) (text : Option (List ℕ)) : Type 0 where
  pub logger : LoggerValue
  pub there : new ≡ Some logger
  pub line : Option (List ℕ)
  pub added : List ℕ
  pub is_line : IsLineOf old.broadcasts dates shown.at shown.entry old.limiters line logger.limiters
  pub came : Comes old.outbox.dropped line added logger.outbox.dropped
  pub grows : Appends (append_known old_text old.outbox.waiting) (append_known text logger.outbox.waiting) added
  pub broadcasts_stay : logger.broadcasts ≡ old.broadcasts

handed_on : (dates : Dates) (shown : Shown) (old_text : Option (List ℕ)) (old new : LoggerValue) (text : Option (List ℕ)) → logging.Prints old dates shown.at shown.entry old_text new text → Handed dates shown old_text old (Some new) text
handed_on dates shown old_text old new text prints = record {
  logger = new;
  there = refl;
  line = Some prints.line;
  added = prints.sends.0;
  is_line = prints.logs;
  came = came_of old.outbox prints.line prints.sends.0 new.outbox prints.sends.1;
  grows = prints.sends.2;
  broadcasts_stay = prints.broadcasts_stay;
}

handed_in_any_case : (dates : Dates) (shown : Shown) (old_text : Option (List ℕ)) (old new : LoggerValue) (text : Option (List ℕ)) → PrintsOrDrops old dates shown.at shown.entry old_text new text → Handed dates shown old_text old (Some new) text
handed_in_any_case dates shown old_text old _ _ (is_made line new text logs sends stay) = record {
  logger = new;
  there = refl;
  line = Some line;
  added = sends.0;
  is_line = logs;
  came = came_in_any_case old.outbox line sends.0 new.outbox sends.1;
  grows = sends.2;
  broadcasts_stay = stay;
}
handed_in_any_case dates shown old_text old _ _ (is_unmade limiters unmade) = record {
  logger = drops_one old limiters;
  there = refl;
  line = None;
  added = [];
  is_line = unmade;
  came = drops_it None (no_known_line None (Some []) refl refl);
  grows = appends_none (append_known old_text old.outbox.waiting);
  broadcasts_stay = refl;
}

handed : (dates : Dates) (shown : Shown) (old_text : Option (List ℕ)) (old new : Option LoggerValue) (text : Option (List ℕ)) → LogsIn dates shown old_text old new text → (logger : LoggerValue) → old ≡ Some logger → Handed dates shown old_text logger new text
handed dates shown old_text _ _ _ no_log logger is = absurd cc
handed dates shown old_text _ _ _ (logged old new text prints) logger is = subst (λ (l : LoggerValue). Handed dates shown old_text l (Some new) text) (same_Some old logger is) (handed_on dates shown old_text old new text prints)
handed dates shown old_text _ _ _ (was_refused old new text prints) logger is =
    subst (λ (l : LoggerValue). Handed dates shown old_text l (Some new) text) (same_Some old logger is) (handed_in_any_case dates shown old_text old new text prints)

-- ---- what an event makes of the log

abbrev Info : Event → Watched → Watched → Type 0
Info (acted entry) first mid = (mid.journal ≡ first.journal) × (mid.text ≡ first.text)
Info (was_shown shown) first mid =
    (old : LoggerValue) → first.journal.log ≡ Some old → Handed mid.journal.dates shown first.text old mid.journal.log mid.text × (mid.journal.tally ≡ counted shown.entry (dropped_of mid.journal.log - dropped_of first.journal.log) first.journal.tally)
Info (were_fixed capitals) first mid = (mid.journal.log ≡ first.journal.log) × (mid.text ≡ first.text) × (mid.journal.tally ≡ first.journal.tally)

info : (first mid : Watched) (event : Event) → Happens first event mid → Info event first mid
info first _ _ (acts entry server does) = (refl, refl)
info first _ _ (sees shown journal text saw) = λ old is. (handed journal.dates shown first.text first.journal.log journal.log text saw.logs old is, saw.tally_is)
info first _ _ (notes capitals journal noted) = (ap (λ (j : Journal ℕ FileValue). j.log) noted, refl, ap (λ (j : Journal ℕ FileValue). j.tally) noted)

-- ---- one line

-- what the counts are after a line, by those before
abbrev Counts : (before after dropped dropped_in_all : ℕ) → Type 0
Counts before after dropped dropped_in_all = (tally count : ℕ) → tally ≡ min count (2 ^ 64 - 1) → before ≤ tally
    → (now : ℕ) × (min (tally + (after - before)) (2 ^ 64 - 1) ≡ min now (2 ^ 64 - 1)) × (after ≤ min (tally + (after - before)) (2 ^ 64 - 1)) × (now + dropped ≡ count + dropped_in_all)

count_added : (most tally before count : ℕ) → tally ≡ min count most → before ≤ tally → (min (tally + (0 - before)) most ≡ min count most) × (0 ≤ min (tally + (0 - before)) most)
count_added most tally before count is below = (omega (arith, is, below), omega arith)

count_none : (most tally before count : ℕ) → tally ≡ min count most → before ≤ tally → (min (tally + (before - before)) most ≡ min count most) × (before ≤ min (tally + (before - before)) most)
count_none most tally before count is below = (omega (arith, is, below), omega (arith, is, below))

count_dropped : (most tally before count : ℕ) → tally ≡ min count most → before ≤ tally
    → (min (tally + (min (before + 1) most - before)) most ≡ min (count + 1) most) × (min (before + 1) most ≤ min (tally + (min (before + 1) most - before)) most)
count_dropped most tally before count is below = (omega (arith, is, below), omega (arith, is, below))

record Line (before : ℕ) (line : Option (List ℕ)) (added : List ℕ) (after : ℕ) (others : List (Option (List ℕ))) (text : List ℕ) (still dropped : ℕ) : Type 0 where
  pub in_all : ℕ
  pub is_log : IsLog before (line ∷ others) (added ++ text) still in_all
  pub counts : Counts before after dropped in_all

one_line : (before : ℕ) (line : Option (List ℕ)) (added : List ℕ) (after : ℕ) → Comes before line added after → (others : List (Option (List ℕ))) (text : List ℕ) (still dropped : ℕ) → IsLog after others text still dropped → Line before line added after others text still dropped
one_line before _ _ _ (prints_it line some) others text still dropped log = record {
  in_all = dropped;
  is_log = is_printed before line others text still dropped some log;
  counts = λ tally count is below. let c = count_added (2 ^ 64 - 1) tally before count is below in (count, c.0, c.1, refl);
}
one_line before _ _ _ has_none others text still dropped log = record {
  in_all = dropped;
  is_log = is_empty before others text still dropped log;
  counts = λ tally count is below. let c = count_none (2 ^ 64 - 1) tally before count is below in (count, c.0, c.1, refl);
}
one_line before _ _ _ (drops_it line some) others text still dropped log = record {
  in_all = dropped + 1;
  is_log = is_dropped before line others text still dropped some log;
  counts = λ tally count is below. let c = count_dropped (2 ^ 64 - 1) tally before count is below in (count + 1, c.0, c.1, omega arith);
}

lines_counted : (entry : Option Entry) (dropped : ℕ) (all : Tally) → (counted entry dropped all).lines_dropped ≡ min (all.lines_dropped + dropped) (2 ^ 64 - 1)
lines_counted None dropped all = refl
lines_counted (Some entry) dropped all = refl

-- ---- all lines

ended : (first last : Watched) (chain : last ≡ first) (old : LoggerValue) → first.journal.log ≡ Some old → Prints first [] last chain old
ended first last chain old is = record {
  new = old;
  lines = [];
  text = [];
  dropped = 0;
  is_there = ap (λ (w : Watched). w.journal.log) chain ∙ is;
  are_lines = (refl, refl);
  is_log = ends old.outbox.dropped;
  grows = subst (λ (t : Option (List ℕ)). Appends (append_known first.text old.outbox.waiting) (append_known t old.outbox.waiting) []) (sym (ap (λ (w : Watched). w.text) chain)) (appends_none (append_known first.text old.outbox.waiting));
  counted = λ count was below. (ap (λ (w : Watched). w.journal.tally.lines_dropped) chain ∙ was) ∙ ap (λ (n : ℕ). min n (2 ^ 64 - 1)) (nothing_more count);
}
  where
    nothing_more : (count : ℕ) → count ≡ count + 0
    nothing_more count = omega arith

pub printed : (first last : Watched) (events : List Event) (chain : Chain Happens first events last) → (old : LoggerValue) → first.journal.log ≡ Some old → Prints first events last chain old
printed first last [] chain old is = ended first last chain old is
printed first last (acted entry ∷ events) chain old is =
    let same = info first chain.0 (acted entry) chain.1 in
    let rest = printed chain.0 last events chain.2 old (ap (λ (j : Journal ℕ FileValue). j.log) same.0 ∙ is) in
    record {
      new = rest.new;
      lines = rest.lines;
      text = rest.text;
      dropped = rest.dropped;
      is_there = rest.is_there;
      are_lines = rest.are_lines;
      is_log = rest.is_log;
      grows = subst (λ (t : Option (List ℕ)). Appends (append_known t old.outbox.waiting) (append_known last.text rest.new.outbox.waiting) rest.text) same.1 rest.grows;
      counted = λ count was below. rest.counted count (ap (λ (j : Journal ℕ FileValue). j.tally.lines_dropped) same.0 ∙ was) (subst (λ (j : Journal ℕ FileValue). old.outbox.dropped ≤ j.tally.lines_dropped) (sym same.0) below);
    }
printed first last (were_fixed capitals ∷ events) chain old is =
    let same = info first chain.0 (were_fixed capitals) chain.1 in
    let rest = printed chain.0 last events chain.2 old (same.0 ∙ is) in
    record {
      new = rest.new;
      lines = rest.lines;
      text = rest.text;
      dropped = rest.dropped;
      is_there = rest.is_there;
      are_lines = rest.are_lines;
      is_log = rest.is_log;
      grows = subst (λ (t : Option (List ℕ)). Appends (append_known t old.outbox.waiting) (append_known last.text rest.new.outbox.waiting) rest.text) same.1 rest.grows;
      counted = λ count was below. rest.counted count (ap (λ (t : Tally). t.lines_dropped) same.2 ∙ was) (subst (λ (t : Tally). old.outbox.dropped ≤ t.lines_dropped) (sym same.2) below);
    }
printed first last (was_shown shown ∷ events) chain old is =
    let said = info first chain.0 (was_shown shown) chain.1 old is in
    let mid = said.0.logger in
    let rest = printed chain.0 last events chain.2 mid said.0.there in
    let line = one_line old.outbox.dropped said.0.line said.0.added mid.outbox.dropped said.0.came rest.lines rest.text rest.new.outbox.dropped rest.dropped rest.is_log in
    let tally_is : chain.0.journal.tally.lines_dropped ≡ min (first.journal.tally.lines_dropped + (mid.outbox.dropped - old.outbox.dropped)) (2 ^ 64 - 1) =
    ap (λ (t : Tally). t.lines_dropped) said.1 ∙ lines_counted shown.entry (dropped_of chain.0.journal.log - dropped_of first.journal.log) first.journal.tally
    ∙ ap (λ (l : Option LoggerValue). min (first.journal.tally.lines_dropped + (dropped_of l - dropped_of first.journal.log)) (2 ^ 64 - 1)) said.0.there
    ∙ ap (λ (l : Option LoggerValue). min (first.journal.tally.lines_dropped + (mid.outbox.dropped - dropped_of l)) (2 ^ 64 - 1)) is in
    record {
      new = rest.new;
      lines = said.0.line ∷ rest.lines;
      text = said.0.added ++ rest.text;
      dropped = line.in_all;
      is_there = rest.is_there;
      are_lines = (
        said.0.line,
        rest.lines,
        mid.limiters,
        refl,
        said.0.is_line,
        subst (λ (b : Bool). AreLines b chain.0 events last chain.2 mid.limiters rest.lines rest.new.limiters) said.0.broadcasts_stay rest.are_lines,
      );
      is_log = line.is_log;
      grows = appends_on (append_known first.text old.outbox.waiting) (append_known chain.0.text mid.outbox.waiting) (append_known last.text rest.new.outbox.waiting) said.0.added rest.text said.0.grows rest.grows;
      counted = λ count was below.
          let now = line.counts first.journal.tally.lines_dropped count was below in
          rest.counted now.0 (tally_is ∙ now.1) (subst (λ (n : ℕ). mid.outbox.dropped ≤ n) (sym tally_is) now.2) ∙ ap (λ (n : ℕ). min n (2 ^ 64 - 1)) now.3;
    }

pub each_line_is_printed_or_counted : EachLineIsPrintedOrCounted
each_line_is_printed_or_counted first last events chain old is = printed first last events chain old is
