-- What waits behind what was written.
use Rattle.std.proofs.Common.{◌≡◌, ◌≢◌, ℕ, ◌+◌, ◌-◌, ◌≤◌, List, [], ◌++◌, length, take, drop, Option, None, Some, Result, Ok, Err, sym, ap, subst, ◌∙◌, arith, take-append-drop, append-nil}
use Rattle.std.proofs.lemmas.List.{drop_all, drop-drop, length-drop}
use Rattle.std.specs.Prelude.{OnOk, OnErr}
use Rattle.std.specs.Io.KnownBytes.{Appends, Keeps, append_known}
use Rattle.std.proofs.KnownBytes.{append_known-moved, Appends-kept}
use Rattle.nbt_nbns.specs.Outboxes.{OutboxValue, note, one_dropped, Adds, is_added, is_none, is_dropped, adds, drops, Sends, SendsOrDrops}

-- a fact that holds whatever the result is
pub on_ok : {T E P : Type 0} (r : Result T E) → P → OnOk r P
on_ok (Ok x) p = p
on_ok (Err e) p = tt

pub on_err : {T E P : Type 0} (r : Result T E) → P → OnErr r P
on_err (Ok x) p = tt
on_err (Err e) p = p

pub on_err_so : {T E A B : Type 0} (r : Result T E) → OnErr r A → (A → B) → OnErr r B
on_err_so (Ok x) a so = tt
on_err_so (Err e) a so = so a

-- what the writer took no longer waits
pub handed_on : (a b : Option (List ℕ)) (start count : ℕ) (text all : List ℕ) → all ≡ drop start text → Appends a b (take count all) → Keeps (append_known a (drop start text)) (append_known b (drop (start + count) text))
handed_on a b start count text all is took =
    let waits = drop start text in
    let split : waits ≡ take count waits ++ drop (start + count) text =
    sym (take-append-drop count waits) ∙ ap (λ (r : List ℕ). take count waits ++ r) (drop-drop count start text) in
    append_known-moved a b (take count waits) (drop (start + count) text) waits (subst (λ (l : List ℕ). Appends a b (take count l)) is took) split

-- nothing waits exactly where all of the text was taken
pub all_taken : (start : ℕ) (text : List ℕ) → start ≡ length text → drop start text ≡ []
all_taken start text e = drop_all start text (omega (arith, e))

pub not_all_taken : (start : ℕ) (text : List ℕ) → start ≤ length text → drop start text ≡ [] → start ≡ length text
not_all_taken start text within none =
    let left : length text - start ≡ 0 = sym (length-drop start text) ∙ ap (λ (l : List ℕ). length l) none in
    omega (arith, within, left)

-- nothing is added
pub Keeps-as-nothing : (a b : Option (List ℕ)) → Keeps a b → Appends a b []
Keeps-as-nothing None b kept = tt
Keeps-as-nothing (Some x) None kept = absurd kept
Keeps-as-nothing (Some x) (Some y) kept = kept ∙ sym (append-nil x)

-- where nothing waits, what is written is all that there is
pub nothing_known : (a b : Option (List ℕ)) → Keeps a (append_known b []) → Keeps a b
nothing_known None b kept = tt
nothing_known (Some x) None kept = absurd kept
nothing_known (Some x) (Some y) kept = sym (append-nil y) ∙ kept

-- a text that is put where nothing waits is added
pub put_behind : (a b : Option (List ℕ)) (added : List ℕ) → Keeps a b → Appends a (append_known b added) added
put_behind None b added kept = tt
put_behind (Some x) None added kept = absurd kept
put_behind (Some x) (Some y) added kept = ap (λ (l : List ℕ). l ++ added) kept

-- ---- what came of a line

pub none_sent : (old new : OutboxValue) (line : List ℕ) (a b : Option (List ℕ)) → line ≡ [] → new.dropped ≡ old.dropped → Keeps (append_known a old.waiting) (append_known b new.waiting) → Sends old line a new b
none_sent old new line a b none same kept =
    ([], subst (λ (n : ℕ). Adds old line [] (record { waiting = new.waiting; dropped = n })) (sym same) (is_none new.waiting none), Keeps-as-nothing (append_known a old.waiting) (append_known b new.waiting) kept)

-- a line that isn't empty has octets
pub no_empty_line : (line : List ℕ) → length line ≢ 0 → line ≢ []
no_empty_line line some none = some (ap (λ (l : List ℕ). length l) none)

pub line_dropped : (old here new : OutboxValue) (line : List ℕ) (a b : Option (List ℕ)) → line ≢ [] → here.waiting ≢ [] → here.dropped ≡ old.dropped → new ≡ record here { dropped = one_dropped here.dropped }
    → Keeps (append_known a old.waiting) (append_known b here.waiting) → Sends old line a new b
line_dropped old here new line a b some waits same counted kept =
    let is : new ≡ record { waiting = here.waiting; dropped = one_dropped old.dropped } = counted ∙ ap (λ (n : ℕ). record here { dropped = one_dropped n }) same in
    subst (λ (o : OutboxValue). Sends old line a o b) (sym is) ([], is_dropped here.waiting some waits, Keeps-as-nothing (append_known a old.waiting) (append_known b here.waiting) kept)

pub line_sent : (old here filled new : OutboxValue) (line : List ℕ) (a b c : Option (List ℕ)) → line ≢ [] → here.waiting ≡ [] → here.dropped ≡ old.dropped → filled ≡ record { waiting = note here.dropped ++ line; dropped = 0 } → new.dropped ≡ filled.dropped
    → Keeps (append_known a old.waiting) (append_known b here.waiting) → Keeps (append_known b filled.waiting) (append_known c new.waiting) → Sends old line a new c
line_sent old here filled new line a b c some none same fills zero before after =
    let added = note old.dropped ++ line in
    let waits : filled.waiting ≡ added = ap (λ (o : OutboxValue). o.waiting) fills ∙ ap (λ (n : ℕ). note n ++ line) same in
    let none_dropped : new.dropped ≡ 0 = zero ∙ ap (λ (o : OutboxValue). o.dropped) fills in
    let empty : Keeps (append_known a old.waiting) b = nothing_known (append_known a old.waiting) b (subst (λ (w : List ℕ). Keeps (append_known a old.waiting) (append_known b w)) none before) in
    let put : Appends (append_known a old.waiting) (append_known b filled.waiting) added = subst (λ (w : List ℕ). Appends (append_known a old.waiting) (append_known b w) added) (sym waits) (put_behind (append_known a old.waiting) b added empty) in
    (added, subst (λ (n : ℕ). Adds old line added (record { waiting = new.waiting; dropped = n })) (sym none_dropped) (is_added new.waiting some), Appends-kept (append_known a old.waiting) (append_known b filled.waiting) (append_known c new.waiting) added put after)

-- ---- where the writer failed, or memory was refused

-- the line is added all the same
pub sent_all_the_same : (old new : OutboxValue) (line : List ℕ) (a b : Option (List ℕ)) → Sends old line a new b → SendsOrDrops old line a new b
sent_all_the_same old new line a b sent = (sent.0, adds sent.0 new sent.1, sent.2)

-- it is dropped, and counted
pub line_lost : (old here new : OutboxValue) (line : List ℕ) (a b : Option (List ℕ)) → line ≢ [] → here.dropped ≡ old.dropped → new ≡ record here { dropped = one_dropped here.dropped }
    → Keeps (append_known a old.waiting) (append_known b here.waiting) → SendsOrDrops old line a new b
line_lost old here new line a b some same counted kept =
    let is : new ≡ record { waiting = here.waiting; dropped = one_dropped old.dropped } = counted ∙ ap (λ (n : ℕ). record here { dropped = one_dropped n }) same in
    subst (λ (o : OutboxValue). SendsOrDrops old line a o b) (sym is) ([], drops here.waiting some, Keeps-as-nothing (append_known a old.waiting) (append_known b here.waiting) kept)
