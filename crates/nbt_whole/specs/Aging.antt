-- How old the lists and the statistics are at most, unless a look at them failed lately (our profile).
use Rattle.std.specs.Prelude.{◌≡◌, ◌⊎◌, ⊤, ℕ, ◌+◌, ◌*◌, ◌/◌, ◌≤◌, List, [], ◌∷◌, length, Option, Some, None, IfSome}
use Rattle.nbt_lease.specs.Lease.{Rows}
use Rattle.nbt_log.specs.Drafts.{ListingValue}
use Rattle.nbt_port.specs.PortCalls.{Chain}
use Rattle.nbt_nbns.specs.Journaling.{ListsIn, not_listed, listed, KeepsIn, not_kept, looked}
use Rattle.nbt_nbns.specs.Keeping.{KeeperValue, Keeps}
use Rattle.nbt_nbns.specs.Keeping as keep
use Rattle.nbt_nbns.specs.Listers.{ListerValue, ListsOn}
use Rattle.nbt_nbns.specs.Listers as list
use Rattle.nbt_nbns.specs.declared.keeper.Kept.{Kept}
use Rattle.nbt_nbns.specs.declared.staying.Shown.{Shown}
use Rattle.nbt_whole.specs.Watched.{Watched, Event, acted, was_shown, were_fixed, Happens, acts, sees, notes}
use Rattle.nbt_whole.specs.Said.{IsNew, WasOnce, leases_then, hosts_then, Lists, ReportsStats}

-- ---- when a look failed last, if one did: memory was refused, or the place refused the text

abbrev pub failed_at_list : {L : Type 0} {puts refuses : L → List ℕ → L → Type 0} {listing : ListingValue} {rows : Rows} {now : ℕ} {old new : ListerValue L} {kept : Kept} → ListsOn puts refuses listing rows now old kept new → (at : ℕ) → (before : Option ℕ) → Option ℕ
failed_at_list (list.early due) at before = before
failed_at_list (list.unfinished due part) at before = before
failed_at_list (list.same text due whole says is) at before = before
failed_at_list (list.written text place due whole says other put) at before = before
failed_at_list (list.no_memory due) at before = Some at
failed_at_list (list.refused text place due whole says other refuse) at before = Some at

abbrev pub failed_at_report : {L : Type 0} {puts refuses : L → List ℕ → L → Type 0} {IsText : List ℕ → Type 0} {now : ℕ} {old new : KeeperValue L} {kept : Kept} → Keeps puts refuses IsText now old kept new → (at : ℕ) → (before : Option ℕ) → Option ℕ
failed_at_report (keep.early due) at before = before
failed_at_report (keep.same text due says is) at before = before
failed_at_report (keep.written text place due says other put) at before = before
failed_at_report (keep.no_memory due) at before = Some at
failed_at_report (keep.refused text place due says other refuse) at before = Some at

-- where one is kept
abbrev pub failed_if_listed : {L : Type 0} {puts refuses : L → List ℕ → L → Type 0} {listing : ListingValue} {rows : Rows} {now : ℕ} {old new : Option (ListerValue L)} → ListsIn puts refuses listing rows now old new → (at : ℕ) → (before : Option ℕ) → Option ℕ
failed_if_listed not_listed at before = before
failed_if_listed (listed old kept new on) at before = failed_at_list on at before

abbrev pub failed_if_kept : {L : Type 0} {puts refuses : L → List ℕ → L → Type 0} {IsText : List ℕ → Type 0} {now : ℕ} {old new : Option (KeeperValue L)} → KeepsIn puts refuses IsText now old new → (at : ℕ) → (before : Option ℕ) → Option ℕ
failed_if_kept not_kept at before = before
failed_if_kept (looked old kept new on) at before = failed_at_report on at before

-- after one event more: of the list of leases, of the hosts, and of the statistics
abbrev pub leases_failed : (old : Watched) (event : Event) (new : Watched) → Happens old event new → (before : Option ℕ) → Option ℕ
leases_failed old _ _ (acts entry server does) before = before
leases_failed old _ _ (sees shown journal text saw) before = failed_if_listed saw.leases_kept shown.at before
leases_failed old _ _ (notes capitals journal noted) before = before

abbrev pub hosts_failed : (old : Watched) (event : Event) (new : Watched) → Happens old event new → (before : Option ℕ) → Option ℕ
hosts_failed old _ _ (acts entry server does) before = before
hosts_failed old _ _ (sees shown journal text saw) before = failed_if_listed saw.hosts_kept shown.at before
hosts_failed old _ _ (notes capitals journal noted) before = before

abbrev pub stats_failed : (old : Watched) (event : Event) (new : Watched) → Happens old event new → (before : Option ℕ) → Option ℕ
stats_failed old _ _ (acts entry server does) before = before
stats_failed old _ _ (sees shown journal text saw) before = failed_if_kept saw.stats_kept shown.at before
stats_failed old _ _ (notes capitals journal noted) before = before

-- after these events
abbrev pub failed_last : ((old : Watched) (event : Event) (new : Watched) → Happens old event new → Option ℕ → Option ℕ) → (before : Option ℕ) → (first : Watched) → (events : List Event) → (last : Watched) → Chain Happens first events last → Option ℕ
failed_last failed before first [] last chain = before
failed_last failed before first (event ∷ events) last chain = failed_last failed (failed first event chain.0 chain.1 before) chain.0 events last chain.2

-- ---- showings

-- Each showing is no earlier than the one before it, and at most `gap` milliseconds later; the first is so by `now`. The server has at most `most` rows at each.
abbrev pub IsSteady : (gap most now : ℕ) → (first : Watched) → (events : List Event) → (last : Watched) → Chain Happens first events last → Type 0
IsSteady gap most now first [] last chain = ⊤
IsSteady gap most now first (acted entry ∷ events) last chain = IsSteady gap most now chain.0 events last chain.2
IsSteady gap most now first (was_shown shown ∷ events) last chain =
    (now ≤ shown.at) × (shown.at ≤ now + gap) × (length first.server.table.rows ≤ most) × IsSteady gap most shown.at chain.0 events last chain.2
IsSteady gap most now first (were_fixed capitals ∷ events) last chain = IsSteady gap most now chain.0 events last chain.2

-- the moment of the last showing
abbrev pub latest : (now : ℕ) → List Event → ℕ
latest now [] = now
latest now (acted entry ∷ events) = latest now events
latest now (was_shown shown ∷ events) = latest shown.at events
latest now (were_fixed capitals ∷ events) = latest now events

-- ---- the laws

-- so many looks a list takes at most behind its first one, by parts of 256 rows; of the hosts all names are noted first
abbrev pub leases_looks : (most : ℕ) → ℕ
leases_looks most = most / 256

abbrev pub hosts_looks : (most : ℕ) → ℕ
hosts_looks most = 2 * (most / 256)

-- so many milliseconds old at most: a second until a list is begun, and twice as long as a list takes
abbrev pub oldest : (gap looks : ℕ) → ℕ
oldest gap looks = 1000 + gap + 2 * (looks * (5 + gap))

-- the text is that of a showing, and by `now` it isn't older than that
abbrev pub IsRecent : (Says : List ℕ → Watched → Shown → Watched → Type 0) → (age now : ℕ) → List ℕ → (old : Watched) → Shown → (new : Watched) → Type 0
IsRecent Says age now text old shown new = Says text old shown new × (now ≤ shown.at + age)

-- a look failed, and by `now` that isn't longer ago than that
abbrev pub FailedLately : (age now : ℕ) → (failed : Option ℕ) → Type 0
FailedLately age now None = ⊥
FailedLately age now (Some at) = now ≤ at + age

-- The text of a place is recent, unless a look failed lately. Before the place has one, it isn't later than that either.
abbrev pub HasRecent : (Says : List ℕ → Watched → Shown → Watched → Type 0) → (age begun now : ℕ) → (failed : Option ℕ) → (first : Watched) → (events : List Event) → (last : Watched) → (text : Option (List ℕ)) → Type 0
HasRecent Says age begun now failed first events last text =
    IfSome text (λ text. WasOnce (IsRecent Says age now text) first events last ⊎ FailedLately age now failed) × (text ≡ None → (now ≤ begun + age) ⊎ FailedLately age now failed)

-- So it is after any events that are steady from `begun` on, and so at any time of a run that is: of the list of leases,
abbrev pub LeasesAreRecent : Type 0
LeasesAreRecent = (gap most begun : ℕ) (first last : Watched) (events : List Event) (chain : Chain Happens first events last) → IsNew first → IsSteady gap most begun first events last chain
    → IfSome last.journal.leases (λ lister. HasRecent (Lists leases_then) (oldest gap (leases_looks most)) begun (latest begun events) (failed_last leases_failed None first events last chain) first events last lister.text)

-- of the hosts,
abbrev pub HostsAreRecent : Type 0
HostsAreRecent = (gap most begun : ℕ) (first last : Watched) (events : List Event) (chain : Chain Happens first events last) → IsNew first → IsSteady gap most begun first events last chain
    → IfSome last.journal.hosts (λ lister. HasRecent (Lists hosts_then) (oldest gap (hosts_looks most)) begun (latest begun events) (failed_last hosts_failed None first events last chain) first events last lister.text)

-- and of the statistics, which are a second old at most
abbrev pub StatisticsAreRecent : Type 0
StatisticsAreRecent = (gap most begun : ℕ) (first last : Watched) (events : List Event) (chain : Chain Happens first events last) → IsNew first → IsSteady gap most begun first events last chain
    → IfSome last.journal.stats (λ keeper. HasRecent ReportsStats 1000 begun (latest begun events) (failed_last stats_failed None first events last chain) first events last keeper.text)
