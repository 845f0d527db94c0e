-- What is done keeps what holds of each further address, but for one that is confirmed, or that answers.
use Rattle.std.proofs.Common.{◌≡◌, ℕ, Bool, true, false, List, [], ◌∷◌, ◌++◌, Option, Some, None, refl, ap, ◌∙◌}
use Rattle.std.specs.Prelude.{filter, min, nat_eq, not, ◌&&◌, if◌then◌else◌, IfSome}
use Rattle.std.specs.List.{AllByRecursion, find, list_any}
use Rattle.std.proofs.lemmas.Bool.{eqb-true}
use Rattle.nbt_name.proofs.Same.{same_name-true}
use Rattle.nbt_name.specs.Wire.{NameValue, same_name}
use Rattle.nbt_packet.specs.Message.{MessageValue, found, registered, released}
use Rattle.nbt_lease.specs.Lease.{TableValue}
use Rattle.nbt_lease.specs.declared.lease.Lease.{Lease}
use Rattle.nbt_server.specs.Serving.{seconds_until}
use Rattle.nbt_confirm.specs.declared.further.Further.{Further}
use Rattle.nbt_confirm.specs.declared.further.Put.{Put}
use Rattle.nbt_confirm.specs.declared.further.Put.TheVariants as put
use Rattle.nbt_confirm.specs.declared.outcome.Outcome.{Outcome}
use Rattle.nbt_confirm.specs.declared.outcome.Outcome.TheVariants as o
use Rattle.nbt_confirm.specs.declared.request.Request.{Request}
use Rattle.nbt_confirm.specs.Firsts.{with_first}
use Rattle.nbt_confirm.specs.Further.{is_of as is_named, is_at, is_confirmed, is_kept, is_next, kept_at, put_as, put_row, reached_row, renewed_row, with_put}
use Rattle.nbt_confirm.specs.Inquiries.{ConfirmedValue}
use Rattle.nbt_waits.specs.declared.asking.Asking.{Asking}
use Rattle.nbt_waits.specs.Asking.{end_by, is_of, lease_at}
use Rattle.nbt_waits.specs.Doing.{Done}
use Rattle.nbt_waits.specs.Lapsing.{follows_by, passes_on, passes_to}
use Rattle.nbt_waits.specs.Laws.{IsConfirmed}
use Rattle.nbt_waits.specs.Sending.{Left, behind, holder_in, leaves, lists_more, refuses_release, refuses_unique}
use Rattle.nbt_waits.specs.Settling.{accepts, accepts_put, confirms, holds_back, is_full, is_reached, puts_until, renews_until, settles, tells_to_wait, until_of}

both_true : (a b : Bool) → a && b ≡ true → (a ≡ true) × (b ≡ true)
both_true true true is = (refl, refl)
both_true true false is = absurd cc
both_true false b is = absurd cc

-- ---- lists

module _ (P : Further → Type 0) where
  kept_filtered : (test : Further → Bool) (rows : List Further) → AllByRecursion P rows → AllByRecursion P (filter test rows)
  kept_filtered test [] all = tt
  kept_filtered test (row ∷ rows) all = elim (test row) as (λ b. test row ≡ b → AllByRecursion P (filter test (row ∷ rows))) [
    | true ↦ λ is. rw is (all.0, kept_filtered test rows all.1)
    | false ↦ λ is. rw is (kept_filtered test rows all.1)
  ] refl

  kept_changed : (test : Further → Bool) (change : Further → Further) → ((row : Further) → test row ≡ true → P row → P (change row)) → (rows : List Further) → AllByRecursion P rows → AllByRecursion P (with_first test change rows)
  kept_changed test change keeps [] all = tt
  kept_changed test change keeps (row ∷ rows) all = elim (test row) as (λ b. test row ≡ b → AllByRecursion P (with_first test change (row ∷ rows))) [
    | true ↦ λ is. rw is (keeps row is all.0, all.1)
    | false ↦ λ is. rw is (all.0, kept_changed test change keeps rows all.1)
  ] refl

  kept_behind : (rows : List Further) (row : Further) → AllByRecursion P rows → P row → AllByRecursion P (rows ++ row ∷ [])
  kept_behind [] row all is = (is, tt)
  kept_behind (first ∷ rows) row all is = (all.0, kept_behind rows row all.1 is)

-- ---- what is done keeps what the rows, and one that is put, are

-- what is put has never answered, and a renewal changes times alone
module _ (P : Further → Type 0) (renews : (row : Further) (holder until end : ℕ) → P row → P (renewed_row holder until end row)) where
  kept_by_put : (how : Put) (rows : List Further) (c : ConfirmedValue) (until end : ℕ) → AllByRecursion P rows → P (put_row c until end) → AllByRecursion P (with_put how rows c until end)
  kept_by_put put.Begun rows c until end all is = kept_behind P rows (put_row c until end) all is
  kept_by_put put.Renewed rows c until end all is = kept_changed P (is_at c.name c.addr) (renewed_row c.holder until end) (λ row at p. renews row c.holder until end p) rows all
  kept_by_put put.NameFull rows c until end all is = all
  kept_by_put put.Full rows c until end all is = all

  if_keeps : (test : Bool) (a b : Done) → AllByRecursion P a.asking.further → AllByRecursion P b.asking.further → AllByRecursion P (if test then a else b).asking.further
  if_keeps true a b first second = first
  if_keeps false a b first second = second

  accepts_keeps : (seconds : ℕ) (r : Request) (old : Asking) → AllByRecursion P old.further → AllByRecursion P (accepts seconds r old).asking.further
  accepts_keeps seconds r old all = if_keeps (is_reached old.further r) _ _ all all

  accepts_put_keeps : (how : Put) (seconds : ℕ) (r : Request) (old : Asking) → AllByRecursion P old.further → AllByRecursion P (accepts_put how seconds r old).asking.further
  accepts_put_keeps put.Begun seconds r old all = accepts_keeps seconds r old all
  accepts_put_keeps put.Renewed seconds r old all = accepts_keeps seconds r old all
  accepts_put_keeps put.NameFull seconds r old all = all
  accepts_put_keeps put.Full seconds r old all = all

  puts_until_keeps : (end : Option ℕ) (table : TableValue) (now : ℕ) (r : Request) (c : ConfirmedValue) (old : Asking) → AllByRecursion P old.further → ((until end : ℕ) → P (put_row c until end)) → AllByRecursion P (puts_until end table now r c old).asking.further
  puts_until_keeps None table now r c old all is = all
  puts_until_keeps (Some end) table now r c old all is =
      let how = put_as (kept_at now old.further) c in
      let rows = kept_at now old.further in
      let until = until_of table now r.ttl in
      let kept = kept_by_put how rows c until end (kept_filtered P (is_kept now) old.further all) (is until end) in
      if_keeps (is_full table now r.name r.addr old) _ _ all (accepts_put_keeps how (seconds_until now (min until end)) r (record old { further = with_put how rows c until end }) kept)

  confirms_keeps : (table : TableValue) (now : ℕ) (r : Request) (c : Option ConfirmedValue) (old : Asking) → AllByRecursion P old.further → IfSome c (λ c. (until end : ℕ) → P (put_row c until end)) → AllByRecursion P (confirms table now r c old).asking.further
  confirms_keeps table now r None old all is = all
  confirms_keeps table now r (Some c) old all is = puts_until_keeps (end_by c.holder (lease_at table now c.name)) table now r c old all is

  waits_keeps : (lease : Option Lease) (now : ℕ) (r : Request) (old : Asking) → AllByRecursion P old.further → AllByRecursion P (tells_to_wait lease now r old).asking.further
  waits_keeps None now r old all = all
  waits_keeps (Some lease) now r old all = all

  pub settles_keeps : (table : TableValue) (now : ℕ) (outcome : Outcome) (r : Request) (c : Option ConfirmedValue) (old : Asking) → AllByRecursion P old.further → IfSome c (λ c. (until end : ℕ) → P (put_row c until end))
      → (outcome ≡ o.Reached → (row : Further) → is_at r.name r.addr row ≡ true → P row → P (reached_row row)) → AllByRecursion P (settles table now outcome r c old).asking.further
  settles_keeps table now o.Further r c old all is reaches = confirms_keeps table now r c old all is
  settles_keeps table now o.Refuse r c old all is reaches = all
  settles_keeps table now o.AskRequester r c old all is reaches = all
  settles_keeps table now o.AwaitLeaseEnd r c old all is reaches = waits_keeps (lease_at table now r.name) now r old all
  settles_keeps table now o.Grant r c old all is reaches = all
  settles_keeps table now o.GrantSource r c old all is reaches = all
  settles_keeps table now o.NotOwn r c old all is reaches = all
  settles_keeps table now o.Reached r c old all is reaches = kept_changed P (is_at r.name r.addr) reached_row (reaches refl) old.further all
  settles_keeps table now o.Nothing r c old all is reaches = all

  renews_keeps : (end : Option ℕ) (table : TableValue) (now : ℕ) (r : Request) (old : Asking) → AllByRecursion P old.further → AllByRecursion P (renews_until end table now r old).asking.further
  renews_keeps None table now r old all = all
  renews_keeps (Some end) table now r old all =
      let until = until_of table now r.ttl in
      let rows = with_first (is_at r.name r.addr) (renewed_row r.asked until end) old.further in
      accepts_keeps (seconds_until now (min until end)) r (record old { further = rows }) (kept_changed P (is_at r.name r.addr) (renewed_row r.asked until end) (λ row at p. renews row r.asked until end p) old.further all)

  pub holds_back_keeps : (table : TableValue) (now : ℕ) (r : Request) (old : Asking) → AllByRecursion P old.further → AllByRecursion P (holds_back table now r old).asking.further
  holds_back_keeps table now r old all = if_keeps (list_any (λ row. is_confirmed now r.name r.asked row && nat_eq row.addr r.addr) old.further) _ _ (renews_keeps (end_by r.asked (lease_at table now r.name)) table now r old all) all

  left_keeps : (test : Bool) (a b : Left) → AllByRecursion P a.further → AllByRecursion P b.further → AllByRecursion P (if test then a else b).further
  left_keeps true a b first second = first
  left_keeps false a b first second = second

  lists_keeps : (more : List ℕ) (id : ℕ) (name : NameValue) (ttl : ℕ) (entries octets : List ℕ) (further : List Further) → AllByRecursion P further → AllByRecursion P (lists_more more id name ttl entries octets further).further
  lists_keeps [] id name ttl entries octets further all = all
  lists_keeps (addr ∷ more) id name ttl entries octets further all = all

  passes_keeps : (next : Option Further) (now : ℕ) (name : NameValue) (old : Asking) → AllByRecursion P old.further → AllByRecursion P (passes_to next now name old).asking.further
  passes_keeps None now name old all = kept_filtered P (λ other. not (is_named name other)) old.further all
  passes_keeps (Some row) now name old all = kept_filtered P (λ other. not (is_named name other)) old.further all

  pub passes_on_keeps : (now : ℕ) (name : NameValue) (holder : ℕ) (old : Asking) → AllByRecursion P old.further → AllByRecursion P (passes_on now name holder old).asking.further
  passes_on_keeps now name holder old all = passes_keeps (find (is_next now name holder) old.further) now name old all

  pub follows_keeps : (lease : Option Lease) (now : ℕ) (row : Further) (old : Asking) → AllByRecursion P old.further → AllByRecursion P (follows_by lease now row old).asking.further
  follows_keeps None now row old all = passes_on_keeps now row.name row.holder old all
  follows_keeps (Some lease) now row old all =
      if_keeps (is_of row.holder lease) _ _ (kept_changed P (is_at row.name row.addr) (renewed_row row.holder row.renewed_until lease.end) (λ other at p. renews other row.holder row.renewed_until lease.end p) old.further all) (kept_filtered P (λ other. not (is_named row.name other)) old.further all)

  pub leaves_keeps : (now ip : ℕ) (octets : List ℕ) (further : List Further) (m : MessageValue) → AllByRecursion P further → AllByRecursion P (leaves now ip octets further m).further
  leaves_keeps now ip octets further (registered rcode r) all = left_keeps (refuses_unique rcode r.kind) _ _ all all
  leaves_keeps now ip octets further (released id rcode name kind addr) all = left_keeps (refuses_release rcode ip name addr further) _ _ (kept_filtered P (λ row. not (is_at name addr row)) further all) all
  leaves_keeps now ip octets further (found id name ttl entries false) all = lists_keeps (behind (holder_in entries) now name further) id name ttl entries octets further all
  leaves_keeps now ip octets further (found id name ttl entries true) all = all
  leaves_keeps now ip octets further m all = all

-- ---- what is kept

module _ (holds : NameValue → ℕ → Bool) where
  -- a further address is one that there was, or the one that was confirmed
  pub put_so : (c : Option ConfirmedValue) → IsConfirmed holds c → IfSome c (λ c. (until end : ℕ) → holds (put_row c until end).name (put_row c until end).addr ≡ true)
  put_so None is = tt
  put_so (Some c) is = λ until end. is

  -- it has not answered yet
  pub put_unanswered : (c : Option ConfirmedValue) → IfSome c (λ c. (until end : ℕ) → (put_row c until end).reached ≡ true → holds (put_row c until end).name (put_row c until end).addr ≡ true)
  put_unanswered None = tt
  put_unanswered (Some c) = λ until end answered. absurd cc

  -- the one that has answered now is the request's
  pub answered_now : (name : NameValue) (addr : ℕ) (row : Further) → holds name addr ≡ true → is_at name addr row ≡ true → holds row.name row.addr ≡ true
  answered_now name addr row is at =
      let both = both_true (same_name row.name name) (nat_eq row.addr addr) at in
      let named : row.name ≡ name = same_name-true row.name name both.0 in
      let there : row.addr ≡ addr = eqb-true row.addr addr both.1 in
      ap (λ (n : NameValue). holds n row.addr) named ∙ (ap (holds name) there ∙ is)
