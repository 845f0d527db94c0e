-- What a front does with a message before a server sees it (our profile; the replies are those of RFC 1002 sections 4.2.5, 4.2.6, 4.2.10,
-- 4.2.11 and 4.2.13).
use Rattle.std.specs.Prelude.{◌≡◌, ◌≢◌, ℕ, ◌+◌, ◌<◌, ◌≤◌, true, false, List, ◌++◌, Some, None, Contains}
use Rattle.std.specs.List.{flat_map}
use Rattle.nbt_name.specs.Wire.{NameValue}
use Rattle.nbt_name.specs.declared.addr.Kind.{Kind}
use Rattle.nbt_packet.specs.declared.message.Registration.{Registration}
use Rattle.nbt_packet.specs.Message.{MessageValue, overwrite, release, query, registered, released, found}
use Rattle.nbt_packet.specs.Spelling.{Spells}
use Rattle.nbt_packet.specs.Text.{entry}
use Rattle.nbt_lease.specs.Config.{granted, milliseconds}
use Rattle.nbt_lease.specs.Lease.{Rows}
use Rattle.nbt_server.specs.Serving.{AsksFor, refusal, refused_error, active_error}
use Rattle.nbt_front.specs.FixedNames.{FixedNames, FixedValue, fixed_of}
use Rattle.nbt_front.specs.Networks.{NetworkValue, IsAllowed}
use Rattle.nbt_front.specs.Standing.{IsLeased, are_group, in_the_way, is_taken, left_of, leases_of}
use Rattle.nbt_front.specs.declared.standing.Standing.{Standing}
use Rattle.nbt_front.specs.declared.deciding.Decision.{Decision}
use Rattle.nbt_front.specs.declared.deciding.Decision.TheVariants.{NotAllowed, FixedRefused, FixedConfirmed, FixedFound}

-- who may register, the names that are fixed, and the longest lease in seconds
pub record FrontValue : Type 0 where
  pub allowed : List NetworkValue
  pub fixed : FixedNames
  pub longest : ℕ

-- a front, the leases that stand in the way of its fixed names, and those that machines may have by what was fixed before
pub record DeskValue : Type 0 where
  pub front : FrontValue
  pub kept : Rows
  pub past : Rows

abbrev pub desk_of : FrontValue → (kept past : Rows) → DeskValue
desk_of front kept past = record { front = front; kept = kept; past = past }

abbrev pub desk_at : FrontValue → Standing → DeskValue
desk_at front standing = desk_of front standing.rows.now standing.past.now

-- A name is claimed by a registration, a refresh and an overwrite.
pub data Claims : MessageValue → Registration → Type 0 where
  by_request : (m : MessageValue) (r : Registration) → AsksFor m r → Claims m r
  by_overwrite : (r : Registration) → Claims (overwrite r) r

-- The sender claims a fixed name for its own address, as that kind, and the address is one of the name's.
pub record IsHolder (ip : ℕ) (kind : Kind) (addr : ℕ) (fixed : FixedValue) : Type 0 where
  pub own : addr ≡ ip
  pub kind_is : kind ≡ fixed.kind
  pub listed : Contains fixed.addrs addr

-- The same, while no lease stands in the name's way, and no other machine may hold it by what was fixed before.
pub record MayHave (desk : DeskValue) (now ip : ℕ) (name : NameValue) (kind : Kind) (addr : ℕ) (fixed : FixedValue) : Type 0 where
  pub holds : IsHolder ip kind addr fixed
  pub free : ¬ IsLeased desk.kept now name
  pub quiet : is_taken desk.past now name kind ip ≡ false

-- the entries of a name's addresses, in their order
abbrev pub entries_of : FixedValue → List ℕ
entries_of fixed = flat_map (λ addr. entry fixed.kind addr) fixed.addrs

-- What is decided of a message from the address `ip` at a moment, and the reply. A line for each rule: of a fixed name, of one that was fixed
-- until a short while ago, and of a sender that may not register.
pub data Decides (desk : DeskValue) (now ip : ℕ) : MessageValue → Decision → MessageValue → Type 0 where
  confirms : (m : MessageValue) (r : Registration) (fixed : FixedValue) → AsksFor m r → fixed_of desk.front.fixed r.name ≡ Some fixed → MayHave desk now ip r.name r.kind r.addr fixed
      → Decides desk now ip m FixedConfirmed (registered 0 (record r { ttl = granted desk.front.longest r.ttl }))
  refuses : (m : MessageValue) (r : Registration) (fixed : FixedValue) → AsksFor m r → fixed_of desk.front.fixed r.name ≡ Some fixed → ¬ MayHave desk now ip r.name r.kind r.addr fixed
      → Decides desk now ip m (FixedRefused r.name) (refusal active_error r)
  refuses_overwrite : (r : Registration) (fixed : FixedValue) → fixed_of desk.front.fixed r.name ≡ Some fixed
      → Decides desk now ip (overwrite r) (FixedRefused r.name) (refusal active_error r)
  confirms_release : (id : ℕ) (name : NameValue) (kind : Kind) (addr : ℕ) (fixed : FixedValue) → fixed_of desk.front.fixed name ≡ Some fixed → ¬ IsLeased desk.kept now name → IsHolder ip kind addr fixed
      → Decides desk now ip (release id name kind addr) FixedConfirmed (released id 0 name kind addr)
  refuses_release : (id : ℕ) (name : NameValue) (kind : Kind) (addr : ℕ) (fixed : FixedValue) → fixed_of desk.front.fixed name ≡ Some fixed → ¬ IsLeased desk.kept now name → ¬ IsHolder ip kind addr fixed
      → Decides desk now ip (release id name kind addr) (FixedRefused name) (released id active_error name kind addr)
  finds : (id : ℕ) (name : NameValue) (fixed : FixedValue) → fixed_of desk.front.fixed name ≡ Some fixed → ¬ IsLeased desk.kept now name
      → Decides desk now ip (query id name) FixedFound (found id name desk.front.longest (entries_of fixed) false)
  refuses_past : (m : MessageValue) (r : Registration) → Claims m r → fixed_of desk.front.fixed r.name ≡ None → IsAllowed desk.front.allowed ip → is_taken desk.past now r.name r.kind ip ≡ true
      → Decides desk now ip m (FixedRefused r.name) (refusal active_error r)
  turns_away : (m : MessageValue) (r : Registration) → Claims m r → fixed_of desk.front.fixed r.name ≡ None → ¬ IsAllowed desk.front.allowed ip
      → Decides desk now ip m (NotAllowed r.name) (refusal refused_error r)

-- nothing is decided of it
abbrev pub Passes : DeskValue → (now ip : ℕ) → MessageValue → Type 0
Passes desk now ip m = (decision : Decision) (reply : MessageValue) → ¬ Decides desk now ip m decision reply

-- the same of the message that octets spell
abbrev pub DecidesOctets : DeskValue → (now ip : ℕ) → (octets : List ℕ) → Decision → MessageValue → Type 0
DecidesOctets desk now ip octets decision reply = (m : MessageValue) × Spells octets m × Decides desk now ip m decision reply

-- ---- what that comes to

-- a request that is about a name: all but a node's status request
pub data IsAbout : MessageValue → NameValue → Type 0 where
  claims_it : (m : MessageValue) (r : Registration) → Claims m r → IsAbout m r.name
  releases_it : (id : ℕ) (name : NameValue) (kind : Kind) (addr : ℕ) → IsAbout (release id name kind addr) name
  queries_it : (id : ℕ) (name : NameValue) → IsAbout (query id name) name

-- It claims a fixed name; it is about one in whose way no lease stands; or it claims one that another machine may hold by what was fixed before, and its
-- sender may register.
pub data IsOfFixed (desk : DeskValue) (now ip : ℕ) : MessageValue → Type 0 where
  claims_fixed : (m : MessageValue) (r : Registration) (fixed : FixedValue) → Claims m r → fixed_of desk.front.fixed r.name ≡ Some fixed → IsOfFixed desk now ip m
  about_free : (m : MessageValue) (name : NameValue) (fixed : FixedValue) → IsAbout m name → fixed_of desk.front.fixed name ≡ Some fixed → ¬ IsLeased desk.kept now name → IsOfFixed desk now ip m
  claims_past : (m : MessageValue) (r : Registration) → Claims m r → IsAllowed desk.front.allowed ip → is_taken desk.past now r.name r.kind ip ≡ true → IsOfFixed desk now ip m

-- it claims a name, and its sender may not register
abbrev pub IsUnallowed : FrontValue → (ip : ℕ) → MessageValue → Type 0
IsUnallowed front ip m = (r : Registration) × Claims m r × (¬ IsAllowed front.allowed ip)

-- ---- another front in its place

-- At a moment a front takes the place of another one, while the server has these live leases: those stand in the way of its names that do, and what was
-- fixed before is remembered for the longest lease where another machine could get it.
abbrev pub renewed : FrontValue → (live : Rows) → (at : ℕ) → DeskValue → DeskValue
renewed front live at old = record {
  front = front;
  kept = in_the_way front.fixed live;
  past = left_of front.fixed at (flat_map (leases_of (at + milliseconds old.front.longest)) old.front.fixed ++ old.past);
}

-- Up to `at` a name was another machine's too, which may hold it since for the longest lease: a claim of it from `ip` would now make a second holder.
pub record WouldBeSecond (old : DeskValue) (at now ip : ℕ) (r : Registration) : Type 0 where
  pub was : FixedValue
  pub addr : ℕ
  pub fixed_before : fixed_of old.front.fixed r.name ≡ Some was
  pub holder : Contains was.addrs addr
  pub other : ip ≢ addr
  pub not_a_group : are_group r.kind was.kind ≡ false
  pub since : at ≤ now
  pub until : now < at + milliseconds old.front.longest
