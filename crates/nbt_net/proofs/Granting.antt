-- A server grants a name that is free.
use Rattle.std.proofs.Common.{◌≡◌, ℕ, zero, suc, ◌<◌, ◌≤◌, List, [], ◌∷◌, ◌++◌, length, Some, Ok, false, refl, sym, subst, arith, append-nil}
use Rattle.nbt_packet.specs.declared.message.Registration.{Registration}
use Rattle.nbt_packet.specs.Message.{MessageValue, registration, registered, IsRegistration, HoldsNumbers, Fits}
use Rattle.nbt_packet.specs.Text.{text}
use Rattle.nbt_packet.specs.Spelling.{Spells}
use Rattle.nbt_lease.specs.declared.lease.Lease.{Lease}
use Rattle.nbt_lease.specs.Config.{ConfigValue, granted, IsLongest}
use Rattle.nbt_lease.specs.Lease.{Rows, leases_at, live_count, count_of, members_most, HasNone}
use Rattle.nbt_lease.specs.Rules.{free, begins, begun, grant_until, end_of}
use Rattle.nbt_server.specs.Serving.{ServerValue, speaks_from, IsOwn, asked_in, by_registration, registers, serves}
use Rattle.nbt_server.specs.Calls.{ServerTakes}
use Rattle.nbt_lease.proofs.Counts.{last_at}

-- ---- written forms

-- the written form of each message spells it
abbrev pub WrittenIsRead : Type 0
WrittenIsRead = (m : MessageValue) (rest : List ℕ) → HoldsNumbers m → Fits m → Spells (text m ++ rest) m

pub written : WrittenIsRead → (m : MessageValue) → HoldsNumbers m → Fits m → Spells (text m) m
written law m numbers fits = subst (λ (octets : List ℕ). Spells octets m) (append-nil (text m)) (law m [] numbers fits)

-- ---- what is granted

pub granted_positive : (longest ttl : ℕ) → 1 ≤ longest → 1 ≤ granted longest ttl
granted_positive longest zero le = le
granted_positive longest (suc t) le = omega arith

granted_most : (longest ttl : ℕ) → granted longest ttl ≤ longest
granted_most longest zero = omega arith
granted_most longest (suc t) = omega arith

-- the reply to a request that is granted, and the server behind it
abbrev pub reply_to : (longest : ℕ) → Registration → MessageValue
reply_to longest r = registered 0 (record r { ttl = granted longest r.ttl })

abbrev pub with_lease : ServerValue → (now : ℕ) → Registration → ServerValue
with_lease server now r = record server { last = now; table = record server.table { last = now; rows = server.table.rows ++ (r.name, begun server.table.config now (asked_in r)) ∷ [] } }

-- The server speaks, the name is free, and there is a row for it, and one of its client.
pub record CanGrant (server : ServerValue) (now ip : ℕ) (r : Registration) : Type 0 where
  pub later : server.last ≤ now
  pub speaks : speaks_from server ≤ now
  pub own : IsOwn ip r.name r.addr
  pub free : leases_at now server.table.rows r.name ≡ []
  pub row : live_count now server.table.rows < server.table.config.rows
  pub client_row : (most : ℕ) → server.client_rows ≡ Some most → count_of now ip server.table.rows < most
  pub longest : IsLongest server.table.config.longest
  pub numbers : IsRegistration r

pub reply_numbers : (longest : ℕ) (r : Registration) → IsLongest longest → IsRegistration r → IsRegistration (record r { ttl = granted longest r.ttl })
reply_numbers longest r is numbers = let most = granted_most longest r.ttl in let few = is.1 in (numbers.0, numbers.1, numbers.2, omega arith)

pub grants : WrittenIsRead → (server : ServerValue) (now ip : ℕ) (r : Registration) → CanGrant server now ip r
    → ServerTakes server now ip (text (registration r)) (Some (reply_to server.table.config.longest r)) (with_lease server now r)
grants law server now ip r can = record {
  goes_on = can.later;
  serves = serves (registration r) (Some (reply_to server.table.config.longest r)) (leases_at now (with_lease server now r).table.rows) can.speaks (written law (registration r) can.numbers tt)
      (λ over. let few = can.client_row over.full.most over.full.most_is in let many = over.full.reached in omega arith)
      (registers (registration r) r (Ok (grant_until config (asked_in r) (end_of config now (asked_in r)) false)) _ (by_registration r) can.own (record {
        leases = leases_at now rows r.name ++ begun config now (asked_in r) ∷ [];
        rule = begins (free can.free) (subst (HasNone r.addr) (sym can.free) tt) (subst (λ (leases : List Lease). length leases < members_most) (sym can.free) (omega arith)) can.row;
        after_is = last_at now r.name (begun config now (asked_in r)) rows (let some = granted_positive config.longest r.ttl can.longest.0 in omega arith);
      }));
  spelled = written law (reply_to config.longest r) (reply_numbers config.longest r can.longest can.numbers) (omega arith);
  start = refl;
  last = refl;
  config = refl;
  limit = refl;
}
  where
    config : ConfigValue
    config = server.table.config

    rows : Rows
    rows = server.table.rows
