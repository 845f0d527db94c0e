-- Of which messages a front decides.
use Rattle.std.proofs.Common.{◌≡◌, ℕ, ◌<◌, Bool, true, false, List, [], ◌∷◌, length, zero, suc, Option, Some, None, inl, inr, refl, subst, arith, slice_index_or}
use Rattle.std.specs.Prelude.{◌⊎◌, ◌&&◌, nat_lt, Contains}
use Rattle.std.specs.List.{list_any}
use Rattle.std.proofs.lemmas.Bool.{and_from, and_parts, cases_eq, lt-ltb, ltb-true}
use Rattle.std.proofs.lemmas.List.Folds.{Any-from_list_any, list_any-from_Any}
use Rattle.nbt_name.specs.Wire.{NameValue, same_name}
use Rattle.nbt_name.proofs.Same.{same_name-same, same_name-true}
use Rattle.nbt_name.specs.declared.addr.Kind.{Kind}
use Rattle.nbt_name.specs.declared.addr.Kind.TheVariants.{Unique, Group}
use Rattle.nbt_lease.specs.Lease.{Rows}
use Rattle.nbt_lease.specs.declared.lease.Lease.{Lease}
use Rattle.nbt_packet.specs.declared.message.Registration.{Registration}
use Rattle.nbt_packet.specs.Message.{MessageValue, release}
use Rattle.nbt_server.specs.Serving.{AsksFor, refusal, active_error}
use Rattle.nbt_front.specs.FixedNames.{FixedValue, fixed_of}
use Rattle.nbt_front.specs.Networks.{IsAllowed}
use Rattle.nbt_front.specs.Standing.{IsLeased, is_taken}
use Rattle.nbt_front.specs.Deciding.{DeskValue, Claims, by_request, by_overwrite, IsHolder, MayHave, Decides, confirms, refuses, refuses_overwrite, confirms_release, refuses_release, finds, refuses_past, turns_away, Passes, IsAbout, claims_it, releases_it, queries_it, IsOfFixed, claims_fixed, about_free, claims_past, IsUnallowed}
use Rattle.nbt_front.specs.declared.deciding.Decision.{Decision}
use Rattle.nbt_front.specs.declared.deciding.Decision.TheVariants.{FixedRefused}

-- ---- a claim is of a holder, or not

neither : (y addr : ℕ) (ys : List ℕ) → ¬ (y ≡ addr) → ¬ Contains ys addr → (k : ℕ) → k < length (y ∷ ys) → slice_index_or (y ∷ ys) k addr ≡ addr → ⊥
neither y addr ys not none zero h e = not e
neither y addr ys not none (suc k) h e = none (k, omega arith, e)

has_cons : (y addr : ℕ) (ys : List ℕ) → (y ≡ addr) ⊎ ¬ (y ≡ addr) → Contains ys addr ⊎ ¬ Contains ys addr → Contains (y ∷ ys) addr ⊎ ¬ Contains (y ∷ ys) addr
has_cons y addr ys (inl e) b = inl (0, omega arith, e)
has_cons y addr ys (inr not) (inl c) = inl (suc c.0, omega (arith, c.1), c.2)
has_cons y addr ys (inr not) (inr none) = inr (λ c. neither y addr ys not none c.0 c.1 c.2)

has_or_not : (addrs : List ℕ) (addr : ℕ) → Contains addrs addr ⊎ ¬ Contains addrs addr
has_or_not [] addr = inr (λ c. absurd (omega (arith, c.1)))
has_or_not (y ∷ ys) addr = has_cons y addr ys (cases_eq y addr) (has_or_not ys addr)

kind_or_not : (a b : Kind) → (a ≡ b) ⊎ ¬ (a ≡ b)
kind_or_not Unique Unique = inl refl
kind_or_not Unique Group = inr (λ e. absurd cc)
kind_or_not Group Unique = inr (λ e. absurd cc)
kind_or_not Group Group = inl refl

holds_so : (ip : ℕ) (kind : Kind) (addr : ℕ) (fixed : FixedValue) → (addr ≡ ip) ⊎ ¬ (addr ≡ ip) → (kind ≡ fixed.kind) ⊎ ¬ (kind ≡ fixed.kind) → Contains fixed.addrs addr ⊎ ¬ Contains fixed.addrs addr
    → IsHolder ip kind addr fixed ⊎ ¬ IsHolder ip kind addr fixed
holds_so ip kind addr fixed (inl own) (inl is) (inl there) = inl (record { own = own; kind_is = is; listed = there })
holds_so ip kind addr fixed (inr not) b c = inr (λ h. not h.own)
holds_so ip kind addr fixed (inl own) (inr not) c = inr (λ h. not h.kind_is)
holds_so ip kind addr fixed (inl own) (inl is) (inr not) = inr (λ h. not h.listed)

holds_or_not : (ip : ℕ) (kind : Kind) (addr : ℕ) (fixed : FixedValue) → IsHolder ip kind addr fixed ⊎ ¬ IsHolder ip kind addr fixed
holds_or_not ip kind addr fixed = holds_so ip kind addr fixed (cases_eq addr ip) (kind_or_not kind fixed.kind) (has_or_not fixed.addrs addr)

-- ---- a name is leased, or not

module _ (now : ℕ) (name : NameValue) where
  stands : NameValue × Lease → Bool
  stands row = same_name row.0 name && nat_lt now row.1.end

  stands_so : (row : NameValue × Lease) → stands row ≡ true → (row.0 ≡ name) × (now < row.1.end)
  unfolding stands
  stands_so row e = let parts = and_parts (same_name row.0 name) (nat_lt now row.1.end) e in (same_name-true row.0 name parts.0, ltb-true now row.1.end parts.1)

  so_stands : (row : NameValue × Lease) → (row.0 ≡ name) × (now < row.1.end) → stands row ≡ true
  unfolding stands
  so_stands row both = and_from (same_name row.0 name) (nat_lt now row.1.end) (subst (λ (n : NameValue). same_name row.0 n ≡ true) both.0 (same_name-same row.0)) (lt-ltb now row.1.end both.1)

  leased_so : (kept : Rows) (b : Bool) → list_any stands kept ≡ b → IsLeased kept now name ⊎ ¬ IsLeased kept now name
  leased_so kept true e = let a = Any-from_list_any stands kept e in inl (a.0, a.1, a.2, a.3, stands_so a.1 a.4)
  leased_so kept false e = inr (λ a. let t : list_any stands kept ≡ true = list_any-from_Any stands kept (a.0, a.1, a.2, a.3, so_stands a.1 a.4) in absurd cc)

  leased_or_not : (kept : Rows) → IsLeased kept now name ⊎ ¬ IsLeased kept now name
  leased_or_not kept = leased_so kept (list_any stands kept) refl

pub both_ways : {b : Bool} → b ≡ false → b ≡ true → ⊥
both_ways e f = cc

module _ (desk : DeskValue) (now ip : ℕ) where
  -- what is decided
  abbrev Is : MessageValue → Type 0
  Is m = (d : Decision) × (r : MessageValue) × Decides desk now ip m d r

  asked : (m : MessageValue) (r : Registration) (fixed : FixedValue) → AsksFor m r → fixed_of desk.front.fixed r.name ≡ Some fixed → MayHave desk now ip r.name r.kind r.addr fixed ⊎ ¬ MayHave desk now ip r.name r.kind r.addr fixed → Is m
  asked m r fixed asks is (inl has) = (_, _, confirms m r fixed asks is has)
  asked m r fixed asks is (inr not) = (_, _, refuses m r fixed asks is not)

  has_so : (name : NameValue) (kind : Kind) (addr : ℕ) (fixed : FixedValue) (b : Bool) → is_taken desk.past now name kind ip ≡ b → IsHolder ip kind addr fixed ⊎ ¬ IsHolder ip kind addr fixed → IsLeased desk.kept now name ⊎ ¬ IsLeased desk.kept now name
      → MayHave desk now ip name kind addr fixed ⊎ ¬ MayHave desk now ip name kind addr fixed
  has_so name kind addr fixed false quiet (inl holds) (inr free) = inl (record { holds = holds; free = free; quiet = quiet })
  has_so name kind addr fixed true taken (inl holds) (inr free) = inr (λ h. both_ways h.quiet taken)
  has_so name kind addr fixed b is (inr not) leased = inr (λ h. not h.holds)
  has_so name kind addr fixed b is (inl holds) (inl leased) = inr (λ h. h.free leased)

  has_or_may_not : (name : NameValue) (kind : Kind) (addr : ℕ) (fixed : FixedValue) → MayHave desk now ip name kind addr fixed ⊎ ¬ MayHave desk now ip name kind addr fixed
  has_or_may_not name kind addr fixed = has_so name kind addr fixed (is_taken desk.past now name kind ip) refl (holds_or_not ip kind addr fixed) (leased_or_not now name desk.kept)

  pub claimed_fixed : (m : MessageValue) (r : Registration) (fixed : FixedValue) → Claims m r → fixed_of desk.front.fixed r.name ≡ Some fixed → Is m
  claimed_fixed _ _ fixed (by_request m r asks) is = asked m r fixed asks is (has_or_may_not r.name r.kind r.addr fixed)
  claimed_fixed _ _ fixed (by_overwrite r) is = (_, _, refuses_overwrite r fixed is)

  released : (id : ℕ) (name : NameValue) (kind : Kind) (addr : ℕ) (fixed : FixedValue) → fixed_of desk.front.fixed name ≡ Some fixed → ¬ IsLeased desk.kept now name → IsHolder ip kind addr fixed ⊎ ¬ IsHolder ip kind addr fixed
      → Is (release id name kind addr)
  released id name kind addr fixed is free (inl holds) = (_, _, confirms_release id name kind addr fixed is free holds)
  released id name kind addr fixed is free (inr not) = (_, _, refuses_release id name kind addr fixed is free not)

  of_free : (m : MessageValue) (name : NameValue) (fixed : FixedValue) → IsAbout m name → fixed_of desk.front.fixed name ≡ Some fixed → ¬ IsLeased desk.kept now name → Is m
  of_free _ _ fixed (claims_it m r claims) is free = claimed_fixed m r fixed claims is
  of_free _ _ fixed (releases_it id name kind addr) is free = released id name kind addr fixed is free (holds_or_not ip kind addr fixed)
  of_free _ _ fixed (queries_it id name) is free = (_, _, finds id name fixed is free)

  -- one that another machine may hold by what was fixed before, by what is fixed of it
  past_so : (m : MessageValue) (r : Registration) → Claims m r → IsAllowed desk.front.allowed ip → is_taken desk.past now r.name r.kind ip ≡ true → (found : Option FixedValue) → fixed_of desk.front.fixed r.name ≡ found → Is m
  past_so m r claims allowed taken (Some fixed) is = claimed_fixed m r fixed claims is
  past_so m r claims allowed taken None is = (_, _, refuses_past m r claims is allowed taken)

  pub fixed_is_decided : (m : MessageValue) → IsOfFixed desk now ip m → Is m
  fixed_is_decided _ (claims_past m r claims allowed taken) = past_so m r claims allowed taken (fixed_of desk.front.fixed r.name) refl
  fixed_is_decided _ (claims_fixed m r fixed claims is) = claimed_fixed m r fixed claims is
  fixed_is_decided _ (about_free m name fixed about is free) = of_free m name fixed about is free

  claimed : (m : MessageValue) (r : Registration) → Claims m r → (¬ IsAllowed desk.front.allowed ip) → (found : Option FixedValue) → fixed_of desk.front.fixed r.name ≡ found → Is m
  claimed m r claims not (Some fixed) is = claimed_fixed m r fixed claims is
  claimed m r claims not None is = (_, _, turns_away m r claims is not)

  pub unallowed_is_decided : (m : MessageValue) → IsUnallowed desk.front ip m → Is m
  unallowed_is_decided m un = claimed m un.0 un.1 un.2 (fixed_of desk.front.fixed un.0.name) refl

  pub decided_is : (m : MessageValue) (d : Decision) (r : MessageValue) → Decides desk now ip m d r → IsOfFixed desk now ip m ⊎ IsUnallowed desk.front ip m
  decided_is _ _ _ (confirms m r fixed asks is has) = inl (claims_fixed m r fixed (by_request m r asks) is)
  decided_is _ _ _ (refuses m r fixed asks is not) = inl (claims_fixed m r fixed (by_request m r asks) is)
  decided_is _ _ _ (refuses_overwrite r fixed is) = inl (claims_fixed _ r fixed (by_overwrite r) is)
  decided_is _ _ _ (confirms_release id name kind addr fixed is free holds) = inl (about_free _ name fixed (releases_it id name kind addr) is free)
  decided_is _ _ _ (refuses_release id name kind addr fixed is free not) = inl (about_free _ name fixed (releases_it id name kind addr) is free)
  decided_is _ _ _ (finds id name fixed is free) = inl (about_free _ name fixed (queries_it id name) is free)
  decided_is _ _ _ (refuses_past m r claims free allowed taken) = inl (claims_past m r claims allowed taken)
  decided_is _ _ _ (turns_away m r claims free not) = inr (r, claims, not)

  -- ---- while a lease stands

  pub leased_is_refused : (m : MessageValue) (r : Registration) (fixed : FixedValue) → Claims m r → fixed_of desk.front.fixed r.name ≡ Some fixed → IsLeased desk.kept now r.name → Decides desk now ip m (FixedRefused r.name) (refusal active_error r)
  leased_is_refused _ _ fixed (by_request m r asks) is leased = refuses m r fixed asks is (λ h. h.free leased)
  leased_is_refused _ _ fixed (by_overwrite r) is leased = refuses_overwrite r fixed is

  -- ---- a front without networks and names

  none_fixed : (name : NameValue) (fixed : FixedValue) → desk.front.fixed ≡ [] → fixed_of desk.front.fixed name ≡ Some fixed → ⊥
  none_fixed name fixed none is = let e : ◌≡◌ {A = Option FixedValue} None (Some fixed) = rw none at is in absurd cc

  none_taken : (name : NameValue) (kind : Kind) → desk.past ≡ [] → is_taken desk.past now name kind ip ≡ true → ⊥
  none_taken name kind no_past taken = let e : false ≡ true = rw no_past at taken in cc

  none_of_fixed : (m : MessageValue) → desk.front.fixed ≡ [] → desk.past ≡ [] → IsOfFixed desk now ip m → ⊥
  none_of_fixed _ none no_past (claims_fixed m r fixed claims is) = none_fixed r.name fixed none is
  none_of_fixed _ none no_past (about_free m name fixed about is free) = none_fixed name fixed none is
  none_of_fixed _ none no_past (claims_past m r claims allowed taken) = none_taken r.name r.kind no_past taken

  open_so : (m : MessageValue) → desk.front.allowed ≡ [] → desk.front.fixed ≡ [] → desk.past ≡ [] → IsOfFixed desk now ip m ⊎ IsUnallowed desk.front ip m → ⊥
  open_so m everybody none no_past (inl of) = none_of_fixed m none no_past of
  open_so m everybody none no_past (inr un) = un.2 (inl everybody)

  pub decides_nothing : (m : MessageValue) → desk.front.allowed ≡ [] → desk.front.fixed ≡ [] → desk.past ≡ [] → Passes desk now ip m
  decides_nothing m everybody none no_past d r decides = open_so m everybody none no_past (decided_is m d r decides)
