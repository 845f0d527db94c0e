-- Two answers of the server's rules are the same.
use Rattle.std.proofs.Common.{◌≡◌, ℕ, List, [], Option, Some, None, Result, inl, inr, refl, sym, ap, ◌∙◌, subst, arith}
use Rattle.nbt_server.proofs.Common.{◌⊎◌, AsksFor, IsOverLimit, server_error, turns_away, none-some, same_Some, NameValue, Registration, MessageValue, registration, overwrite, refresh, release, query, released, not_found, Spells, GrantFault, Grant, Released, Leases, TableValue, leases_at, Asked, Grants, Releases, IsLeastEnd, by_registration, by_refresh, IsOwn, IsForNodes, asked_in, name_error, refused_error, refusal, grant_reply, release_rcode, found_reply, Serves, registers, refuses, refuses_overwrite, releases, refuses_release, finds, finds_none, passes_over, ServerValue, ServesOctets, is_silent, is_no_message, serves}
use Rattle.nbt_lease.proofs.Least.{one_least}
use Rattle.nbt_server.proofs.Rules.{one_requested}

-- ---- a message

-- a grant and a release are determined
pub record OneCase (table : TableValue) (now : ℕ) : Type 0 where
  pub grant : (name : NameValue) (a : Asked) (r s : Result Grant GrantFault) (x y : Leases) → Grants table now name a r x → Grants table now name a s y → (r ≡ s) × (x ≡ y)
  pub release : (name : NameValue) (addr : ℕ) (r s : Released) (x y : Leases) → Releases table now name addr r x → Releases table now name addr s y → (r ≡ s) × (x ≡ y)

module _ (table : TableValue) (now ip : ℕ) (one : OneCase table now) where
  -- the leases as they were
  abbrev kept : Leases
  kept = leases_at now table.rows

  -- what a request for a lease gets, and each message
  abbrev Leased : Registration → Option MessageValue → Leases → Type 0
  Leased r reply after =
      ((result : Result Grant GrantFault) × IsOwn ip r.name r.addr × Grants table now r.name (asked_in r) result after × (reply ≡ Some (grant_reply r result)))
      ⊎ ((¬ IsOwn ip r.name r.addr) × (reply ≡ Some (refusal refused_error r)) × (after ≡ kept))

  abbrev Gets : MessageValue → Option MessageValue → Leases → Type 0
  Gets (registration r) reply after = Leased r reply after
  Gets (refresh r) reply after = Leased r reply after
  Gets (overwrite r) reply after = (reply ≡ Some (refusal refused_error r)) × (after ≡ kept)
  Gets (release id name kind addr) reply after =
      ((result : Released) × IsOwn ip name addr × Releases table now name addr result after × (reply ≡ Some (released id (release_rcode result) name kind addr)))
      ⊎ ((¬ IsOwn ip name addr) × (reply ≡ Some (released id refused_error name kind addr)) × (after ≡ kept))
  Gets (query id name) reply after =
      ((end : ℕ) × IsLeastEnd (kept name) (Some end) × (reply ≡ Some (found_reply id name now end (kept name))) × (after ≡ kept))
      ⊎ ((kept name ≡ []) × (reply ≡ Some (not_found id name_error (Some name))) × (after ≡ kept))
  Gets _ reply after = (reply ≡ None) × (after ≡ kept)

  passed_over : (m : MessageValue) → IsForNodes m → Gets m None kept
  passed_over (registration r) nodes = absurd nodes
  passed_over (overwrite r) nodes = absurd nodes
  passed_over (refresh r) nodes = absurd nodes
  passed_over (release id name kind addr) nodes = absurd nodes
  passed_over (query id name) nodes = absurd nodes
  passed_over m nodes = (refl, refl)

  gets : (m : MessageValue) (r : Option MessageValue) (x : Leases) → Serves table now ip m r x → Gets m r x
  gets _ _ _ (registers _ _ result after (by_registration r) own rule) = inl (result, own, rule, refl)
  gets _ _ _ (registers _ _ result after (by_refresh r) own rule) = inl (result, own, rule, refl)
  gets _ _ _ (refuses _ _ (by_registration r) not) = inr (not, refl, refl)
  gets _ _ _ (refuses _ _ (by_refresh r) not) = inr (not, refl, refl)
  gets _ _ _ (refuses_overwrite r) = (refl, refl)
  gets _ _ _ (releases id name kind addr result after own rule) = inl (result, own, rule, refl)
  gets _ _ _ (refuses_release id name kind addr not) = inr (not, refl, refl)
  gets _ _ _ (finds id name end least) = inl (end, least, refl, refl)
  gets _ _ _ (finds_none id name none) = inr (none, refl, refl)
  gets _ _ _ (passes_over m nodes) = passed_over m nodes

  one_lease : (q : Registration) (r s : Option MessageValue) (x y : Leases) → Leased q r x → Leased q s y → (r ≡ s) × (x ≡ y)
  one_lease q r s x y (inl (result, own, rule, e)) (inl (other, owns, does, f)) =
      let same = one.grant q.name (asked_in q) result other x y rule does in
      (e ∙ ap (λ (g : Result Grant GrantFault). Some (grant_reply q g)) same.0 ∙ sym f, same.1)
  one_lease q r s x y (inl (result, own, rule, e)) (inr (not, f, l)) = absurd (not own)
  one_lease q r s x y (inr (not, e, k)) (inl (other, owns, does, f)) = absurd (not owns)
  one_lease q r s x y (inr (not, e, k)) (inr (not_too, f, l)) = (e ∙ sym f, k ∙ sym l)

  one_got : (m : MessageValue) (r s : Option MessageValue) (x y : Leases) → Gets m r x → Gets m s y → (r ≡ s) × (x ≡ y)
  one_got (registration q) r s x y a b = one_lease q r s x y a b
  one_got (refresh q) r s x y a b = one_lease q r s x y a b
  one_got (release id name kind addr) r s x y (inl (result, own, rule, e)) (inl (other, owns, does, f)) =
      let same = one.release name addr result other x y rule does in
      (e ∙ ap (λ (g : Released). Some (released id (release_rcode g) name kind addr)) same.0 ∙ sym f, same.1)
  one_got (release id name kind addr) r s x y (inl (result, own, rule, e)) (inr (not, f, l)) = absurd (not own)
  one_got (release id name kind addr) r s x y (inr (not, e, k)) (inl (other, owns, does, f)) = absurd (not owns)
  one_got (release id name kind addr) r s x y (inr (not, e, k)) (inr (not_too, f, l)) = (e ∙ sym f, k ∙ sym l)
  one_got (query id name) r s x y (inl (end, least, e, k)) (inl (other, least_too, f, l)) =
      let same : end ≡ other = same_Some end other (one_least (kept name) (Some end) (Some other) least least_too) in
      (e ∙ ap (λ (n : ℕ). Some (found_reply id name now n (kept name))) same ∙ sym f, k ∙ sym l)
  one_got (query id name) r s x y (inl (end, least, e, k)) (inr (none, f, l)) = absurd (none-some end (sym (one_least (kept name) (Some end) None least none)))
  one_got (query id name) r s x y (inr (none, e, k)) (inl (end, least, f, l)) = absurd (none-some end (one_least (kept name) None (Some end) none least))
  one_got (query id name) r s x y (inr (none, e, k)) (inr (none_too, f, l)) = (e ∙ sym f, k ∙ sym l)
  one_got m r s x y a b = (a.0 ∙ sym b.0, a.1 ∙ sym b.1)

-- ---- octets, which spell one message at most

module _ (server : ServerValue) (now ip : ℕ) (octets : List ℕ) (one : OneCase server.table now) (one_message : (m n : MessageValue) → Spells octets m → Spells octets n → m ≡ n) where
  -- what is over the limit is so as whichever message the octets spell
  turned : (m n : MessageValue) → Spells octets m → Spells octets n → IsOverLimit server.client_rows server.table now ip m → IsOverLimit server.client_rows server.table now ip n
  turned m n is also over = subst (λ (v : MessageValue). IsOverLimit server.client_rows server.table now ip v) (one_message m n is also) over

  pub one_reply : (r s : Option MessageValue) (x y : Leases) → ServesOctets server now ip octets r x → ServesOctets server now ip octets s y → (r ≡ s) × (x ≡ y)
  one_reply _ _ _ _ (is_silent early) (serves m reply after speaks is room does) = absurd (omega (arith, early, speaks))
  one_reply _ _ _ _ (is_silent early) (turns_away m speaks is over) = absurd (omega (arith, early, speaks))
  one_reply _ _ _ _ (is_no_message none) (serves m reply after speaks is room does) = absurd (none m is)
  one_reply _ _ _ _ (is_no_message none) (turns_away m speaks is over) = absurd (none m is)
  one_reply _ _ _ _ (turns_away m speaks is over) (is_silent early) = absurd (omega (arith, early, speaks))
  one_reply _ _ _ _ (turns_away m speaks is over) (is_no_message none) = absurd (none m is)
  one_reply _ _ _ _ (turns_away m speaks is over) (serves n other later speaks_too also room does) = absurd (room (turned m n is also over))
  one_reply _ _ _ _ (turns_away m speaks is over) (turns_away n speaks_too also over_too) =
      (ap (λ (q : Registration). Some (refusal server_error q)) (one_requested over.asks (subst (λ (v : MessageValue). AsksFor v over_too.r) (one_message n m also is) over_too.asks)), refl)
  one_reply _ _ _ _ (serves m reply after speaks is room does) (is_silent early) = absurd (omega (arith, early, speaks))
  one_reply _ _ _ _ (serves m reply after speaks is room does) (is_no_message none) = absurd (none m is)
  one_reply _ _ _ _ (serves m reply after speaks is room does) (turns_away n speaks_too also over) = absurd (room (turned n m also is over))
  one_reply _ _ _ _ (serves m reply after speaks is room does) (serves n other later speaks_too also room_too does_too) =
      let first = subst (λ (v : MessageValue). Serves server.table now ip v reply after) (one_message m n is also) does in
      one_got server.table now ip one n reply other after later (gets server.table now ip one n reply after first) (gets server.table now ip one n other later does_too)
  one_reply _ _ _ _ a b = (refl, refl)
