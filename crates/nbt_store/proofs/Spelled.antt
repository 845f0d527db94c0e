-- What words spell: hosts.
use Rattle.std.proofs.Common.{◌≡◌, ◌≢◌, rules, ℕ, ◌^◌, ◌<◌, ◌/◌, ◌%◌, List, Option, Some, None, Result, Ok, Err, ap, subst, arith, lit<, ◌∷◌, []}
use Rattle.std.specs.Prelude.{◌↔◌, MatchResult}
use Rattle.std.specs.Result.{result_ok}
use Rattle.std.specs.Str.{IsAscii, IsUtf8}
use Rattle.std.proofs.lemmas.Fmt.{IsAscii-decimal}
use Rattle.std.proofs.lemmas.Str.{IsAscii-append, IsUtf8-from_ascii}
use Rattle.nbt_name.specs.declared.addr.Addr.{Addr}
use Rattle.nbt_text.specs.Address.{SpellsAddress, address_text}
use Rattle.nbt_store.specs.Words.{SpellsHost, end_of}

octet_fits : (ip : ℕ) → ip < 2 ^ 32 → (ip / 2 ^ 24 < 2 ^ 64) × (ip / 2 ^ 16 % 256 < 2 ^ 64) × (ip / 2 ^ 8 % 256 < 2 ^ 64) × (ip % 256 < 2 ^ 64)
octet_fits ip h = (omega arith, omega arith, omega arith, omega arith)

mark_IsAscii : (m : ℕ) → m < 128 → IsAscii (m ∷ [])
mark_IsAscii m h = search rules

IsAscii-address : (a : Addr) → a.ip < 2 ^ 32 → a.port < 2 ^ 16 → IsAscii (address_text a)
IsAscii-address a h p =
    let fit = octet_fits a.ip h in
    let dot = mark_IsAscii 46 (lit< tt) in
    let colon = mark_IsAscii 58 (lit< tt) in
    let port : a.port < 2 ^ 64 = omega arith in
    IsAscii-append _ _ (IsAscii-append _ _ (IsAscii-append _ _ (IsAscii-append _ _ (IsAscii-append _ _ (IsAscii-append _ _ (IsAscii-append _ _ (IsAscii-append _ _
    (IsAscii-decimal _ fit.0) dot) (IsAscii-decimal _ fit.1)) dot) (IsAscii-decimal _ fit.2)) dot) (IsAscii-decimal _ fit.3)) colon) (IsAscii-decimal _ port)

-- an address is text
pub no_address : {A E : Type 0} (P : A → Type 0) (Q : E → Type 0) (word : List ℕ) (r : Result A E) (o : Option A) (a : Addr) → MatchResult r P (λ e. ¬ (IsUtf8 word) × Q e) → o ≡ result_ok r → o ≡ None
    → ¬ SpellsAddress word a
no_address P Q word (Ok s) o a h e none spelled = cc
no_address P Q word (Err f) o a h e none spelled = h.0 (IsUtf8-from_ascii word (rw (spelled.text_is) (IsAscii-address a spelled.ip_fits spelled.port_fits)))

abbrev ReadsEnd : List ℕ → Option Addr → Type 0
ReadsEnd word ends = (a : Addr) → (ends ≡ Some a) ↔ SpellsAddress word a

pub host_none : (word : List ℕ) (ends : Option Addr) (r : Option ℕ) (ip : ℕ) → ReadsEnd word ends → ends ≡ None → r ≡ None → (r ≡ Some ip) ↔ SpellsHost word ip
host_none word ends r ip reads none nothing = (λ e. absurd cc, λ s. let there = (reads (end_of ip)).1 s in absurd cc)

pub host_one : (word : List ℕ) (ends : Option Addr) (a : Addr) (ip : ℕ) → ReadsEnd word ends → ends ≡ Some a → a.port ≡ 137 → (◌≡◌ {A = Option ℕ} (Some a.ip) (Some ip)) ↔ SpellsHost word ip
host_one word ends a ip reads some port = (
  λ e. let same : a.ip ≡ ip = cc in let whole : a ≡ end_of ip = rw (← same) (ap (λ (p : ℕ). record { ip = a.ip; port = p }) port) in subst (λ (x : Addr). SpellsAddress word x) whole ((reads a).0 some),
  λ s. let there = (reads (end_of ip)).1 s in let same : a ≡ end_of ip = cc in let ips : a.ip ≡ ip = ap (λ (x : Addr). x.ip) same in ap Some ips,
)

pub host_other : (word : List ℕ) (ends : Option Addr) (a : Addr) (ip : ℕ) → ReadsEnd word ends → ends ≡ Some a → a.port ≢ 137 → (◌≡◌ {A = Option ℕ} None (Some ip)) ↔ SpellsHost word ip
host_other word ends a ip reads some port = (
  λ e. absurd cc,
  λ s. let there = (reads (end_of ip)).1 s in let same : a ≡ end_of ip = cc in absurd (port (ap (λ (x : Addr). x.port) same)),
)
