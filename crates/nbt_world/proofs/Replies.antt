-- What an end's call left in the buffer, as a reply or none.
use Rattle.std.proofs.Common.{◌≡◌, ℕ, Bool, true, false, List, [], ◌∷◌, length, eqb, Option, Some, None, refl, sym, ap, ◌∙◌}
use Rattle.std.specs.Prelude.{is_some, is_err, IfOk, Result, Ok, Err}
use Rattle.std.proofs.lemmas.Bool.{eqb-true, eqb-false, false≢true}
use Rattle.std.proofs.lemmas.List.{nil_from_length}
use Rattle.nbt_packet.specs.Message.{MessageValue, registration, overwrite, refresh, release, query, status_request, registered, released, found, not_found, status, wait}
use Rattle.nbt_packet.specs.Text.{text}
use Rattle.nbt_packet.specs.Spelling.{Spells, AreWritten}
use Rattle.nbt_world.specs.Step.{takes}

abbrev pub Replied : Option MessageValue → List ℕ → Type 0
Replied reply octets = (m : MessageValue) × (takes reply ≡ takes (Some m)) × (octets ≡ text m) × Spells octets m

pub replied : (reply : Option MessageValue) (octets : List ℕ) → is_some reply ≡ true → AreWritten reply octets → Replied reply octets
replied None octets is w = absurd cc
replied (Some m) octets is w = (m, refl, w.0, w.1)

pub is_silent : (reply : Option MessageValue) → is_some reply ≡ false → takes reply ≡ takes None
is_silent None is = refl
is_silent (Some m) is = absurd cc

-- ---- a node's buffer

abbrev starts : List ℕ → Bool
starts [] = false
starts (x ∷ xs) = true

text_starts : (m : MessageValue) → starts (text m) ≡ true
text_starts (registration r) = refl
text_starts (overwrite r) = refl
text_starts (refresh r) = refl
text_starts (release id name kind addr) = refl
text_starts (query id name) = refl
text_starts (status_request id name) = refl
text_starts (registered rcode r) = refl
text_starts (released id rcode name kind addr) = refl
text_starts (found id name ttl entries cut) = refl
text_starts (not_found id rcode None) = refl
text_starts (not_found id rcode (Some name)) = refl
text_starts (status id name names) = refl
text_starts (wait id name ttl) = refl

text_some : (m : MessageValue) → text m ≡ [] → ⊥
text_some m e = false≢true (sym (ap starts e) ∙ text_starts m)

pub heard_silent : (sent : Option MessageValue) (octets : List ℕ) → AreWritten sent octets → eqb (length octets) 0 ≡ true → sent ≡ None
heard_silent None octets w e = refl
heard_silent (Some m) octets w e = absurd (text_some m (sym w.0 ∙ nil_from_length octets (eqb-true (length octets) 0 e)))

pub heard_reply : (sent : Option MessageValue) (octets : List ℕ) → AreWritten sent octets → eqb (length octets) 0 ≡ false → Replied sent octets
heard_reply None octets w e = absurd (eqb-false (length octets) 0 e (ap length w))
heard_reply (Some m) octets w e = (m, refl, w.0, w.1)

pub handled : {T F : Type 0} (r : Result T F) (P : T → Type 0) → is_err r ≡ false → IfOk r P → (x : T) × P x
handled (Ok x) P e p = (x, p)
handled (Err x) P e p = absurd cc
