-- What is printed of the answers of hosts, one after the other.
use Rattle.std.proofs.Common.{◌≡◌, ℕ, ◌+◌, ◌<◌, max, Bool, List, [], ◌∷◌, ◌++◌, length, take, get_or, Option, refl, sym, subst, ap, ◌∙◌, inr, arith}
use Rattle.std.specs.Prelude.{nat_eq}
use Rattle.std.proofs.lemmas.List.{append-nil, append_assoc, take_more, take_all}
use Rattle.nbt_text.specs.Lines.{line_feed}
use Rattle.nbt_admin.specs.Statuses.{fronted, fronted_octet, AskedOf, AskedInTurn, asked_next}
use Rattle.nbt_admin.specs.declared.asking.HostAsked.{HostAsked}

-- one more request
pub asked_on : (many : Bool) (requests : List HostAsked) (i : ℕ) (d : HostAsked) (status one : ℕ) (old mid text : Option (List ℕ)) → i < length requests
    → AskedInTurn many (take i requests) status old mid → AskedOf many (get_or requests i d) one mid text → AskedInTurn many (take (i + 1) requests) (max status one) old text
asked_on many requests i d status one old mid text lt x y =
    subst (λ (rs : List HostAsked). AskedInTurn many rs (max status one) old text) (sym (take_more requests i d lt))
    (asked_next (take i requests) (get_or requests i d) status one old mid text x y)

pub asked_all : (many : Bool) (requests : List HostAsked) (i status : ℕ) (old text : Option (List ℕ)) → i ≡ length requests → AskedInTurn many (take i requests) status old text → AskedInTurn many requests status old text
asked_all many requests i status old text end x = subst (λ (rs : List HostAsked). AskedInTurn many rs status old text) (take_all i requests (omega (arith, end))) x

-- one more octet of an answer
pub fronted_on : (host : List ℕ) (begins : Bool) (octet : ℕ) (rest others old done new whole : List ℕ) → rest ≡ octet ∷ others → new ≡ done ++ fronted_octet host begins octet
    → done ++ fronted host begins rest ≡ old ++ whole → new ++ fronted host (nat_eq octet line_feed) others ≡ old ++ whole
fronted_on host begins octet rest others old done new whole parts more so_far =
    ap (λ (n : List ℕ). n ++ fronted host (nat_eq octet line_feed) others) more
    ∙ append_assoc done (fronted_octet host begins octet) (fronted host (nat_eq octet line_feed) others)
    ∙ sym (ap (λ (r : List ℕ). done ++ fronted host begins r) parts) ∙ so_far

pub fronted_all : (host : List ℕ) (begins : Bool) (rest old done whole : List ℕ) → rest ≡ [] → done ++ fronted host begins rest ≡ old ++ whole → done ≡ old ++ whole
fronted_all host begins rest old done whole none so_far = sym (append-nil done) ∙ sym (ap (λ (r : List ℕ). done ++ fronted host begins r) none) ∙ so_far
