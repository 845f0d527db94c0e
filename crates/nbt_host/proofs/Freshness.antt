-- The names of a list before a request was sent.
use Rattle.std.proofs.Common.{◌≡◌, ℕ, ◌+◌, ◌<◌, List, [], ◌∷◌, ◌++◌, length, take, get_or, sym, ◌∙◌, ap, arith}
use Rattle.std.proofs.lemmas.List.{take_more, length-take-le}
use Rattle.nbt_client.specs.declared.turning.Want.{Want}
use Rattle.nbt_host.specs.declared.release.Release.{Release}
use Rattle.nbt_host.specs.Releases.{fresh, fresh_all}

fresh_last : (number : ℕ) (wants : List Want) (want : Want) → fresh_all number (wants ++ want ∷ []) ≡ fresh_all number wants ++ fresh (number + length wants) want ∷ []
fresh_last number [] want = ap (λ (n : ℕ). fresh n want ∷ []) (let e : number ≡ number + 0 = omega arith in e)
fresh_last number (w ∷ ws) want =
    let e : number + 1 + length ws ≡ number + length (w ∷ ws) = omega arith in
    ap (λ (rest : List Release). fresh number w ∷ rest) (fresh_last (number + 1) ws want ∙ ap (λ (n : ℕ). fresh_all (number + 1) ws ++ fresh n want ∷ []) e)

pub fresh_more : (number : ℕ) (wants : List Want) (i : ℕ) (want : Want) → i < length wants → want ≡ get_or wants i want
    → fresh_all number (take (i + 1) wants) ≡ fresh_all number (take i wants) ++ fresh (number + i) want ∷ []
fresh_more number wants i want lt is =
    let all = ap (λ (ws : List Want). fresh_all number ws) (take_more wants i want lt ∙ ap (λ (w : Want). take i wants ++ w ∷ []) (sym is)) in
    let few : length (take i wants) ≡ i = length-take-le i wants (omega arith) in
    all ∙ fresh_last number (take i wants) want ∙ ap (λ (n : ℕ). fresh_all number (take i wants) ++ fresh (number + n) want ∷ []) few
