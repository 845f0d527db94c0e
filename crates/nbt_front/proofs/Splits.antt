-- A text is split at its first slash in one way.
use Rattle.std.proofs.Common.{◌≡◌, ◌∙◌, ℕ, suc, List, [], ◌∷◌, ◌++◌, Option, Some, None, refl, sym, subst, arith}
use Rattle.std.specs.Prelude.{MatchOption}
use Rattle.std.proofs.lemmas.List.{append-nil}
use denote.Ref.{Bor}
use Rattle.nbt_text.specs.Lines.{HasNo}
use Rattle.nbt_front.specs.Inner.Tails.{tail_of}
use Rattle.nbt_front.specs.Networks.{NetworkValue, slash, SpellsIp, SpellsBits, all_bits, some_bits, SpellsNetwork}

HasNo-rest : (x : ℕ) (xs : List ℕ) → HasNo slash (x ∷ xs) → HasNo slash xs
HasNo-rest x xs none k h = none (suc k) (omega arith)

-- what may stand behind the address: nothing, or what begins with a slash
pub data IsTail : List ℕ → Type 0 where
  ended : IsTail []
  slashed : (rest : List ℕ) → IsTail (slash ∷ rest)

IsTail-share : (tail : List ℕ) (bits : ℕ) → SpellsBits tail bits → IsTail tail
IsTail-share _ _ all_bits = ended
IsTail-share _ _ (some_bits digits bits says few) = slashed digits

IsTail-rest : (rest : Option (Bor (List ℕ))) → IsTail (tail_of rest)
IsTail-rest None = ended
IsTail-rest (Some r) = slashed r.now

split_is_one : (a b x y : List ℕ) → HasNo slash a → HasNo slash b → IsTail x → IsTail y → a ++ x ≡ b ++ y → (a ≡ b) × (x ≡ y)
split_is_one [] [] x y na nb tx ty e = (refl, e)
split_is_one [] (c ∷ b) _ y na nb ended ty e = absurd cc
split_is_one [] (c ∷ b) _ y na nb (slashed rest) ty e = let same : c ≡ slash = cc in absurd (nb 0 (omega arith) same)
split_is_one (c ∷ a) [] x _ na nb tx ended e = absurd cc
split_is_one (c ∷ a) [] x _ na nb tx (slashed rest) e = let same : c ≡ slash = cc in absurd (na 0 (omega arith) same)
split_is_one (c ∷ a) (d ∷ b) x y na nb tx ty e =
    let head : c ≡ d = cc in
    let behind : a ++ x ≡ b ++ y = cc in
    let rest = split_is_one a b x y (HasNo-rest c a na) (HasNo-rest d b nb) tx ty behind in
    (rw (head, rest.0) refl, rest.1)

module _ (text front : List ℕ) where
  -- the text was split there
  abbrev pub IsSplit : Option (Bor (List ℕ)) → Type 0
  IsSplit rest = MatchOption rest (text ≡ front) (λ r. text ≡ front ++ slash ∷ r.now)

  whole : (rest : Option (Bor (List ℕ))) → IsSplit rest → text ≡ front ++ tail_of rest
  whole None is = is ∙ sym (append-nil front)
  whole (Some r) is = is

  pub found_network : (rest : Option (Bor (List ℕ))) (ip bits : ℕ) → IsSplit rest → HasNo slash front → SpellsBits (tail_of rest) bits → SpellsIp front ip → SpellsNetwork text (record { ip = ip; bits = bits })
  found_network rest ip bits is none says spells = record { front = front; tail = tail_of rest; text_is = whole rest is; no_slash = none; address = spells; share = says }

  one_split : (rest : Option (Bor (List ℕ))) → IsSplit rest → HasNo slash front → (network : NetworkValue) (spells : SpellsNetwork text network) → (front ≡ spells.front) × (tail_of rest ≡ spells.tail)
  one_split rest is none network spells =
      split_is_one front spells.front (tail_of rest) spells.tail none spells.no_slash (IsTail-rest rest) (IsTail-share spells.tail network.bits spells.share) (sym (whole rest is) ∙ spells.text_is)

  pub no_bits : (rest : Option (Bor (List ℕ))) → IsSplit rest → HasNo slash front → ((bits : ℕ) → ¬ SpellsBits (tail_of rest) bits) → (network : NetworkValue) → ¬ SpellsNetwork text network
  no_bits rest is none never network spells =
      let one = one_split rest is none network spells in
      never network.bits (subst (λ (tail : List ℕ). SpellsBits tail network.bits) (sym one.1) spells.share)

  pub no_ip : (rest : Option (Bor (List ℕ))) → IsSplit rest → HasNo slash front → ((ip : ℕ) → ¬ SpellsIp front ip) → (network : NetworkValue) → ¬ SpellsNetwork text network
  no_ip rest is none never network spells =
      let one = one_split rest is none network spells in
      never network.ip (subst (λ (address : List ℕ). SpellsIp address network.ip) (sym one.0) spells.address)
