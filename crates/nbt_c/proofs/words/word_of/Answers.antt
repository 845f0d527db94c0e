use Rattle.nbt_c.proofs.Common.{◌≡◌, [], ◌∷◌, ◌++◌, List, ℕ, sym, ap, subst, ◌∙◌, slice_index, encode_lower, encode_upper, prefix, PrintsOctets, in_capitals, in_hexadecimal}
use Rattle.nbt_c.proofs.words.word_of.Goals as goal

pub with_suffix-requires : goal.with_suffix-requires
with_suffix-requires c = c.in-Some.ensures.front.0.is_front.few

pub returns-in-Some : goal.returns-in-Some
returns-in-Some c =
    let front = c.in-Some.front.now in
    let suffix = slice_index c.args.octets.now 15 in
    let is = c.in-Some.ensures.front in
    subst (PrintsOctets c.args.octets.now) (sym c.with_suffix.ensures)
    (subst (λ (octets : List ℕ). PrintsOctets octets (front ++ 0x23 ∷ encode_upper (suffix ∷ []))) (sym is.1) (in_capitals front suffix is.0))

pub returns-in-None : goal.returns-in-None
returns-in-None c =
    let octets = c.args.octets.now in
    let digits : c.put_hexadecimal.new.out.items ≡ prefix ++ encode_lower octets = c.put_hexadecimal.ensures ∙ ap (λ (xs : List ℕ). xs ++ (prefix ++ encode_lower octets)) c.new-digits.ensures in
    subst (PrintsOctets octets) (sym digits) (in_hexadecimal octets c.in-None.ensures.none)
