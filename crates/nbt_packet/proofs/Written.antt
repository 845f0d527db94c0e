-- What the writer's steps put together is a message's written form.
use Rattle.std.proofs.Common.{◌≡◌, ℕ, ◌+◌, ◌/◌, List, [], ◌∷◌, ◌++◌, length, replicate, arith, ap, ◌∙◌, append_assoc, length-append}
use Rattle.nbt_packet.proofs.Common.{NameValue, wire, word, long, status, nbstat, internet, header, text}

-- what stands between a record's name and its RDATA
fields_of : (rtype ttl rdlength : ℕ) → List ℕ
fields_of rtype ttl rdlength = word rtype ++ word internet ++ long ttl ++ word rdlength

joined : (head name fields one names zeros : List ℕ) → (((head ++ (name ++ fields)) ++ one) ++ names) ++ zeros ≡ head ++ (name ++ (fields ++ ((one ++ names) ++ zeros)))
joined head name fields one names zeros = simp append_assoc

-- the parts of a node status, one after the other
pub status_is : (id : ℕ) (name : NameValue) (names head pushed named all : List ℕ)
    → head ≡ header id 0x8400 0 1 0 ++ (wire name ++ (word nbstat ++ word internet ++ long 0 ++ word (1 + length names + 46)))
    → pushed ≡ head ++ length names / 18 ∷ [] → named ≡ pushed ++ names → all ≡ named ++ replicate 46 0
    → all ≡ text (status id name names)
unfolding fields_of
status_is id name names head pushed named all h p n a =
    let rdata : List ℕ = length names / 18 ∷ names ++ replicate 46 0 in
    let count : 1 + length names + 46 ≡ length rdata = omega (arith, length-append names (replicate 46 0)) in
    let parts : all ≡ (((header id 0x8400 0 1 0 ++ (wire name ++ fields_of nbstat 0 (1 + length names + 46))) ++ length names / 18 ∷ []) ++ names) ++ replicate 46 0 =
    a ∙ ap (λ (x : List ℕ). x ++ replicate 46 0) (n ∙ ap (λ (x : List ℕ). x ++ names) (p ∙ ap (λ (x : List ℕ). x ++ length names / 18 ∷ []) h)) in
    parts ∙ joined (header id 0x8400 0 1 0) (wire name) (fields_of nbstat 0 (1 + length names + 46)) (length names / 18 ∷ []) names (replicate 46 0)
    ∙ ap (λ (k : ℕ). header id 0x8400 0 1 0 ++ (wire name ++ (fields_of nbstat 0 k ++ rdata))) count
