-- The sections of a written form, where they stand, and the packet of each shape.
use Rattle.std.proofs.Common.{◌≡◌, ℕ, ◌+◌, ◌<◌, ◌≤◌, ◌^◌, List, [], ◌∷◌, ◌++◌, length, Some, None, refl, sym, ap, subst, ◌∙◌, arith, append_assoc}
use Rattle.nbt_packet.proofs.Common.{slice_range, length-append, NameValue, IsName, wire, NameAt, Registration, word, long, word_at, PacketValue, QuestionAt, RecordAt, IsHeader, PacketIs, internet, nb, header, record_fields, entry, question_octets, claim_octets, answer_octets}
use Rattle.nbt_name.proofs.ReadBack.{pointer_is_read}
use Rattle.nbt_packet.proofs.Header.{counts_fit}
use Rattle.nbt_name.proofs.Behind.{Behind, onward, word_back, word_there, long_there, range_there, octet_there, name_there}

-- ---- the header

record HeaderThere (octets : List ℕ) (id flags qs ans ads : ℕ) (body : List ℕ) : Type 0 where
  whole : IsHeader octets
  id_is : id ≡ word_at octets 0
  flags_is : flags ≡ word_at octets 2
  questions_are : word_at octets 4 ≡ qs
  answers_are : word_at octets 6 ≡ ans
  additionals_are : word_at octets 10 ≡ ads
  behind : Behind octets 12 body

header_there : (id flags qs ans ads : ℕ) (body : List ℕ) → id < 2 ^ 16 → flags < 2 ^ 16 → qs ≤ 1 → ans ≤ 1 → ads ≤ 1 → HeaderThere (header id flags qs ans ads ++ body) id flags qs ans ads body
header_there id flags qs ans ads body id_fits flags_fit one_q one_a one_ad =
    let octets : List ℕ = header id flags qs ans ads ++ body in
    let id_is : word_at octets 0 ≡ id = word_back id (word flags ++ (word qs ++ (word ans ++ (word 0 ++ (word ads ++ body))))) id_fits in
    let flags_is : word_at octets 2 ≡ flags = word_back flags (word qs ++ (word ans ++ (word 0 ++ (word ads ++ body)))) flags_fit in
    let qs_are : word_at octets 4 ≡ qs = word_back qs (word ans ++ (word 0 ++ (word ads ++ body))) (omega arith) in
    let ans_are : word_at octets 6 ≡ ans = word_back ans (word 0 ++ (word ads ++ body)) (omega arith) in
    let none : word_at octets 8 ≡ 0 = refl in
    let ads_are : word_at octets 10 ≡ ads = word_back ads body (omega arith) in
    record {
      whole = (omega arith, counts_fit octets 12 (λ _. rw qs_are one_q) (λ _. rw ans_are one_a) (λ _. omega (arith, none)) (λ _. rw ads_are one_ad));
      id_is = sym id_is;
      flags_is = sym flags_is;
      questions_are = qs_are;
      answers_are = ans_are;
      additionals_are = ads_are;
      behind = record { is = refl; within = omega arith };
    }

-- ---- a question, and a record's fields after its name

question_there : {octets : List ℕ} {p : ℕ} (name : NameValue) (rtype : ℕ) (rest : List ℕ) → IsName name → rtype < 2 ^ 16 → Behind octets p ((wire name ++ word rtype ++ word internet) ++ rest)
    → QuestionAt octets p (record { name = name; rtype = rtype; class = internet }) (p + length (wire name ++ word rtype ++ word internet))
question_there {octets} {p} name rtype rest is_name fits b =
    let w : List ℕ = wire name in
    let regroup : (w ++ word rtype ++ word internet) ++ rest ≡ w ++ (word rtype ++ (word internet ++ rest)) = append_assoc (w ++ word rtype) (word internet) rest ∙ append_assoc w (word rtype) (word internet ++ rest) in
    let b0 : Behind octets p (w ++ (word rtype ++ (word internet ++ rest))) = subst (Behind octets p) regroup b in
    let b1 : Behind octets (p + length w) (word rtype ++ (word internet ++ rest)) = onward (length w) w (word rtype ++ (word internet ++ rest)) refl b0 in
    let b2 : Behind octets (p + length w + 2) (word internet ++ rest) = onward 2 (word rtype) (word internet ++ rest) refl b1 in
    record {
      named = p + length w;
      name = name_there name (word rtype ++ (word internet ++ rest)) is_name b0;
      fits = omega (arith, b1.within);
      rtype = sym (word_there rtype (word internet ++ rest) fits b1);
      class = sym (word_there internet rest (omega arith) b2);
      next_is = omega (arith, length-append (w ++ word rtype) (word internet), length-append w (word rtype));
    }

record_there : {octets : List ℕ} {place named : ℕ} (name : NameValue) (rtype ttl : ℕ) (rdata rest : List ℕ) → NameAt octets place name named → rtype < 2 ^ 16 → ttl < 2 ^ 32 → length rdata < 2 ^ 16
    → Behind octets named (record_fields rtype ttl rdata ++ rest)
    → RecordAt octets place (record { name = name; rtype = rtype; class = internet; ttl = ttl; rdata = rdata }) (named + length (record_fields rtype ttl rdata))
record_there {octets} {place} {named} name rtype ttl rdata rest at rtype_fits ttl_fits rdata_fits b =
    let tail : List ℕ = rdata ++ rest in
    let b2 : Behind octets (named + 2) (word internet ++ (long ttl ++ (word (length rdata) ++ tail))) = onward 2 (word rtype) (word internet ++ (long ttl ++ (word (length rdata) ++ tail))) refl b in
    let b4 : Behind octets (named + 4) (long ttl ++ (word (length rdata) ++ tail)) = onward 4 (word rtype ++ word internet) (long ttl ++ (word (length rdata) ++ tail)) refl b in
    let b8 : Behind octets (named + 8) (word (length rdata) ++ tail) = onward 8 (word rtype ++ word internet ++ long ttl) (word (length rdata) ++ tail) refl b in
    let b10 : Behind octets (named + 10) (rdata ++ rest) = onward 10 (word rtype ++ word internet ++ long ttl ++ word (length rdata)) tail refl b in
    let count : word_at octets (named + 8) ≡ length rdata = word_there (length rdata) tail rdata_fits b8 in
    record {
      named = named;
      name = at;
      fits = omega (arith, b10.within);
      rtype = sym (word_there rtype (word internet ++ (long ttl ++ (word (length rdata) ++ tail))) rtype_fits b);
      class = sym (word_there internet (long ttl ++ (word (length rdata) ++ tail)) (omega arith) b2);
      ttl = sym (long_there ttl (word (length rdata) ++ tail) ttl_fits b4);
      whole = omega (arith, count, b10.within, length-append rdata rest);
      rdata = sym (ap (λ (k : ℕ). slice_range octets (named + 10) (named + 10 + k)) count ∙ range_there rdata rest b10);
      next_is = omega (arith, count);
    }

-- ---- the shapes, and the packet of each

abbrev pub asked_packet : (id flags rtype : ℕ) → NameValue → PacketValue
asked_packet id flags rtype name = record { id = id; flags = flags; question = Some (record { name = name; rtype = rtype; class = internet }); answer = None; additional = None }

abbrev pub bare_packet : (id flags : ℕ) → PacketValue
bare_packet id flags = record { id = id; flags = flags; question = None; answer = None; additional = None }

abbrev pub answer_packet : (id flags : ℕ) → NameValue → (rtype ttl : ℕ) → List ℕ → PacketValue
answer_packet id flags name rtype ttl rdata = record {
  id = id;
  flags = flags;
  question = None;
  answer = Some (record { name = name; rtype = rtype; class = internet; ttl = ttl; rdata = rdata });
  additional = None;
}

abbrev pub claim_packet : (flags : ℕ) → Registration → PacketValue
claim_packet flags r = record {
  id = r.id;
  flags = flags;
  question = Some (record { name = r.name; rtype = nb; class = internet });
  answer = None;
  additional = Some (record { name = r.name; rtype = nb; class = internet; ttl = r.ttl; rdata = entry r.kind r.addr });
}

pub asking_is : (id flags rtype : ℕ) (name : NameValue) (rest : List ℕ) → id < 2 ^ 16 → flags < 2 ^ 16 → rtype < 2 ^ 16 → IsName name
    → PacketIs (question_octets id flags rtype name ++ rest) (asked_packet id flags rtype name) (length (question_octets id flags rtype name))
asking_is id flags rtype name rest id_fits flags_fit rtype_fits is_name =
    let q : List ℕ = wire name ++ word rtype ++ word internet in
    let h = header_there id flags 1 0 0 (q ++ rest) id_fits flags_fit (omega arith) (omega arith) (omega arith) in
    record {
      asked = 12 + length q;
      answered = 12 + length q;
      header = h.whole;
      id = h.id_is;
      flags = h.flags_is;
      question = (h.questions_are, question_there name rtype rest is_name rtype_fits h.behind);
      answer = (h.answers_are, refl);
      additional = (h.additionals_are, omega arith);
    }

pub bare_is : (id flags : ℕ) (rest : List ℕ) → id < 2 ^ 16 → flags < 2 ^ 16
    → PacketIs (header id flags 0 0 0 ++ rest) (bare_packet id flags) (length (header id flags 0 0 0))
bare_is id flags rest id_fits flags_fit =
    let h = header_there id flags 0 0 0 rest id_fits flags_fit (omega arith) (omega arith) (omega arith) in
    record {
      asked = 12;
      answered = 12;
      header = h.whole;
      id = h.id_is;
      flags = h.flags_is;
      question = (h.questions_are, refl);
      answer = (h.answers_are, refl);
      additional = (h.additionals_are, refl);
    }

pub answering_is : (id flags : ℕ) (name : NameValue) (rtype ttl : ℕ) (rdata rest : List ℕ) → id < 2 ^ 16 → flags < 2 ^ 16 → IsName name → rtype < 2 ^ 16 → ttl < 2 ^ 32 → length rdata < 2 ^ 16
    → PacketIs (answer_octets id flags name rtype ttl rdata ++ rest) (answer_packet id flags name rtype ttl rdata) (length (answer_octets id flags name rtype ttl rdata))
answering_is id flags name rtype ttl rdata rest id_fits flags_fit is_name rtype_fits ttl_fits rdata_fits =
    let octets : List ℕ = answer_octets id flags name rtype ttl rdata ++ rest in
    let w : List ℕ = wire name in
    let f : List ℕ = record_fields rtype ttl rdata in
    let h = header_there id flags 0 1 0 ((w ++ f) ++ rest) id_fits flags_fit (omega arith) (omega arith) (omega arith) in
    let b : Behind octets 12 (w ++ (f ++ rest)) = subst (Behind octets 12) (append_assoc w f rest) h.behind in
    let b2 : Behind octets (12 + length w) (f ++ rest) = onward (length w) w (f ++ rest) refl b in
    record {
      asked = 12;
      answered = 12 + length w + length f;
      header = h.whole;
      id = h.id_is;
      flags = h.flags_is;
      question = (h.questions_are, refl);
      answer = (h.answers_are, record_there name rtype ttl rdata rest (name_there name (f ++ rest) is_name b) rtype_fits ttl_fits rdata_fits b2);
      additional = (h.additionals_are, omega (arith, length-append w f));
    }

-- a question, and a record whose name is a pointer to the question's
pub claiming_is : (flags : ℕ) (r : Registration) (rest : List ℕ) → r.id < 2 ^ 16 → flags < 2 ^ 16 → IsName r.name → r.ttl < 2 ^ 32 → length (entry r.kind r.addr) < 2 ^ 16
    → PacketIs (claim_octets flags r ++ rest) (claim_packet flags r) (length (claim_octets flags r))
claiming_is flags r rest id_fits flags_fit is_name ttl_fits rdata_fits =
    let octets : List ℕ = claim_octets flags r ++ rest in
    let w : List ℕ = wire r.name in
    let q : List ℕ = w ++ word nb ++ word internet in
    let f : List ℕ = record_fields nb r.ttl (entry r.kind r.addr) in
    let add : List ℕ = 0xC0 ∷ 0x0C ∷ f in
    let h = header_there r.id flags 1 0 1 ((q ++ add) ++ rest) id_fits flags_fit (omega arith) (omega arith) (omega arith) in
    let b : Behind octets 12 (q ++ (add ++ rest)) = subst (Behind octets 12) (append_assoc q add rest) h.behind in
    let p : ℕ = 12 + length q in
    let c : Behind octets p (0xC0 ∷ 0x0C ∷ (f ++ rest)) = onward (length q) q (add ++ rest) refl b in
    let c1 : Behind octets (p + 1) (0x0C ∷ (f ++ rest)) = onward 1 (0xC0 ∷ []) (0x0C ∷ (f ++ rest)) refl c in
    let c2 : Behind octets (p + 2) (f ++ rest) = onward 2 (0xC0 ∷ 0x0C ∷ []) (f ++ rest) refl c in
    let regroup : q ++ (add ++ rest) ≡ w ++ (word nb ++ (word internet ++ (add ++ rest))) = append_assoc (w ++ word nb) (word internet) (add ++ rest) ∙ append_assoc w (word nb) (word internet ++ (add ++ rest)) in
    let asked_name : NameAt octets 12 r.name (12 + length w) = name_there r.name (word nb ++ (word internet ++ (add ++ rest))) is_name (subst (Behind octets 12) regroup b) in
    let beyond : 12 < p = omega (arith, length-append (w ++ word nb) (word internet)) in
    let same_name : NameAt octets p r.name (p + 2) = pointer_is_read octets p 0xC0 0x0C r.name (12 + length w) (octet_there 0xC0 (0x0C ∷ (f ++ rest)) c) (omega arith) (octet_there 0x0C (f ++ rest) c1) beyond asked_name in
    record {
      asked = p;
      answered = p;
      header = h.whole;
      id = h.id_is;
      flags = h.flags_is;
      question = (h.questions_are, question_there r.name nb (add ++ rest) is_name (omega arith) b);
      answer = (h.answers_are, refl);
      additional = (h.additionals_are, subst (RecordAt octets p _) (omega (arith, length-append q add)) (record_there r.name nb r.ttl (entry r.kind r.addr) rest same_name (omega arith) ttl_fits rdata_fits c2));
    }
