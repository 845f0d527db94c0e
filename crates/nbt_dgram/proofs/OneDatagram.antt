-- Octets begin with one datagram, or have one fault: the type, the head, and what stands after it.
use Rattle.std.proofs.Common.{◌≡◌, ℕ, ◌<◌, ◌≤◌, Bool, true, false, cond, eqb, List, length, refl, sym, ap, subst, ◌∙◌, arith, inl, inr}
use Rattle.std.specs.Prelude.{◌⊎◌, slice_range}
use Rattle.std.proofs.lemmas.Bool.{cases_lt, cases_eq}
use Rattle.nbt_name.specs.declared.fault.NameFault.{NameFault}
use Rattle.nbt_name.specs.declared.form.Form.TheVariants.{Plain}
use Rattle.nbt_name.specs.Words.{word_at, long_at}
use Rattle.nbt_name.specs.Wire.{NameValue, AreOctets}
use Rattle.nbt_name.specs.Reading.{PlainNameAt, PlainFaultAt}
use Rattle.nbt_name.proofs.Fits.{octets_take}
use Rattle.nbt_name.proofs.Readers.{Reads, reads_this, reads_up_to, reads_name, reads_same, reads_as, reads_then}
use Rattle.nbt_dgram.specs.declared.fault.DgramFault.{DgramFault}
use Rattle.nbt_dgram.specs.declared.msg_type.Delivery.{Delivery}
use Rattle.nbt_dgram.specs.declared.msg_type.Delivery.TheVariants.{DirectUnique, DirectGroup, Broadcast}
use Rattle.nbt_dgram.specs.declared.msg_type.Lookup.TheVariants.{Request, Positive, Negative}
use Rattle.nbt_dgram.specs.declared.msg_type.MsgType.{MsgType}
use Rattle.nbt_dgram.specs.declared.msg_type.MsgType.TheVariants as types
use Rattle.nbt_dgram.specs.declared.dgram.Names.{Names}
use Rattle.nbt_dgram.specs.declared.dgram.Part.{Part}
use Rattle.nbt_dgram.specs.declared.dgram.Part.TheVariants.{First, Later}
use Rattle.nbt_dgram.specs.Numbers.{type_number, head_size, fault_of, fault_within, short, bad_type, bad_offset}
use Rattle.nbt_dgram.specs.Fields.{octet_at, first_at, more_at, offset_at, end_at, within}
use Rattle.nbt_dgram.specs.Dgram.{FragmentValue, BodyValue, fragment, error, lookup, DgramValue, type_of, IsTypeAt, NamesAt, PartAt, FragmentAt, BodyAt, DgramIs, NamesFault, source_bad, destination_bad, FragmentFault, offset_bad, fragment_cut, names_bad, FaultIs, nothing_there, type_bad, head_cut, fragment_bad, lookup_bad}

-- ---- the type that a number is

type_back : ℕ → MsgType
type_back n =
    cond (eqb n 0x10) (types.Data DirectUnique) (cond (eqb n 0x11) (types.Data DirectGroup) (cond (eqb n 0x12) (types.Data Broadcast)
    (cond (eqb n 0x13) types.Error (cond (eqb n 0x14) (types.Lookup Request) (cond (eqb n 0x15) (types.Lookup Positive) (types.Lookup Negative))))))

type_back-number : (t : MsgType) → type_back (type_number t) ≡ t
unfolding type_back
type_back-number (types.Data DirectUnique) = refl
type_back-number (types.Data DirectGroup) = refl
type_back-number (types.Data Broadcast) = refl
type_back-number types.Error = refl
type_back-number (types.Lookup Request) = refl
type_back-number (types.Lookup Positive) = refl
type_back-number (types.Lookup Negative) = refl

one_type : (t u : MsgType) → type_number t ≡ type_number u → t ≡ u
one_type t u e = sym (type_back-number t) ∙ ap type_back e ∙ type_back-number u

IsOfType : ℕ → Type 0
IsOfType n = ((t : MsgType) × (n ≡ type_number t)) ⊎ ((t : MsgType) → n ≡ type_number t → ⊥)

type_cases : (n : ℕ) → IsOfType n
unfolding IsOfType
type_cases n =
    elim (cases_eq n (type_number (type_back n))) [
      | inl e ↦ inl (type_back n, e)
      | inr other ↦ inr (λ t e. other (e ∙ ap type_number (sym (type_back-number t) ∙ ap type_back (sym e))))
    ]

-- ---- the parts, from within

module _ (octets : List ℕ) where
  -- the names, in the octets that DGM_LENGTH counts
  abbrev counted : List ℕ
  counted = within octets

  -- what may be wrong with them, and likewise below
  abbrev NamesBad : DgramFault → Type 0
  NamesBad f =
      ((n : NameFault) × PlainFaultAt counted 14 n × (fault_within n ≡ f))
      ⊎ ((x : NameValue × ℕ) × PlainNameAt counted 14 x.0 x.1 × (((n : NameFault) × PlainFaultAt counted x.1 n × (fault_within n ≡ f)) ⊎ ((y : NameValue × ℕ) × PlainNameAt counted x.1 y.0 y.1 × ⊥)))

  counted_name : (place : ℕ) → Reads {X = NameValue × ℕ} {F = DgramFault} (AreOctets octets) (λ x. PlainNameAt counted place x.0 x.1) (λ f. (n : NameFault) × PlainFaultAt counted place n × (fault_within n ≡ f))
  counted_name place = reads_name Plain counted (λ fits. octets_take (end_at octets) octets fits) fault_within place

  reads_names : Reads {X = Names × ℕ} {F = DgramFault} (AreOctets octets) (λ x. NamesAt counted x.0 x.1) (NamesFault counted)
  reads_names =
      reads_same
      (reads_then (counted_name 14) (λ s at. reads_then (counted_name s.1) (λ d there. reads_this (record { source = s.0; destination = d.0 }, d.1))))
      (λ y is. subst (λ (z : Names × ℕ). NamesAt counted z.0 z.1) (sym is.2.2) (record { named = is.0.1; source = is.1; destination = is.2.1 }))
      (λ y n. ((y.0.source, n.named), n.source, ((y.0.destination, y.1), n.destination, refl)))
      to_fault from_fault
    where
      to_fault : (f : DgramFault) → NamesBad f → NamesFault counted f
      to_fault f (inl (n, at, e)) = subst (NamesFault counted) e (source_bad n at)
      to_fault f (inr (x, source, inl (n, at, e))) = subst (NamesFault counted) e (destination_bad x.0 x.1 n source at)
      to_fault f (inr (x, source, inr (y, at, never))) = absurd never

      from_fault : (f : DgramFault) → NamesFault counted f → NamesBad f
      from_fault _ (source_bad n at) = inl (n, at, refl)
      from_fault _ (destination_bad name named n source at) = inr ((name, named), source, inl (n, at, refl))

  -- ---- a fragment

  abbrev fragment_value : Delivery → Part → ℕ → FragmentValue × ℕ
  fragment_value delivery part begin = (record { delivery = delivery; part = part; more = more_at octets; payload = slice_range octets begin (end_at octets) }, end_at octets)

  abbrev IsFragment : Delivery → FragmentValue × ℕ → Type 0
  IsFragment delivery x = (x.0.delivery ≡ delivery) × FragmentAt octets x.0 x.1

  -- the first one, after F
  abbrev FirstIs : Delivery → FragmentValue × ℕ → Type 0
  FirstIs delivery x = (u : Unit {0}) × (offset_at octets ≤ 0) × ((v : Unit {0}) × (end_at octets ≤ length octets) × ((n : Names × ℕ) × NamesAt counted n.0 n.1 × (x ≡ fragment_value delivery (First n.0) n.1)))

  abbrev FirstBad : DgramFault → Type 0
  FirstBad f =
      ((f ≡ bad_offset) × (0 < offset_at octets)) ⊎ ((u : Unit {0}) × (offset_at octets ≤ 0) × (((f ≡ short octets) × (length octets < end_at octets)) ⊎ ((v : Unit {0}) × (end_at octets ≤ length octets)
      × (NamesFault counted f ⊎ ((n : Names × ℕ) × NamesAt counted n.0 n.1 × ⊥)))))

  first_fragment : (delivery : Delivery) → first_at octets ≡ true → Reads {X = FragmentValue × ℕ} {F = DgramFault} (AreOctets octets) (IsFragment delivery) (FragmentFault octets)
  first_fragment delivery first =
      reads_same
      (reads_then (reads_up_to (offset_at octets) 0 bad_offset) (λ u none. reads_then (reads_up_to (end_at octets) (length octets) (short octets)) (λ v whole.
      reads_then reads_names (λ n at. reads_this (fragment_value delivery (First n.0) n.1)))))
      to_value (λ x is. from_value x is.0 is.1 x.0.part refl is.1.part) to_fault from_fault
    where
      to_value : (x : FragmentValue × ℕ) → FirstIs delivery x → IsFragment delivery x
      to_value x (u, none, (v, whole, (n, at, e))) =
          subst (IsFragment delivery) (sym e) (refl, record { begin = n.1; whole = whole; part = (first, omega arith, at); more = refl; payload = refl; next_is = refl })

      from_value : (x : FragmentValue × ℕ) → x.0.delivery ≡ delivery → (f : FragmentAt octets x.0 x.1) → (part : Part) → x.0.part ≡ part → PartAt octets part f.begin → FirstIs delivery x
      from_value x same f (First names) e at =
          (tt, omega (arith, at.1), (tt, f.whole, ((names, f.begin), at.2, λ i. (record { delivery = same i; part = e i; more = f.more i; payload = f.payload i }, f.next_is i))))
      from_value x same f (Later offset) e at = absurd (let clash : true ≡ false = sym first ∙ at.0 in cc)

      to_fault : (f : DgramFault) → FirstBad f → FragmentFault octets f
      to_fault f (inl (e, more)) = subst (FragmentFault octets) (sym e) (offset_bad first (λ zero_there. omega (arith, more, zero_there)))
      to_fault f (inr (u, none, inl (e, less))) = subst (FragmentFault octets) (sym e) (fragment_cut (λ f. omega (arith, none)) less)
      to_fault f (inr (u, none, inr (v, whole, inl bad))) = names_bad f first (omega (arith, none)) whole bad
      to_fault f (inr (u, none, inr (v, whole, inr (n, at, never)))) = absurd never

      from_fault : (f : DgramFault) → FragmentFault octets f → FirstBad f
      from_fault _ (offset_bad f other) = inl (refl, omega (arith, other))
      from_fault _ (fragment_cut none less) = inr (tt, omega (arith, none first), inl (refl, less))
      from_fault f (names_bad _ is none whole bad) = inr (tt, omega (arith, none), inr (tt, whole, inl bad))

  -- a later one, without F
  later_fragment : (delivery : Delivery) → first_at octets ≡ false → Reads {X = FragmentValue × ℕ} {F = DgramFault} (AreOctets octets) (IsFragment delivery) (FragmentFault octets)
  later_fragment delivery later =
      reads_same
      (reads_then (reads_up_to (end_at octets) (length octets) (short octets)) (λ v whole. reads_this (fragment_value delivery (Later (offset_at octets)) 14)))
      (λ x is. subst (IsFragment delivery) (sym is.2) (refl, record { begin = 14; whole = is.1; part = (later, refl, refl); more = refl; payload = refl; next_is = refl }))
      (λ x is. from_value x is.0 is.1 x.0.part refl is.1.part)
      (λ f bad. elim bad [ inl b ↦ subst (FragmentFault octets) (sym b.0) (fragment_cut (λ first. absurd (clash first)) b.1) | inr b ↦ absurd b.2 ]) from_fault
    where
      clash : first_at octets ≡ true → ⊥
      clash first = let e : true ≡ false = sym first ∙ later in cc

      from_value : (x : FragmentValue × ℕ) → x.0.delivery ≡ delivery → (f : FragmentAt octets x.0 x.1) → (part : Part) → x.0.part ≡ part → PartAt octets part f.begin
          → (v : Unit {0}) × (end_at octets ≤ length octets) × (x ≡ fragment_value delivery (Later (offset_at octets)) 14)
      from_value x same f (First names) e at = absurd (clash at.0)
      from_value x same f (Later offset) e at =
          let part : x.0.part ≡ Later (offset_at octets) = e ∙ ap Later at.1 in
          let payload : x.0.payload ≡ slice_range octets 14 (end_at octets) = f.payload ∙ ap (λ (k : ℕ). slice_range octets k (end_at octets)) at.2 in
          (tt, f.whole, λ i. (record { delivery = same i; part = part i; more = f.more i; payload = payload i }, f.next_is i))

      from_fault : (f : DgramFault) → FragmentFault octets f → ((f ≡ short octets) × (length octets < end_at octets)) ⊎ ((v : Unit {0}) × (end_at octets ≤ length octets) × ⊥)
      from_fault _ (offset_bad first other) = absurd (clash first)
      from_fault _ (fragment_cut none less) = inl (refl, less)
      from_fault f (names_bad _ first none whole bad) = absurd (clash first)

  reads_fragment : (delivery : Delivery) → Reads {X = FragmentValue × ℕ} {F = DgramFault} (AreOctets octets) (IsFragment delivery) (FragmentFault octets)
  reads_fragment delivery = by_first (first_at octets) refl
    where
      by_first : (b : Bool) → first_at octets ≡ b → Reads {X = FragmentValue × ℕ} {F = DgramFault} (AreOctets octets) (IsFragment delivery) (FragmentFault octets)
      by_first true first = first_fragment delivery first
      by_first false later = later_fragment delivery later

  -- ---- what stands after the head

  abbrev IsBody : MsgType → BodyValue × ℕ → Type 0
  IsBody t x = (type_of x.0 ≡ t) × BodyAt octets x.0 x.1

  abbrev BodyFault : MsgType → DgramFault → Type 0
  BodyFault (types.Data delivery) f = FragmentFault octets f
  BodyFault types.Error f = ⊥
  BodyFault (types.Lookup l) f = (n : NameFault) × PlainFaultAt octets 10 n × (fault_of n ≡ f)

  reads_body : (t : MsgType) → Reads {X = BodyValue × ℕ} {F = DgramFault} (AreOctets octets) (IsBody t) (BodyFault t)
  reads_body (types.Data delivery) =
      reads_as (λ (x : FragmentValue × ℕ). (fragment x.0, x.1)) (reads_fragment delivery) (λ x is. (ap (λ (d : Delivery). types.Data d) is.0, is.1)) (λ y is. from_value y.0 y.1 is.0 is.1) (λ f bad. bad) (λ f bad. bad)
    where
      from_value : (b : BodyValue) (n : ℕ) → type_of b ≡ types.Data delivery → BodyAt octets b n → (x : FragmentValue × ℕ) × IsFragment delivery x × ◌≡◌ {A = BodyValue × ℕ} (fragment x.0, x.1) (b, n)
      from_value (fragment f) n same at = ((f, n), (let e : f.delivery ≡ delivery = cc in e, at), refl)
      from_value (error code) n same at = absurd cc
      from_value (lookup l name) n same at = absurd cc
  reads_body types.Error =
      reads_same (reads_this (error (octet_at octets 10), 11)) (λ x is. subst (IsBody types.Error) (sym is) (refl, (refl, refl))) (λ x is. from_value x.0 x.1 is.0 is.1) (λ f bad. bad) (λ f bad. bad)
    where
      from_value : (b : BodyValue) (n : ℕ) → type_of b ≡ types.Error → BodyAt octets b n → ◌≡◌ {A = BodyValue × ℕ} (b, n) (error (octet_at octets 10), 11)
      from_value (error code) n same at = let code_is : code ≡ octet_at octets 10 = at.0 in let n_is : n ≡ 11 = at.1 in λ i. (error (code_is i), n_is i)
      from_value (fragment f) n same at = absurd cc
      from_value (lookup l name) n same at = absurd cc
  reads_body (types.Lookup l) =
      reads_as (λ (x : NameValue × ℕ). (lookup l x.0, x.1)) (reads_name Plain octets (λ fits. fits) fault_of 10) (λ x is. (refl, is)) (λ y is. from_value y.0 y.1 is.0 is.1) (λ f bad. bad) (λ f bad. bad)
    where
      from_value : (b : BodyValue) (n : ℕ) → type_of b ≡ types.Lookup l → BodyAt octets b n → (x : NameValue × ℕ) × PlainNameAt octets 10 x.0 x.1 × ◌≡◌ {A = BodyValue × ℕ} (lookup l x.0, x.1) (b, n)
      from_value (lookup k name) n same at = ((name, n), at, (let e : l ≡ k = cc in λ i. (lookup (e i) name, n)))
      from_value (fragment f) n same at = absurd cc
      from_value (error code) n same at = absurd cc

  -- ---- the type

  abbrev TypeFault : DgramFault → Type 0
  TypeFault f = ((f ≡ short octets) × (length octets ≡ 0)) ⊎ ((f ≡ bad_type) × (0 < length octets) × ((t : MsgType) → octet_at octets 0 ≡ type_number t → ⊥))

  reads_type : Reads {X = MsgType} {F = DgramFault} (AreOctets octets) (IsTypeAt octets) TypeFault
  unfolding IsOfType
  reads_type = record {
    found = λ fits. elim (cases_lt 0 (length octets)) [
      | inr none ↦ inr (short octets, inl (refl, omega (arith, none)))
      | inl some ↦ elim (type_cases (octet_at octets 0)) [ inl t ↦ inl (t.0, (some, t.1)) | inr other ↦ inr (bad_type, inr (refl, some, other)) ]
    ];
    one_value = λ t u a b. one_type t u (sym a.1 ∙ b.1);
    one_fault = one_bad;
    not_both = both;
  }
    where
      one_bad : (f g : DgramFault) → TypeFault f → TypeFault g → f ≡ g
      one_bad f g (inl a) (inl b) = a.0 ∙ sym b.0
      one_bad f g (inl a) (inr b) = absurd (omega (arith, a.1, b.1))
      one_bad f g (inr a) (inl b) = absurd (omega (arith, a.1, b.1))
      one_bad f g (inr a) (inr b) = a.0 ∙ sym b.0

      both : (t : MsgType) (f : DgramFault) → IsTypeAt octets t → TypeFault f → ⊥
      both t f is (inl a) = omega (arith, is.0, a.1)
      both t f is (inr a) = a.2 t is.1

  -- ---- the datagram

  abbrev dgram_value : BodyValue × ℕ → DgramValue × ℕ
  dgram_value b = (record { id = word_at octets 2; source = record { ip = long_at octets 4; port = word_at octets 8 }; body = b.0 }, b.1)

  abbrev DgramBad : DgramFault → Type 0
  DgramBad f =
      TypeFault f
      ⊎ ((t : MsgType) × IsTypeAt octets t × (((f ≡ short octets) × (length octets < head_size t)) ⊎ ((u : Unit {0}) × (head_size t ≤ length octets) × (BodyFault t f ⊎ ((b : BodyValue × ℕ) × IsBody t b × ⊥)))))

  pub reads_dgram : Reads {X = DgramValue × ℕ} {F = DgramFault} (AreOctets octets) (λ x. DgramIs octets x.0 x.1) (FaultIs octets)
  reads_dgram =
      reads_same
      (reads_then reads_type (λ t is. reads_then (reads_up_to (head_size t) (length octets) (short octets)) (λ u head. reads_then (reads_body t) (λ b at. reads_this (dgram_value b)))))
      to_value
      (λ x d. (type_of x.0.body, d.type, (tt, d.head, ((x.0.body, x.1), (refl, d.body), λ i. (record { id = d.id i; source = record { ip = d.ip i; port = d.port i }; body = x.0.body }, x.1)))))
      to_fault from_fault
    where
      to_value : (x : DgramValue × ℕ) → ((t : MsgType) × IsTypeAt octets t × ((u : Unit {0}) × (head_size t ≤ length octets) × ((b : BodyValue × ℕ) × IsBody t b × (x ≡ dgram_value b)))) → DgramIs octets x.0 x.1
      to_value x (t, is, (u, head, (b, (same, at), e))) =
          subst (λ (z : DgramValue × ℕ). DgramIs octets z.0 z.1) (sym e)
          (record { type = subst (IsTypeAt octets) (sym same) is; head = subst (λ (k : MsgType). head_size k ≤ length octets) (sym same) head; id = refl; ip = refl; port = refl; body = at })

      body_bad : (t : MsgType) (f : DgramFault) → IsTypeAt octets t → head_size t ≤ length octets → BodyFault t f → FaultIs octets f
      body_bad (types.Data delivery) f is head bad = fragment_bad delivery f is head bad
      body_bad types.Error f is head bad = absurd bad
      body_bad (types.Lookup l) f is head (n, at, e) = subst (FaultIs octets) e (lookup_bad l n is head at)

      to_fault : (f : DgramFault) → DgramBad f → FaultIs octets f
      to_fault f (inl (inl (e, none))) = subst (FaultIs octets) (sym e) (nothing_there none)
      to_fault f (inl (inr (e, some, other))) = subst (FaultIs octets) (sym e) (type_bad some other)
      to_fault f (inr (t, is, inl (e, less))) = subst (FaultIs octets) (sym e) (head_cut t is less)
      to_fault f (inr (t, is, inr (u, head, inl bad))) = body_bad t f is head bad
      to_fault f (inr (t, is, inr (u, head, inr (b, at, never)))) = absurd never

      from_fault : (f : DgramFault) → FaultIs octets f → DgramBad f
      from_fault _ (nothing_there none) = inl (inl (refl, none))
      from_fault _ (type_bad some other) = inl (inr (refl, some, other))
      from_fault _ (head_cut t is less) = inr (t, is, inl (refl, less))
      from_fault f (fragment_bad delivery _ is head bad) = inr (types.Data delivery, is, inr (tt, head, inl bad))
      from_fault _ (lookup_bad l n is head at) = inr (types.Lookup l, is, inr (tt, head, inl (n, at, refl)))
