-- `put` and `get` of a value in C's memory, whatever the value's type: walks of their MIR by hand. `put` makes a value of the buffer; of `get` the value leaves as a part of the handle.
--     Held      a handle as its struct declares it: `at`, where the memory is, and `held`, the value that stands there, if any. Each struct's own proof gives its parts, and each equation is `refl`
use Rattle.std.proofs.Common.{◌≡◌, ℕ, true≢false, List, [], ◌∷◌, ◌++◌, refl, sym, ap, subst, ◌∙◌, Some, None, Option}
use Rattle.std.proofs.raw_atomic.Walks.{proved, proved_at}
use Rattle.std.proofs.VecSteps.Shapes.{after}
use seplogic.Ra.Ura.{Ura}
use base.Fraction.{full_share}
use base.Logic.{ent, sep, id⊢}
use base.Stored.{Coded}
use base.Fml.{Fml, GName, fsep, ftrue, flft}
use mir.Syntax.{Sym, Ty, Fn, Callee, Local, Body, ty_unit, named, erased, mut, local, value_local, ty_ref, ty_ptr, seq, block, assign, addr_of, return, place, copy, deref, field, rv_opd, opd_unit}
use mir.Val.{Val, vptr, vunit, vstruct, vcons, vnil}
use contract.Monad.{fact}
use contract.Running.{Running, tables}
use prog.Model.{Model}
use prog.Wp.{WpFn, Closed}
use types.Logic.{Logic, sem}
use types.Kit.{‵, raw, ◌⊛◌, some, later, at_ret, ◌$◌, ◌∵◌, !, qed, done, move, keep, use1, use2, split, join, fsplit, fsplit3, fjoin, fpack, feq_i, pick, await, rewrite, regoal, prop, suffices, frame, group}
use types.Part.{whole, sub, look_in}
use types.Run.{enter, of_opd, addr, unit_lit, load, init, stop, fld, first, blocks, assigns_last, exec, returns}
use types.ByLocal.{alloc_all, pass_all, free_all, look_at, get, through, sets, sets_last, env}
use denote.Builtin.{RefMutOf, unit}
use denote.Exit.{yes, no, rest}
use denote.Follow.{follows, Part, lends_Part}
use denote.Laws.{shows, Typed, Is, Lawful}
use denote.Memory.{part_of, part_at, cell_at, lone, mem}
use denote.RattleType.{RattleType, owns}
use denote.RawPtr.{Ptr, block_ptr, ptr_val, lies_at, room_at, in_a_block}
use denote.Ref.{MutRef, mut_vals, mut_Tells}
use denote.Signature.{plain, mut_ref_to}
use denote.Steps.{nothing, opens, closes, heard, peeks}
use denote.Struct.Field.{RawPtr-field}
use denote.Struct.Laws.{RawPtr-laws}
use denote.Struct.Owning.{Owning, owning, row, shape}
use denote.Struct.OwningLaws.{Tells-lowered}
use denote.Struct.Record.{Record, Also, Done}
use denote.Struct.Struct.{Struct}
use denote.Triple.Clauses.{Clauses, Ended, closing}
use denote.Triple.Spec.{Meets}
use denote.Triple.Walked.{says, Silent, Stays, stay_ref, stay_dropped, walk_of, ends_at, Goes-ref, Goes-dropped, Goes-spent_ref}
use borrow.Table.OneValue.{part_in}
use Rattle.std.specs.Borrow.{Lends}
use Rattle.std.specs.Prelude.{IsSome, IsNone}
use Rattle.nbt_c.specs.Memory.{rests_at}
use Rattle.nbt_c.proofs.Calls.{none_of}

pub record Held : Type 2 where
  pub value : RattleType
  pub name : Sym
  pub D : Type 0
  pub at : D → Ptr
  pub held : D → Option value.Denot
  pub make : Ptr → Option value.Denot → D
  pub eta : (d : D) → make (at d) (held d) ≡ d
  pub beta : (p : Ptr) (m : Option value.Denot) → ◌≡◌ {A = Ptr × Option value.Denot} (at (make p m), held (make p m)) (p, m)
  pub codes : (v : Ptr × Unit {0}) → Coded (Also (Option value.Denot) (λ m. Done))

module _ (E : Held) where
  -- the value's type, of one machine value
  abbrev pub N : RattleType
  N = record E.value { mir = lone E.value.mir ∷ [] }

  abbrev V : Ty
  V = N.written.ty

  abbrev handle : Record
  handle = record {
    name = E.name;
    args = [];
    types = [];
    parts = RawPtr-field ∷ [];
    D = E.D;
    as_values = λ d. (E.at d, tt);
    Ghost = λ v. Also (Option N.Denot) (λ m. Done);
    ghosts = λ d. (E.held d, tt);
    make = λ v g. E.make v.0 g.0;
    eta = λ d. E.eta d;
    beta = λ v g. λ i. ((E.beta v.0 g.0 i).0, tt);
  }

  abbrev the_type : Owning
  the_type = owning handle E.codes (λ h. rests_at N (E.at h) (E.held h))

  abbrev pub R : RattleType
  R = row the_type

  abbrev H : Ty
  H = R.written.ty

  abbrev with : E.D → N.Denot → E.D
  with h x = E.make (E.at h) (Some x)

  abbrev word : Ptr → List Val
  word p = vstruct (vcons (ptr_val p) vnil) ∷ []

  -- what the handle's fields own, and beside it what stands in the memory
  abbrev Fields : Ptr → List Val → Fml
  Fields p us = (Struct (shape the_type)).own_val (p, tt) us

  abbrev Whole : List Val → Ptr × Option N.Denot → Fml
  Whole us p = fsep (Fields p.0 us) (rests_at N p.0 p.1)

  word_is : (h : E.D) (us : List Val) → Is R h us → us ≡ word (E.at h)
  word_is h us is = Tells-lowered the_type (RawPtr-laws, tt) h us is

pub some_of : {X : Type 0} (m : Option X) → IsSome m → (x : X) × (m ≡ Some x)
some_of None is = absurd (true≢false (sym is))
some_of (Some x) is = (x, refl)

one_of : {X : Type 1} (τ : Ty) (vs : List Val) → Typed (τ ∷ []) vs → ((v : Val) → vs ≡ v ∷ [] → X) → X
one_of τ [] t k = absurd t
one_of τ (v ∷ []) t k = k v refl
one_of τ (v ∷ w ∷ vs) t k = absurd t.1

-- ---- `get`
module _ (E : Held) where
  abbrev pub get_ended : Ended
  get_ended = record { signature = record { lifetimes = 1; outlives = []; params = RefMutOf (0 ∷ []) tt (plain (λ κs. R E)) (λ κs. tt) ∷ []; result = RefMutOf (0 ∷ []) tt (plain (λ κs. N E)) (λ κs. tt) }; kept = (no, tt) }

  abbrev pub get_fn : Fn
  get_fn = record {
    lifetimes = 1;
    outlives = [];
    ty_params = [];
    givens = 0;
    params = 1;
    locals = local (ty_ref (named 0) mut (V E)) value_local ∷ local (ty_ref (named 0) mut (H E)) value_local ∷ local (ty_ref erased mut (V E)) value_local ∷ local ty_ptr value_local ∷ local ty_ptr value_local ∷ [];
    body = seq (block (seq (assign (place 3 []) (rv_opd (copy (place 1 (deref (lone (R E).mir) ∷ field 0 ∷ []))))) (seq (assign (place 4 []) (rv_opd (copy (place 3 [])))) (assign (place 2 []) (addr_of (place 4 (deref (lone (N E).mir) ∷ [])))))))
        (seq (assign (place 0 []) (rv_opd (copy (place 2 [])))) return);
  }

  abbrev get_stayed : Stays get_ended.signature.params get_ended.kept
  get_stayed = (stay_dropped (mut_ref_to (0 ∷ []) tt (plain (λ _. R E))) no, tt)

  abbrev pub get_clauses : {M : Type 1} {𝓤 : Ura M} (𝓛 : Logic 𝓤) → Clauses 𝓤 get_ended
  get_clauses {𝓤 = 𝓤} 𝓛 κs a = record {
    ghost = Unit {0};
    requires = λ g. fact 𝓤 (IsSome (E.held a.0.now));
    ensures = λ g r w. sep 𝓤 (sem 𝓛 (Lends (R E) (N E) a.0 r (with E a.0.now))) (fact 𝓤 (E.held a.0.now ≡ Some r.now));
  }

module _ (E : Held) {M : Type 1} {𝓤 : Ura M} (𝓛 : Logic 𝓤) (h : E.D) (us : List Val) (rb ro b o : ℕ) where
  -- all of the handle but what stands in the memory
  abbrev Rest : Fml
  Rest = fsep (Fields E (E.at h) us) (cell_at full_share (R E).mir us rb ro)

  back : E.at h ≡ block_ptr b o → (w : (N E).Denot) → ent 𝓤 (sep 𝓤 (sem 𝓛 ((mem (N E)).own_at w b o)) (sem 𝓛 Rest)) (sem 𝓛 ((mem (R E)).own_at (with E h w) rb ro))
  unfolding part_of
  back e w =
      qed 𝓛 (‵ (rests_at (N E) (block_ptr b o) (Some w)) ∷ ‵ Rest ∷ []) ∵
      rewrite ! 0 (λ (p : Ptr). ‵ (rests_at (N E) p (Some w))) (sym e) refl $ move ! (1 ∷ []) $ fsplit ! $ move ! (0 ∷ 2 ∷ []) $ fjoin ! $
      rewrite ! 0 (λ (p : Ptr × Option (N E).Denot). ‵ (Whole E us p)) (sym (E.beta (E.at h) (Some w))) refl $ move ! (1 ∷ 0 ∷ []) $ fjoin ! $
      fpack ! (List Val) (λ vs. fsep (cell_at full_share (R E).mir vs rb ro) ((R E).own_val (with E h w) vs)) us $ done !

pub get_meets : (E : Held) {M : Type 1} (𝓤 : Ura M) (𝓛 : Logic 𝓤) (𝓜 : Model 𝓤 𝓛.H) (𝓡 : Running 𝓤 𝓛.H 𝓜) (k : Callee)
    → Closed 𝓤 𝓛.H (tables 𝓤 𝓛.H 𝓜 𝓡 𝓡.env).C (tables 𝓤 𝓛.H 𝓜 𝓡 𝓡.env).Λ k (get_fn E)
    → Meets 𝓛 (get_ended E).signature ((tables 𝓤 𝓛.H 𝓜 𝓡 𝓡.env).C k) (closing 𝓛 (get_ended E) (get_clauses E 𝓛))
get_meets E 𝓤 𝓛 𝓜 𝓡 key closed =
    let N' = N E in let R' = R E in let T = get_ended E in let c = get_clauses E 𝓛 in let W = walk_of 𝓛 T (get_stayed E) c in let 𝓣 = tables 𝓤 𝓛.H 𝓜 𝓡 𝓡.env in
    proved 𝓛 T (get_stayed E) c 𝓜 𝓡 (Goes-spent_ref 𝓛 1 (0 ∷ []) tt (plain (λ _. R')), tt)
    key (get_fn E) closed
    (λ κs. (mut_vals, tt)) (λ κs. (mut_Tells (named 0) κs.0 R', tt)) (λ κs qs bounds a _ are.
    let rb = a.0.ref_ptr.0 in let ro = a.0.ref_ptr.1 in let h = a.0.now in let γ = a.0.ghost_name in let κ = κs.0 in let q = qs.0 in let vs = mut_vals a.0 in
    let y : W.Ghost = ((κs, qs, bounds, a, (vs, tt)), tt) in
    qed 𝓛 (((‵ (flft κ q) ⊛ ‵ ftrue) ⊛ ‵ ((MutRef (named 0) κ R').own_val a.0 vs) ⊛ ‵ ftrue) ∷ raw (fact 𝓤 (IsSome (E.held h))) ∷ []) ∵
    move ! (1 ∷ []) $ heard ! (IsSome (E.held h)) (λ is_some. let found = some_of (E.held h) is_some in let x = found.0 in
    split ! $ split ! $ move ! (2 ∷ []) $ split ! $ keep ! (0 ∷ 2 ∷ []) $
    enter ! _ _ _ _ _ $ alloc_all ! (λ l. pass_all ! refl ((tt, tt), tt) $
    fsplit3 ! $ move ! (1 ∷ 2 ∷ 3 ∷ []) $ opens ! tt R' rb ro (λ us.
    move ! (1 ∷ []) $ peeks ! R' _ (shows 𝓛 R') h us (λ is. fsplit ! $ move ! (1 ∷ []) $
    rewrite ! 0 (λ (m : Option N'.Denot). ‵ (rests_at N' (E.at h) m)) found.1 refl $
    in_a_block ! (E.at h) (λ p. lies_at N' full_share p x) (id⊢ 𝓤 _) (λ b o e.
    let word_now = word_is E h us is ∙ ap (word E) e in
    let Cell = λ (ws : List Val). ‵ (cell_at full_share R'.mir ws rb ro) in
    let way = back E 𝓛 h us rb ro b o e in let Kept = sem 𝓛 (Rest E 𝓛 h us rb ro b o) in let code_now = R'.coded.code h in
    rewrite ! 2 Cell word_now refl $
    -- [the value; what the fields own; the handle's cell; the open borrow, in three entries]
    first ! $ blocks ! $
    sets ! (of_opd ! (load ! (through ! refl (fld ! refl (stop !))) (look_in ! 2 (sub ! 0 refl (whole !))))) refl (tt, tt) $
    sets ! (of_opd ! (get ! refl)) refl (tt, tt) $
    sets_last ! (addr ! (through ! refl (stop !))) refl (tt, tt) $
    exec ! 𝓣.C 𝓣.Λ (env (get_fn E).locals l) (after 1 (get_fn E).body) (at_ret _ (W.post y)) $
    sets ! (of_opd ! (get ! refl)) refl (tt, tt) $
    rewrite ! 2 Cell (sym word_now) refl $ move ! (1 ∷ 2 ∷ []) $ fjoin ! $ move ! (2 ∷ 3 ∷ 4 ∷ 1 ∷ 0 ∷ []) $ group ! 5 $
    use1 𝓛 (later (some (λ (δ : GName). raw (Part 𝓛 R' N' (with E h) (named 0) κ q rb ro b o γ Kept way x δ))))
    (lends_Part 𝓛 R' N' (with E h) (named 0) κ q rb ro b o γ Kept way code_now code_now x) $ await ! tt $ pick ! (λ δ.
    returns ! (look_at ! 0 refl) $ free_all ! refl $ keep ! (0 ∷ []) $
    use1 𝓛 (‵ ((MutRef (named 0) κ N').own_val (record { ref_ptr = (b, o); ghost_name = δ; now = x }) (vptr b o ∷ [])) ⊛ ‵ (flft κ q) ⊛ ‵ (follows R' N' γ δ (with E h))) (id⊢ 𝓤 _) $
    split ! $ move ! (1 ∷ []) $ split ! $ move ! (2 ∷ 0 ∷ 1 ∷ []) $
    suffices ! _ (ends_at 𝓛 T (get_stayed E) c y (vptr b o) (record { ref_ptr = (b, o); ghost_name = δ; now = x }) (tt, tt) (tt, tt)) $
    nothing ! $ nothing ! $ fjoin ! $ join ! $ nothing ! $ move ! (2 ∷ 0 ∷ []) $ join ! $ join ! $ frame ! $ says ! found.1 $ done !)))))))

-- ---- `put`: a value above some size is written as it stands, and a smaller one through a local of its own
module _ (E : Held) where
  abbrev pub put_ended : Ended
  put_ended = record { signature = record { lifetimes = 1; outlives = []; params = RefMutOf (0 ∷ []) tt (plain (λ κs. R E)) (λ κs. tt) ∷ plain (λ κs. N E) ∷ []; result = plain (λ κs. unit) }; kept = (yes, (yes, tt)) }

  abbrev τ : Ty
  τ = lone (N E).mir

  abbrev put_of : List Local → Body → Fn
  put_of more write = record {
    lifetimes = 1;
    outlives = [];
    ty_params = [];
    givens = 0;
    params = 2;
    locals = local ty_unit value_local ∷ local (ty_ref (named 0) mut (H E)) value_local ∷ local τ value_local ∷ local ty_ptr value_local ∷ local ty_ptr value_local ∷ more;
    body = seq (block (seq (assign (place 3 []) (rv_opd (copy (place 1 (deref (lone (R E).mir) ∷ field 0 ∷ []))))) (seq (assign (place 4 []) (rv_opd (copy (place 3 [])))) write)))
        (seq (assign (place 0 []) (rv_opd opd_unit)) return);
  }

  abbrev pub put_fn : Fn
  put_fn = put_of [] (assign (place 4 (deref τ ∷ [])) (rv_opd (copy (place 2 []))))

  abbrev pub put_small_fn : Fn
  put_small_fn = put_of (local τ value_local ∷ []) (seq (assign (place 5 []) (rv_opd (copy (place 2 [])))) (assign (place 4 (deref τ ∷ [])) (rv_opd (copy (place 5 [])))))

  abbrev put_stayed : Stays put_ended.signature.params put_ended.kept
  put_stayed = (stay_ref (0 ∷ []) tt (plain (λ _. R E)), (stay_dropped (plain (λ _. N E)) yes, tt))

  abbrev pub put_clauses : {M : Type 1} {𝓤 : Ura M} (𝓛 : Logic 𝓤) → Clauses 𝓤 put_ended
  put_clauses {𝓤 = 𝓤} 𝓛 κs a = record { ghost = Unit {0}; requires = λ g. fact 𝓤 (IsNone (E.held a.0.now)); ensures = λ g r w. fact 𝓤 (E.held w.0.now ≡ Some a.1.0) }

pub put_meets : (E : Held) {M : Type 1} (𝓤 : Ura M) (𝓛 : Logic 𝓤) (𝓜 : Model 𝓤 𝓛.H) (𝓡 : Running 𝓤 𝓛.H 𝓜) → Lawful 𝓛 (N E) → Silent 𝓛 1 (plain (λ _. N E)) yes → (k : Callee)
    → Closed 𝓤 𝓛.H (tables 𝓤 𝓛.H 𝓜 𝓡 𝓡.env).C (tables 𝓤 𝓛.H 𝓜 𝓡 𝓡.env).Λ k (put_fn E)
    → Meets 𝓛 (put_ended E).signature ((tables 𝓤 𝓛.H 𝓜 𝓡 𝓡.env).C k) (closing 𝓛 (put_ended E) (put_clauses E 𝓛))
put_meets E 𝓤 𝓛 𝓜 𝓡 lawful silent key closed =
    let N' = N E in let R' = R E in let T = put_ended E in let c = put_clauses E 𝓛 in let W = walk_of 𝓛 T (put_stayed E) c in let 𝓣 = tables 𝓤 𝓛.H 𝓜 𝓡 𝓡.env in
    proved_at 𝓛 T (put_stayed E) c 𝓜 𝓡 (Goes-ref 𝓛 1 0 tt (plain (λ _. R')), (Goes-dropped 𝓛 1 (plain (λ _. N')) yes silent, tt))
    key (put_fn E) closed (λ y are.
    let a = y.0.3 in let κ = y.0.0.0 in let q = y.0.1.0 in let self = a.0 in let x = a.1.0 in let rb = self.ref_ptr.0 in let ro = self.ref_ptr.1 in let h = self.now in
    let ref_is : y.0.4.0 ≡ vptr rb ro ∷ [] = are.0.0 in let typed = lawful.typed x y.0.4.1.0 are.1.0 in
    one_of (τ E) y.0.4.1.0 typed (λ v x_is.
    let ok = (subst (Typed N'.mir) x_is typed).0 in
    qed 𝓛 (((‵ (flft κ q) ⊛ ‵ ftrue) ⊛ ‵ (owns (MutRef (named 0) κ R' ∷ N' ∷ []) a y.0.4)) ∷ raw (fact 𝓤 (IsNone (E.held h))) ∷ []) ∵
    move ! (1 ∷ []) $ heard ! (IsNone (E.held h)) (λ is_none.
    regoal ! (λ (us : List Val). prop (WpFn 𝓤 𝓛.H 𝓣.C 𝓣.Λ (put_fn E) us (W.post y))) (λ i. ref_is i ++ (x_is i ++ [])) refl $
    split ! $ split ! $ move ! (2 ∷ []) $ fsplit ! $ move ! (1 ∷ []) $ fsplit ! $ move ! (2 ∷ 0 ∷ 3 ∷ []) $ keep ! (0 ∷ 1 ∷ 2 ∷ []) $
    rewrite ! 1 (λ (us : List Val). ‵ (N'.own_val x us)) x_is refl $
    enter ! _ _ _ _ _ $ alloc_all ! (λ l. pass_all ! refl ((tt, tt), (ok, tt)) $
    fsplit3 ! $ move ! (1 ∷ 2 ∷ 4 ∷ []) $ opens ! tt R' rb ro (λ us.
    move ! (1 ∷ []) $ peeks ! R' _ (shows 𝓛 R') h us (λ is. fsplit ! $ move ! (1 ∷ []) $
    rewrite ! 0 (λ (m : Option N'.Denot). ‵ (rests_at N' (E.at h) m)) (none_of (E.held h) is_none) refl $
    in_a_block ! (E.at h) (λ p. room_at N' p) (id⊢ 𝓤 _) (λ b o e.
    let word_now = word_is E h us is ∙ ap (word E) e in
    let Cell = λ (ws : List Val). ‵ (cell_at full_share R'.mir ws rb ro) in
    rewrite ! 2 Cell word_now refl $
    -- [the buffer; what the fields own; the handle's cell; the open borrow, in three entries; self's first part; what the value owns]
    first ! $ blocks ! $
    sets ! (of_opd ! (load ! (through ! refl (fld ! refl (stop !))) (look_in ! 2 (sub ! 0 refl (whole !))))) refl (tt, tt) $
    sets ! (of_opd ! (get ! refl)) refl (tt, tt) $
    assigns_last ! (of_opd ! (get ! refl)) (through ! refl (stop !)) (init ! 0 refl ok) $
    exec ! 𝓣.C 𝓣.Λ (env (put_fn E).locals l) (after 1 (put_fn E).body) (at_ret _ (W.post y)) $
    sets ! (of_opd ! (unit_lit !)) refl (tt, tt) $
    move ! (0 ∷ 7 ∷ []) $ use2 𝓛 (‵ (part_at N' full_share x b o)) (part_in 𝓛 N' refl full_share x b o v) $
    rewrite ! 0 (λ (p : Ptr). ‵ (lies_at N' full_share p x)) (sym e) refl $ rewrite ! 2 Cell (sym word_now) refl $
    move ! (1 ∷ []) $ fjoin ! $ rewrite ! 0 (λ (p : Ptr × Option N'.Denot). ‵ (Whole E us p)) (sym (E.beta (E.at h) (Some x))) refl $ move ! (1 ∷ []) $ closes ! tt R' (with E h x) us rb ro $
    -- [two parts of self; the token; self's first part]
    returns ! (look_at ! 0 refl) $ free_all ! refl $ move ! (3 ∷ []) $
    suffices ! _ (ends_at 𝓛 T (put_stayed E) c y vunit tt (with E h x, (rest (N'.exit yes) x, tt)) (tt, (tt, tt))) $ says ! (λ i. (E.beta (E.at h) (Some x) i).1) $
    group ! 3 $ nothing ! $ nothing ! $ join ! $ move ! (1 ∷ 0 ∷ []) $ join ! $ nothing ! $ move ! (2 ∷ 0 ∷ []) $ join ! $ frame ! $ frame ! $ feq_i ! _ (vunit ∷ []) _ refl $ done !)))))))

pub put_small_meets : (E : Held) {M : Type 1} (𝓤 : Ura M) (𝓛 : Logic 𝓤) (𝓜 : Model 𝓤 𝓛.H) (𝓡 : Running 𝓤 𝓛.H 𝓜) → Lawful 𝓛 (N E) → Silent 𝓛 1 (plain (λ _. N E)) yes → (k : Callee)
    → Closed 𝓤 𝓛.H (tables 𝓤 𝓛.H 𝓜 𝓡 𝓡.env).C (tables 𝓤 𝓛.H 𝓜 𝓡 𝓡.env).Λ k (put_small_fn E)
    → Meets 𝓛 (put_ended E).signature ((tables 𝓤 𝓛.H 𝓜 𝓡 𝓡.env).C k) (closing 𝓛 (put_ended E) (put_clauses E 𝓛))
put_small_meets E 𝓤 𝓛 𝓜 𝓡 lawful silent key closed =
    let N' = N E in let R' = R E in let T = put_ended E in let c = put_clauses E 𝓛 in let W = walk_of 𝓛 T (put_stayed E) c in let 𝓣 = tables 𝓤 𝓛.H 𝓜 𝓡 𝓡.env in
    proved_at 𝓛 T (put_stayed E) c 𝓜 𝓡 (Goes-ref 𝓛 1 0 tt (plain (λ _. R')), (Goes-dropped 𝓛 1 (plain (λ _. N')) yes silent, tt))
    key (put_small_fn E) closed (λ y are.
    let a = y.0.3 in let κ = y.0.0.0 in let q = y.0.1.0 in let self = a.0 in let x = a.1.0 in let rb = self.ref_ptr.0 in let ro = self.ref_ptr.1 in let h = self.now in
    let ref_is : y.0.4.0 ≡ vptr rb ro ∷ [] = are.0.0 in let typed = lawful.typed x y.0.4.1.0 are.1.0 in
    one_of (τ E) y.0.4.1.0 typed (λ v x_is.
    let ok = (subst (Typed N'.mir) x_is typed).0 in
    qed 𝓛 (((‵ (flft κ q) ⊛ ‵ ftrue) ⊛ ‵ (owns (MutRef (named 0) κ R' ∷ N' ∷ []) a y.0.4)) ∷ raw (fact 𝓤 (IsNone (E.held h))) ∷ []) ∵
    move ! (1 ∷ []) $ heard ! (IsNone (E.held h)) (λ is_none.
    regoal ! (λ (us : List Val). prop (WpFn 𝓤 𝓛.H 𝓣.C 𝓣.Λ (put_small_fn E) us (W.post y))) (λ i. ref_is i ++ (x_is i ++ [])) refl $
    split ! $ split ! $ move ! (2 ∷ []) $ fsplit ! $ move ! (1 ∷ []) $ fsplit ! $ move ! (2 ∷ 0 ∷ 3 ∷ []) $ keep ! (0 ∷ 1 ∷ 2 ∷ []) $
    rewrite ! 1 (λ (us : List Val). ‵ (N'.own_val x us)) x_is refl $
    enter ! _ _ _ _ _ $ alloc_all ! (λ l. pass_all ! refl ((tt, tt), (ok, tt)) $
    fsplit3 ! $ move ! (1 ∷ 2 ∷ 4 ∷ []) $ opens ! tt R' rb ro (λ us.
    move ! (1 ∷ []) $ peeks ! R' _ (shows 𝓛 R') h us (λ is. fsplit ! $ move ! (1 ∷ []) $
    rewrite ! 0 (λ (m : Option N'.Denot). ‵ (rests_at N' (E.at h) m)) (none_of (E.held h) is_none) refl $
    in_a_block ! (E.at h) (λ p. room_at N' p) (id⊢ 𝓤 _) (λ b o e.
    let word_now = word_is E h us is ∙ ap (word E) e in
    let Cell = λ (ws : List Val). ‵ (cell_at full_share R'.mir ws rb ro) in
    rewrite ! 2 Cell word_now refl $
    -- [the buffer; what the fields own; the handle's cell; the open borrow, in three entries; self's first part; what the value owns]
    first ! $ blocks ! $
    sets ! (of_opd ! (load ! (through ! refl (fld ! refl (stop !))) (look_in ! 2 (sub ! 0 refl (whole !))))) refl (tt, tt) $
    sets ! (of_opd ! (get ! refl)) refl (tt, tt) $ sets ! (of_opd ! (get ! refl)) refl ok $
    assigns_last ! (of_opd ! (get ! refl)) (through ! refl (stop !)) (init ! 0 refl ok) $
    exec ! 𝓣.C 𝓣.Λ (env (put_small_fn E).locals l) (after 1 (put_small_fn E).body) (at_ret _ (W.post y)) $
    sets ! (of_opd ! (unit_lit !)) refl (tt, tt) $
    move ! (0 ∷ 7 ∷ []) $ use2 𝓛 (‵ (part_at N' full_share x b o)) (part_in 𝓛 N' refl full_share x b o v) $
    rewrite ! 0 (λ (p : Ptr). ‵ (lies_at N' full_share p x)) (sym e) refl $ rewrite ! 2 Cell (sym word_now) refl $
    move ! (1 ∷ []) $ fjoin ! $ rewrite ! 0 (λ (p : Ptr × Option N'.Denot). ‵ (Whole E us p)) (sym (E.beta (E.at h) (Some x))) refl $ move ! (1 ∷ []) $ closes ! tt R' (with E h x) us rb ro $
    -- [two parts of self; the token; self's first part]
    returns ! (look_at ! 0 refl) $ free_all ! refl $ move ! (3 ∷ []) $
    suffices ! _ (ends_at 𝓛 T (put_stayed E) c y vunit tt (with E h x, (rest (N'.exit yes) x, tt)) (tt, (tt, tt))) $ says ! (λ i. (E.beta (E.at h) (Some x) i).1) $
    group ! 3 $ nothing ! $ nothing ! $ join ! $ move ! (1 ∷ 0 ∷ []) $ join ! $ nothing ! $ move ! (2 ∷ 0 ∷ []) $ join ! $ frame ! $ frame ! $ feq_i ! _ (vunit ∷ []) _ refl $ done !)))))))
