-- `take` meets its contract: a walk of its MIR by hand. The value is read, and leaves room.
use Rattle.std.proofs.Common.{List, [], ◌∷◌, refl, sym, ap, ◌∙◌, None, Option}
use Rattle.std.proofs.raw_atomic.Walks.{proved}
use Rattle.std.proofs.VecSteps.Shapes.{after}
use base.Fraction.{full_share}
use base.Logic.{id⊢}
use base.Fml.{ftrue, fat, flft, froom}
use mir.Syntax.{named}
use mir.Val.{Val}
use contract.Monad.{fact}
use contract.Running.{tables}
use types.Kit.{‵, raw, ◌⊛◌, some, at_ret, ◌$◌, ◌∵◌, !, qed, done, move, keep, use1, split, join, fsplit, fsplit3, fjoin, pick, rewrite, suffices, frame, group}
use types.Part.{whole, sub, look_in}
use types.Run.{enter, of_opd, load, look, stop, fld, first, blocks, exec, returns}
use types.ByLocal.{alloc_all, pass_all, free_all, look_at, get, through, sets, sets_last, env}
use denote.Laws.{shows}
use denote.Memory.{cell_at, lone}
use denote.RawPtr.{Ptr, lies_at, room_at, in_a_block}
use denote.Ref.{MutRef, mut_vals, mut_Tells}
use denote.Signature.{plain}
use denote.Steps.{nothing, opens, closes, heard, peeks}
use denote.Triple.Walked.{says, Stays, stay_ref, walk_of, ends_at, Goes-ref}
use borrow.Table.OneValue.{part_out}
use Rattle.std.specs.Prelude.{IsSome}
use Rattle.nbt_c.specs.Memory.{rests_at, server_row as N}
use Rattle.nbt_server.proofs.server.Server.TheLaws.{the_row_laws as server_laws}
use Rattle.nbt_c.specs.contracts.held.CServer.{the_row as R}
use Rattle.nbt_c.specs.contracts.held.CServer.take as f
use Rattle.nbt_c.proofs.InMemory.{some_of}
use Rattle.nbt_c.proofs.held.CServer.take.Statement.{statement}
use Rattle.nbt_c.proofs.held.CServer.take.Code as code
use Rattle.nbt_c.proofs.held.CServer.TheLaws.{lowers}

abbrev stayed : Stays f.ended.signature.params f.ended.kept
stayed = (stay_ref (0 ∷ []) tt (plain (λ _. R)), tt)

pub take_spec : {M : Type 1} → statement M
take_spec 𝓤 𝓛 𝓜 𝓡 wired =
    let c = f.clauses 𝓛 𝓜.mem 𝓡.returns in let W = walk_of 𝓛 f.ended stayed c in let 𝓣 = tables 𝓤 𝓛.H 𝓜 𝓡 𝓡.env in
    proved 𝓛 f.ended stayed c 𝓜 𝓡 (Goes-ref 𝓛 1 0 tt (plain (λ _. R)), tt)
    f.Key.name code.function (code.unfolded 𝓤 𝓛.H 𝓜 𝓡 wired)
    (λ κs. (mut_vals, tt)) (λ κs. (mut_Tells (named 0) κs.0 R, tt)) (λ κs qs bounds a _ are.
    let rb = a.0.ref_ptr.0 in let ro = a.0.ref_ptr.1 in let h = a.0.now in let κ = κs.0 in let q = qs.0 in let vs = mut_vals a.0 in
    let y : W.Ghost = ((κs, qs, bounds, a, (vs, tt)), tt) in
    qed 𝓛 (((‵ (flft κ q) ⊛ ‵ ftrue) ⊛ ‵ ((MutRef (named 0) κ R).own_val a.0 vs) ⊛ ‵ ftrue) ∷ raw (fact 𝓤 (IsSome h.server)) ∷ []) ∵
    move ! (1 ∷ []) $ heard ! (IsSome h.server) (λ is_some. let found = some_of h.server is_some in let x = found.0 in
    split ! $ split ! $ move ! (2 ∷ []) $ split ! $ keep ! (0 ∷ 2 ∷ []) $
    enter ! _ _ _ _ _ $ alloc_all ! (λ l. pass_all ! refl ((tt, tt), tt) $
    fsplit3 ! $ move ! (1 ∷ 2 ∷ 3 ∷ []) $ opens ! tt R rb ro (λ us.
    move ! (1 ∷ []) $ peeks ! R _ (shows 𝓛 R) h us (λ is. fsplit ! $ move ! (1 ∷ []) $
    rewrite ! 0 (λ (m : Option N.Denot). ‵ (rests_at N h.at m)) found.1 refl $
    in_a_block ! h.at (λ p. lies_at N full_share p x) (id⊢ 𝓤 _) (λ b o e.
    let word = lowers.val_is h us is ∙ ap (λ (p : Ptr). lowers.lowered (record h { at = p }) ∷ []) e in
    let Cell = λ (ws : List Val). ‵ (cell_at full_share R.mir ws rb ro) in
    rewrite ! 2 Cell word refl $
    use1 𝓛 (some (λ (v : Val). ‵ (fat full_share (lone N.mir) b o v) ⊛ ‵ (N.own_val x (v ∷ [])))) (part_out 𝓛 N refl full_share x b o) $ pick ! (λ v. split ! $ move ! (1 ∷ []) $
    peeks ! N _ (shows 𝓛 N) x (v ∷ []) (λ told. let ok = ((server_laws.lawful 𝓛).typed x (v ∷ []) told).0 in
    -- [what the value owns; the value; what the fields own; the handle's cell; the open borrow, in three entries; self's first part]
    first ! $ blocks ! $
    sets ! (of_opd ! (load ! (through ! refl (fld ! refl (stop !))) (look_in ! 3 (sub ! 0 refl (whole !))))) refl (tt, tt) $
    sets ! (of_opd ! (get ! refl)) refl (tt, tt) $
    sets_last ! (of_opd ! (load ! (through ! refl (stop !)) (look ! 1 refl))) refl ok $
    exec ! 𝓣.C 𝓣.Λ (env code.Mir.locals l) (after 1 (code.function).body) (at_ret _ (W.post y)) $
    sets ! (of_opd ! (get ! refl)) refl ok $
    move ! (1 ∷ []) $ use1 𝓛 (‵ (froom (lone N.mir) b o)) (𝓛.laws.at_room (lone N.mir) b o v) $
    rewrite ! 0 (λ (p : Ptr). ‵ (room_at N p)) (sym e) refl $ rewrite ! 3 Cell (sym word) refl $
    -- [the room; what the value owns; what the fields own; the handle's cell; ..]
    move ! (2 ∷ 0 ∷ []) $ fjoin ! $ move ! (2 ∷ 0 ∷ 3 ∷ 4 ∷ 5 ∷ []) $ closes ! tt R (record h { server = None }) us rb ro $
    -- [two parts of self; the token; what the value owns; self's first part]
    returns ! (look_at ! 0 refl) $ free_all ! refl $ move ! (4 ∷ []) $
    suffices ! _ (ends_at 𝓛 f.ended stayed c y v x (record h { server = None }, tt) (tt, tt)) $
    says ! (found.1, refl) $ group ! 3 $ nothing ! $ move ! (1 ∷ 0 ∷ []) $ join ! $ nothing ! $ move ! (2 ∷ 0 ∷ []) $ join ! $ frame ! $ frame ! $ done !))))))))
