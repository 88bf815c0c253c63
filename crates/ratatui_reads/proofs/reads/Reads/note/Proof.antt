-- An empty body: the borrow is opened, and closed at another ghost value.
use Rattle.std.proofs.Common.{[], ◌∷◌, ◌++◌, refl}
use Rattle.std.proofs.raw_atomic.Walks.{proved}
use mir.Syntax.{named}
use mir.Val.{vunit}
use base.Logic.{id⊢}
use base.Fml.{ftrue, flft}
use types.Kit.{‵, ◌⊛◌, ◌$◌, ◌∵◌, !, qed, move, keep, use1, split, join, fsplit3, feq_i, suffices, frame, group, done}
use types.Run.{unit_lit, of_opd, returns, enter}
use types.ByLocal.{alloc_all, pass_all, free_all, look_at, sets}
use denote.Builtin.{u8}
use denote.Exit.{yes}
use denote.RattleType.{owns}
use denote.Ref.{MutRef, mut_vals, mut_Tells}
use denote.Signature.{plain}
use denote.Slice.{ShrSlice, shr_slice_vals, shr_slice_Tells}
use denote.Steps.{opens, closes}
use denote.Triple.Walked.{says, Stays, stay_ref, stay_none_slice, walk_of, Goes-ref, Goes-none_slice, ends_at}
use Rattle.ratatui_reads.specs.contracts.reads.Reads.{the_row as R}
use Rattle.ratatui_reads.specs.contracts.reads.Reads.note as f
use Rattle.ratatui_reads.proofs.reads.Reads.note.Statement.{statement}
use Rattle.ratatui_reads.proofs.reads.Reads.note.Code as code

abbrev stayed : Stays f.ended.signature.params f.ended.kept
stayed = (stay_ref (0 ∷ []) tt (plain (λ _. R)), (stay_none_slice (1 ∷ []) tt (plain (λ _. u8)) yes, tt))

pub note_spec : {M : Type 1} → statement M
note_spec 𝓤 𝓛 𝓜 𝓡 wired =
    let c = f.clauses 𝓛 𝓜.mem 𝓡.returns in let W = walk_of 𝓛 f.ended stayed c in
    proved 𝓛 f.ended stayed c 𝓜 𝓡 (
      Goes-ref 𝓛 2 0 tt (plain (λ _. R)),
      (
        Goes-none_slice 𝓛 2 (1 ∷ []) tt (plain (λ _. u8)) yes,
        tt,
      ),
    )
    f.Key.name code.function (code.unfolded 𝓤 𝓛.H 𝓜 𝓡 wired)
    (λ κs. (mut_vals, (shr_slice_vals, tt))) (λ κs. (mut_Tells (named 0) κs.0 R, (shr_slice_Tells (named 1) κs.1.0 u8, tt)))
    (λ κs qs bounds a _ are.
    let b = a.0.ref_ptr.0 in let o = a.0.ref_ptr.1 in let h = a.0.now in let more = a.1.0 in let vs = mut_vals a.0 in
    let noted : R.Denot = record h { made = h.made ++ (more.now ∷ []) } in
    let y : W.Ghost = ((κs, qs, bounds, a, (vs, (shr_slice_vals more, tt))), tt) in
    qed 𝓛 (((‵ (flft κs.0 qs.0) ⊛ (‵ (flft κs.1.0 qs.1.0) ⊛ ‵ ftrue)) ⊛ (‵ ((MutRef (named 0) κs.0 R).own_val a.0 vs)
    ⊛ ‵ (owns (ShrSlice (named 1) κs.1.0 u8 ∷ []) (more, tt) (shr_slice_vals more, tt)))) ∷ ‵ ftrue ∷ []) ∵
    split ! $ split ! $ move ! (2 ∷ []) $ split ! $ keep ! (0 ∷ 2 ∷ 1 ∷ 3 ∷ []) $
    enter ! _ _ _ _ _ $ alloc_all ! (λ l. pass_all ! refl ((tt, tt), ((tt, (tt, (record { fits = are.1.0.0.1.0 }, tt))), tt)) $
    fsplit3 ! $ move ! (1 ∷ 2 ∷ 3 ∷ []) $ opens ! tt R b o (λ us.
    sets ! (of_opd ! (unit_lit !)) refl (tt, tt) $
    move ! (1 ∷ []) $ use1 𝓛 (‵ (R.own_val noted us)) (id⊢ 𝓤 _) $ move ! (1 ∷ 0 ∷ []) $ closes ! tt R noted us b o $
    -- [two parts of self; its token; self's first part; the slice; its token]
    returns ! (look_at ! 0 refl) $ free_all ! refl $ move ! (3 ∷ []) $
    suffices ! _ (ends_at 𝓛 f.ended stayed c y vunit tt (noted, (tt, tt)) (tt, (tt, tt))) $ says ! refl $
    group ! 3 $ move ! (1 ∷ 3 ∷ []) $ join ! $ frame ! $ join ! $
    feq_i ! _ (vunit ∷ []) _ refl $ move ! (1 ∷ 0 ∷ []) $ done !)))
