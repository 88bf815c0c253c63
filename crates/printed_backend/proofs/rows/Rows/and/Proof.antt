-- `and` makes a value of one row more.
use Rattle.std.proofs.Common.{◌≡◌, [], ◌∷◌, ◌++◌, refl}
use Rattle.std.proofs.raw_atomic.Walks.{proved, leaves}
use mir.Syntax.{named}
use mir.Val.{Val, vptr, vstruct, vcons, vnil}
use base.Logic.{SProp, emp}
use base.Fml.{Fml}
use types.Kit.{‵, raw, ◌⊛◌, ◌$◌, ◌∵◌, !, qed, by, keep, use0, split, fjoin}
use types.Run.{no_more, and_then, returns, enter}
use types.Part.{agg}
use types.ByLocal.{alloc_all, pass_all, free_all, look_at, get, sets}
use contract.Monad.{fact, fact_i}
use contract.Running.{tables}
use denote.Exit.{yes}
use denote.RattleType.{owns}
use denote.Signature.{types_at, plain}
use denote.Builtin.{RefOf, SliceRefOf}
use denote.Ref.{shr_vals, shr_Tells}
use denote.Slice.{shr_slice_vals, shr_slice_Tells}
use denote.Shadow.{makes_shadow}
use denote.Steps.{nothing}
use denote.Triple.Entry.{alive}
use denote.Triple.Walked.{Stays, stay_dropped, walk_of, Goes-dropped}
use Rattle.rtui_cell.specs.contracts.cell.Cell.{the_row as cell}
use Rattle.printed_backend.specs.contracts.rows.Rows.{the_row as R}
use Rattle.printed_backend.specs.contracts.rows.Rows.and as f
use Rattle.printed_backend.proofs.rows.Rows.and.Statement.{statement}
use Rattle.printed_backend.proofs.rows.Rows.and.Code as code

abbrev rows_val : Val
rows_val = vstruct (vcons (vstruct vnil) vnil)

abbrev stayed : Stays f.ended.signature.params f.ended.kept
stayed = (
  stay_dropped (RefOf (0 ∷ []) tt (plain (λ _. R)) (λ _. tt)) yes,
  (stay_dropped (SliceRefOf (1 ∷ []) tt (plain (λ _. cell)) (λ _. tt)) yes, tt),
)

pub and_spec : {M : Type 1} → statement M
and_spec 𝓤 𝓛 𝓜 𝓡 wired =
    let 𝓣 = tables 𝓤 𝓛.H 𝓜 𝓡 𝓡.env in
    let c = f.clauses 𝓛 𝓜.mem 𝓡.returns in
    proved 𝓛 f.ended stayed c 𝓜 𝓡 (
      Goes-dropped 𝓛 2 (RefOf (0 ∷ []) tt (plain (λ _. R)) (λ _. tt)) yes (λ κs x f. refl),
      (
        Goes-dropped 𝓛 2 (SliceRefOf (1 ∷ []) tt (plain (λ _. cell)) (λ _. tt)) yes (λ κs x f. refl),
        tt,
      ),
    )
    f.Key.name code.function (code.unfolded 𝓤 𝓛.H 𝓜 𝓡 wired)
    (λ κs. (shr_vals, (shr_slice_vals, tt))) (λ κs. (shr_Tells (named 0) κs.0 R, (shr_slice_Tells (named 1) κs.1.0 cell, tt)))
    (λ κs qs bounds a gh are.
    let p : Val = vptr a.0.ref_ptr.0 a.0.ref_ptr.1 in
    let row = a.1.0 in
    let r : R.Denot = record { marker = record {}; cells = a.0.now.cells ++ (row.now ∷ []) } in
    let F : Fml = R.own_val r (rows_val ∷ []) in
    let y : (walk_of 𝓛 f.ended stayed c).Ghost = ((κs, qs, bounds, a, (p ∷ [], (shr_slice_vals row, tt))), gh) in
    let Post : Val → SProp 𝓤 = (walk_of 𝓛 f.ended stayed c).post y in
    qed 𝓛 ((raw (alive 𝓛 f.ended.signature κs qs) ⊛ ‵ (owns (types_at f.ended.signature.params κs) a y.0.4))
    ∷ raw ((c κs a).requires gh) ∷ []) ∵ split ! $ keep ! (0 ∷ []) $
    enter ! 𝓣.C 𝓣.Λ code.function _ Post $ alloc_all ! (λ l.
    pass_all ! refl ((tt, tt), ((tt, (tt, (record { fits = are.1.0.0.1.0 }, tt))), tt)) $
    sets ! (agg ! (no_more !)) refl (tt, tt) $ sets ! (agg ! (and_then ! (get ! refl) (no_more !))) refl (tt, (tt, tt)) $
    use0 𝓛 (raw (fact 𝓤 (r.cells ≡ r.cells))) (fact_i 𝓤 (r.cells ≡ r.cells) (emp 𝓤) refl) $
    use0 𝓛 (‵ F) (makes_shadow 𝓛 F ((λ vss. (tt, ((λ uss. (tt, tt)), tt))), tt)
    (((vstruct vnil ∷ [], tt), (refl, ((tt, (refl, tt)), tt))), tt)) $ nothing ! $ nothing ! $ fjoin ! $ nothing ! $ fjoin ! $
    returns ! (look_at ! 0 refl) $ free_all ! refl $ keep ! (3 ∷ 0 ∷ 1 ∷ 2 ∷ []) $ by ! (leaves 𝓛 f.ended stayed c y rows_val r (
      tt,
      (tt, tt),
    ) (tt, (tt, tt)))))
