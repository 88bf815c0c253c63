use Rattle.std.proofs.Common.{rules, ◌∙◌, arith, ◌≡◌, false, true}
use Rattle.rtui_widgets.specs.Rendering.{ChangesWithin}
use Rattle.rtui_widgets.proofs.ChangeLemmas.{rows_to, Changes-row, Changes-rows, Changes-no_rows, Changes-within, rows-inside}
use Rattle.rtui_widgets.proofs.ChangeLemmas.{light-rows, inside-still}
use Rattle.rtui_widgets.proofs.WithinLemmas.{within-then}
use Rattle.rtui_widgets.proofs.change.change_part.Goals as goal

pub loop-y-init : goal.loop-y-init
loop-y-init g c = Changes-no_rows c.args.part c.top-y.result (g.C.CellChange.made c.args.change.now) c.args.buf.now
    c.top-y.ensures

pub change_row-requires-clause-inside : goal.change_row-requires-clause-inside
change_row-requires-clause-inside g c = inside-still c.args.part c.args.buf.now c.loop-y.buf c.requires c.loop-y.invariant.area

pub returns-in_err-change_row-clause-area : goal.returns-in_err-change_row-clause-area
returns-in_err-change_row-clause-area g c = c.in_err-change_row.ensures.area ∙ c.loop-y.invariant.area

pub returns-in_err-change_row-clause-err : goal.returns-in_err-change_row-clause-err
returns-in_err-change_row-clause-err g c =
    let by : ChangesWithin c.args.part c.args.buf.now c.change_row.new.buf =
    within-then c.args.part c.args.buf.now c.loop-y.buf c.change_row.new.buf
    (Changes-within (rows_to c.args.part c.loop-y.y) c.args.part (g.C.CellChange.made c.args.change.now) c.args.buf.now
    c.loop-y.buf
    (rows-inside c.args.part c.loop-y.y (omega arith)) c.loop-y.invariant) c.in_err-change_row.ensures.err in
    search rules

pub returns-in_err-change_row-clause-short : goal.returns-in_err-change_row-clause-short
returns-in_err-change_row-clause-short g c = λ light.
    let no : false ≡ true = c.in_err-change_row.ensures.short
    (light-rows (g.C.CellChange.is_light c.args.change.now) c.args.part c.loop-y.y
    (g.C.CellChange.made c.args.change.now) c.args.buf.now c.loop-y.buf light (record {
      top = omega arith;
      bottom = omega arith;
    }) c.requires c.loop-y.invariant) in
    absurd (cc)

pub loop-y-preserved : goal.loop-y-preserved
loop-y-preserved g c =
    Changes-row c.args.part c.loop-y.y (g.C.CellChange.made c.args.change.now) c.args.buf.now c.loop-y.buf c.change_row.new.buf
    (omega arith) (omega arith) c.loop-y.invariant c.in_ok-change_row.ensures.ok

pub returns-clause-area : goal.returns-clause-area
returns-clause-area g c = c.loop-y.invariant.area

pub returns-clause-ok : goal.returns-clause-ok
returns-clause-ok g c =
    Changes-rows c.args.part c.loop-y.y (g.C.CellChange.made c.args.change.now) c.args.buf.now c.loop-y.buf (omega arith)
    (omega arith) (λ _. omega arith) c.loop-y.invariant
