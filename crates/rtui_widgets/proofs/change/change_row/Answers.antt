use Rattle.std.proofs.Common.{rules, arith, ◌≡◌, false, true}
use Rattle.rtui_buffer.specs.BufferData.{position_of}
use Rattle.rtui_widgets.specs.Rendering.{ChangesWithin}
use Rattle.rtui_widgets.specs.Inner.{row_part}
use Rattle.rtui_widgets.proofs.ChangeLemmas.{columns_to, Changes-column, Changes-columns, Changes-no_columns, Changes-within}
use Rattle.rtui_widgets.proofs.ChangeLemmas.{columns-inside, columns-off, light-still, row-place, row-place_of_row, row-in_own}
use Rattle.rtui_widgets.proofs.change.change_row.Goals as goal

pub loop-x-init : goal.loop-x-init
loop-x-init g c = Changes-no_columns c.args.part c.args.y c.left-x.result (g.C.CellChange.made c.args.change.now) c.args.buf.now
    c.left-x.ensures

pub change_one-requires : goal.change_one-requires
change_one-requires g c =
    rw c.loop-x.invariant.area (c.requires.inside (position_of (c.loop-x.x, c.args.y))
    (row-place c.args.part c.loop-x.x c.args.y c.requires.row (omega arith) (omega arith)))

pub returns-in_err-change_one-clause-area : goal.returns-in_err-change_one-clause-area
returns-in_err-change_one-clause-area g c = rw c.in_err-change_one.ensures.err c.loop-x.invariant.area

pub returns-in_err-change_one-clause-err : goal.returns-in_err-change_one-clause-err
returns-in_err-change_one-clause-err g c =
    let by : ChangesWithin c.args.part c.args.buf.now c.change_one.new.buf = rw c.in_err-change_one.ensures.err
    (Changes-within (columns_to c.args.part c.args.y c.loop-x.x) c.args.part
    (g.C.CellChange.made c.args.change.now) c.args.buf.now c.loop-x.buf
    (columns-inside c.args.part c.loop-x.x c.args.y c.requires.row (omega arith)) c.loop-x.invariant) in
    search rules

pub returns-in_err-change_one-clause-short : goal.returns-in_err-change_one-clause-short
returns-in_err-change_one-clause-short g c = λ light.
    let still = light-still (g.C.CellChange.is_light c.args.change.now) (row_part c.args.part c.args.y)
    (columns_to c.args.part c.args.y c.loop-x.x) (g.C.CellChange.made c.args.change.now) c.args.buf.now c.loop-x.buf
    (position_of (c.loop-x.x, c.args.y)) light
    (row-in_own c.args.part c.args.y c.args.buf.now.area c.requires.row c.requires.inside)
    (row-place_of_row c.args.part c.loop-x.x c.args.y c.requires.row (omega arith) (omega arith))
    (columns-off c.args.part c.loop-x.x c.args.y) c.loop-x.invariant in
    let no : false ≡ true = c.in_err-change_one.ensures.short still in
    absurd (cc)

pub loop-x-preserved : goal.loop-x-preserved
loop-x-preserved g c =
    Changes-column c.args.part c.loop-x.x c.args.y (g.C.CellChange.made c.args.change.now) c.args.buf.now c.loop-x.buf
    c.change_one.new.buf c.requires.inside (omega arith) (omega arith) c.requires.row
    c.loop-x.invariant c.in_ok-change_one.ensures.changes

pub returns-clause-area : goal.returns-clause-area
returns-clause-area g c = c.loop-x.invariant.area

pub returns-clause-ok : goal.returns-clause-ok
returns-clause-ok g c =
    Changes-columns c.args.part c.loop-x.x c.args.y (g.C.CellChange.made c.args.change.now) c.args.buf.now c.loop-x.buf
    (omega arith) c.requires.row (omega arith) (λ _. omega arith) c.loop-x.invariant
