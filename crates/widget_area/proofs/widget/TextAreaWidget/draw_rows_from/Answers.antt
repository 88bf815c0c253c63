use Rattle.std.proofs.Common.{◌≡◌, ◌+◌, ◌-◌, ◌∙◌, refl, arith}
use Rattle.rtui_drawing.specs.declared.cut.Cut.TheVariants.{Rows}
use Rattle.rtui_drawing.specs.Cuts.{cut_from}
use Rattle.rtui_drawing.proofs.DrawingLemmas.{continues-all, continues-next, continues-stop, continues-end, done-in}
use Rattle.rtui_inside.proofs.InsideLemmas.{row-inside}
use Rattle.widget_area.proofs.RowLemmas.{rows-none, rows-next, rows-end}
use Rattle.widget_area.proofs.widget.TextAreaWidget.draw_rows_from.Goals as goal

pub loop-k-init : goal.loop-k-init
loop-k-init c =
    let whole : c.args.inner.height - 0 ≡ c.args.inner.height = omega arith in
    record {
      number = omega arith;
      within = c.requires.within;
      start = c.requires.first;
      boundary = c.requires.boundary;
      area = refl;
      rest = rw whole continues-all;
    }

pub draw_row-requires-clause-row : goal.draw_row-requires-clause-row
draw_row-requires-clause-row c =
    rw c.loop-k.invariant.area (row-inside c.args.buf.now.area c.args.inner c.of-row.result c.loop-k.k c.requires.some
    c.requires.inside (omega arith) c.of-row.ensures)

pub draw_row-requires-clause-numbers : goal.draw_row-requires-clause-numbers
draw_row-requires-clause-numbers c = rw c.of-row.ensures (omega (arith, c.requires.numbers))

pub draw_row-requires-clause-start : goal.draw_row-requires-clause-start
draw_row-requires-clause-start c = c.loop-k.invariant.start

pub draw_row-requires-clause-boundary : goal.draw_row-requires-clause-boundary
draw_row-requires-clause-boundary c = c.loop-k.invariant.boundary

pub returns-in_err-draw_row-clause-done : goal.returns-in_err-draw_row-clause-done
returns-in_err-draw_row-clause-done c =
    let i = c.loop-k.invariant in
    let next = rows-next c.args.self.now c.args.plan.now c.args.inner.width c.args.inner.height c.loop-k.k c.loop-k.number
    (omega arith) i.number i.within in
    continues-stop c.from_residual.result c.from_residual.ensures.0 (rw next at i.rest)
    (done-in (Rows c.loop-k.k 1) (cut_from (Rows c.loop-k.k 1) c.args.inner) _
    (rw c.of-row.ensures at c.in_err-draw_row.ensures.done) refl)

pub returns-in_err-draw_row-clause-area : goal.returns-in_err-draw_row-clause-area
returns-in_err-draw_row-clause-area c = c.in_err-draw_row.ensures.area ∙ c.loop-k.invariant.area

pub returns-in_default-clause-done : goal.returns-in_default-clause-done
returns-in_default-clause-done c =
    let i = c.loop-k.invariant in
    let next = rows-next c.args.self.now c.args.plan.now c.args.inner.width c.args.inner.height c.loop-k.k c.loop-k.number
    (omega arith) i.number i.within in
    let drawn = continues-next (rw next at i.rest) (done-in (Rows c.loop-k.k 1) (cut_from (Rows c.loop-k.k 1) c.args.inner) _
    (rw c.of-row.ensures at c.in_ok-draw_row.ensures.done) refl) in
    let last = rw c.in_default.is at c.start_after.ensures.none in
    let none = rows-none c.args.self.now c.args.plan.now c.args.inner.width (c.loop-k.k + 1)
    (c.args.inner.height - (c.loop-k.k + 1)) (omega (arith, i.number, last)) in
    continues-end (rw none at drawn)

pub returns-in_default-clause-area : goal.returns-in_default-clause-area
returns-in_default-clause-area c = c.in_ok-draw_row.ensures.area ∙ c.loop-k.invariant.area

pub loop-k-preserved : goal.loop-k-preserved
loop-k-preserved c =
    let i = c.loop-k.invariant in
    let next = rows-next c.args.self.now c.args.plan.now c.args.inner.width c.args.inner.height c.loop-k.k c.loop-k.number
    (omega arith) i.number i.within in
    record {
      number = omega (arith, i.number);
      within = omega (arith, c.start_after.ensures.within (rw c.in-Some.is refl));
      start = rw c.in-Some.is at c.start_after.ensures.some;
      boundary = rw c.in-Some.is at c.start_after.ensures.boundary;
      area = c.in_ok-draw_row.ensures.area ∙ i.area;
      rest = continues-next (rw next at i.rest) (done-in (Rows c.loop-k.k 1) (cut_from (Rows c.loop-k.k 1) c.args.inner) _
          (rw c.of-row.ensures at c.in_ok-draw_row.ensures.done) refl);
    }

pub returns-clause-done : goal.returns-clause-done
returns-clause-done c =
    let none = rows-end c.args.self.now c.args.plan.now c.args.inner.width c.args.inner.height c.loop-k.k (omega arith) in
    continues-end (rw none at c.loop-k.invariant.rest)
