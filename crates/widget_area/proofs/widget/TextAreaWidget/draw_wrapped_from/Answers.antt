use Rattle.std.proofs.Common.{◌≡◌, ◌+◌, ◌-◌, ◌∙◌, refl, arith}
use Rattle.rtui_drawing.proofs.DrawingLemmas.{continues-all, continues-next, continues-stop, continues-end}
use Rattle.widget_area.specs.TextAreas.{row_after_line}
use Rattle.widget_area.proofs.WrapLemmas.{lines-next, lines-none, lines-below, lines-end}
use Rattle.widget_area.proofs.widget.TextAreaWidget.draw_wrapped_from.Goals as goal

pub loop-k-init : goal.loop-k-init
loop-k-init c =
    let whole : c.args.inner.height - 0 ≡ c.args.inner.height = omega arith in
    record {
      within = c.requires.within;
      start = c.requires.first;
      boundary = c.requires.boundary;
      area = refl;
      rest = rw whole continues-all;
    }

pub returns-then-saturating_sub-from-clause-done : goal.returns-then-saturating_sub-from-clause-done
returns-then-saturating_sub-from-clause-done c =
    let i = c.loop-k.invariant in
    let none = lines-below c.args.self.now c.args.plan.now c.args.inner c.loop-k.begin c.loop-k.number
    (c.args.inner.height - c.loop-k.k) i.within (omega arith) in
    continues-end (rw none at i.rest)

pub draw_wrapped_line-requires-clause-inside : goal.draw_wrapped_line-requires-clause-inside
draw_wrapped_line-requires-clause-inside c = rw c.loop-k.invariant.area c.requires.inside

pub draw_wrapped_line-requires-clause-start : goal.draw_wrapped_line-requires-clause-start
draw_wrapped_line-requires-clause-start c = c.loop-k.invariant.start

pub draw_wrapped_line-requires-clause-boundary : goal.draw_wrapped_line-requires-clause-boundary
draw_wrapped_line-requires-clause-boundary c = c.loop-k.invariant.boundary

pub returns-in_err-draw_wrapped_line-clause-done : goal.returns-in_err-draw_wrapped_line-clause-done
returns-in_err-draw_wrapped_line-clause-done c =
    let i = c.loop-k.invariant in
    let next = lines-next c.args.self.now c.args.plan.now c.args.inner c.loop-k.begin c.loop-k.number c.loop-k.k
    (omega arith) i.within (omega arith) in
    continues-stop c.from_residual.result c.from_residual.ensures.0 (rw next at i.rest)
    c.in_err-draw_wrapped_line.ensures.done

pub returns-in_err-draw_wrapped_line-clause-area : goal.returns-in_err-draw_wrapped_line-clause-area
returns-in_err-draw_wrapped_line-clause-area c = c.in_err-draw_wrapped_line.ensures.area ∙ c.loop-k.invariant.area

pub returns-in_default-clause-done : goal.returns-in_default-clause-done
returns-in_default-clause-done c =
    let i = c.loop-k.invariant in
    let next = lines-next c.args.self.now c.args.plan.now c.args.inner c.loop-k.begin c.loop-k.number c.loop-k.k
    (omega arith) i.within (omega arith) in
    let drawn = continues-next (rw next at i.rest) c.in_ok-draw_wrapped_line.ensures.done in
    let last = rw c.in_default.is at c.start_after.ensures.none in
    let none = lines-none c.args.self.now c.args.plan.now c.args.inner
    (row_after_line c.args.self.now c.args.plan.now c.loop-k.begin c.loop-k.number) (c.loop-k.number + 1)
    (c.args.inner.height - (c.loop-k.k + 1)) (omega (arith, last)) in
    continues-end (rw none at drawn)

pub returns-in_default-clause-area : goal.returns-in_default-clause-area
returns-in_default-clause-area c = c.in_ok-draw_wrapped_line.ensures.area ∙ c.loop-k.invariant.area

pub loop-k-preserved : goal.loop-k-preserved
loop-k-preserved c =
    let i = c.loop-k.invariant in
    let next = lines-next c.args.self.now c.args.plan.now c.args.inner c.loop-k.begin c.loop-k.number c.loop-k.k
    (omega arith) i.within (omega arith) in
    record {
      within = omega (arith, c.start_after.ensures.within (rw c.in-Some.is refl));
      start = rw c.in-Some.is at c.start_after.ensures.some;
      boundary = rw c.in-Some.is at c.start_after.ensures.boundary;
      area = c.in_ok-draw_wrapped_line.ensures.area ∙ i.area;
      rest = rw c.row_after_line-end_row.ensures
          (continues-next (rw next at i.rest) c.in_ok-draw_wrapped_line.ensures.done);
    }

pub returns-clause-done : goal.returns-clause-done
returns-clause-done c =
    let none = lines-end c.args.self.now c.args.plan.now c.args.inner c.loop-k.begin c.loop-k.number c.loop-k.k
    (omega arith) in
    continues-end (rw none at c.loop-k.invariant.rest)
