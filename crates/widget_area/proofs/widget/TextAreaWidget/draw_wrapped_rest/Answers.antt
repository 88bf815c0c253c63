use Rattle.std.proofs.Common.{◌≡◌, ◌∷◌, [], ◌∙◌, refl, rules, arith}
use Rattle.unicode_segmentation.specs.Iter.{graphemes_left}
use Rattle.rtui_drawing.proofs.DrawingLemmas.{continues-all, continues-next, continues-stop, continues-end}
use Rattle.widget_area.proofs.WrapLemmas.{wrapped-next, wrapped-end}
use Rattle.widget_area.proofs.widget.TextAreaWidget.draw_wrapped_rest.Goals as goal

pub walk-init : goal.walk-init
walk-init c = record { area = refl; rest = rw c.graphemes-left.ensures.left continues-all }

pub returns-then-saturating_sub-from-clause-done : goal.returns-then-saturating_sub-from-clause-done
returns-then-saturating_sub-from-clause-done c =
    let none = wrapped-end c.args.self.now c.args.plan.now c.args.inner c.args.begin c.walk.at.column c.walk.at.byte
    (graphemes_left c.walk.left) (omega (arith, c.wrapped_row-row.ensures)) in
    continues-end (rw none at c.walk.invariant.rest)

pub returns-in_err-draw_wrapped_grapheme-clause-done : goal.returns-in_err-draw_wrapped_grapheme-clause-done
returns-in_err-draw_wrapped_grapheme-clause-done c =
    let is : graphemes_left c.walk.left ≡ c.in-Some.grapheme.now ∷ graphemes_left c.next.new.self = search rules in
    let next = wrapped-next c.args.self.now c.args.plan.now c.args.inner c.args.begin c.walk.at.column c.walk.at.byte
    c.in-Some.grapheme.now (graphemes_left c.next.new.self) (graphemes_left c.walk.left) is
    (omega (arith, c.wrapped_row-row.ensures)) in
    continues-stop c.from_residual.result c.from_residual.ensures.0 (rw next at c.walk.invariant.rest)
    c.in_err-draw_wrapped_grapheme.ensures.done

pub walk-preserved : goal.walk-preserved
walk-preserved c =
    let is : graphemes_left c.walk.left ≡ c.in-Some.grapheme.now ∷ graphemes_left c.next.new.self = search rules in
    let next = wrapped-next c.args.self.now c.args.plan.now c.args.inner c.args.begin c.walk.at.column c.walk.at.byte
    c.in-Some.grapheme.now (graphemes_left c.next.new.self) (graphemes_left c.walk.left) is
    (omega (arith, c.wrapped_row-row.ensures)) in
    record {
      area = c.in_ok-draw_wrapped_grapheme.ensures.area ∙ c.walk.invariant.area;
      rest = rw (c.next_spot-at.ensures.column, c.next_spot-at.ensures.byte)
          (continues-next (rw next at c.walk.invariant.rest) c.in_ok-draw_wrapped_grapheme.ensures.done);
    }

pub returns-clause-done : goal.returns-clause-done
returns-clause-done c =
    let none : graphemes_left c.walk.left ≡ [] = search rules in
    continues-end (rw none at c.walk.invariant.rest)
