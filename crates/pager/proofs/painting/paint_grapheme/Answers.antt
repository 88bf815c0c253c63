use Rattle.std.proofs.Common.{◌≡◌, ◌+◌, ◌-◌, min, arith, subst}
use Rattle.ratatui_core.specs.Buffer.{IsReadyAt}
use Rattle.widget_boxes.proofs.BoxLemmas.{inside-within}
use Rattle.pager.proofs.PaintLemmas.{part-later}
use Rattle.pager.proofs.painting.paint_grapheme.Goals as goal

pub returns-then-column-view-clause-ready : goal.returns-then-column-view-clause-ready
returns-then-column-view-clause-ready c =
    let w = c.args.view.width in
    part-later c.args.part c.args.y c.args.buf.now c.requires.some c.requires.inside c.requires.top c.requires.bottom
    (c.args.x + min (c.args.column - c.args.view.left) w) (c.args.x + min (c.args.column + c.from.result - c.args.view.left) w)
    (omega arith) (omega (arith, c.requires.right))

pub returns-clause-ready : goal.returns-clause-ready
returns-clause-ready c = λ ready.
    let w = c.args.view.width in
    let place : c.args.x + min (c.args.column - c.args.view.left) w ≡ c.args.x + (c.args.column - c.args.view.left) =
    omega (arith, c.requires.limit, c.requires.column) in
    let painted = c.in_ok-paint_text.ensures.ready (subst (λ x. IsReadyAt x c.args.y c.args.buf.now) place ready) in
    part-later c.args.part c.args.y c.paint_text.new.buf c.requires.some
    (inside-within c.args.part c.args.buf.now c.paint_text.new.buf c.requires.inside c.paint_text.ensures.within)
    c.requires.top c.requires.bottom
    c.in_ok-paint_text.field-0 (c.args.x + min (c.args.column + c.from.result - c.args.view.left) w)
    (omega (arith, c.in_ok-paint_text.ensures.fits)) (omega (arith, c.requires.right)) painted
