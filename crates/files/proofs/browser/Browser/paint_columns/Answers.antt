use Rattle.std.proofs.Common.{subst, sym, ◌∙◌}
use Rattle.ratatui_core.specs.Layout.{Rect, IsInside}
use Rattle.ratatui_core.proofs.WidgetLemmas.{within-then}
use Rattle.files.proofs.PaintLemmas.{columns-ok}
use Rattle.files.proofs.browser.Browser.paint_columns.Goals as goal

pub paint_ahead-requires-clause-inside : goal.paint_ahead-requires-clause-inside
paint_ahead-requires-clause-inside c = subst (λ (r : Rect). IsInside c.args.part r)
    (sym (c.paint_folder.ensures.within.same_area ∙ c.paint_above.ensures.within.same_area)) c.requires.inside

pub returns-in_err-paint_folder-clause-within : goal.returns-in_err-paint_folder-clause-within
returns-in_err-paint_folder-clause-within c = within-then c.args.part c.args.buf.now c.paint_above.new.buf c.paint_folder.new.buf
    c.paint_above.ensures.within c.paint_folder.ensures.within

pub returns-clause-within : goal.returns-clause-within
returns-clause-within c =
    let two = within-then c.args.part c.args.buf.now c.paint_above.new.buf c.paint_folder.new.buf
    c.paint_above.ensures.within c.paint_folder.ensures.within in
    within-then c.args.part c.args.buf.now c.paint_folder.new.buf c.paint_ahead.new.buf two c.paint_ahead.ensures.within

pub returns-clause-ok : goal.returns-clause-ok
returns-clause-ok c = columns-ok c.paint_ahead.result c.args.self.now c.args.part c.args.k c.args.buf.now c.paint_above.new.buf
    c.paint_folder.new.buf c.paint_ahead.new.buf c.in_ok-paint_above.ensures.ok c.in_ok-paint_folder.ensures.ok c.paint_ahead.ensures.ok

pub returns-clause-ready : goal.returns-clause-ready
returns-clause-ready c = λ from.
    c.paint_ahead.ensures.ready (c.in_ok-paint_folder.ensures.ready (c.in_ok-paint_above.ensures.ready from))
