use Rattle.std.proofs.Common.{◌∙◌, refl, sym, ap}
use Rattle.widget_scroll_view.specs.ScrollViews.{styled_blank}
use Rattle.widget_scroll_view.proofs.WindowLemmas.{cut-blank}
use Rattle.widget_scroll_view.proofs.window.WindowCellChange.change.Goals as goal

pub returns-then-is_cut-clause-ok : goal.returns-then-is_cut-clause-ok
returns-then-is_cut-clause-ok c =
    c.make_blank.ensures ∙ ap styled_blank c.in-Some.ensures.value
    ∙ cut-blank c.args.self.now c.args.position c.source.result c.args.cell.now c.source.ensures (c.in-Some.ensures.inside.0 refl)
    (rw c.in-Some.ensures.value at (sym c.is_cut.ensures ∙ c.if-is_cut.true))
