use Rattle.std.proofs.Common.{refl, arith}
use Rattle.widget_area.proofs.WrapLemmas.{style-drawn}
use Rattle.widget_area.proofs.widget.TextAreaWidget.put_row_style.Goals as goal

pub returns-clause-drawn : goal.returns-clause-drawn
returns-clause-drawn c =
    style-drawn c.args.self.now c.args.plan.now c.args.inner c.of-part.result c.args.begin c.args.number
    c.saturating_sub-y.result c.min-rows.result _ c.args.buf.now c.put_style_if.new.buf (omega arith)
    (omega (arith, c.requires.end_row)) refl c.of-part.ensures c.put_style_if.ensures.drawn
