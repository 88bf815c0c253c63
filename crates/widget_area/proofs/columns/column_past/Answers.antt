use Rattle.std.proofs.Common.{true, ◌∙◌, ap, arith}
use Rattle.unicode_segmentation.specs.Grapheme.{graphemes}
use Rattle.widget_area.specs.Columns.{past, column_past}
use Rattle.widget_area.proofs.FrontLaws.{front-past}
use Rattle.widget_area.proofs.columns.column_past.Goals as goal

pub returns : goal.returns
returns c =
    c.read_past.ensures ∙ ap (λ m. column_past c.args.tab m (graphemes true c.range_from.result.now)) c.past.ensures
    ∙ ap (λ t. column_past c.args.tab (past c.args.from c.front_len-front.result) (graphemes true t)) c.range_from.ensures.value
    ∙ front-past c.args.tab c.args.from c.front_len-front.result c.args.text.now (omega (arith, c.ranges.from.fits))
    c.front_len-front.ensures.front c.front_len-front.ensures.graphemes
