use Rattle.std.proofs.Common.{true, length, ap, ◌∙◌}
use Rattle.unicode_segmentation.specs.Grapheme.{graphemes}
use Rattle.text_area.proofs.FrontLemmas.{front-count}
use Rattle.text_area.proofs.lines.grapheme_count.Goals as goal

pub returns : goal.returns
returns c =
    front-count c.args.text.now c.plain_front-front.result c.counted.result
    c.plain_front-front.ensures.front.within c.plain_front-front.ensures.graphemes
    (c.counted.ensures.value ∙ ap (λ t. length (graphemes true t)) c.range_from.ensures.value)
