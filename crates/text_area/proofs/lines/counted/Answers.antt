use Rattle.std.proofs.Common.{length, ap, ◌∙◌}
use Rattle.std.proofs.lemmas.Iterator.Consumers.{count_from_yields_List}
use Rattle.unicode_segmentation.proofs.SegmentsLemmas.{YieldsList-from_gives}
use Rattle.text_area.proofs.lines.counted.Goals as goal

pub returns-clause-value : goal.returns-clause-value
returns-clause-value c =
    count_from_yields_List _ _ c.count.ensures.ran (YieldsList-from_gives _ _ c.graphemes.result)
    ∙ ap length c.graphemes.ensures.left
