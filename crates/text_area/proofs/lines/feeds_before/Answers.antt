use Rattle.std.proofs.Common.{◌∙◌, ap}
use Rattle.text_area.specs.Lines.{feeds}
use Rattle.text_area.proofs.KeptLemmas.{feeds-forth}
use Rattle.text_area.proofs.lines.feeds_before.Goals as goal

pub returns-then-from-at : goal.returns-then-from-at
returns-then-from-at c =
    feeds-forth c.args.text.now c.args.from c.args.at c.args.row c.feeds.result c.if-from-at.true c.requires.row
    (c.feeds.ensures.value ∙ ap feeds c.range.ensures.value)
