use Rattle.widget_boxes.proofs.CloneLemmas.{block-same}
use Rattle.widget_meters.specs.contracts.line_gauge.LineGaugeEq.TheImpl.Laws.{laws-law}
use Rattle.widget_meters.proofs.line_gauge.LineGauge.clone.Goals as goal

pub returns : goal.returns
returns c =
    rw (block-same _ _ c.in_ok-cloned_block.ensures, c.in_ok-cloned_line.ensures) (laws-law.refl c.args.self.now)
