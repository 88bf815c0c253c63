use Rattle.widget_boxes.proofs.CloneLemmas.{block-same}
use Rattle.widget_meters.specs.contracts.gauge.GaugeEq.TheImpl.Laws.{laws-law}
use Rattle.widget_meters.proofs.gauge.Gauge.clone.Goals as goal

pub returns : goal.returns
returns c =
    rw (block-same _ _ c.in_ok-cloned_block.ensures, c.in_ok-cloned_span.ensures) (laws-law.refl c.args.self.now)
