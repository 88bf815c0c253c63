use Rattle.widget_bars.specs.contracts.group.BarGroupEq.TheImpl.Laws.{laws-law}
use Rattle.widget_bars.proofs.group.BarGroup.clone.Goals as goal

pub returns : goal.returns
returns c =
    rw (c.in_ok-cloned_line.ensures, c.in_ok-cloned_bars.ensures, c.as_slice.ensures.value)
    (laws-law.refl c.args.self.now)
