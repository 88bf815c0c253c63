use Rattle.widget_throbber.specs.contracts.throbber.ThrobberEq.TheImpl.Laws.{laws-law}
use Rattle.widget_throbber.proofs.throbber.Throbber.clone.Goals as goal

pub returns : goal.returns
returns c = rw c.in_ok-cloned_label.ensures (laws-law.refl c.args.self.now)
