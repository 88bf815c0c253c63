use Rattle.std.proofs.Common.{arith}
use Rattle.widget_list.proofs.WindowLemmas.{scrolled-stays}
use Rattle.widget_list.proofs.window.scrolled.Goals as goal

pub returns-clause-scrolled : goal.returns-clause-scrolled
returns-clause-scrolled c =
    rw c.min.ensures (scrolled-stays c.args.items.now c.args.height c.args.first c.args.last c.args.was
    c.first_fitting-nearest.result c.requires.order (omega arith) c.requires.fits c.first_fitting-nearest.ensures
    (omega arith))
