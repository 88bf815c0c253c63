use Rattle.widget_scroll_view.proofs.SettledViewLemmas.{shows-fitting}
use Rattle.widget_scroll_view.proofs.laws.contents_that_fit_are_shown.Goals as goal

pub returns-clause-cells : goal.returns-clause-cells
returns-clause-cells c = λ v s t area old new is q off_down off_across wide high settled has.
    shows-fitting v s t area old new is q off_down off_across wide high settled has
