use Rattle.widget_scroll_view.proofs.ScrollViewLemmas.{leaves-rest}
use Rattle.widget_scroll_view.proofs.laws.scroll_views_show_their_content.Goals as goal

pub returns-clause-rest : goal.returns-clause-rest
returns-clause-rest c = λ v s t area old new is p own off off_right off_below.
    leaves-rest v s t area old new is p own off off_right off_below
