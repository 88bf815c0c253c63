use Rattle.widget_scroll_view.proofs.OffsetLemmas.{down-up, up-down, right-left, left-right}
use Rattle.widget_scroll_view.proofs.laws.scrolling_back_leads_back.Goals as goal

pub returns-clause-down : goal.returns-clause-down
returns-clause-down c = down-up

pub returns-clause-up : goal.returns-clause-up
returns-clause-up c = up-down

pub returns-clause-right : goal.returns-clause-right
returns-clause-right c = right-left

pub returns-clause-left : goal.returns-clause-left
returns-clause-left c = left-right
