use Rattle.widget_scrollbar.proofs.SetLemmas.{sets-take-one, new-takes-one, one-graphemes}
use Rattle.widget_scrollbar.proofs.laws.sets_of_scroll_bars_take_one_column.Goals as goal

pub returns : goal.returns
returns c = record { sets = sets-take-one; bar = new-takes-one; graphemes = one-graphemes }
