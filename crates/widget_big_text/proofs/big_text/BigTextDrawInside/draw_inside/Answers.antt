use Rattle.widget_big_text.proofs.ChangeLemmas.{change-done}
use Rattle.widget_big_text.proofs.big_text.BigTextDrawInside.draw_inside.Goals as goal

pub returns : goal.returns
returns c = change-done c.draw_lines.result c.draw_lines.ensures.succeeds c.draw_lines.ensures.ok
