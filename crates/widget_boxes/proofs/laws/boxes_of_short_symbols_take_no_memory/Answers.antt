use Rattle.widget_boxes.proofs.ShortLemmas.{short-box, no-title-short}
use Rattle.widget_boxes.proofs.laws.boxes_of_short_symbols_take_no_memory.Goals as goal

pub returns-clause-short : goal.returns-clause-short
returns-clause-short c = short-box

pub returns-clause-untitled : goal.returns-clause-untitled
returns-clause-untitled c = no-title-short
