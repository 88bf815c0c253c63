use Rattle.widget_area.proofs.WrapLaws.{rows-whole}
use Rattle.widget_area.proofs.laws.the_rows_of_a_line_are_the_line.Goals as goal

pub returns : goal.returns
returns c = rows-whole
