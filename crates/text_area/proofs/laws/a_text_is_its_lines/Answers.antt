use Rattle.std.proofs.lemmas.{List.Splits.join_with_byte-slice_split, List.Splits.length-slice_split}
use Rattle.text_area.specs.Extents.{is_feed}
use Rattle.text_area.proofs.LawLemmas.{nth-line_is}
use Rattle.text_area.proofs.laws.a_text_is_its_lines.Goals as goal

pub returns-clause-whole : goal.returns-clause-whole
returns-clause-whole c = λ text. join_with_byte-slice_split 10 text

pub returns-clause-count : goal.returns-clause-count
returns-clause-count c = λ text. length-slice_split is_feed text

pub returns-clause-lines : goal.returns-clause-lines
returns-clause-lines c = nth-line_is
