use Rattle.std.proofs.Common.{[], sym, arith}
use Rattle.std.proofs.lemmas.List.{get_or_default, get_or_past}
use Rattle.widget_big_text.specs.declared.font.TheConstants.{GLYPHS}
use Rattle.widget_big_text.specs.Glyphs.{no_pixels}
use Rattle.widget_big_text.proofs.font.rows_of.Goals as goal

pub returns-then-number-lt95 : goal.returns-then-number-lt95
returns-then-number-lt95 c = get_or_default GLYPHS c.args.number [] no_pixels (omega (arith, c.if-number-lt95.true))

pub returns-else-number-lt95 : goal.returns-else-number-lt95
returns-else-number-lt95 c = sym (get_or_past GLYPHS c.args.number no_pixels (omega (arith, c.if-number-lt95.false)))
