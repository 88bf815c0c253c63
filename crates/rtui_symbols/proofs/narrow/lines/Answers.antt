use Rattle.std.proofs.Common.{refl}
use Rattle.unicode_width.proofs.Computing.{unicode_width}
use Rattle.rtui_cell.specs.Width.{text_width}
use Rattle.rtui_symbols.proofs.narrow.lines.Goals as goal

pub returns-clause-narrow : goal.returns-clause-narrow
unfolding text_width unicode_width
returns-clause-narrow c = refl
