use Rattle.rtui_buffer.proofs.PaintedLemmas.{wide_graphemes}
use Rattle.rtui_buffer.proofs.laws.kept_graphemes_take_columns.Goals as goal

pub returns : goal.returns
returns c = wide_graphemes
