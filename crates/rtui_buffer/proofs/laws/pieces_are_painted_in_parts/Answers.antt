use Rattle.rtui_buffer.proofs.PartsLemmas.{PaintsPieces-append}
use Rattle.rtui_buffer.proofs.laws.pieces_are_painted_in_parts.Goals as goal

pub returns : goal.returns
returns c = PaintsPieces-append
