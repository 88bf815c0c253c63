use Rattle.ratatui_input.proofs.PieceLemmas.{read-in-pieces}
use Rattle.ratatui_input.proofs.laws.what_is_read_is_pieces.Goals as goal

pub returns : goal.returns
returns c = read-in-pieces
