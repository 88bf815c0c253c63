use Rattle.ratatui_ansi.proofs.CoverLemmas.{draw-cuts-none}
use Rattle.ratatui_ansi.proofs.laws.updates_cut_no_symbol.Goals as goal

pub returns : goal.returns
returns c = draw-cuts-none
