use Rattle.rtui_merge.proofs.ArmsLemmas.{symbol_of_crossing, copied_crossing}
use Rattle.rtui_merge.proofs.border_symbol.BorderSymbol.crossing.Goals as goal

pub returns : goal.returns
returns c = rw copied_crossing (rw (c.number.ensures, c.number-2.ensures, c.number-3.ensures, c.number-4.ensures)
    (symbol_of_crossing c.args.self c.requires))
