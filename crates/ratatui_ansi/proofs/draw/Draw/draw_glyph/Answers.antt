use Rattle.ratatui_ansi.proofs.FrameLemmas.{cell-draws}
use Rattle.ratatui_ansi.proofs.draw.Draw.draw_glyph.Goals as goal

pub returns-clause-drawn : goal.returns-clause-drawn
returns-clause-drawn c = rw (c.count.ensures, c.min.ensures) (cell-draws c.args.place c.args.cell.now c.args.glyph c.in_ok-end.end
    c.args.self.now c.take_sgr.new.self c.put.new.self c.cover.new.self c.requires.draw c.requires.uncovered c.requires.glyph
    c.take_sgr.ensures.keeps c.in_ok-take_sgr.ensures.sets c.put.ensures.keeps c.in_ok-put.ensures.prints c.cover.ensures.keeps
    (rw c.columns.ensures at c.in_ok-end.ensures.covers))
