use Rattle.std.proofs.Common.{rules, ◌≡◌, ◌≤◌, ◌<◌, ◌-◌, ◌∷◌, ◌∙◌, arith}
use Rattle.ratatui_core.specs.Text.{grapheme_data, line_graphemes_left}
use Rattle.widget_paragraph.proofs.CutLemmas.{cut-turn}
use Rattle.widget_paragraph.proofs.cut.Cut.next.Goals as goal
use Rattle.widget_paragraph.proofs.cut.Cut.next.Goals.{else-self-gt0-via-then-self-gt0+else-columns-self-2}
use Rattle.widget_paragraph.proofs.cut.Cut.next.Goals.{else-self-gt0-via-else-self-gt0}

pub returns-in-Some-clause-left : goal.returns-in-Some-clause-left
returns-in-Some-clause-left c =
    let i = c.loop-grapheme.invariant in
    let is : line_graphemes_left c.loop-grapheme.self.rest ≡ grapheme_data c.in-Some.grapheme ∷ line_graphemes_left
    c.next.new.self = search rules in
    let fits : c.cell_width-columns.result ≤ c.loop-grapheme.self.width = omega arith in
    let room : c.cell_width-columns.result ≤ c.loop-grapheme.self.width - c.loop-grapheme.self.used = omega arith in
    let stops : 0 < c.loop-grapheme.self.offset → c.loop-grapheme.self.offset < c.cell_width-columns.result =
    elim c.else-self-gt0.branch [
      | else-self-gt0-via-then-self-gt0+else-columns-self-2 w ↦ λ some. w.if-columns-self-2.false
      | else-self-gt0-via-else-self-gt0 w ↦ λ some. (let none = w.if-self-gt0.false in absurd (omega arith))
    ] in
    i.left ∙ cut-turn c.loop-grapheme.self.width c.loop-grapheme.self.used c.loop-grapheme.self.offset
    c.cell_width-columns.result (grapheme_data c.in-Some.grapheme) _ _ is c.cell_width-columns.ensures fits room stops
