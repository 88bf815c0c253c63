use Rattle.std.proofs.Common.{◌∙◌, arith, ◌<◌, length}
use Rattle.std.proofs.lemmas.List.{length-map}
use Rattle.rtui_text.specs.Text.{raw_line}
use Rattle.ratatui_core.specs.Buffer.{raw_lines}
use Rattle.ratatui_test.proofs.RowLemmas.{wanted-row}
use Rattle.ratatui_test.proofs.lines.wanted_row.Goals as goal

pub returns-clause-row : goal.returns-clause-row
returns-clause-row c =
    let count = length-map c.args.lines.now (λ text. raw_line text.now) in
    let inside : c.args.y < length (raw_lines c.args.lines.now) = omega (arith, count, c.requires.row) in
    c.row.ensures.cells ∙ wanted-row (raw_lines c.args.lines.now) c.args.wanted.now c.args.y c.requires.lines inside
