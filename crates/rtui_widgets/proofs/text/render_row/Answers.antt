use Rattle.std.proofs.Common.{◌≡◌, ◌≤◌, List, [], length, map, rules, sym, ap, ◌∙◌}
use Rattle.std.proofs.lemmas.List.{get_or_past}
use Rattle.rtui_cell.specs.{declared.cell.Cell.Cell, Cell.styled}
use Rattle.rtui_text.specs.Text.{LineData, line_of}
use Rattle.rtui_widgets.specs.{Line.line_rendered, Rendering.alignment_or, Rendering.text_line}
use Rattle.rtui_widgets.proofs.LineLemmas.{line-none}
use Rattle.rtui_widgets.proofs.text.render_row.Goals as goal

pub returns-in-None-clause-ok : goal.returns-in-None-clause-ok
returns-in-None-clause-ok c =
    let past : length c.args.text.now.lines ≤ c.args.k = search rules in
    let none : text_line c.args.text.now c.args.k ≡ line_of [] = get_or_past _ _ _ past in
    let row : List Cell = map (styled c.args.text.now.style) c.args.row.now in
    let laid : c.lay_row.new.row ≡ row = search rules in
    laid ∙ sym (ap (λ (line : LineData). line_rendered (alignment_or line.alignment c.args.text.now.alignment) line row) none
    ∙ line-none _ row)
