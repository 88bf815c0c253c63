use Rattle.std.proofs.Common.{◌≡◌, ℕ, List, [], get_or, length, map, rules, sym, ap, ◌∙◌, arith}
use Rattle.std.specs.{Borrow.Bor, Str.Lines.lines}
use Rattle.std.proofs.lemmas.{Bool.false≢true, Grind.common_steps, List.length-map, List.get_or-map}
use Rattle.rtui_text.specs.Text.{raw_line}
use Rattle.rtui_buffer.specs.Line.{raw_lines}
use Rattle.rtui_backend.specs.{ScreenLines.symbols_of_line, Inner.symbol_in, Inner.HasLine}
use Rattle.rtui_backend.proofs.HistoryLemmas.{symbols, row-shows, row-shown, same-more, same-at}
use Rattle.std.proofs.Math.ListN.{get_or-map as item-map}
use Rattle.rtui_backend.proofs.test.lines.rows_are.Goals as goal
use Rattle.rtui_backend.proofs.test.lines.rows_are.Goals.{then-row-width-via-then-row-width}
use Rattle.rtui_backend.proofs.test.lines.rows_are.Goals.{then-row-width-via-else-row-width+then-not-row_is}

pub loop-y-preserved : goal.loop-y-preserved
loop-y-preserved c =
    let none : Bor (List ℕ) = record { ref_ptr = (0, 0); now = [] } in
    let y = c.loop-y.y in
    let text : List ℕ = (get_or c.args.lines.now y none).now in
    let line = item-map (λ line. raw_line line.now) c.args.lines.now y none in
    let row = get_or-map (λ row. row.items) c.args.rows.now y c.index-rows-y.result [] c.loop-y-test.true ∙ ap (λ row. row.items)
    (sym c.index-rows-y.is) ∙ sym c.as_slice-row.ensures.value in
    let wide : length c.as_slice-row.result.now ≡ c.args.width = grind (arith, common_steps) in
    let told : HasLine (raw_line text) c.args.width (symbol_in c.as_slice-row.result.now) =
    rw wide at (c.row_is.ensures.0 c.if-not-row_is.false) in
    same-more symbols (symbols_of_line c.args.width) (map (λ row. row.items) c.args.rows.now) (raw_lines c.args.lines.now) []
    (raw_line []) y
    (rw length-map c.loop-y-test.true) (rw length-map (grind (arith, common_steps))) c.loop-y.invariant
    (rw (row, line) (row-shows c.args.width (lines text) c.as_slice-row.result.now wide told))

pub returns-then-row-width : goal.returns-then-row-width
returns-then-row-width c =
    let none : Bor (List ℕ) = record { ref_ptr = (0, 0); now = [] } in
    let y = c.loop-y.y in
    let text : List ℕ = (get_or c.args.lines.now y none).now in
    let line = item-map (λ line. raw_line line.now) c.args.lines.now y none in
    let row = get_or-map (λ row. row.items) c.args.rows.now y c.index-rows-y.result [] c.loop-y-test.true ∙ ap (λ row. row.items)
    (sym c.index-rows-y.is) ∙ sym c.as_slice-row.ensures.value in (
      λ no. search rules,
      λ same.
          let here = rw (row, line) at (same-at symbols (symbols_of_line c.args.width) (map (λ row. row.items) c.args.rows.now)
          (raw_lines c.args.lines.now) [] (raw_line []) y
          (rw length-map c.loop-y-test.true) (rw length-map (grind (arith, common_steps))) same) in
          let shown = row-shown c.args.width (lines text) c.as_slice-row.result.now here in
          elim c.then-row-width.branch [
            | then-row-width-via-then-row-width w ↦ grind (arith, common_steps)
            | then-row-width-via-else-row-width+then-not-row_is w ↦ absurd (false≢true (sym w.if-not-row_is.true
                ∙ w.row_is.ensures.1 (rw shown.0 shown.1)))
          ],
    )
