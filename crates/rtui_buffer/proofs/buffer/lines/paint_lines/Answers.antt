use Rattle.std.proofs.Common.{◌≡◌, ◌+◌, ◌-◌, arith, rules, ap, ◌∙◌, take, drop}
use Rattle.rtui_buffer.specs.{Painted.painted, Line.line_pieces}
use Rattle.rtui_buffer.proofs.{RefusedLemmas.front-all, RowLemmas.rows-turn}
use Rattle.rtui_buffer.proofs.buffer.lines.paint_lines.Goals as goal

pub loop-line-preserved : goal.loop-line-preserved
loop-line-preserved c =
    let i = c.loop-line.invariant in
    let at = c.loop-line.start in
    let n = at + c.from.result - at in
    let row = take n (drop at c.loop-line.cells) in
    let pieces = line_pieces c.args.width c.line-item.result.style c.line-item.result.spans in
    let put : c.paint_spans.new.cells ≡ painted 0 pieces row =
    c.in_ok-paint_spans.ensures.paints.cells
    ∙ ap (λ ps. painted 0 ps row) (front-all _ _ _ _ c.in_ok-paint_spans.ensures.paints)
    ∙ ap (λ spans. painted 0 (line_pieces c.args.width c.line.inside.style spans) row) c.as_slice.ensures
    ∙ ap (λ l. painted 0 (line_pieces c.args.width l.style l.spans) row) c.line.view_is in
    record {
      start = omega arith;
      count = search rules;
      cells = rows-turn c.args.width c.loop-line.line-index at n c.args.lines.now c.line-item.result
          c.loop-line.cells _ c.loop-line-test.true c.line-item.is i.start (omega arith) i.cells put;
    }
