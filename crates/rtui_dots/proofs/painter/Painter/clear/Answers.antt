use Rattle.std.proofs.Common.{◌≡◌, ◌∙◌, length, ap, arith}
use Rattle.std.proofs.lemmas.List.{take-append-le, take_all}
use Rattle.rtui_dots.proofs.GridLemmas.{same-as-replicate}
use Rattle.rtui_dots.proofs.painter.Painter.clear.Goals as goal

pub returns-clause-cells : goal.returns-clause-cells
returns-clause-cells c =
    let len = c.args.self.now.cells.ok.0 in
    let count : length c.loop-cell.cell-items ≡ length c.args.self.now.cells.items = c.loop-cell.auto.cell-items
    ∙ ap length c.as_mut_slice-cell-items.ensures.value in
    let all = c.loop-cell-test.false in
    let same = same-as-replicate (length c.args.self.now.cells.items) c.loop-cell.cell-items count
    (λ k lt. c.loop-cell.invariant k (omega (arith, c.as_mut_slice-cell-items.ensures.len))) in
    take-append-le _ _ _ (omega arith) ∙ take_all _ _ (omega arith) ∙ same
