use Rattle.std.proofs.Common.{◌≡◌, ◌<◌, length, get_or, ap, ◌∙◌, arith, true}
use Rattle.std.proofs.lemmas.{Bool.Decides.nat_tests, Grind.common_steps, List.get_or_default}
use Rattle.rtui_grid.proofs.ItemLemmas.{item-set, set-below}
use Rattle.rtui_cell.specs.{declared.cell.CellDiffOption.TheVariants.Skip, Cell.empty_cell, Cell.is_skipped, Cell.width_of}
use Rattle.rtui_insert.proofs.MarkLemmas.{skipped-option, narrow-option}
use Rattle.rtui_insert.proofs.marks.mark_skipped.Goals as goal

pub loop-k-preserved : goal.loop-k-preserved
loop-k-preserved c =
    let cells = c.loop-k.cells in
    let k = c.loop-k.k in
    let before = c.loop-k.invariant in
    let inside : k < length cells = grind (arith, common_steps) in
    let was : get_or cells k c.index-cells-k.result ≡ empty_cell = get_or_default cells k _ empty_cell inside
    ∙ before.rest k (omega arith) ∙ c.requires.empty k c.loop-k-test.true in
    record {
      skipped = set-below empty_cell (λ c. is_skipped c ≡ true) cells k _ inside
          (skipped-option (get_or cells k c.index-cells-k.result)) before.skipped;
      narrow = set-below empty_cell (λ c. width_of c ≡ 1) cells k _ inside
          (ap (λ c. width_of (record c { diff_option = Skip })) was ∙ narrow-option) before.narrow;
      rest = λ j le. rw (item-set empty_cell cells k j _ inside) (grind (arith, nat_tests, before.rest));
    }
