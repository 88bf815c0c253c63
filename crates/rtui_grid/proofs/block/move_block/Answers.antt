use Rattle.std.proofs.Common.{◌∙◌, arith}
use Rattle.rtui_grid.proofs.BlockLemmas.{block-more}
use Rattle.rtui_grid.proofs.block.move_block.Goals as goal

pub loop-row-preserved : goal.loop-row-preserved
loop-row-preserved g c =
    let before = c.loop-row.invariant in
    let swapped = rw (
      c.from.ensures,
      c.from-in-loop-row.ensures,
      c.from-in-loop-row-2.ensures,
      c.from-in-loop-row-3.ensures,
      c.from-columns.ensures,
    ) at c.swap_parts.ensures in
    record {
      moved = block-more g.T.Blank.blank c.args.width c.args.stride c.loop-row.row c.args.block c.args.others.now c.args.items.now
          c.loop-row.items c.swap_parts.new.items c.loop-row.others
          c.requires.columns before.moved swapped.moved swapped.before swapped.after before.rest;
      rest = λ k le. swapped.others_after k (let e = c.requires.others_columns in omega arith) ∙ before.rest k (omega arith);
    }
