use Rattle.std.proofs.Common.{◌≡◌, ◌-◌, ◌≤◌, arith, refl}
use Rattle.ratatui_core.specs.Buffer.{position_of}
use Rattle.rtui_widgets.proofs.ChangeLemmas.{Changes-no_columns, Changes-columns, row-place}
use Rattle.widget_boxes.specs.Inner.{highlighted}
use Rattle.widget_boxes.proofs.HighlightLemmas.{ends-none, column-lit, column-ends}
use Rattle.widget_boxes.proofs.highlights.highlight_row.Goals as goal

pub loop-x-init : goal.loop-x-init
loop-x-init c = record {
  changes = Changes-no_columns c.args.part c.args.y c.left-x.result (highlighted c.args.style c.args.part c.args.buf.now)
      c.args.buf.now c.left-x.ensures;
  end = ends-none c.args.buf.now c.args.y c.args.part.x (c.left-x.result - c.args.part.x) (omega (arith, c.left-x.ensures));
  small = omega arith;
}

pub index_mut-requires : goal.index_mut-requires
index_mut-requires c =
    rw c.loop-x.invariant.changes.area (c.requires.inside (position_of (c.loop-x.x, c.args.y))
    (row-place c.args.part c.loop-x.x c.args.y c.requires.row (omega arith) (omega arith)))

pub loop-x-preserved : goal.loop-x-preserved
loop-x-preserved c =
    let now = rw c.from-column.ensures at c.highlight_cell-columns.ensures.value in
    record {
      changes = column-lit c.args.style c.args.part c.args.buf.now c.requires.inside c.loop-x.x c.args.y c.loop-x.end c.loop-x.buf
          c.requires.row (omega arith) (omega arith) c.loop-x.invariant.changes c.loop-x.invariant.end
          c.index_mut.result.now c.highlight_cell-columns.new.cell c.index_mut.ensures.inside c.index_mut.ensures.value now;
      end = rw (c.max-end.ensures, c.from.ensures, c.from-column.ensures)
          (column-ends c.args.style c.args.part c.args.buf.now c.requires.inside c.loop-x.x c.args.y c.loop-x.end c.loop-x.buf
          c.requires.row (omega arith) (omega arith) c.loop-x.invariant.changes c.loop-x.invariant.end
          c.index_mut.result.now c.highlight_cell-columns.result c.index_mut.ensures.value c.highlight_cell-columns.ensures.columns);
      small = omega (arith, c.max-end.ensures, c.from.ensures, c.from-column.ensures, c.loop-x.invariant.small);
    }
