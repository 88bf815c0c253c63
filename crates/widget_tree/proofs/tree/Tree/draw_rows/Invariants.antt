use Rattle.std.proofs.Common.{◌≡◌, ◌<◌, true, length}
use Rattle.std.specs.Option.{option_or}
use Rattle.rtui_drawing.proofs.Laws.{Continues}
use Rattle.widget_tree.specs.{Depths.shows_node, Rows.nodes_in_rows}
use Rattle.widget_tree.specs.TreeStates.{tree_depths, opened_of}
use Rattle.widget_tree.specs.Trees.{each_in_row, node_drawing, mark_columns, node_rows_drawing, selected_row}
use Rattle.widget_tree.proofs.RowLemmas.{rows_left}
use Rattle.widget_tree.proofs.tree.Tree.draw_rows.Given as goal

abbrev pub invariant-loop-y : goal.invariant-loop-y
invariant-loop-y l = record {
  area : l.buf.area ≡ l.fn.buf.area;
  shown : l.node < length (tree_depths l.fn.self) → shows_node (tree_depths l.fn.self) (opened_of l.fn.state) l.node ≡ true;
  rest : Continues
      (each_in_row (node_drawing l.fn.self l.fn.state (mark_columns l.fn.self l.fn.state l.fn.inner.width) l.fn.inner.width) l.y
      (rows_left (tree_depths l.fn.self) (opened_of l.fn.state) l.fn.inner.height l.y l.node))
      l.fn.inner (node_rows_drawing l.fn.self l.fn.state l.initial.node l.fn.inner) l.fn.inner l.fn.buf l.buf;
  found : option_or l.selected (selected_row l.fn.state.selected l.fn.inner l.y
      (rows_left (tree_depths l.fn.self) (opened_of l.fn.state) l.fn.inner.height l.y l.node)) ≡ selected_row
      l.fn.state.selected l.fn.inner 0
      (nodes_in_rows (tree_depths l.fn.self) (opened_of l.fn.state) l.initial.node l.fn.inner.height);
}
