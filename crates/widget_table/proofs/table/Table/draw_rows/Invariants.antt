use Rattle.std.proofs.Common.{◌≡◌, drop}
use Rattle.std.specs.Option.{option_or}
use Rattle.rtui_drawing.proofs.Laws.{Continues}
use Rattle.widget_table.specs.{Rows.stacked_rows, Inner.IsTableArea}
use Rattle.widget_table.specs.Tables.{rows_drawing, placed_rows, selected_row_area}
use Rattle.widget_table.proofs.table.Table.draw_rows.Given as goal

abbrev pub invariant-loop-k : goal.invariant-loop-k
invariant-loop-k l = record {
  area : IsTableArea l.left;
  rest : Continues (rows_drawing l.fn.self l.fn.state.selected l.fn.symbol_columns l.fn.columns
      (stacked_rows l.k l.left (drop l.k l.fn.self.rows.items))) l.fn.area
      (rows_drawing l.fn.self l.fn.state.selected l.fn.symbol_columns l.fn.columns
      (placed_rows l.fn.self l.fn.state l.fn.place)) l.fn.area l.fn.buf l.buf;
  found : option_or l.selected (selected_row_area l.fn.state.selected
      (stacked_rows l.k l.left (drop l.k l.fn.self.rows.items))) ≡ selected_row_area l.fn.state.selected
      (placed_rows l.fn.self l.fn.state l.fn.place);
}
