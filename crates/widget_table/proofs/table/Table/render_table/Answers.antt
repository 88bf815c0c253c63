use Rattle.std.proofs.Common.{◌≡◌, is_some, refl}
use Rattle.widget_table.specs.Rows.{rows_area}
use Rattle.widget_table.specs.Tables.{symbol_columns}
use Rattle.widget_table.proofs.table.Table.render_table.Goals as goal

pub draw_table-requires-clause-symbol : goal.draw_table-requires-clause-symbol
draw_table-requires-clause-symbol c = rw (c.symbol_columns-symbol_columns.ensures.value, c.is_some.ensures) refl

pub draw_table-requires-clause-rows : goal.draw_table-requires-clause-rows
draw_table-requires-clause-rows c =
    rw (c.above-area.ensures, c.below-left.ensures, c.height_if.ensures, c.height_if-2.ensures) refl

pub draw_table-requires-clause-footer : goal.draw_table-requires-clause-footer
draw_table-requires-clause-footer c =
    rw (c.below.ensures, c.from.ensures, c.above-area.ensures, c.below-left.ensures, c.height_if.ensures, c.height_if-2.ensures)
    refl

pub returns-clause-ok : goal.returns-clause-ok
returns-clause-ok c =
    let area : c.above-area.result ≡ rows_area c.args.self.now.header c.args.self.now.footer c.args.inner =
    rw (c.above-area.ensures, c.below-left.ensures, c.height_if.ensures, c.height_if-2.ensures) refl in
    let n : c.symbol_columns-symbol_columns.result ≡ symbol_columns c.args.self.now (is_some c.next_state-next.result.selected)
    c.args.inner = rw (c.symbol_columns-symbol_columns.ensures.value, c.is_some.ensures) refl in
    record {
      state = rw area at c.next_state-next.ensures;
      columns = c.in_ok-columns.columns.items;
      are_columns = rw n at c.in_ok-columns.ensures;
      parts = rw c.as_slice.ensures.value at c.in_ok-draw_table.ensures.ok;
    }
