-- What a rendering leaves in the state of a table, as a step of its own.
use Rattle.std.specs.Prelude.{ℕ, ◌+◌, ◌-◌, min, nat_le, Bool, if◌then◌else◌, List, [], ◌∷◌, length, Option, Some, None}
use Rattle.ratatui_core.specs.{Layout.Rect}
use Rattle.widget_list.specs.Settled.{SettlesInside, settled_inside, first_passing}
use Rattle.widget_table.specs.{declared.table.Table.Table as TableData, declared.row.Row.Row}
use Rattle.widget_table.specs.{declared.state.TableState.TableState}
use Rattle.widget_table.specs.Rows.{height_before, upper_at, full_at, rows_area}
use Rattle.widget_table.specs.Tables.{column_count, within_count, IsNextState}

-- what a table makes of its state over an area
abbrev pub SettlesTable : TableData → Rect → TableState → TableState → Type 0
SettlesTable t = SettlesInside t.block (λ r. IsNextState t (rows_area t.header t.footer r).height)

-- The same as a value. First: whether all rows from one up to another one fit into so many rows of the screen,
-- if so much of that one is to be shown.
abbrev pub row_fits : List Row → ℕ → ℕ → ℕ → ℕ → Bool
row_fits rows height last shown k = nat_le (height_before rows last + shown) (height_before rows k + height)

-- where a table begins that began with a row
abbrev pub table_offset : List Row → ℕ → Option ℕ → ℕ → ℕ
table_offset [] height selected was = 0
table_offset (row ∷ rows) height None was = min was (length rows)
table_offset (row ∷ rows) height (Some selected) was =
    let all = row ∷ rows in
    let least = min was selected in
    if row_fits all height selected (upper_at all selected) least then least
    else first_passing (row_fits all height selected (full_at all selected)) least (selected - least)

-- the state after a table was shown with so many rows of the screen for its rows
abbrev pub next_table_state : TableData → ℕ → TableState → TableState
next_table_state t height s =
    let selected = within_count (length t.rows.items) s.selected in record {
      offset = table_offset t.rows.items height selected s.offset;
      selected = selected;
      selected_column = within_count (column_count t) s.selected_column;
    }

-- what a table makes of its state over an area, as a value
abbrev pub settled_table : TableData → Rect → TableState → TableState
settled_table t = settled_inside t.block (λ r. next_table_state t (rows_area t.header t.footer r).height)
