-- The state of a table.
use Rattle.std.specs.Prelude.{ℕ, Option, Some, None}
use Rattle.std.specs.Borrow.{Lends, MutBor, Fml, usize}
use Rattle.std.specs.contracts.option.Option as option
use Rattle.widget_table.specs.{declared.state.TableState.TableState, contracts.state.TableState.the_row}

-- the state in which a row is selected, or none: then it begins with the first one
abbrev pub selecting_row : Option ℕ → TableState → TableState
selecting_row None s = record s { offset = 0; selected = None }
selecting_row (Some index) s = record s { selected = Some index }

-- the state in which a row and a column are selected, or neither: then it begins with the first row
abbrev pub selecting_cell : Option (ℕ × ℕ) → TableState → TableState
selecting_cell None s = record { offset = 0; selected = None; selected_column = None }
selecting_cell (Some (row, column)) s = record s { selected = Some row; selected_column = Some column }

-- both numbers, if there are both
abbrev pub both_of : Option ℕ → Option ℕ → Option (ℕ × ℕ)
both_of None column = None
both_of (Some row) None = None
both_of (Some row) (Some column) = Some (row, column)

-- the selected row and column, if both are
abbrev pub cell_of_state : TableState → Option (ℕ × ℕ)
cell_of_state s = both_of s.selected s.selected_column

-- what is lent of a state is its field: the state ends with the last value of what is lent, all else as
-- before
abbrev pub LendsRowOffset : MutBor TableState → MutBor ℕ → Fml
LendsRowOffset state lent = Lends the_row usize state lent (λ offset. record state.now { offset = offset })

abbrev pub LendsSelectedRow : MutBor TableState → MutBor (Option ℕ) → Fml
LendsSelectedRow state lent = Lends the_row (option.the_row usize) state lent
    (λ selected. record state.now { selected = selected })

abbrev pub LendsSelectedColumn : MutBor TableState → MutBor (Option ℕ) → Fml
LendsSelectedColumn state lent = Lends the_row (option.the_row usize) state lent
    (λ selected. record state.now { selected_column = selected })
