-- The state of a list.
use Rattle.std.specs.Prelude.{ℕ, ◌+◌, ◌-◌, min, Option, Some, None, ◌^◌}
use Rattle.std.specs.Borrow.{Lends, MutBor, Fml, usize}
use Rattle.std.specs.contracts.option.Option as option
use Rattle.widget_list.specs.{declared.state.ListState.ListState, contracts.state.ListState.the_row}

-- the state in which an item is selected, or none: then it begins with the first one
abbrev pub selecting : Option ℕ → ListState → ListState
selecting None s = record { offset = 0; selected = None }
selecting (Some index) s = record s { selected = Some index }

-- the next item, or the first one
abbrev pub next_of : Option ℕ → ℕ
next_of None = 0
next_of (Some index) = min (index + 1) (2 ^ 64 - 1)

-- the item before, or a number after all
abbrev pub previous_of : Option ℕ → ℕ
previous_of None = 2 ^ 64 - 1
previous_of (Some index) = index - 1

-- what is lent of a state is its field: the state ends with the last value of what is lent, all else as
-- before
abbrev pub LendsOffset : MutBor ListState → MutBor ℕ → Fml
LendsOffset state lent = Lends the_row usize state lent (λ offset. record state.now { offset = offset })

abbrev pub LendsSelected : MutBor ListState → MutBor (Option ℕ) → Fml
LendsSelected state lent = Lends the_row (option.the_row usize) state lent
    (λ selected. record state.now { selected = selected })
