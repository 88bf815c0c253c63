-- In which rows of a line its columns stand, where lines are wrapped: column c in row c / stride of the line,
-- and there in column c % stride. So each grapheme stands in one row, and none is lost.
use Rattle.std.specs.Prelude.{ℕ, zero, suc, ◌+◌, ◌-◌, ◌/◌, ◌==◌, ◌++◌, max, if◌then◌else◌}
use Rattle.std.specs.Prelude.{List, [], ◌∷◌}
use Rattle.widget_area.specs.Columns.{past, columns_of_grapheme}

-- the stride: how many columns of a line stand in each of its rows, if there is room for so many: all but the
-- last one, in which a wide grapheme ends that begins in the one before, or the cursor stands after a full
-- row
abbrev pub stride_of : ℕ → ℕ
stride_of room = max (room - 1) 1

-- how many rows a line takes that ends before a column: as many as have a column of it, and at least one
abbrev pub rows_of_columns : ℕ → ℕ → ℕ
rows_of_columns stride end = (end - 1) / stride + 1

-- of graphemes of a line, the first of which begins in a column, those that begin in a row
abbrev pub in_row : ℕ → ℕ → ℕ → ℕ → List (List ℕ) → List (List ℕ)
in_row tab stride k column [] = []
in_row tab stride k column (g ∷ gs) =
    (if column / stride == k then g ∷ [] else []) ++ in_row tab stride k (past column (columns_of_grapheme tab column g)) gs

-- those of n rows from one on, put together
abbrev pub in_rows : ℕ → ℕ → ℕ → ℕ → List (List ℕ) → ℕ → List (List ℕ)
in_rows tab stride k column gs zero = []
in_rows tab stride k column gs (suc n) = in_row tab stride k column gs ++ in_rows tab stride (k + 1) column gs n
