-- In which columns of a line its graphemes stand.
use Rattle.std.specs.Prelude.{ℕ, ◌+◌, ◌-◌, ◌%◌, ◌==◌, min, max, Bool, true, false, if◌then◌else◌, List, [], ◌∷◌}
use Rattle.unicode_segmentation.specs.Grapheme.{graphemes}
use Rattle.ratatui_core.specs.Buffer.{text_width}

-- a grapheme that is a tab
abbrev pub is_tab_grapheme : List ℕ → Bool
is_tab_grapheme [] = false
is_tab_grapheme (b ∷ bs) = b == 9

-- how many columns a tab takes from a column on: as many as lead to a multiple of the tab's width
abbrev pub tab_columns : ℕ → ℕ → ℕ
tab_columns tab column = max tab 1 - column % max tab 1

-- how many columns a grapheme takes that begins in a column of its line
abbrev pub columns_of_grapheme : ℕ → ℕ → List ℕ → ℕ
columns_of_grapheme tab column g = if is_tab_grapheme g then tab_columns tab column else text_width g

-- so many further on; no text reaches the greatest number
abbrev pub past : ℕ → ℕ → ℕ
past at n = min (at + n) 18446744073709551615

-- the column after these graphemes of a line, the first of which begins in a column
abbrev pub column_past : ℕ → ℕ → List (List ℕ) → ℕ
column_past tab column [] = column
column_past tab column (g ∷ gs) = column_past tab (past column (columns_of_grapheme tab column g)) gs

-- the column after a text that begins a line
abbrev pub column_after_line : ℕ → List ℕ → ℕ
column_after_line tab text = column_past tab 0 (graphemes true text)
