-- How high a value is in eighths of a cell, and by which symbol a cell shows it.
use Rattle.std.specs.Prelude.{ℕ, ◌-◌, ◌*◌, ◌/◌, ◌==◌, min, List, if◌then◌else◌, slice_index_or}
use Rattle.ratatui_core.specs.{Layout.Rect, Layout.Position, Buffer.Cell, Buffer.with_symbol}
use Rattle.ratatui_core.specs.declared.symbols.bar.Set.{Set as BarSet}
use Rattle.ratatui_core.specs.Symbols.{bar_texts}

-- how many eighths of a cell a value is high, rounded down, if the greatest one takes so many rows
abbrev pub eighths_of_value : ℕ → ℕ → ℕ → ℕ
eighths_of_value value greatest rows = if greatest == 0 then 0 else value * rows * 8 / greatest

-- how many of them a cell shows, so many rows from below
abbrev pub left_at : ℕ → ℕ → ℕ
left_at eighths row = min (eighths - row * 8) 8

-- which row of an area from below one is, from 0 on
abbrev pub row_from_below : Rect → ℕ → ℕ
row_from_below r y = r.height - (y - r.y) - 1

-- the symbol of a cell that is filled by so many eighths; a set lists them from full to empty
abbrev pub level_text : BarSet → ℕ → List ℕ
level_text set eighths = slice_index_or (bar_texts set) (8 - eighths) set.full.now

-- the symbol in a row of an area, of a bar that is so many eighths of a cell high
abbrev pub level_in : BarSet → Rect → ℕ → ℕ → List ℕ
level_in set r eighths y = level_text set (left_at eighths (row_from_below r y))

-- a cell with that symbol
abbrev pub level_mark : BarSet → Rect → ℕ → Position → Cell → Cell
level_mark set r eighths p = with_symbol (level_in set r eighths p.y)
