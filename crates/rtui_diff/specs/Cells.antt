-- What the walk asks of a cell, and cells in a row-major list.
use Rattle.std.specs.Prelude.{ℕ, Bool, true, false, ◌+◌, ◌*◌, ◌==◌, ◌||◌, not, List, chars, slice_index_or}
use Rattle.std.specs.{Int.RustNames.bit_and, List.list_any}
use Rattle.rtui_style.specs.{declared.color.Color.Color, Modifier.bits_of}
use Rattle.rtui_cell.specs.{declared.cell.Cell.Cell, declared.cell.CellDiffOption.CellDiffOption}
use Rattle.rtui_cell.specs.{Symbol.symbol_text, Cell.empty_cell}
use Rattle.rtui_cell.specs.declared.cell.CellDiffOption.TheVariants as DiffOption

-- the cell at a place of a list, and past its end the empty cell
abbrev pub cell : List Cell → ℕ → Cell
cell cells i = slice_index_or cells i empty_cell

-- the cell in column a of row b, in rows of w columns
abbrev pub cell_at : ℕ → List Cell → ℕ → ℕ → Cell
cell_at w cells a b = cell cells (b * w + a)

-- the variation selector that asks for an emoji stands in the symbol
unfoldable pub has_fe0f : Cell → Bool
has_fe0f c = list_any (λ k. k == 0xFE0F) (chars (symbol_text c.symbol))

abbrev pub is_reset : Color → Bool
is_reset Color.Reset = true
is_reset _ = false

-- the modifiers that show on a blank: underlined 8, slow blink 16, rapid blink 32, reversed 64, crossed out
-- 256
abbrev pub shown_on_blank : ℕ
shown_on_blank = 376

-- the cell's background or modifiers would show on a blank
unfoldable pub shows_on_blank : Cell → Bool
shows_on_blank c = not (is_reset c.bg) || not (bit_and (bits_of c.modifier) shown_on_blank == 0)

abbrev pub is_forced_by : CellDiffOption → Bool
is_forced_by DiffOption.None = false
is_forced_by DiffOption.Skip = false
is_forced_by DiffOption.AlwaysUpdate = false
is_forced_by (DiffOption.ForcedWidth width) = true

-- the cell has a forced width
unfoldable pub is_forced : Cell → Bool
is_forced c = is_forced_by c.diff_option

abbrev pub is_always_by : CellDiffOption → Bool
is_always_by DiffOption.None = false
is_always_by DiffOption.Skip = false
is_always_by DiffOption.AlwaysUpdate = true
is_always_by (DiffOption.ForcedWidth width) = false

-- the cell is drawn each time
unfoldable pub is_always : Cell → Bool
is_always c = is_always_by c.diff_option
