-- Cells: the empty one, a style laid over one, its width, and whether it is skipped.
use Rattle.std.specs.Prelude.{◌≡◌, ℕ, Bool, true, false, ◌&&◌, ◌==◌, List, length, Some, None}
use Rattle.std.specs.Int.NonZero.{non_zero_u16_get}
use Rattle.rtui_style.specs.{declared.color.Color.TheVariants.Reset, declared.Style.Style}
use Rattle.rtui_style.specs.{Modifier.no_modifier, Style.color_after, Style.modifier_after}
use Rattle.rtui_cell.specs.{Symbol.symbol_text, Width.text_width, declared.cell.Cell.Cell}
use Rattle.rtui_cell.specs.{declared.cell.CellDiffOption.CellDiffOption}
use Rattle.rtui_cell.specs.declared.cell.CellDiffOption.TheVariants as DiffOption

-- an unset symbol, no colours, no modifiers, no option
abbrev pub empty_cell : Cell
empty_cell = record {
  fg = Reset;
  bg = Reset;
  underline_color = Reset;
  modifier = no_modifier;
  diff_option = DiffOption.None;
  skip = false;
  symbol = None;
}

-- a cell that shows a text and nothing else
abbrev pub cell_of : List ℕ → Cell
cell_of text = record empty_cell { symbol = Some text }

-- a cell with another text
abbrev pub with_symbol : List ℕ → Cell → Cell
with_symbol text c = record c { symbol = Some text }

-- a cell after a style was laid over it
abbrev pub styled : Style → Cell → Cell
styled s c = record c {
  fg = color_after s.fg c.fg;
  bg = color_after s.bg c.bg;
  underline_color = color_after s.underline_color c.underline_color;
  modifier = modifier_after s c.modifier;
}

-- the style that makes an empty cell look like this one
abbrev pub style_of : Cell → Style
style_of c = record {
  fg = Some c.fg;
  bg = Some c.bg;
  underline_color = Some c.underline_color;
  add_modifier = c.modifier;
  sub_modifier = no_modifier;
}

-- the forced width, if there is one
abbrev pub width_by : CellDiffOption → ℕ → ℕ
width_by DiffOption.None width = width
width_by DiffOption.Skip width = width
width_by DiffOption.AlwaysUpdate width = width
width_by (DiffOption.ForcedWidth forced) width = non_zero_u16_get forced

-- how many columns a cell takes
unfoldable pub width_of : Cell → ℕ
width_of c = width_by c.diff_option (text_width (symbol_text c.symbol))

-- a diff goes by the cell's contents
abbrev pub has_no_option : CellDiffOption → Bool
has_no_option DiffOption.None = true
has_no_option DiffOption.Skip = false
has_no_option DiffOption.AlwaysUpdate = false
has_no_option (DiffOption.ForcedWidth forced) = false

-- a text of one byte and no option
unfoldable pub is_single_byte : Cell → Bool
is_single_byte c = has_no_option c.diff_option && (length (symbol_text c.symbol) == 1)

-- the option says so, or the flag if there is no option
abbrev pub is_skipped_by : CellDiffOption → Bool → Bool
is_skipped_by DiffOption.None flag = flag
is_skipped_by DiffOption.Skip flag = true
is_skipped_by DiffOption.AlwaysUpdate flag = false
is_skipped_by (DiffOption.ForcedWidth forced) flag = false

-- a skipped cell is never drawn
unfoldable pub is_skipped : Cell → Bool
is_skipped c = is_skipped_by c.diff_option c.skip

-- no option and no flag
pub record IsUnmarked (c : Cell) : Type 0 where
  pub option : c.diff_option ≡ DiffOption.None
  pub flag : c.skip ≡ false
