-- Words that only private contracts use.
use Rattle.std.specs.Prelude.{ℕ, ◌-◌, ◌*◌, List, length, Some}
use Rattle.ratatui_core.specs.Layout.{Rect, Position}
use Rattle.ratatui_core.specs.Text.{LineData, GraphemeData}
use Rattle.ratatui_core.specs.Buffer.{Cell}
use Rattle.widget_big_text.specs.declared.big_text.BigText.{BigText}
use Rattle.widget_big_text.specs.declared.pixel_size.PixelSize.{PixelSize}
use Rattle.widget_big_text.specs.Glyphs.{letter_columns}
use Rattle.widget_big_text.specs.BigTexts.{letters_of, letters_cell, cell_of_line}

-- a cell of letters that stand one beside the other from the corner of an area on
abbrev pub letters_over : PixelSize → List GraphemeData → Rect → Position → Cell → Cell
letters_over size gs r p = letters_cell size gs (p.x - r.x) (p.y - r.y)

-- a cell of a line over an area
abbrev pub line_over : BigText → LineData → Rect → Position → Cell → Cell
line_over t line r p = cell_of_line t (Some line) r.width (p.x - r.x) (p.y - r.y)

-- how many of so many columns the letters of a line leave free
abbrev pub free_columns : BigText → LineData → ℕ → ℕ
free_columns t line width = width - length (letters_of t line) * letter_columns t.pixel_size
