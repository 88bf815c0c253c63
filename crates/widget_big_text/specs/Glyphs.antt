-- The pixels of letters, and the symbols of cells that show some of them.
use Rattle.std.specs.Prelude.{ℕ, ◌+◌, ◌-◌, ◌*◌, ◌/◌, ◌%◌, ◌^◌, ◌==◌, ◌&&◌, nat_lt, Bool, true, false, List}
use Rattle.std.specs.Prelude.{Option, Some, None, replicate, slice_get, slice_index}
use Rattle.std.specs.Prelude.{slice_index_or, if◌then◌else◌}
use Rattle.widget_big_text.specs.declared.font.TheConstants.{GLYPHS}
use Rattle.widget_big_text.specs.declared.letter.TheConstants.{QUADRANTS}
use Rattle.widget_big_text.specs.declared.pixel_size.PixelSize.{PixelSize}
use Rattle.widget_big_text.specs.declared.pixel_size.PixelSize.TheVariants.{Full, HalfHeight, HalfWidth, Quadrant}

-- the rows of a letter without pixels
abbrev pub no_pixels : List ℕ
no_pixels = replicate 8 0

-- the rows of pixels of the letter for a text, from the top: that of its first character, or one without
-- pixels if the font doesn't have it
abbrev pub rows_by : Option ℕ → List ℕ
rows_by None = no_pixels
rows_by (Some byte) = slice_index_or GLYPHS (byte - 0x20) no_pixels

abbrev pub glyph_of : List ℕ → List ℕ
glyph_of text = rows_by (slice_get text 0)

-- whether a letter has a pixel in a column and a row of pixels: the bits of a row are its pixels, the highest
-- one at the left
abbrev pub has_pixel : List ℕ → ℕ → ℕ → Bool
has_pixel rows x y = nat_lt x 8 && (slice_index_or rows y 0 / 2 ^ (7 - x) % 2 == 1)

-- how many pixels a cell shows side by side, and how many one below the other
abbrev pub pixels_across : PixelSize → ℕ
pixels_across Full = 1
pixels_across HalfHeight = 1
pixels_across HalfWidth = 2
pixels_across Quadrant = 2

abbrev pub pixels_down : PixelSize → ℕ
pixels_down Full = 1
pixels_down HalfHeight = 2
pixels_down HalfWidth = 1
pixels_down Quadrant = 2

-- how many columns and rows a letter takes
abbrev pub letter_columns : PixelSize → ℕ
letter_columns size = 8 / pixels_across size

abbrev pub letter_rows : PixelSize → ℕ
letter_rows size = 8 / pixels_down size

-- whether a quarter of a cell, so many columns and rows from a letter's corner, lies on a pixel of the letter, 1
-- if it does: the left quarters are 0 and the right ones 1, the upper ones 0 and the lower ones 1
abbrev pub shows_quarter : PixelSize → List ℕ → ℕ → ℕ → ℕ → ℕ → ℕ
shows_quarter size rows x y right low =
    let column = (2 * x + right) * pixels_across size / 2 in
    let row = (2 * y + low) * pixels_down size / 2 in
    if has_pixel rows column row then 1 else 0

-- the quarters of a cell that are filled, each a bit: row by row, the left one first
abbrev pub quarters_shown : PixelSize → List ℕ → ℕ → ℕ → ℕ
quarters_shown size rows x y =
    let shows = shows_quarter size rows x y in shows 0 0 + 2 * shows 1 0 + 4 * (shows 0 1 + 2 * shows 1 1)

-- the symbol whose quarters are filled so
abbrev pub letter_mark : PixelSize → List ℕ → ℕ → ℕ → ℕ
letter_mark size rows x y = slice_index QUADRANTS (quarters_shown size rows x y)

-- the symbol that fills these quarters of a cell: upper left, upper right, lower left and lower right
abbrev pub two_by_two : Bool → Bool → Bool → Bool → ℕ
two_by_two false false false false = 0x20
two_by_two true false false false = 0x2598
two_by_two false true false false = 0x259D
two_by_two true true false false = 0x2580
two_by_two false false true false = 0x2596
two_by_two true false true false = 0x258C
two_by_two false true true false = 0x259E
two_by_two true true true false = 0x259B
two_by_two false false false true = 0x2597
two_by_two true false false true = 0x259A
two_by_two false true false true = 0x2590
two_by_two true true false true = 0x259C
two_by_two false false true true = 0x2584
two_by_two true false true true = 0x2599
two_by_two false true true true = 0x259F
two_by_two true true true true = 0x2588
