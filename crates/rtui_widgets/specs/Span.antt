-- A span in a row of cells, column by column.
use Rattle.std.specs.Prelude.{ℕ, Bool, true, false, ◌+◌, ◌-◌, ◌<◌, ◌==◌, ◌||◌, ◌&&◌, not, nat_lt, List, []}
use Rattle.std.specs.Prelude.{◌∷◌, length, filter, Some, if◌then◌else◌}
use Rattle.std.specs.List.{concat}
use Rattle.unicode_segmentation.specs.Grapheme.{graphemes}
use Rattle.rtui_style.specs.declared.Style.{Style}
use Rattle.rtui_cell.specs.{declared.cell.Cell.Cell, Cell.empty_cell, Cell.styled, Symbol.IsShort}
use Rattle.rtui_cell.specs.{Width.text_width}
use Rattle.rtui_text.specs.Graphemes.{has_control}
use Rattle.rtui_buffer.specs.Painting.{fitting}

-- the graphemes of a list that show in these columns: the longest front of those without a control character
-- that fits
unfoldable pub showing : ℕ → List (List ℕ) → List (List ℕ)
showing columns gs = fitting columns (filter (λ g. not (has_control g)) gs)

-- the column to which a grapheme goes that stands at x: this one, and for one of no width the column before,
-- if there is one
abbrev pub goes_to : ℕ → List ℕ → ℕ
goes_to x g = if text_width g == 0 then x - 1 else x

-- the graphemes that go to column k, if the first stands at x and each other one after the one before
unfoldable pub those_at : ℕ → ℕ → List (List ℕ) → List (List ℕ)
those_at k x [] = []
those_at k x (g ∷ gs) = if goes_to x g == k then g ∷ those_at k (x + text_width g) gs else those_at k
    (x + text_width g) gs

-- column k is after one of them: that one takes the column and begins before it
unfoldable pub is_behind : ℕ → ℕ → List (List ℕ) → Bool
is_behind k x [] = false
is_behind k x (g ∷ gs) = (nat_lt x k && nat_lt k (x + text_width g)) || is_behind k (x + text_width g) gs

-- a cell with these graphemes joined as its symbol, in a style; as it is, if there are none
abbrev pub with_graphemes : Style → List (List ℕ) → Cell → Cell
with_graphemes style [] c = c
with_graphemes style (g ∷ gs) c = styled style (record c { symbol = Some (concat (g ∷ gs)) })

-- column k with the graphemes that go to it, over its former cell, or over an empty one if it is after a
-- grapheme
abbrev pub column_with : Style → List (List ℕ) → ℕ → Cell → Cell
column_with style gs k former = with_graphemes style (those_at k 0 gs)
    (if is_behind k 0 gs then empty_cell else former)

-- what f makes of each column, if the first is column k
unfoldable pub columns_from : (ℕ → Cell → Cell) → ℕ → List Cell → List Cell
columns_from f k [] = []
columns_from f k (c ∷ cs) = f k c ∷ columns_from f (k + 1) cs

-- a row with these graphemes in a style, from its first column on
abbrev pub graphemes_rendered : Style → List (List ℕ) → List Cell → List Cell
graphemes_rendered style gs row = columns_from (column_with style gs) 0 row

-- a row with a text in a style, from its first column on
unfoldable pub span_rendered : Style → List ℕ → List Cell → List Cell
span_rendered style text row = graphemes_rendered style (showing (length row) (graphemes true text)) row

-- a text takes no memory in a row of these many columns: the graphemes that go to one column, joined, are
-- short
abbrev pub IsShortSpan : ℕ → List ℕ → Type 0
IsShortSpan columns text = (k : ℕ) → k < columns
    → IsShort (concat (those_at k 0 (showing columns (graphemes true text))))
