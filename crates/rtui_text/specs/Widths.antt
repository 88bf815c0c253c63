-- How many columns spans, lines and texts take.
use Rattle.std.specs.Prelude.{ℕ, ◌-◌, ◌^◌, List, [], ◌∷◌, sum_by, min, max}
use Rattle.rtui_cell.specs.Width.{text_columns}
use Rattle.rtui_text.specs.Text.{SpanData, LineData}

-- the columns of its text
abbrev pub span_width : SpanData → ℕ
span_width span = text_columns span.content

-- the sum of the widths, at most the greatest usize
abbrev pub line_width : List SpanData → ℕ
line_width spans = min (sum_by span_width spans) (2 ^ 64 - 1)

-- the greatest width of these lines
abbrev pub widest : List LineData → ℕ
widest [] = 0
widest (l ∷ ls) = max (line_width l.spans) (widest ls)
