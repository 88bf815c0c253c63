-- What holds of each grapheme of a line and of a text.
use Rattle.std.specs.Prelude.{ℕ, ◌<◌, List, All}
use Rattle.rtui_text.specs.{Graphemes.EachGrapheme, Text.LineData, Text.TextData, Widths.span_width}

-- P holds of each grapheme of each span of a line that has a width: one of no width isn't shown
abbrev pub EachLineGrapheme : (List ℕ → Type 0) → LineData → Type 0
EachLineGrapheme P line = All (λ span. 0 < span_width span → EachGrapheme P span.content) line.spans

-- P holds of each grapheme of each line of a text
abbrev pub EachTextGrapheme : (List ℕ → Type 0) → TextData → Type 0
EachTextGrapheme P text = All (EachLineGrapheme P) text.lines
