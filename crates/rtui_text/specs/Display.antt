-- The texts that spans and lines hold, and those that they print.
use Rattle.std.specs.Prelude.{ℕ, List, [], ◌∷◌, ◌++◌}
use Rattle.std.specs.{List.flat_map, Str.Lines.lines}
use Rattle.rtui_text.specs.Text.{SpanData, LineData}

-- the lines of the content, without their breaks
abbrev pub printed_span : SpanData → List ℕ
printed_span span = flat_map (λ line. line) (lines span.content)

-- the spans, one after the other
abbrev pub printed_spans : List SpanData → List ℕ
printed_spans spans = flat_map printed_span spans

-- the contents of spans, one after the other
abbrev pub line_content : List SpanData → List ℕ
line_content spans = flat_map (λ span. span.content) spans

-- the lines with a line break between each two
abbrev pub printed_lines : List LineData → List ℕ
printed_lines [] = []
printed_lines (line ∷ []) = printed_spans line.spans
printed_lines (line ∷ next ∷ more) = printed_spans line.spans ++ 10 ∷ printed_lines (next ∷ more)
