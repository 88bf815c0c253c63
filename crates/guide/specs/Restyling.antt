-- The style of a line's first span.
use Rattle.std.specs.Prelude.{List, [], ◌∷◌}
use Rattle.ratatui_core.specs.{Style.Style, Text.SpanData}

-- spans of which the first has another style
abbrev pub restyled : Style → List SpanData → List SpanData
restyled style [] = []
restyled style (span ∷ spans) = record span { style = style } ∷ spans
