-- Styled texts as data. A text is the list of its bytes.
use Rattle.std.specs.Prelude.{ℕ, ◌==◌, List, [], ◌∷◌, ◌++◌, Option, None, map, length}
use Rattle.std.specs.Prelude.{if◌then◌else◌}
use Rattle.std.specs.{Str.Lines.lines}
use Rattle.rtui_layout.specs.declared.alignment.HorizontalAlignment.{HorizontalAlignment}
use Rattle.rtui_style.specs.{declared.Style.Style, Style.new_style}

-- a text in a style
pub record SpanData : Type 0 where
  pub style : Style
  pub content : List ℕ

-- a text in the style that changes nothing
abbrev pub unstyled : List ℕ → SpanData
unstyled text = record { style = new_style; content = text }

-- spans in a row, with the style of the whole and an alignment, if it has one
pub record LineData : Type 0 where
  pub style : Style
  pub alignment : Option HorizontalAlignment
  pub spans : List SpanData

-- spans in a row, and nothing else
abbrev pub line_of : List SpanData → LineData
line_of spans = record { style = new_style; alignment = None; spans = spans }

-- an unstyled span for each line of the text, none for the empty text
abbrev pub raw_line : List ℕ → LineData
raw_line text = line_of (map unstyled (lines text))

-- lines one below the other, with the style of the whole and an alignment for the lines that have none
pub record TextData : Type 0 where
  pub alignment : Option HorizontalAlignment
  pub style : Style
  pub lines : List LineData

-- lines one below the other, and nothing else
abbrev pub text_of : List LineData → TextData
text_of ls = record { alignment = None; style = new_style; lines = ls }

-- an unstyled line for each line of the text, and one line without spans for the empty text
abbrev pub text_lines : List ℕ → List LineData
text_lines text = if length text == 0 then line_of [] ∷ [] else map raw_line (lines text)

abbrev pub raw_text : List ℕ → TextData
raw_text text = text_of (text_lines text)

-- a line with one span more
abbrev pub with_span : SpanData → LineData → LineData
with_span span line = record line { spans = line.spans ++ span ∷ [] }

-- lines with one span more at the end of the last one, or in a line of its own if there is none
abbrev pub with_last_span : SpanData → List LineData → List LineData
with_last_span span [] = line_of (span ∷ []) ∷ []
with_last_span span (line ∷ []) = with_span span line ∷ []
with_last_span span (line ∷ next ∷ more) = line ∷ with_last_span span (next ∷ more)
