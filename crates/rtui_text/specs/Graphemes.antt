-- The graphemes of styled texts.
use Rattle.std.specs.Prelude.{◌≡◌, ℕ, Bool, true, false, not, ◌&&◌, ◌||◌, List, [], ◌∷◌, ◌++◌, map, filter}
use Rattle.std.specs.Prelude.{All, chars}
use Rattle.std.specs.{Char.is_control, Char.is_whitespace, List.list_any, List.list_all, List.flat_map}
use Rattle.std.specs.{Str.bytes_eq, Slice.Iter.iter_rest}
use Rattle.unicode_segmentation.specs.{Grapheme.graphemes, Iter.graphemes_left}
use Rattle.rtui_style.specs.{declared.Style.Style, Style.patch}
use Rattle.rtui_cell.specs.Width.{text_width}
use Rattle.rtui_text.specs.{declared.grapheme.StyledGrapheme.StyledGrapheme}
use Rattle.rtui_text.specs.{declared.span_graphemes.SpanGraphemes.SpanGraphemes}
use Rattle.rtui_text.specs.{declared.grapheme.LineGraphemes.LineGraphemes, Text.SpanData, Printable.singles}

-- a grapheme in a style
pub record GraphemeData : Type 0 where
  pub symbol : List ℕ
  pub style : Style

abbrev pub grapheme_data : StyledGrapheme → GraphemeData
grapheme_data g = record { symbol = g.symbol.now; style = g.style }

-- a control character stands in the text
abbrev pub has_control : List ℕ → Bool
has_control text = list_any is_control (chars text)

-- P holds of each grapheme of a text
abbrev pub EachGrapheme : (List ℕ → Type 0) → List ℕ → Type 0
EachGrapheme P text = All P (graphemes true text)

-- P holds of each grapheme of each span
abbrev pub EachSpanGrapheme : (List ℕ → Type 0) → List SpanData → Type 0
EachSpanGrapheme P spans = All (λ span. EachGrapheme P span.content) spans

-- a grapheme takes one column if it shows: one with a control character doesn't
abbrev pub TakesOneColumn : List ℕ → Type 0
TakesOneColumn g = has_control g ≡ false → text_width g ≡ 1

-- those of these graphemes that have no control character, in a style
abbrev pub in_style : Style → List (List ℕ) → List GraphemeData
in_style style gs = map (λ g. record { symbol = g; style = style }) (filter (λ g. not (has_control g)) gs)

-- the graphemes of a span, its style over a base style
abbrev pub span_graphemes : Style → SpanData → List GraphemeData
span_graphemes base span = in_style (patch base span.style) (graphemes true span.content)

-- the graphemes of spans in a row
abbrev pub line_graphemes : Style → List SpanData → List GraphemeData
line_graphemes base spans = flat_map (span_graphemes base) spans

-- what the graphemes of a span have left
abbrev pub span_graphemes_left : SpanGraphemes → List GraphemeData
span_graphemes_left it =
    in_style it.style (singles it.front.now ++ (graphemes true it.ahead.now ++ graphemes_left it.graphemes))

-- what the graphemes of a line have left
abbrev pub line_graphemes_left : LineGraphemes → List GraphemeData
line_graphemes_left it = span_graphemes_left it.current ++ line_graphemes it.style (iter_rest it.spans)

-- U+200B
abbrev pub zero_width_space : List ℕ
zero_width_space = 0xE2 ∷ 0x80 ∷ 0x8B ∷ []

-- U+00A0
abbrev pub no_break_space : List ℕ
no_break_space = 0xC2 ∷ 0xA0 ∷ []

-- the zero-width space, and what has white space alone but for the no-break space
abbrev pub is_whitespace_symbol : List ℕ → Bool
is_whitespace_symbol symbol =
    bytes_eq symbol zero_width_space || (list_all is_whitespace (chars symbol) && not
    (bytes_eq symbol no_break_space))
