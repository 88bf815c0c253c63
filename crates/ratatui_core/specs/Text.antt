-- Spans, lines and their columns.
pub use Rattle.rtui_text.specs.Text.{SpanData, unstyled, LineData, line_of, raw_line, TextData, text_of}
pub use Rattle.rtui_text.specs.Text.{raw_text, with_span, with_last_span}
pub use Rattle.rtui_text.specs.Widths.{span_width, line_width, widest}
pub use Rattle.rtui_text.specs.Graphemes.{GraphemeData, grapheme_data, has_control, span_graphemes}
pub use Rattle.rtui_text.specs.Graphemes.{line_graphemes, span_graphemes_left, line_graphemes_left}
pub use Rattle.rtui_text.specs.Graphemes.{is_whitespace_symbol}
-- What holds of each grapheme of a text, of spans, of a line.
pub use Rattle.rtui_text.specs.Graphemes.{EachGrapheme, EachSpanGrapheme, TakesOneColumn}
pub use Rattle.rtui_widgets.specs.Graphemes.{EachLineGrapheme, EachTextGrapheme}
pub use Rattle.rtui_text.specs.Display.{printed_span, printed_spans, line_content, printed_lines}
pub use Rattle.rtui_text.specs.Printable.{IsPrintable, ArePrintable}
pub use Rattle.rtui_text.specs.Masked.{MaskedData, mask_value}
pub use Rattle.rtui_text.specs.LineHead.{line_head, text_head}
pub use Rattle.rtui_text.specs.Hashing.{text_Alike, char_Alike}
