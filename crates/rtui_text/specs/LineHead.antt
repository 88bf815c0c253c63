-- What a line has besides its spans, and a text besides its lines.
use Rattle.rtui_text.specs.{declared.line.LineHead.LineHead, Text.LineData, Text.TextData}

-- its style and its alignment
abbrev pub line_head : LineData → LineHead
line_head l = record { style = l.style; alignment = l.alignment }

abbrev pub text_head : TextData → LineHead
text_head t = record { style = t.style; alignment = t.alignment }
