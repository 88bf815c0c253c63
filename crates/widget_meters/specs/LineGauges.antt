-- A gauge in one row: a label, and a line that is filled up to a column.
use Rattle.std.specs.Prelude.{◌≡◌, ℕ, ◌+◌, ◌≤◌, nat_lt, min, List, Option, Some, None, if◌then◌else◌}
use Rattle.ratatui_core.specs.Layout.{Rect, Position}
use Rattle.ratatui_core.specs.{Style.new_style, Text.LineData}
use Rattle.ratatui_core.specs.Buffer.{BufferData, Cell, Piece, styled, with_symbol, text_pieces, line_pieces}
use Rattle.ratatui_core.specs.Buffer.{columns, IsShort, text_width}
use Rattle.rtui_drawing.specs.{declared.cut.Cut.Cut, Cuts.cut_from}
use Rattle.rtui_drawing.specs.declared.cut.Cut.TheVariants.{After, Rows}
use Rattle.rtui_drawing.specs.Drawings.{Drawing, over, ◌before◌, put_pieces, put_change}
use Rattle.rtui_inside.specs.Inside.{DrawsInside, LeavesInside, IsShortInside}
use Rattle.widget_meters.specs.{declared.line_gauge.LineGauge.LineGauge, declared.line_gauge.LineFill.LineFill}
use Rattle.widget_meters.specs.{declared.line_gauge.TheConstants.PLAIN_LINE}
use Rattle.widget_meters.specs.Shares.{share_of, filled_part, even_percent_text}

-- an empty gauge of plain lines, without box, label and styles
pub record IsNewLineGauge (g : LineGauge) : Type 0 where
  pub no_box : g.block ≡ None
  pub nothing : g.share ≡ share_of 0 1
  pub unlabelled : g.label ≡ None
  pub filled_line : g.filled_symbol.now ≡ PLAIN_LINE.now
  pub unfilled_line : g.unfilled_symbol.now ≡ PLAIN_LINE.now
  pub unstyled : g.style ≡ new_style
  pub unstyled_filled : g.filled_style ≡ new_style
  pub unstyled_unfilled : g.unfilled_style ≡ new_style

-- the pieces of a label in so many columns: without a label those of the percentage
abbrev pub pieces_of_label : LineGauge → Option LineData → ℕ → List Piece
pieces_of_label g None room = text_pieces room new_style (even_percent_text g.share)
pieces_of_label g (Some label) room = line_pieces room label.style label.spans

abbrev pub line_label_pieces : LineGauge → ℕ → List Piece
line_label_pieces g room = pieces_of_label g g.label room

-- the part of a row in which the line stands: it begins one column after the label
abbrev pub line_cut : LineGauge → ℕ → Cut
line_cut g room = After (min (columns (line_label_pieces g room) + 1) 65535)

-- how the line is filled in its part
abbrev pub line_fill : LineGauge → Rect → LineFill
line_fill g part = record {
  end = min (part.x + filled_part g.share part.width) 65535;
  filled_symbol = g.filled_symbol;
  unfilled_symbol = g.unfilled_symbol;
  filled_style = g.filled_style;
  unfilled_style = g.unfilled_style;
}

-- a cell of the line: the one symbol before its end, and the other one from there on, each in its style
abbrev pub line_cell : LineFill → Position → Cell → Cell
line_cell f p c =
    if nat_lt p.x f.end then styled f.filled_style (with_symbol f.filled_symbol.now c) else styled
    f.unfilled_style (with_symbol f.unfilled_symbol.now c)

-- both symbols are short
abbrev pub HasShortLine : LineGauge → Type 0
HasShortLine g = IsShort g.filled_symbol.now × IsShort g.unfilled_symbol.now

-- in the first row of an area the label, and after it the line
abbrev pub line_gauge_drawing : LineGauge → Rect → Drawing
line_gauge_drawing g r =
    let part = cut_from (line_cut g r.width) (cut_from (Rows 0 1) r) in
    over (Rows 0 1) (put_pieces (line_label_pieces g r.width)
    before over (line_cut g r.width) (put_change (line_cell (line_fill g part)) (λ _ _. HasShortLine g)))

-- A line gauge over the part of an area that a buffer has: its style, its box, and inside the label and the
-- line. Nothing outside the area changes.
abbrev pub RendersLineGauge : LineGauge → Rect → BufferData → BufferData → Type 0
RendersLineGauge g = DrawsInside g.style g.block (line_gauge_drawing g)

-- what a refusal leaves: if the box takes no memory, it stands, and a front of the label
abbrev pub LeavesLineGauge : LineGauge → Rect → BufferData → BufferData → Type 0
LeavesLineGauge g = LeavesInside g.style g.block (line_gauge_drawing g)

-- both symbols take at most one column
pub record HasNarrowLine (g : LineGauge) : Type 0 where
  pub filled : text_width g.filled_symbol.now ≤ 1
  pub unfilled : text_width g.unfilled_symbol.now ≤ 1

-- it takes no memory if its box takes none and all that it shows is short
abbrev pub IsShortLineGauge : LineGauge → Rect → BufferData → Type 0
IsShortLineGauge g = IsShortInside g.block (line_gauge_drawing g)
