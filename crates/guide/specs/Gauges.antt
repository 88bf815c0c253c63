-- A gauge: what it makes of a buffer, and what a screen then shows.
use Rattle.std.specs.Prelude.{ℕ, ◌+◌, min, List}
use Rattle.ratatui_core.specs.{Layout.Rect, Layout.corner, Widgets.OnPart}
use Rattle.ratatui_core.specs.Buffer.{BufferData, Grid, Piece, IsEmptied, IsSettledBuffer, PaintsOnBar}
use Rattle.ratatui_core.specs.Buffer.{ShowsPieces, bar_of, bar_cell, line_pieces_at}
use Rattle.guide.specs.declared.gauge.Gauge.{Gauge}

-- how many columns of an area's first row the bar fills
abbrev pub filled_of : Gauge → Rect → ℕ
filled_of gauge area = min gauge.filled area.width

-- the label's pieces in a buffer of some area, in at most the columns of a part of it
abbrev pub label_pieces : Gauge → Rect → Rect → List Piece
label_pieces gauge part own = line_pieces_at own part.x part.width gauge.label

-- the bar's style laid over its columns, and on them the label, from the corner on
abbrev pub PaintsGauge : Gauge → Rect → BufferData → BufferData → Type 0
PaintsGauge gauge part = PaintsOnBar (bar_of (filled_of gauge part) part) gauge.style (corner part)
    (label_pieces gauge part)

-- a gauge over an area, as far as the buffer has it; a screen can show it on an empty buffer
pub record RendersGauge (gauge : Gauge) (area : Rect) (old new : BufferData) : Type 0 where
  pub painted : OnPart (PaintsGauge gauge) area old new
  pub settled : IsEmptied old.area old → IsSettledBuffer new

-- the grid shows a gauge in the first row of an area: the label's graphemes one after the other, the bar if
-- no label stands
abbrev pub ShowsGauge : Gauge → Rect → Grid → Type 0
ShowsGauge gauge area = ShowsPieces (corner area) area.width (label_pieces gauge area area)
    (bar_cell gauge.style (area.x + filled_of gauge area))
