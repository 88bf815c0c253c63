-- A line that a widget may have: a title, a label, a symbol.
use Rattle.ratatui_core.specs.{Layout.Rect, Text.LineData, Buffer.BufferData}
use Rattle.ratatui_core.specs.Widgets.{RendersShortLine}

-- a line takes no memory, wherever it stands
abbrev pub IsShortTitle : LineData → Type 0
IsShortTitle line = (area : Rect) (s : BufferData) → RendersShortLine line area s
