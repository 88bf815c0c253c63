-- What private functions promise one another.
use Rattle.std.specs.Prelude.{◌≡◌, ◌+◌, ◌-◌, min, if◌then◌else◌}
use Rattle.ratatui_core.specs.Layout.{Rect, Position, has_position}
use Rattle.ratatui_core.specs.Buffer.{BufferData, Cell, IsShort, symbol_text}
use Rattle.widget_scroll_view.specs.declared.window.Window.{Window}
use Rattle.widget_scroll_view.specs.{Places.content_position, ScrollViews.shown_cell}

-- a position of the grid that is as far in a content, as far as the grid goes
pub record IsSource (content : BufferData) (offset : Position) (area : Rect) (p q : Position) : Type 0 where
  pub x : q.x ≡ min (content.area.x + offset.x + (p.x - area.x)) 65535
  pub y : q.y ≡ min (content.area.y + offset.y + (p.y - area.y)) 65535

-- what a window shows at a position: the content's cell, or the cell that is there, where the content has none
abbrev pub window_cell : Window → Position → Cell → Cell
window_cell w p c =
    if has_position w.content.now.area (content_position w.content.now w.offset w.area p)
    then shown_cell w.content.now w.offset w.area p else c

-- it takes no memory
abbrev pub IsLightWindow : Window → Position → Cell → Type 0
IsLightWindow w p c = IsShort (symbol_text (window_cell w p c).symbol)
