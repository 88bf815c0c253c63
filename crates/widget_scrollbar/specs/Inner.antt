-- What the functions of a scroll bar promise one another.
use Rattle.std.specs.Prelude.{ℕ, ◌<◌}
use Rattle.ratatui_core.specs.{Layout.Rect, Layout.HasPosition}
use Rattle.widget_scrollbar.specs.{declared.scrollbar.Marks.Marks, Scrollbars.position_on_bar}

-- the first n places of a bar stand in an area
abbrev pub StandsIn : Marks → ℕ → Rect → Type 0
StandsIn m n r = (k : ℕ) → k < n → HasPosition r (position_on_bar m k)
