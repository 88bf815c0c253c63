-- What private functions promise one another.
use Rattle.std.specs.Prelude.{◌≡◌, ◌<◌, ◌≤◌, ℕ}
use Rattle.text_area.specs.{Lines.feeds, Lines.nth_start, Areas.area_text}
use Rattle.widget_area.specs.declared.widget.TextAreaWidget.{TextAreaWidget}

-- a line of the text begins at a byte, and each of its rows has some columns
pub record IsAtLine (w : TextAreaWidget) (stride i start : ℕ) : Type 0 where
  pub some : 0 < stride
  pub within : i ≤ feeds (area_text w.text.now)
  pub begins : start ≡ nth_start i (area_text w.text.now)
