-- Where a popup stands in an area.
use Rattle.std.specs.Prelude.{ℕ, ◌+◌, ◌-◌, ◌/◌, min, length}
use Rattle.ratatui_core.specs.{Layout.Rect, Text.widest}
use Rattle.widget_boxes.specs.Framed.{inner_if, columns_around_if, rows_around_if}
use Rattle.widget_popup.specs.declared.popup.Popup.{Popup}

-- so many columns and rows in the middle of an area, or all that it has; what is odd is left at the right and
-- below
abbrev pub middle_of : ℕ → ℕ → Rect → Rect
middle_of columns rows r = record {
  x = min (r.x + (r.width - columns) / 2) 65535;
  y = min (r.y + (r.height - rows) / 2) 65535;
  width = min columns r.width;
  height = min rows r.height;
}

-- how many columns and rows a popup wants: as many as its text takes, with its box
abbrev pub columns_wanted : Popup → ℕ
columns_wanted p = widest p.text.lines + columns_around_if p.block

abbrev pub rows_wanted : Popup → ℕ
rows_wanted p = length p.text.lines + rows_around_if p.block

-- where a popup stands in an area
abbrev pub popup_area : Popup → Rect → Rect
popup_area p = middle_of (columns_wanted p) (rows_wanted p)

-- where its text stands
abbrev pub popup_inner : Popup → Rect → Rect
popup_inner p r = inner_if p.block (popup_area p r)
