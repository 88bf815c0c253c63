-- Moves of a column or a row by a signed number.
use Rattle.std.specs.Prelude.{ℕ, ℤ, pos, negsuc, ◌+◌, ◌-◌, min, neg_ℤ}
use Rattle.rtui_geometry.specs.{declared.offset.Offset.Offset, declared.position.Position.Position}
use Rattle.rtui_geometry.specs.{declared.rect.Rect.Rect}

-- a column or a row moved by a number, and kept from 0 up to a limit
abbrev pub moved : ℕ → ℤ → ℕ → ℕ
moved at (pos n) limit = min (at + n) limit
moved at (negsuc n) limit = min (at - (n + 1)) limit

-- the offset in the other direction
abbrev pub opposite : Offset → Offset
opposite o = record { x = neg_ℤ o.x; y = neg_ℤ o.y }

-- the rectangle moved by the offset: its size stays, and so its edges stay on the grid
abbrev pub moved_rect : Rect → Offset → Rect
moved_rect r o = record r { x = moved r.x o.x (65535 - r.width); y = moved r.y o.y (65535 - r.height) }

-- the position moved by the offset, as far as the grid goes
abbrev pub moved_position : Position → Offset → Position
moved_position p o = record { x = moved p.x o.x 65535; y = moved p.y o.y 65535 }
