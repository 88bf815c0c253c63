-- Parts of an area, each of which lies in it.
use Rattle.std.specs.Prelude.{◌+◌, ◌-◌, ◌/◌, min}
use Rattle.rtui_geometry.specs.{declared.rect.Rect.Rect, Rect.intersected}
use Rattle.rtui_drawing.specs.declared.cut.Cut.{Cut}
use Rattle.rtui_drawing.specs.declared.cut.Cut.TheVariants.{First, After, Last, BeforeLast, Middle, Rows, Below, Above, Within}

-- the part that a cut leaves of an area: its first columns, or those after these; its last columns, or those
-- before these; columns in its middle; some rows; those below the first ones, or above the last ones; or what
-- another area has of it
abbrev pub cut_from : Cut → Rect → Rect
cut_from (First n) r = record r { width = min n r.width }
cut_from (After n) r = record r { x = min (r.x + n) 65535; width = r.width - n }
cut_from (Last n) r = record r { x = min (r.x + (r.width - n)) 65535; width = min n r.width }
cut_from (BeforeLast n) r = record r { width = r.width - n }
cut_from (Middle n) r = record r { x = min (r.x + (r.width - n) / 2) 65535; width = min n r.width }
cut_from (Rows y n) r = record r { y = min (r.y + y) 65535; height = min n (r.height - y) }
cut_from (Below n) r = record r { y = min (r.y + n) 65535; height = r.height - n }
cut_from (Above n) r = record r { height = r.height - n }
cut_from (Within other) r = intersected r other
