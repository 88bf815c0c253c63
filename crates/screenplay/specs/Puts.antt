-- Characters set on a buffer.
use Rattle.std.specs.Prelude.{ℕ, if◌then◌else◌, List, [], ◌∷◌, Some, encode_utf8}
use Rattle.rtui_geometry.specs.{Rect.has_position}
use Rattle.rtui_buffer.specs.BufferData.{BufferData, cell_in, with_cell, position_of}

-- a buffer after a character was set at a place of the screen; outside its area nothing changes
abbrev pub with_put : ℕ × ℕ × ℕ → BufferData → BufferData
with_put put s =
    if has_position s.area (position_of (put.0, put.1))
    then with_cell s (position_of (put.0, put.1))
    (record (cell_in s (position_of (put.0, put.1))) { symbol = Some (encode_utf8 put.2) })
    else s

abbrev pub with_puts : List (ℕ × ℕ × ℕ) → BufferData → BufferData
with_puts [] s = s
with_puts (put ∷ puts) s = with_puts puts (with_put put s)
