-- What the functions of a table promise one another.
use Rattle.std.specs.Prelude.{◌+◌, ◌≤◌, ◌<◌}
use Rattle.ratatui_core.specs.{Layout.Rect}

-- an area with columns, whose edges are at most 65535
pub record IsTableArea (r : Rect) : Type 0 where
  pub columns : 0 < r.width
  pub across : r.x + r.width ≤ 65535
  pub down : r.y + r.height ≤ 65535
