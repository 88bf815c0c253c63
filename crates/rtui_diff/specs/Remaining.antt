-- What a diff has still to give.
use Rattle.std.specs.Prelude.{ℕ, ◌-◌, List, map}
use Rattle.rtui_diff.specs.{DiffRule.given, Updates.update_at, declared.diff.DiffWalk.DiffWalk}
use Rattle.rtui_cell.specs.Grid.{Update}

-- the places that a diff has left
abbrev pub places_left : DiffWalk → List ℕ
places_left d = given d.prev.now d.next.now (d.len - d.pos) (record {
  over = 0;
  left = d.end - d.pos;
  force = d.force;
}) d.pos

-- the updates that a diff has left
abbrev pub updates_left : DiffWalk → List Update
updates_left d = map (update_at d.x d.y d.width d.next.now) (places_left d)
