-- Grids of looks, and what one put does to them.
use Rattle.std.specs.Prelude.{ℕ, ◌+◌, ◌&&◌, nat_lt, nat_eq, if◌then◌else◌, List, [], ◌∷◌}
use Rattle.rtui_cell.specs.{Look.Look, Look.look_of, Look.empty_look, Cell.width_of, declared.cell.Cell.Cell}

-- the look in a column and a row
abbrev pub Grid : Type 0
Grid = ℕ → ℕ → Look

-- a cell to be put in a column and a row
pub record Update : Type 0 where
  pub x : ℕ
  pub y : ℕ
  pub cell : Cell

-- the update that an item stands for, where `view` reads the cell of what it carries
abbrev pub update_by : {C : Type 0} → (C → Cell) → ℕ × ℕ × C → Update
update_by view item = record { x = item.0; y = item.1; cell = view item.2 }

-- a put on a grid of w columns and h rows: the cell's column gets its look, the columns of the row after it
-- that the cell covers the empty look, and off the grid nothing changes
abbrev pub put : ℕ → ℕ → Update → Grid → Grid
put w h u g a b =
    if nat_lt u.x w && nat_lt u.y h && nat_eq b u.y then
    (if nat_eq a u.x then look_of u.cell
    else (if nat_lt u.x a && nat_lt a (u.x + width_of u.cell) && nat_lt a w then empty_look else g a b))
    else g a b

-- the updates, put in order
abbrev pub puts : ℕ → ℕ → List Update → Grid → Grid
puts w h [] g = g
puts w h (u ∷ us) g = puts w h us (put w h u g)
