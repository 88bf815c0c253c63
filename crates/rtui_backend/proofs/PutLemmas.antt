-- A cell placed in a row-major list is put on the grid.
use Rattle.std.proofs.Common.{◌≡◌, ℕ, ◌+◌, ◌*◌, ◌<◌, min, max, ◌==◌, ◌&&◌, nat_lt, if◌then◌else◌, List, inl, inr, arith}
use Rattle.std.proofs.lemmas.{Bool.cases_lt, Bool.Decides.nat_tests}
use Rattle.rtui_cell.specs.{declared.cell.Cell.Cell, Look.look_of, Look.empty_look, Cell.width_of, Grid.Update, Grid.put}
use Rattle.rtui_backend.specs.CellGrid.{look_at, grid_of}
use Rattle.rtui_grid.proofs.PlaceLemmas.{by_rows}

module _ (w h : ℕ) (u : Update) (old new : List Cell) (x_in : u.x < w) (y_in : u.y < h)
    (placed : (k : ℕ) → look_at new k ≡ if k == u.y * w + u.x then look_of u.cell else (if nat_lt (u.y * w + u.x) k && nat_lt k
    (u.y * w + min (max (u.x + width_of u.cell) (u.x + 1)) w) then empty_look else look_at old k)) where
  at_row : (a : ℕ) → a < w → grid_of w new a u.y ≡ put w h u (grid_of w old) a u.y
  at_row a in_row = rw (placed (u.y * w + a)) (grind (arith, nat_tests))

  pub put_shows : (a b : ℕ) → grid_of w new a b ≡ put w h u (grid_of w old) a b
  put_shows a b = elim (cases_lt a w) [
    | inl in_row ↦ by_rows _ w b u.y (λ p q. rw (placed (b * w + a)) (grind (arith, nat_tests)))
        (λ p q. rw (placed (b * w + a)) (grind (arith, nat_tests))) (λ e. rw e (at_row a in_row))
    | inr past ↦ grind (arith, nat_tests)
  ]
