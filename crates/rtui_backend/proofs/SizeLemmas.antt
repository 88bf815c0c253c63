-- A block of cells that moves to a list of empty ones, and a row cut out of a list.
use Rattle.std.proofs.Common.{◌≡◌, ℕ, ◌+◌, ◌*◌, ◌<◌, ◌/◌, ◌%◌, ◌&&◌, min, nat_lt, if◌then◌else◌, List, length, map, take, drop}
use Rattle.std.proofs.Common.{subst, ap, ◌∙◌, sym, arith, inl, inr, mul_comm}
use Rattle.std.proofs.Math.Nat.{div-add-mod}
use Rattle.std.specs.List.{range_with_len}
use Rattle.std.proofs.lemmas.{Bool.cases_lt, Bool.cond_both, Bool.Decides.nat_tests, List.get_or-take, List.get_or-drop}
use Rattle.std.proofs.lemmas.{List.length-map, List.length-take, List.length-drop, List.FromFn.fill_by_all}
use Rattle.rtui_grid.specs.{declared.block.Block.Block, Blocks.is_in_block, Blocks.HasBlock}
use Rattle.rtui_grid.proofs.{ItemLemmas.past_end, PlaceLemmas.row_ends}
use Rattle.rtui_cell.specs.{declared.cell.Cell.Cell, Cell.empty_cell, Cell.IsUnmarked, Look.look_of, Look.empty_look}
use Rattle.rtui_cell.proofs.CellLemmas.{look-empty}
use Rattle.rtui_diff.specs.Cells.{cell}
use Rattle.rtui_backend.specs.CellGrid.{look_at, grid_of, AreUnmarked}
use Rattle.rtui_backend.proofs.{LineLemmas.look_at-cell, LineLemmas.grid-cell, PlainLemmas.unmarked-empty}

-- the columns and rows that two sizes share
abbrev pub shared : ℕ → ℕ → ℕ → ℕ → Block
shared w h v g = record { left = 0; top = 0; columns = min w v; rows = min h g }

module _ (w h v g : ℕ) (old blank new : List Cell) (none : (k : ℕ) → cell blank k ≡ empty_cell)
    (is : HasBlock empty_cell v (shared w h v g) w old blank new) where
  -- the grid of cells that were moved
  pub taken-grid : (a b : ℕ) → a < v → b < g
      → grid_of v new a b ≡ (if nat_lt a w then (if nat_lt b h then grid_of w old a b else empty_look) else empty_look)
  taken-grid a b a_in b_in =
      let moved = is.at a b a_in in
      let blank_there = none (b * v + a) in
      let here : cell new (b * v + a) ≡ (if nat_lt a w && nat_lt b h then cell old (b * w + a) else empty_cell) =
      grind (arith, nat_tests) in
      grid-cell v a b new a_in ∙ ap look_of here ∙ elim (cases_lt a w) [
        | inl within ↦ let was = grid-cell w a b old within in grind (arith, nat_tests, look-empty)
        | inr outside ↦ grind (arith, nat_tests, look-empty)
      ]

  pub taken-unmarked : length new ≡ v * g → AreUnmarked old → AreUnmarked new
  taken-unmarked size plain i = elim (cases_lt 0 v) [
    | inl some ↦
        let place : i / v * v + i % v ≡ i = omega (arith, div-add-mod i v) in
        subst (λ k. IsUnmarked (cell new k)) place (rw (is.at (i % v) (i / v) (omega arith))
        (cond_both (is_in_block (shared w h v g) (i % v) (i / v)) _ _ IsUnmarked (λ _. plain _)
        (λ _. rw (none (i / v * v + i % v)) unmarked-empty)))
    | inr no_column ↦ let none : v ≡ 0 = omega arith in let count : length new ≡ 0 * g = rw none at size in
        rw (past_end empty_cell new i (omega arith)) unmarked-empty
  ]

-- a row of cells cut out of a list
pub row-look : (n start a : ℕ) (cells : List Cell) → a < n → look_at (take n (drop start cells)) a ≡ look_at cells (start + a)
row-look n start a cells a_in =
    look_at-cell (take n (drop start cells)) a ∙ ap look_of (get_or-take n (drop start cells) a empty_cell a_in
    ∙ get_or-drop start cells a empty_cell) ∙ sym (look_at-cell cells (start + a))

-- and its looks
pub row-looks : (w h b : ℕ) (cells : List Cell) → length cells ≡ w * h → b < h →
    map look_of (take w (drop (b * w) cells)) ≡ map (λ a. if nat_lt b h then grid_of w cells a b else empty_look)
    (range_with_len 0 w)
row-looks w h b cells size b_in =
    let end = row_ends w b h b_in in
    let d = length-drop (b * w) cells in
    let whole : h * w ≡ w * h = mul_comm h w in
    fill_by_all (λ a. if nat_lt b h then grid_of w cells a b else empty_look)
    (map look_of (take w (drop (b * w) cells))) w empty_look
    (length-map (take w (drop (b * w) cells)) look_of ∙ length-take w (drop (b * w) cells) ∙ omega arith)
    (λ a a_in. row-look w (b * w) a cells a_in ∙ grind (arith, nat_tests))
