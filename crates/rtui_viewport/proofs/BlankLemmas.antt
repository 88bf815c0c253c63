-- What empty cells leave that are drawn over an area.
use Rattle.std.proofs.Common.{◌≡◌, ℕ, zero, suc, ◌<◌, List, [], ◌∷◌, map, refl, ◌∙◌, arith, inl, inr}
use Rattle.std.proofs.Common.{if◌then◌else◌}
use Rattle.std.specs.List.{Contains}
use Rattle.std.proofs.lemmas.{Bool.Decides.nat_tests}
use Rattle.rtui_geometry.specs.{declared.position.Position.Position, declared.rect.Rect.Rect, Rect.EdgesFit, Rows.ListsPositions}
use Rattle.rtui_cell.specs.{Look.empty_look, Grid.Grid, Grid.put, Grid.puts}
use Rattle.rtui_cell.proofs.CellLemmas.{look-empty, width-empty}
use Rattle.rtui_geometry.{specs.Rect.has_position, proofs.PositionTests.decide_position}
use Rattle.rtui_viewport.specs.{Remaining.blank_at}

abbrev at : ℕ → ℕ → Position
at a b = record { x = a; y = b }

module _ (w h : ℕ) where
  -- an empty cell empties its own column
  put_here : (g : Grid) (a b : ℕ) → a < w → b < h → put w h (blank_at (at a b)) g a b ≡ empty_look
  put_here g a b a_in b_in = let look = look-empty in grind (arith, nat_tests)

  -- and no other
  put_away : (p : Position) (g : Grid) (a b : ℕ) → (p ≡ at a b → ⊥) → put w h (blank_at p) g a b ≡ g a b
  put_away p g a b other =
      let one = width-empty in
      let off : a ≡ p.x → b ≡ p.y → ⊥ = λ x y. other (rw (x, y) refl) in
      grind (arith, nat_tests)

  -- an empty column stays so
  put_empty : (p : Position) (g : Grid) (a b : ℕ) → g a b ≡ empty_look → put w h (blank_at p) g a b ≡ empty_look
  put_empty p g a b was = let look = look-empty in grind (arith, nat_tests)

  puts_empty : (ps : List Position) (g : Grid) (a b : ℕ) → g a b ≡ empty_look → puts w h (map blank_at ps) g a b ≡ empty_look
  puts_empty [] g a b was = was
  puts_empty (p ∷ ps) g a b was = puts_empty ps (put w h (blank_at p) g) a b (put_empty p g a b was)

  puts_here : (ps : List Position) (g : Grid) (a b : ℕ) → a < w → b < h → Contains ps (at a b)
      → puts w h (map blank_at ps) g a b ≡ empty_look
  puts_here [] g a b a_in b_in (k, low, e) = absurd (omega (arith, low))
  puts_here (p ∷ ps) g a b a_in b_in (zero, low, e) = puts_empty ps (put w h (blank_at p) g) a b (rw e (put_here g a b a_in b_in))
  puts_here (p ∷ ps) g a b a_in b_in (suc k, low, e) = puts_here ps (put w h (blank_at p) g) a b a_in b_in (
    k,
    omega (arith, low),
    e,
  )

  puts_away : (ps : List Position) (g : Grid) (a b : ℕ) → (Contains ps (at a b) → ⊥) → puts w h (map blank_at ps) g a b ≡ g a b
  puts_away [] g a b other = refl
  puts_away (p ∷ ps) g a b other =
      puts_away ps (put w h (blank_at p) g) a b (λ c. other (suc c.0, omega (arith, c.1), c.2))
      ∙ put_away p g a b (λ e. other (zero, omega arith, e))

-- drawn over an area that lies on the grid
pub blanks_over : (r : Rect) (w h : ℕ) (ps : List Position) → EdgesFit r → ListsPositions r ps
    → (g : Grid) (a b : ℕ) → a < w → b < h
    → puts w h (map blank_at ps) g a b ≡ if has_position r (at a b) then empty_look else g a b
blanks_over r w h ps fits lists g a b a_in b_in = elim (decide_position r (at a b)) [
  | inl (within, is) ↦ rw is (puts_here w h ps g a b a_in b_in ((lists.each (at a b)).1 within))
  | inr (out, is) ↦ rw is (puts_away w h ps g a b (λ c. out ((lists.each (at a b)).0 c)))
]
