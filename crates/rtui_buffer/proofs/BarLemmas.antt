-- A bar in the first row of an empty buffer, pieces painted on it, and a screen that shows them.
use Rattle.std.proofs.Common.{◌≡◌, ℕ, ◌+◌, ◌-◌, ◌<◌, ◌≤◌, inl, inr, true, false, List, take, refl, ap, subst, ◌∙◌, arith, nat_lt}
use Rattle.std.proofs.lemmas.{Bool.cases_lt, Bool.cond_both, Bool.Decides.nat_tests}
use Rattle.rtui_geometry.specs.{declared.position.Position.Position, declared.rect.Rect.Rect, Rect.HasPosition, Rect.EdgesFit}
use Rattle.rtui_geometry.specs.{Rect.corner}
use Rattle.rtui_style.specs.declared.Style.{Style}
use Rattle.rtui_cell.specs.{Look.look_of, Cell.empty_cell, Cell.styled, Cell.is_skipped, Grid.Grid}
use Rattle.rtui_buffer.specs.BufferData.{BufferData, IsEmptied, HasRow, cell_in, cell_index, area_size, position_of}
use Rattle.rtui_buffer.specs.{Shown.ShowsBuffer, PaintedText.IsStyled, PaintedText.PaintsPieces}
use Rattle.rtui_buffer.specs.Painting.{Piece, columns, shown, piece_at}
use Rattle.rtui_buffer.specs.Bar.{PaintsOnBar, ShowsPieces, bar_of, bar_cell}
use Rattle.rtui_buffer.proofs.{EmptyLemmas.cell-empty, ShownLemmas.look-painted, ShownLemmas.look-beside}

-- the bar takes n columns
module _ (r : Rect) (n : ℕ) (style : Style) (ps : List Piece) (old under new : BufferData) (g : Grid) (edges : EdgesFit r)
    (some : 0 < r.height) (emptied : IsEmptied r old)
    (fits : columns ps ≤ r.width) (bar : IsStyled (bar_of n r) style old under) (painted : PaintsPieces (corner r) ps under new)
    (shows : ShowsBuffer new g) where
  area-is : under.area ≡ r
  area-is = bar.area ∙ emptied.area

  row : HasRow under.area r.y
  row = rw area-is (record { top = omega arith; bottom = omega arith })

  left : under.area.x ≤ r.x
  left = rw area-is (omega arith)

  ends : columns ps ≤ under.area.x + under.area.width - r.x
  ends = rw area-is (omega arith)

  module _ (a : ℕ) (from : r.x ≤ a) (to : a < r.x + r.width) where
    abbrev q : Position
    q = position_of (a, r.y)

    has : HasPosition r q
    has = omega arith

    has-under : HasPosition under.area q
    has-under = rw area-is has

    known : cell_in under q ≡ bar_cell style (r.x + n) a
    known =
        let has-old : HasPosition old.area q = rw emptied.area has in
        let blank : cell_in old q ≡ empty_cell = rw emptied.cells (cell-empty (area_size r) (cell_index old.area q)) in
        elim (cases_lt a (r.x + n)) [
          | inl lt ↦
              let yes : nat_lt a (r.x + n) ≡ true = grind (arith, nat_tests, lt) in
              rw yes (bar.inside q has-old (omega arith) ∙ ap (styled style) blank)
          | inr ge ↦
              let no : nat_lt a (r.x + n) ≡ false = grind (arith, nat_tests, ge) in
              rw no (bar.outside q has-old (λ h. absurd (omega arith)) ∙ blank)
        ]

    plain : is_skipped (cell_in under q) ≡ false
    unfolding is_skipped
    plain = rw known (cond_both (nat_lt a (r.x + n)) _ empty_cell (λ c. is_skipped c ≡ false) (λ _. refl) (λ _. refl))

  shows-there : ShowsPieces (corner r) r.width ps (bar_cell style (r.x + n)) g
  shows-there = record {
    pieces = λ k k_in to.
        let a = r.x + columns (take k ps) in
        look-painted (corner r) ps under new g row left ends painted shows k k_in (has-under a (omega arith) to)
        (plain a (omega arith) to)
        ∙ ap (λ c. look_of (shown (piece_at ps k) c)) (known a (omega arith) to);
    beside = λ a behind to.
        look-beside (corner r) ps under new g row left ends painted shows (position_of (a, r.y)) (has-under a (omega arith) to)
        (λ _. inr behind) (plain a (omega arith) to)
        ∙ ap look_of (known a (omega arith) to);
  }

-- on a screen that shows an empty buffer with a bar and pieces on it; if there is no column, nothing was painted
pub ShowsPieces-bar : (r : Rect) (n : ℕ) (style : Style) (pieces : Rect → List Piece) (old new : BufferData) (g : Grid)
    → EdgesFit r → 0 < r.height → IsEmptied r old → columns (pieces r) ≤ r.width
    → (0 < r.width → PaintsOnBar (bar_of n r) style (corner r) pieces old new) → ShowsBuffer new g
    → ShowsPieces (corner r) r.width (pieces r) (bar_cell style (r.x + n)) g
ShowsPieces-bar r n style pieces old new g edges some emptied fits paints shows =
    let by : 0 < r.width → ShowsPieces (corner r) r.width (pieces r) (bar_cell style (r.x + n)) g = λ wide.
    let p = paints wide in
    shows-there r n style (pieces r) old p.under new g edges some emptied fits p.laid
    (subst (λ q. PaintsPieces (corner r) (pieces q) p.under new) (p.laid.area ∙ emptied.area) p.painted) shows in
    record {
      pieces = λ k k_in to. (by (omega arith)).pieces k k_in to;
      beside = λ a behind to. (by (omega arith)).beside a behind to;
    }
