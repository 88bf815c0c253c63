-- A label on an empty buffer, by columns.
use Rattle.std.proofs.Common.{◌≡◌, ◌+◌, ◌-◌, ◌≤◌, List, take, refl, ap, ◌∙◌, arith, false}
use Rattle.ratatui_core.specs.Layout.{Position, Rect, HasPosition}
use Rattle.ratatui_core.specs.Buffer.{look_of, empty_cell, is_skipped, Grid, cell_in, cell_index, area_size, Piece, columns}
use Rattle.ratatui_core.specs.Buffer.{shown, piece_at, right_by, HasRow}
use Rattle.ratatui_core.proofs.BufferLemmas.{cell-empty, shown-look, PaintsByColumns-paints}
use Rattle.guide.specs.Labels.{ShowsLabel, StandsAt}

skip-shown : (p : Piece) → is_skipped (shown p empty_cell) ≡ false
unfolding is_skipped
skip-shown p = refl

pub stands : (area : Rect) (p : Position) (ps : List Piece) (g : Grid) → HasPosition area p
    → columns ps ≤ area.x + area.width - p.x → ShowsLabel area p ps g → StandsAt area p ps g
stands area p ps g has fits shows =
    let e : shows.blank.area ≡ area = shows.emptied.area in
    let row : HasRow shows.blank.area p.y = rw e (record { top = has.top; bottom = let b = has.bottom in omega arith }) in
    let by = PaintsByColumns-paints p ps shows.blank shows.sheet row (rw e has.left) (rw e fits) shows.painted in
    record {
      looks = λ k k_in inside.
          let q = right_by (columns (take k ps)) p in
          let blank : cell_in shows.blank q ≡ empty_cell =
          rw shows.emptied.cells (cell-empty (area_size area) (cell_index shows.blank.area q)) in
          let is : cell_in shows.sheet q ≡ shown (piece_at ps k) empty_cell = by.starts k k_in
          ∙ ap (shown (piece_at ps k)) blank in
          let over : shows.sheet.area ≡ area = shows.painted.area ∙ e in
          shown-look shows.sheet g q shows.shown (rw over inside) (rw is (skip-shown (piece_at ps k))) ∙ ap look_of is;
    }
