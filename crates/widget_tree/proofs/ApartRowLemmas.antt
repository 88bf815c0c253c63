-- A node's row on cells that are ready stands apart, with wide graphemes, too.
use Rattle.std.proofs.Common.{◌≡◌, ℕ, ◌+◌, ◌-◌, ◌<◌, ◌≤◌, ⊎_elim, inl, inr, min, Bool, true, false, List, refl, sym, ap, subst}
use Rattle.std.proofs.Common.{◌∙◌, arith, take}
use Rattle.std.proofs.lemmas.Bool.{cases_lt}
use Rattle.ratatui_core.specs.Layout.{Rect, Position, HasPosition, corner}
use Rattle.ratatui_core.specs.{Style.Style, Style.new_style, Text.LineData, Widgets.ChangesWithin}
use Rattle.ratatui_core.specs.Buffer.{BufferData, cell_in, position_of, empty_cell, width_of, IsUnmarked, IsPlain}
use Rattle.ratatui_core.specs.Buffer.{text_pieces, columns}
use Rattle.ratatui_core.proofs.BufferLemmas.{width-empty, changed-plain, Changes-within, within-wider, PaintsByColumns-paints}
use Rattle.rtui_buffer.specs.{Painting.Piece, Painting.piece_at, Painting.piece_width, Painting.shown}
use Rattle.rtui_buffer.specs.PaintedText.{PaintsByColumns}
use Rattle.rtui_buffer.proofs.SettledLemmas.{IsIn, is_in, width-shown}
use Rattle.widget_boxes.specs.Apart.{StandsApart, IsReadyIn, IsShowable}
use Rattle.widget_boxes.proofs.ApartLemmas.{IsMadeAt, made-plain, apart-made, ready-apart, ready-stays, ready-styled, ready-inside}
use Rattle.widget_boxes.proofs.ApartLemmas.{ready-beside, apart-part, apart-around, line-apart}
use Rattle.rtui_drawing.specs.{Cuts.cut_from, Drawings.DrawsAll, Drawings.WritesIn, Drawings.IsRowIn}
use Rattle.rtui_drawing.specs.declared.cut.Cut.TheVariants.{First, After}
use Rattle.rtui_drawing.proofs.{DrawingLemmas.cut-inside, DrawingLemmas.draws-within, WriteLemmas.row-after, WriteLemmas.text-fits}
use Rattle.widget_tree.specs.declared.{tree.Tree.Tree}
use Rattle.widget_tree.specs.Trees.{blank_in_place, mark_drawing, node_label, line_row_drawing}
use Rattle.widget_tree.proofs.NarrowTreeLemmas.{blank-plain}

-- ---- a text at the left of a row

empty-plain : IsPlain empty_cell
empty-plain = record { narrow = rw width-empty (omega arith); unmarked = record { option = refl; flag = refl } }

-- columns at the left of a row, and those after them
sides-apart : (n : ℕ) (r : Rect) (p : Position) → HasPosition (cut_from (After n) r) p → HasPosition (cut_from (First n) r) p → ⊥
sides-apart n r p a b = let e = b.right in let l = a.left in let t = a.right in omega arith

module _ (row : Rect) (style : Style) (text : List ℕ) (old new : BufferData) (one : row.height ≤ 1) (is_row : IsRowIn old.area row)
    (ready : IsReadyIn row old) (is : WritesIn row (text_pieces row.width style text) old new) where
  abbrev ps : List Piece
  ps = text_pieces row.width style text

  abbrev taken : Rect
  taken = cut_from (First (columns ps)) row

  fits : columns ps ≤ row.width
  fits = text-fits old.area row style text is_row

  by-columns : PaintsByColumns (corner row) ps old new
  by-columns = let l = is_row.left in let e = is_row.right in let le = fits in
      PaintsByColumns-paints (corner row) ps old new is_row.there is_row.left (omega arith) is.pieces

  pub text-within : ChangesWithin taken old new
  text-within = record {
    same_area = is.within.same_area;
    same_room = is.within.same_room;
    outside = λ p in_own off. by-columns.outside p in_own (λ same.
        let edge = is_row.edge in let down = is_row.down in let high = is_row.high in let le = fits in
        ⊎_elim
        (λ (before : p.x < row.x). inl before)
        (λ (from : row.x ≤ p.x).
        ⊎_elim
        (λ (there : p.x < row.x + columns ps). absurd (off (record {
          left = from;
          right = omega arith;
          top = omega arith;
          bottom = omega arith;
        })))
        (λ (past : row.x + columns ps ≤ p.x). inr past)
        (cases_lt p.x (row.x + columns ps)))
        (cases_lt p.x row.x));
  }

  -- a cell of the columns that it takes
  module _ (p : Position) (in_own : HasPosition old.area p) (here : HasPosition taken p) (in_piece : IsIn ps (p.x - row.x)) where
    abbrev at : ℕ
    at = columns (take in_piece.piece ps)

    has : HasPosition new.area p
    has = rw is.within.same_area in_own

    in-row : row.y ≡ p.y
    in-row = let t = here.top in let b = here.bottom in omega arith

    was : IsPlain (cell_in old p)
    was = ready.plain p in_own (cut-inside (First (columns ps)) row p here)

    edge : p.x + 1 ≤ new.area.x + new.area.width
    edge = let e = has.right in omega arith

    begins : in_piece.column ≡ 0 → IsMadeAt taken new p
    begins none =
        let place = in_piece.place in let ends = in_piece.ends in let l = here.left in let le = fits in
        let right = is_row.right in let down = is.within.same_area in
        let x : row.x + at ≡ p.x = omega arith in
        let start : cell_in new (position_of (row.x + at, row.y)) ≡ shown (piece_at ps in_piece.piece)
        (cell_in old (position_of (row.x + at, row.y))) = by-columns.starts in_piece.piece in_piece.in_list in
        let now : cell_in new p ≡ shown (piece_at ps in_piece.piece) (cell_in old p) = rw (x, in-row) at start in
        let w : width_of (cell_in new p) ≡ piece_width (piece_at ps in_piece.piece) =
        ap width_of now ∙ width-shown (piece_at ps in_piece.piece) (cell_in old p) was.unmarked in
        let own_right : row.x + row.width ≤ new.area.x + new.area.width = rw down right in
        record {
          unmarked = subst IsUnmarked (sym now) (record { option = was.unmarked.option; flag = was.unmarked.flag });
          within = omega arith;
          ends = omega arith;
          behind = λ m more less.
              let z : row.x + (at + (m - p.x)) ≡ m = omega arith in
              let under : cell_in new (position_of (row.x + (at + (m - p.x)), row.y)) ≡ empty_cell =
              by-columns.behind in_piece.piece (m - p.x) in_piece.in_list (omega arith) (omega arith) in
              rw (z, in-row) at under;
        }

    goes-on : 0 < in_piece.column → IsMadeAt taken new p
    goes-on some =
        let place = in_piece.place in let l = here.left in
        let x : row.x + (at + in_piece.column) ≡ p.x = omega arith in
        let under : cell_in new (position_of (row.x + (at + in_piece.column), row.y)) ≡ empty_cell =
        by-columns.behind in_piece.piece in_piece.column in_piece.in_list some in_piece.in_piece in
        let now : cell_in new p ≡ empty_cell = rw (x, in-row) at under in
        made-plain taken new (rw is.within.same_area ready.edges) p has here (subst IsPlain (sym now) empty-plain)

    made-at : IsMadeAt taken new p
    made-at =
        ⊎_elim (λ (some : 0 < in_piece.column). goes-on some) (λ (le : in_piece.column ≤ 0). begins (omega arith))
        (cases_lt 0 in_piece.column)

  pub text-stands : StandsApart taken new
  text-stands =
      let inside = ready-inside row taken old (cut-inside (First (columns ps)) row) ready in
      apart-made taken old new ready.edges ready.settled inside.unreached text-within
      (λ p in_own here. let l = here.left in let e = here.right in
      made-at p in_own here (is_in ps (p.x - row.x) (omega arith)))

  -- what is after it stays ready
  pub text-rest : IsReadyIn (cut_from (After (columns ps)) row) new
  text-rest =
      ready-beside row taken (cut_from (After (columns ps)) row) old new ready text-within text-stands
      (cut-inside (First (columns ps)) row) (cut-inside (After (columns ps)) row) (sides-apart (columns ps) row)

  pub text-around : StandsApart row new
  text-around = apart-part row taken old new (cut-inside (First (columns ps)) row) ready text-within text-stands

-- ---- a symbol and a line

label-stands : (symbol : List ℕ) (line : LineData) (row : Rect) (old new : BufferData) → row.height ≤ 1 → IsRowIn old.area row
    → IsShowable line → IsReadyIn row old → DrawsAll (node_label symbol line row.width) row old new → StandsApart row new
label-stands symbol line row old new one is_row shows ready is =
    let n = columns (text_pieces row.width new_style symbol) in
    let rest = cut_from (After n) row in
    let free = text-rest row new_style symbol old is.0 one is_row ready is.1 in
    apart-around row rest is.0 new (cut-inside (After n) row) (text-around row new_style symbol old is.0 one is_row ready is.1)
    is.2.within (line-apart line rest is.0 new shows free is.2)

-- ---- a row

row-first : (own row : Rect) (n : ℕ) → IsRowIn own row → IsRowIn own (cut_from (First n) row)
row-first own row n is = let l = is.left in let r = is.right in let e = is.edge in record {
  there = is.there;
  left = is.left;
  right = omega arith;
  edge = omega arith;
  down = is.down;
  high = is.high;
}

module _ (t : Tree) (line : LineData) (shows : IsShowable line) (mark left : ℕ) (row : Rect) (one : row.height ≤ 1)
    (few : mark ≤ left) (some : left ≤ row.width) where
  abbrev after_left : Rect
  after_left = cut_from (After left) row

  -- the highlight symbol, or nothing
  mark-stands : (is_selected : Bool) (old new : BufferData) → IsRowIn old.area row → IsReadyIn row old
      → DrawsAll (mark_drawing t is_selected mark) row old new → StandsApart row new × IsReadyIn after_left new
  mark-stands false old new is_row ready same =
      rw same (ready-apart row old ready, ready-inside row after_left old (cut-inside (After left) row) ready)
  mark-stands true old new is_row ready is =
      let part = cut_from (First mark) row in
      let e : min mark row.width ≡ mark = omega arith in
      let written : WritesIn part (text_pieces part.width new_style t.highlight_symbol.now) old new =
      subst (λ n. WritesIn part (text_pieces n new_style t.highlight_symbol.now) old new) (sym e) is in
      let there = ready-inside row part old (cut-inside (First mark) row) ready in
      let here = text-around part new_style t.highlight_symbol.now old new one (row-first old.area row mark is_row) there written in (
        apart-part row part old new (cut-inside (First mark) row) ready is.within here,
        ready-beside row part after_left old new ready is.within here (cut-inside (First mark) row) (cut-inside (After left) row)
            (λ p a b. let e = b.right in let l = a.left in let h = a.right in omega arith),
      )

  pub row-stands : (is_selected : Bool) (symbol : List ℕ) (old new : BufferData) → IsRowIn old.area row → IsReadyIn row old
      → DrawsAll (line_row_drawing t line is_selected mark left symbol row.width) row old new → StandsApart row new
  row-stands is_selected symbol old new is_row ready is =
      let laid = is.0 in
      let plain = ready-styled row line.style old laid ready is.1 in
      let marked = is.2.0 in
      let blanked = is.2.1.0 in
      let cut = cut_from (First left) row in
      let emptied = Changes-within cut cut (λ _. blank_in_place) laid blanked (λ p h. h) is.2.1.1 in
      let blank = ready-stays row laid blanked plain (within-wider cut row laid blanked (cut-inside (First left) row) emptied)
      (changed-plain cut row (λ _. blank_in_place) laid blanked (λ p c each. blank-plain c each) plain.plain is.2.1.1) in
      let same : laid.area ≡ old.area = is.1.area in
      let blank_row : IsRowIn blanked.area row = rw (emptied.same_area, same) is_row in
      let both = mark-stands is_selected blanked marked blank_row blank is.2.1.2 in
      let mark_within = draws-within (mark_drawing t is_selected mark) row blanked marked is.2.1.2 in
      let rest_row : IsRowIn marked.area after_left = row-after marked.area row left some (rw mark_within.same_area blank_row) in
      apart-around row after_left marked new (cut-inside (After left) row) both.0
      (draws-within (node_label symbol line (row.width - left)) after_left marked new is.2.2)
      (label-stands symbol line after_left marked new one rest_row shows both.1 is.2.2)
