-- What is painted of pieces over empty cells is one list of cells, so a line has one frame.
use Rattle.std.proofs.Common.{◌≡◌, ◌<◌, ◌≤◌, ◌+◌, ◌-◌, ◌⊎◌, inl, inr, ℕ, zero, suc, List, [], ◌∷◌, length, take, refl, ap, sym, ◌∙◌, subst, arith}
use Rattle.std.proofs.lemmas.{Bool.cases_lt, List.ext_get_or, List.Sums.sum_by-cons}
use Rattle.rtui_cell.specs.{declared.cell.Cell.Cell, Cell.empty_cell}
use Rattle.rtui_diff.specs.Cells.{cell}
use Rattle.rtui_buffer.specs.Painting.{Piece, piece_width, columns, piece_at, place_of, shown, HasPieces}
use Rattle.rtui_style.specs.Style.{new_style}
use Rattle.rtui_buffer.specs.BufferData.{cell_index}
use Rattle.rtui_buffer.specs.PaintedText.{pieces_at, PaintsPieces}
use Rattle.rtui_geometry.specs.Rect.{intersected}
use Rattle.rtui_geometry.specs.declared.position.Position.{Position}
use Rattle.ratatui_core.specs.{Layout.Rect, Buffer.BufferData, Buffer.IsEmptied, Buffer.IsSameBuffer}
use Rattle.ratatui_core.specs.Widgets.{RendersStr, OnPart}
use Rattle.ratatui_core.proofs.WidgetLemmas.{has-first-row}
use Rattle.ratatui_app.specs.{Lines.PaintsFirstLine, OneFrame.MakesOne, OneFrame.HasOneFrame}

-- a place is this one, so many columns right of where a piece begins
record StandsIn (at : ℕ) (ps : List Piece) (place : ℕ) : Type 0 where
  k : ℕ
  j : ℕ
  is_piece : k < length ps
  is_here : place ≡ place_of at ps k + j
  is_covered : (j ≡ 0) ⊎ ((0 < j) × (j < piece_width (piece_at ps k)))

-- in the piece after the first one, if it stands in one of the others
stands-later : (at : ℕ) (p : Piece) (ps : List Piece) (place : ℕ) → StandsIn (at + piece_width p) ps place → StandsIn at (p ∷ ps) place
stands-later at p ps place rest =
    let columns_are : columns (take (suc rest.k) (p ∷ ps)) ≡ piece_width p + columns (take rest.k ps) =
    sum_by-cons piece_width p (take rest.k ps) in
    record {
      k = suc rest.k;
      j = rest.j;
      is_piece = omega (arith, rest.is_piece);
      is_here = omega (arith, rest.is_here, columns_are);
      is_covered = rest.is_covered;
    }

-- in the first one
stands-first : (at : ℕ) (p : Piece) (ps : List Piece) (place : ℕ) → at ≤ place → place < at + piece_width p
    → StandsIn at (p ∷ ps) place
stands-first at p ps place from here = by-begin (cases_lt at place)
  where
    by-begin : (at < place) ⊎ (place ≤ at) → StandsIn at (p ∷ ps) place
    by-begin (inl inside) = record {
      k = 0;
      j = place - at;
      is_piece = omega arith;
      is_here = omega (arith, inside);
      is_covered = inr (omega (arith, inside), omega (arith, inside, here));
    }
    by-begin (inr begins) = record {
      k = 0;
      j = 0;
      is_piece = omega arith;
      is_here = omega (arith, from, begins);
      is_covered = inl refl;
    }

-- each place in the columns of pieces stands in one
stands-in : (at : ℕ) (ps : List Piece) (place : ℕ) → at ≤ place → place < at + columns ps → StandsIn at ps place
stands-in at [] place from to = absurd (omega (arith, from, to))
stands-in at (p ∷ ps) place from to =
    let all : columns (p ∷ ps) ≡ piece_width p + columns ps = sum_by-cons piece_width p ps in
    elim (cases_lt place (at + piece_width p)) [
      | inl here ↦ stands-first at p ps place from here
      | inr after ↦ stands-later at p ps place (stands-in (at + piece_width p) ps place after (omega (arith, to, all)))
    ]

module _ (at : ℕ) (ps : List Piece) (old a b : List Cell) (one : HasPieces at ps old a) (other : HasPieces at ps old b) where
  same-inside : (place : ℕ) → StandsIn at ps place → cell a place ≡ cell b place
  same-inside place is = elim is.is_covered [
    | inl begins ↦
        let here : place ≡ place_of at ps is.k = omega (arith, is.is_here, begins) in
        rw here (one.starts is.k is.is_piece ∙ sym (other.starts is.k is.is_piece))
    | inr covered ↦
        rw is.is_here (one.behind is.k is.j is.is_piece covered.0 covered.1 ∙ sym (other.behind is.k is.j is.is_piece covered.0 covered.1))
  ]

  same-at : (place : ℕ) → cell a place ≡ cell b place
  same-at place = elim (cases_lt place at) [
    | inl left ↦ one.outside.before place left ∙ sym (other.outside.before place left)
    | inr from ↦ elim (cases_lt place (at + columns ps)) [
      | inl to ↦ same-inside place (stands-in at ps place from to)
      | inr right ↦ one.outside.behind place right ∙ sym (other.outside.behind place right)
    ]
  ]

  same-cells : a ≡ b
  same-cells = ext_get_or empty_cell a b (one.outside.count ∙ sym other.outside.count) (λ place lt. same-at place)

-- pieces that are painted from a position on
pub one-pieces : (p : Position) (ps : List Piece) → MakesOne (PaintsPieces p ps)
one-pieces p ps s t a b same one other =
    let here = subst (λ (r : Rect). HasPieces (cell_index r p) ps t.cells b.cells) same.area other.cells in
    let over = subst (λ (cells : List Cell). HasPieces (cell_index s.area p) ps cells b.cells) same.cells here in
    record {
      area = other.area ∙ same.area ∙ sym one.area;
      cells = same-cells (cell_index s.area p) ps s.cells b.cells a.cells over one.cells;
    }

-- nothing
pub one-nothing : (s t a b : BufferData) → IsSameBuffer s t → a ≡ s → b ≡ t → IsSameBuffer a b
one-nothing s t a b same one other = rw one (rw other same)

-- what is done on the part of an area that a buffer has
pub one-on-part : (f : Rect → BufferData → BufferData → Type 0) → ((r : Rect) → MakesOne (f r)) → (area : Rect)
    → MakesOne (OnPart f area)
one-on-part f each area s t a b same one other =
    let parts : intersected area t.area ≡ intersected area s.area = ap (λ (r : Rect). intersected area r) same.area in
    by-size (cases_lt 0 (intersected area s.area).width) (cases_lt 0 (intersected area s.area).height) parts
  where
    nothing : ((intersected area s.area).width ≡ 0) ⊎ ((intersected area s.area).height ≡ 0)
        → intersected area t.area ≡ intersected area s.area → IsSameBuffer a b
    nothing none parts =
        one-nothing s t a b same (one.nothing none)
        (other.nothing (subst (λ (r : Rect). (r.width ≡ 0) ⊎ (r.height ≡ 0)) (sym parts) none))

    by-size : (0 < (intersected area s.area).width) ⊎ ((intersected area s.area).width ≤ 0)
        → (0 < (intersected area s.area).height) ⊎ ((intersected area s.area).height ≤ 0)
        → intersected area t.area ≡ intersected area s.area → IsSameBuffer a b
    by-size (inr flat) high parts = nothing (inl (omega (arith, flat))) parts
    by-size (inl wide) (inr flat) parts = nothing (inr (omega (arith, flat))) parts
    by-size (inl wide) (inl high) parts =
        let wide' = subst (λ (r : Rect). 0 < r.width) (sym parts) wide in
        let high' = subst (λ (r : Rect). 0 < r.height) (sym parts) high in
        each (intersected area s.area) s t a b same (one.part wide high)
        (subst (λ (r : Rect). f r t b) parts (other.part wide' high'))

-- empty buffers of one area are the same
same-blank : (area : Rect) (s t : BufferData) → IsEmptied area s → IsEmptied area t → IsSameBuffer s t
same-blank area s t one other = record { area = other.area ∙ sym one.area; cells = other.cells ∙ sym one.cells }

-- painting that makes one thing of each buffer has one frame
pub one-frame : (paints : Rect → BufferData → BufferData → Type 0) → ((r : Rect) → MakesOne (paints r)) → HasOneFrame paints
one-frame paints each s t a b empty empty' areas one other =
    each a.area s t a b (same-blank a.area s t empty (subst (λ (r : Rect). IsEmptied r t) areas empty')) one
    (subst (λ (r : Rect). paints r t b) areas other)

-- a text in the first row of an area
same-lines : (text : List ℕ) (s t a b : BufferData) → b.area ≡ a.area → IsSameBuffer s t
    → RendersStr text a.area s a → RendersStr text b.area t b → IsSameBuffer a b
same-lines text s t a b areas same one other =
    let here = subst (λ (r : Rect). RendersStr text r t b) areas other in
    let p : Position = record { x = a.area.x; y = a.area.y } in
    one-pieces p (pieces_at s.area a.area.x a.area.width new_style text) s t a b same one
    (subst (λ (r : Rect). PaintsPieces p (pieces_at r a.area.x a.area.width new_style text) t b) same.area here)

-- by whether the area has rows
line-by_height : (height : ℕ) (text : List ℕ) (s t a b : BufferData) → a.area.height ≡ height
    → IsEmptied a.area s → IsEmptied b.area t → b.area ≡ a.area
    → PaintsFirstLine text a.area s a → PaintsFirstLine text b.area t b → IsSameBuffer a b
line-by_height zero text s t a b is empty empty' areas one other =
    let rows : b.area.height ≡ 0 = ap (λ (r : Rect). r.height) areas ∙ is in
    one-nothing s t a b (same-blank a.area s t empty (subst (λ (r : Rect). IsEmptied r t) areas empty'))
    (one.kept (λ some first. omega (arith, is, some))) (other.kept (λ some first. omega (arith, rows, some)))
line-by_height (suc n) text s t a b is empty empty' areas one other =
    let rows : b.area.height ≡ suc n = ap (λ (r : Rect). r.height) areas ∙ is in
    same-lines text s t a b areas (same-blank a.area s t empty (subst (λ (r : Rect). IsEmptied r t) areas empty'))
    (one.painted (omega (arith, is)) (has-first-row a.area s (omega (arith, is)) empty))
    (other.painted (omega (arith, rows)) (has-first-row b.area t (omega (arith, rows)) empty'))

pub line-has-one-frame : (text : List ℕ) → HasOneFrame (PaintsFirstLine text)
line-has-one-frame text s t a b empty empty' areas one other =
    line-by_height a.area.height text s t a b refl empty empty' areas one other
