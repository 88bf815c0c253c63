-- Painting from a position on, and what follows of it.
use Rattle.std.proofs.Common.{◌≡◌, ℕ, ◌+◌, ◌-◌, ◌≤◌, List, [], ◌∷◌, ◌++◌, take, drop, length, refl, sym, ap, subst, ◌∙◌, arith}
use Rattle.std.proofs.Common.{Result, Ok, Err, IsErr, inl, inr}
use Rattle.std.proofs.lemmas.{List.take_at, List.ext_get_or, Bool.cases_lt, Bool.false≢true}
use Rattle.std.specs.declared.alloc.AllocError.{AllocError}
use Rattle.rtui_geometry.specs.{declared.position.Position.Position, declared.rect.Rect.Rect}
use Rattle.rtui_cell.specs.{declared.cell.Cell.Cell, Cell.empty_cell, Cell.IsUnmarked}
use Rattle.rtui_diff.specs.{Cells.cell, Settled.IsSettled}
use Rattle.rtui_buffer.specs.{BufferData.BufferData, BufferData.cell_index, BufferData.position_of, Shown.IsSettledBuffer}
use Rattle.rtui_buffer.specs.Painting.{Piece, columns, AreWide, HasPieces, KeepsUnmarked}
use Rattle.rtui_buffer.specs.PaintedText.{PaintsPieces, PaintsFront, Paints, IsPaintable, IsSameBeside}
use Rattle.rtui_buffer.specs.Inner.{PaintsCells}
use Rattle.rtui_buffer.proofs.{PaintLemmas.IsSameOutside-wider, PaintedLemmas.HasPieces-painted, LineLemmas.columns-append}
use Rattle.rtui_buffer.proofs.SettledLemmas.{IsSettled-painted, IsIn, is_in, unmarked_empty}
use Rattle.rtui_buffer.proofs.{RefusedLemmas.front-all}

AreWide-front : (ps qs : List Piece) → AreWide (ps ++ qs) → AreWide ps
AreWide-front [] qs h = tt
AreWide-front (p ∷ ps) qs h = (h.0, AreWide-front ps qs h.1)

-- what is painted on a buffer's cells, which are then written back whole
module _ (s : BufferData) (x y start : ℕ) (old items more : List Cell) (n : ℕ) (cells : items ≡ s.cells) (same : old ≡ items)
    (len : n ≡ length old) (place : start ≡ cell_index s.area (position_of (x, y)))
    (area : Rect) (room : ℕ) (same_area : area ≡ s.area) (same_room : room ≡ s.room) (ps : List Piece) (wide : AreWide ps)
    (fits : start + columns ps ≤ length old) where
  abbrev written : BufferData
  written = record { area = area; cells = take n (more ++ drop (length more) items); room = room }

  stands : (front rest : List Piece) → ps ≡ front ++ rest → HasPieces start front old more
      → PaintsPieces (position_of (x, y)) front s written
  stands front rest is has =
      let count : length more ≡ length old = has.outside.count in
      record {
        area = same_area;
        room = same_room;
        cells = rw (take_at more (drop (length more) items) n (omega arith)) (rw (place, same ∙ cells) at has);
      }

  front : {A : Type 0} {r : Result A AllocError} → PaintsCells start ps r old more → PaintsFront (position_of (x, y)) ps s written
  front h =
      let sum : columns ps ≡ columns h.front + columns h.rest = ap columns h.is ∙ columns-append h.front h.rest in
      record {
        front = h.front;
        rest = h.rest;
        is = h.is;
        stands = stands h.front h.rest h.is (rw h.cells (HasPieces-painted start h.front old (AreWide-front h.front h.rest
            (subst AreWide h.is wide)) (omega arith)));
      }

  pub Paints-written : {A B : Type 0} (v : A) (w : B) → PaintsCells start ps (Ok v) old more
      → Paints (position_of (x, y)) ps (Ok w) s written
  unfolding front
  Paints-written v w h =
      let is = front h in
      record {
        front = is;
        ok = subst (λ qs. PaintsPieces (position_of (x, y)) qs s written) (front-all start ps old more h) is.stands;
        short = λ _. refl;
      }

  pub Paints-refused : {A B : Type 0} {e : AllocError} (r : Result B AllocError) → IsErr r
      → PaintsCells {A = A} start ps (Err e) old more → Paints (position_of (x, y)) ps r s written
  Paints-refused (Ok v) err h = absurd (false≢true err)
  Paints-refused (Err f) err h = record { front = front h; ok = tt; short = h.short }

-- no cell gets an option or the flag
pub HasPieces-unmarked : (at : ℕ) (ps : List Piece) (old new : List Cell) → HasPieces at ps old new → KeepsUnmarked old new
HasPieces-unmarked at ps old new is = record {
  at = λ k plain. elim (cases_lt k at) [
    | inl before ↦ subst IsUnmarked (sym (is.outside.before k before)) plain
    | inr from ↦ elim (cases_lt k (at + columns ps)) [
      | inl inside ↦
          let r : IsIn ps (k - at) = is_in ps (k - at) (omega arith) in
          let place = r.place in
          elim (cases_lt 0 r.column) [
            | inl some ↦
                let here : at + columns (take r.piece ps) + r.column ≡ k = omega arith in
                unmarked_empty (ap (cell new) (sym here) ∙ is.behind r.piece r.column r.in_list some r.in_piece)
            | inr first ↦
                let here : at + columns (take r.piece ps) ≡ k = omega arith in
                let was = subst (λ i. IsUnmarked (cell old i)) (sym here) plain in
                subst (λ i. IsUnmarked (cell new i)) here (rw (is.starts r.piece r.in_list)
                (record { option = was.option; flag = was.flag }))
          ]
      | inr behind ↦ subst IsUnmarked (sym (is.outside.behind k behind)) plain
    ]
  ];
}

-- What is painted within a row keeps a settled buffer settled, if the columns may be painted.
module _ (p : Position) (ps : List Piece) (old new : BufferData) (starts : old.area.x ≤ p.x)
    (ends : columns ps ≤ old.area.x + old.area.width - p.x) (was : IsSettledBuffer old)
    (may : IsPaintable p (columns ps) old) where
  pub IsSettledBuffer-painted : PaintsPieces p ps old new → IsSettledBuffer new
  IsSettledBuffer-painted is = let r = old.area in rw is.area (elim (cases_lt 0 (columns ps)) [
    | inl some ↦
        IsSettled-painted r.width r.height (p.x - r.x) (p.y - r.y) ps old.cells new.cells is.cells was
        (λ a ge lt. let e : a + r.x - r.x ≡ a = omega arith in rw e at (may.unmarked (a + r.x) (omega arith) (omega arith)))
        (λ a lt plain.
        let e : a + r.x - r.x ≡ a = omega arith in
        let ends = rw e at (may.uncovered (a + r.x) (omega arith) (omega arith) (rw e plain)) in
        omega arith)
        (omega arith) (omega arith)
    | inr none ↦
        let out = is.cells.outside in
        subst (IsSettled r.width r.height) (sym (ext_get_or empty_cell new.cells old.cells out.count (λ k _. elim
        (cases_lt k (cell_index r p)) [
          | inl before ↦ out.before k before
          | inr from ↦ out.behind k (omega arith)
        ]))) was
  ])

-- The same of a front of pieces: at most their columns differ, and a settled buffer stays settled.
module _ (p : Position) (ps : List Piece) (old new : BufferData) (h : PaintsFront p ps old new) where
  fewer : columns h.front ≤ columns ps
  fewer = omega (arith, ap columns h.is ∙ columns-append h.front h.rest)

  pub front-beside : IsSameBeside p ps old new
  front-beside = let less = fewer in record {
    area = h.stands.area;
    room = h.stands.room;
    cells = IsSameOutside-wider _ _ _ old.cells new.cells (omega arith) h.stands.cells.outside;
  }

  pub front-unmarked : KeepsUnmarked old.cells new.cells
  front-unmarked = HasPieces-unmarked (cell_index old.area p) h.front old.cells new.cells h.stands.cells

  pub front-settled : old.area.x ≤ p.x → columns ps ≤ old.area.x + old.area.width - p.x → IsSettledBuffer old
      → IsPaintable p (columns ps) old → IsSettledBuffer new
  front-settled starts ends was may =
      let less = fewer in
      IsSettledBuffer-painted p h.front old new starts (omega arith) was (record {
        unmarked = λ a from to. may.unmarked a from (omega arith);
        uncovered = may.uncovered;
      }) h.stands
