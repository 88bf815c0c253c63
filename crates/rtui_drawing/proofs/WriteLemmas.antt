-- Pieces written from the left of a row on.
use Rattle.std.proofs.Common.{◌≡◌, ℕ, ◌+◌, ◌-◌, ◌<◌, ◌≤◌, ⊎_elim, inl, inr, false, true, List, arith, Result, Ok, Err}
use Rattle.std.proofs.lemmas.Bool.{cases_lt}
use Rattle.std.specs.Result.{IsErr}
use Rattle.std.specs.declared.alloc.AllocError.{AllocError}
use Rattle.rtui_geometry.specs.{declared.rect.Rect.Rect, declared.position.Position.Position}
use Rattle.rtui_geometry.specs.Rect.{HasPosition, corner}
use Rattle.rtui_style.specs.declared.Style.{Style}
use Rattle.rtui_text.specs.Text.{LineData}
use Rattle.rtui_buffer.specs.{BufferData.BufferData, Painting.Piece, Painting.columns, Painting.text_pieces, Line.line_pieces}
use Rattle.rtui_buffer.specs.PaintedText.{room_at, IsBeside, Paints}
use Rattle.rtui_buffer.proofs.{ColumnLemmas.same-beside, ColumnLemmas.text-keeps}
use Rattle.rtui_buffer.proofs.{ColumnLemmas.line-keeps, PaintsLemmas.front-beside}
use Rattle.rtui_widgets.specs.Rendering.{ChangesWithin}
use Rattle.rtui_drawing.specs.Cuts.{cut_from}
use Rattle.rtui_drawing.specs.declared.cut.Cut.TheVariants.{After, Middle}
use Rattle.rtui_drawing.specs.Drawings.{some_pieces, put, IsDone, IsRowIn, IsPartOf}

-- what is left of a row of a buffer is one
pub row-after : (own row : Rect) (n : ℕ) → n ≤ row.width → IsRowIn own row → IsRowIn own (cut_from (After n) row)
row-after own row n le is = let l = is.left in let r = is.right in let e = is.edge in record {
  there = is.there;
  left = omega arith;
  right = omega arith;
  edge = omega arith;
  down = is.down;
  high = is.high;
}

-- and so are columns in its middle
pub row-middle : (own row : Rect) (n : ℕ) → IsRowIn own row → IsRowIn own (cut_from (Middle n) row)
row-middle own row n is = let l = is.left in let r = is.right in let e = is.edge in record {
  there = is.there;
  left = omega arith;
  right = omega arith;
  edge = omega arith;
  down = is.down;
  high = is.high;
}

-- a part of a buffer that has cells begins with a row of it
pub row-of : {own r : Rect} → IsPartOf own r → 0 < r.width → 0 < r.height → IsRowIn own r
row-of {own = own} {r = r} is w h =
    let fit = is.edges w h in let a = fit.right in let d = fit.bottom in
    let p : Position = record { x = r.x; y = r.y } in
    let q : Position = record { x = r.x + (r.width - 1); y = r.y } in
    let first = is.inside p
    (record { left = omega arith; right = omega arith; top = omega arith; bottom = omega arith }) in
    let last = is.inside q
    (record { left = omega arith; right = omega arith; top = omega arith; bottom = omega arith }) in
    let l = first.left in let t = first.top in let b = first.bottom in let e = last.right in
    record {
      there = record { top = omega arith; bottom = omega arith };
      left = omega arith;
      right = omega arith;
      edge = omega arith;
      down = omega arith;
      high = omega arith;
    }

-- the buffer has all columns of a row of its own, and a text in it is no longer
pub room-is : (own row : Rect) → IsRowIn own row → room_at own row.x row.width ≡ row.width
room-is own row is = let l = is.left in let r = is.right in let e = is.edge in omega arith

pub text-fits : (own row : Rect) (style : Style) (text : List ℕ) → IsRowIn own row
    → columns (text_pieces row.width style text) ≤ row.width
text-fits own row style text is = rw (room-is own row is) at (text-keeps own row.x row.width style text)

pub line-fits : (own row : Rect) (line : LineData) → IsRowIn own row
    → columns (line_pieces row.width line.style line.spans) ≤ row.width
line-fits own row line is = rw (room-is own row is) at (line-keeps own row.x row.width line)

module _ (row : Rect) (ps : List Piece) (old new : BufferData) (is : IsRowIn old.area row) (fits : columns ps ≤ row.width) where
  beside : (q : Position) → (HasPosition row q → ⊥) → IsBeside (corner row) (columns ps) q
  beside q off = λ same.
      let edge = is.edge in let down = is.down in let high = is.high in
      ⊎_elim
      (λ (before : q.x < row.x). inl before)
      (λ (from : row.x ≤ q.x).
      ⊎_elim
      (λ (there : q.x < row.x + columns ps). absurd (off (record {
        left = from;
        right = omega arith;
        top = omega arith;
        bottom = omega arith;
      })))
      (λ (past : row.x + columns ps ≤ q.x). inr past)
      (cases_lt q.x (row.x + columns ps)))
      (cases_lt q.x row.x)

  front-within : {A : Type 0} (r : Result A AllocError) → Paints (corner row) ps r old new → ChangesWithin row old new
  front-within r paints =
      let right = is.right in
      let same = front-beside _ _ _ _ paints.front in
      record {
        same_area = same.area;
        same_room = same.room;
        outside = λ q in_own off.
            same-beside (corner row) q ps old new is.there is.left (omega arith) same in_own (beside q off);
      }

  pub written : {A B : Type 0} (x : A) (y : B) → Paints {A = A} (corner row) ps (Ok x) old new
      → IsDone (put (some_pieces ps)) row (Ok y) old new
  written x y paints = record { ok = record { within = front-within (Ok x) paints; pieces = paints.ok }; err = tt }

  pub written-front : {A B : Type 0} (e : AllocError) (r : Result B AllocError) → IsErr r
      → Paints {A = A} (corner row) ps (Err e) old new → IsDone (put (some_pieces ps)) row r old new
  written-front e (Ok y) err paints = let no : false ≡ true = err in absurd (cc)
  written-front e (Err f) err paints = record {
    ok = tt;
    err = record {
      within = front-within (Err e) paints;
      left = paints.front;
      long = λ short. let no : false ≡ true = paints.short short in absurd (cc);
    };
  }
