-- Pieces painted within a part of a buffer.
use Rattle.std.proofs.Common.{◌≡◌, ℕ, ◌+◌, ◌-◌, ◌<◌, ◌≤◌, ⊎_elim, inl, inr, true, List, [], ◌∷◌, All, length, length-append}
use Rattle.std.proofs.Common.{IsUtf8, ap, arith, Result}
use Rattle.std.specs.List.{concat}
use Rattle.std.proofs.lemmas.{Bool.cases_lt, List.Elements.All-nil, List.Elements.All-cons}
use Rattle.unicode_segmentation.specs.Grapheme.{graphemes}
use Rattle.unicode_segmentation.proofs.SegmentsLemmas.{concat-segments}
use Rattle.std.specs.declared.alloc.AllocError.{AllocError}
use Rattle.ratatui_core.specs.Layout.{Rect, Position, HasPosition, IsInside}
use Rattle.ratatui_core.specs.Style.{Style}
use Rattle.ratatui_core.specs.Buffer.{BufferData, Piece, columns, HasRow, IsBeside, Paints, position_of, room_at}
use Rattle.ratatui_core.specs.Buffer.{IsShort, AreShort, text_pieces}
use Rattle.ratatui_core.specs.Widgets.{ChangesWithin}
use Rattle.ratatui_core.proofs.BufferLemmas.{front-beside, same-beside, text-short}
use Rattle.widget_boxes.specs.Boxes.{IsBoxArea}

-- a place of a part
pub part-place : (part : Rect) (x y : ℕ) → IsBoxArea part → part.x ≤ x → x < part.x + part.width → part.y ≤ y
    → y < part.y + part.height → HasPosition part (position_of (x, y))
part-place part x y box l r t b = let a = box.across in let d = box.down in record {
  left = l;
  right = omega arith;
  top = t;
  bottom = omega arith;
}

pub part-has_row : (part own : Rect) (y : ℕ) → IsBoxArea part → IsInside part own → part.y ≤ y → y < part.y + part.height
    → HasRow own y
part-has_row part own y box inside t b =
    let c = box.columns in let h = inside (position_of (part.x, y)) (part-place part part.x y box (omega arith)
    (omega arith) t b) in
    let ht = h.top in let hb = h.bottom in record { top = ht; bottom = omega arith }

pub part-starts : (part own : Rect) (x : ℕ) → IsBoxArea part → IsInside part own → part.x ≤ x → own.x ≤ x
part-starts part own x box inside le =
    let c = box.columns in let r = box.rows in
    let h = inside (position_of (part.x, part.y)) (part-place part part.x part.y box (omega arith) (omega arith) (omega arith)
    (omega arith)) in
    let l = h.left in omega arith

pub part-ends : (part own : Rect) (x n : ℕ) → IsBoxArea part → IsInside part own → part.x ≤ x → x + n ≤ part.x + part.width
    → n ≤ own.x + own.width - x
part-ends part own x n box inside le fits =
    let c = box.columns in let rows = box.rows in let a = box.across in
    let h = inside (position_of (part.x + (part.width - 1), part.y))
    (part-place part (part.x + (part.width - 1)) part.y box (omega arith) (omega arith) (omega arith) (omega arith)) in
    let r = h.right in omega arith

pub part-right : (part own : Rect) (x n : ℕ) → IsBoxArea part → IsInside part own → x + n ≤ part.x + part.width
    → x + n ≤ own.x + own.width
part-right part own x n box inside fits =
    let c = box.columns in let rows = box.rows in let a = box.across in
    let h = inside (position_of (part.x + (part.width - 1), part.y))
    (part-place part (part.x + (part.width - 1)) part.y box (omega arith) (omega arith) (omega arith) (omega arith)) in
    let r = h.right in omega arith

pub paints-within : {A : Type 0} (r : Result A AllocError) (part : Rect) (x y : ℕ) (ps : List Piece) (old new : BufferData)
    → IsBoxArea part → IsInside part old.area → part.x ≤ x → x + columns ps ≤ part.x + part.width
    → part.y ≤ y → y < part.y + part.height → Paints (position_of (x, y)) ps r old new → ChangesWithin part old new
paints-within r part x y ps old new box inside le fits t b paints =
    let row = part-has_row part old.area y box inside t b in
    let starts = part-starts part old.area x box inside le in
    let ends = part-ends part old.area x (columns ps) box inside le fits in
    let beside : (q : Position) → (HasPosition part q → ⊥) → IsBeside (position_of (x, y)) (columns ps) q = λ q off. λ same.
    ⊎_elim
    (λ (before : q.x < x). inl before)
    (λ (from : x ≤ q.x).
    ⊎_elim
    (λ (there : q.x < x + columns ps). absurd (off (let a = box.across in let d = box.down in
    record { left = omega arith; right = omega arith; top = omega arith; bottom = omega arith })))
    (λ (past : x + columns ps ≤ q.x). inr past)
    (cases_lt q.x (x + columns ps)))
    (cases_lt q.x x) in
    let same = front-beside _ _ _ _ paints.front in
    record {
      same_area = same.area;
      same_room = same.room;
      outside = λ q in_own off. same-beside (position_of (x, y)) q ps old new row starts ends same in_own (beside q off);
    }

-- as many columns as a buffer has right of a column
pub room-is : (r : Rect) (x n : ℕ) → x + n ≤ r.x + r.width → n ≤ 65535 → room_at r x n ≡ n
room-is r x n fits small = omega arith

-- of texts in a row each is no longer than all
each-no_longer : (n : ℕ) (gs : List (List ℕ)) → length (concat gs) ≤ n → All (λ g. length g ≤ n) gs
each-no_longer n [] le = All-nil (λ g. length g ≤ n)
each-no_longer n (g ∷ gs) le =
    let whole = length-append g (concat gs) in
    All-cons (λ g. length g ≤ n) g gs (omega arith) (each-no_longer n gs (omega arith))

-- a short text is painted in short pieces
pub short-painted : (room : ℕ) (style : Style) (text : List ℕ) → IsUtf8 text → IsShort text
    → AreShort (text_pieces room style text)
short-painted room style text utf8 short =
    let whole : length (concat (graphemes true text)) ≡ length text = ap length (concat-segments _ _ utf8) in
    text-short room style text (each-no_longer 22 (graphemes true text) (omega arith))
