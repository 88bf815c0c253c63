-- Lines painted in rows of their own.
use Rattle.std.proofs.Common.{◌≡◌, ℕ, zero, suc, ◌+◌, ◌-◌, ◌*◌, ◌<◌, ◌≤◌, List, [], ◌∷◌, ◌++◌, length, get_or, take, drop, refl}
use Rattle.std.proofs.Common.{sym, ap, subst, ◌∙◌, arith, add-one, append_assoc, append-nil}
use Rattle.std.proofs.Math.Seq.{take-suc, take-append_seam, drop-append-add}
use Rattle.std.proofs.lemmas.List.{take_at, drop_at, get_or-take, get_or-drop}
use Rattle.std.proofs.lemmas.List.{length-append, length-replicate, length-take-le, replicate-append-replicate}
use Rattle.std.proofs.lemmas.{Grind.flat_map-append}
use borrow.Rule.Slice.PartMut.{put_mid}
use Rattle.rtui_cell.specs.{declared.cell.Cell.Cell, Cell.empty_cell, Cell.width_of, Cell.is_skipped}
use Rattle.rtui_diff.specs.{Cells.cell_at, Settled.IsSettled, Settled.IsBlankOrSkipped}
use Rattle.rtui_text.specs.Text.{LineData}
use Rattle.rtui_buffer.specs.BufferData.{empty_cells, row_cells}
use Rattle.rtui_buffer.specs.{Painting.HasPieces, Painted.painted}
use Rattle.rtui_buffer.specs.Line.{line_pieces, line_row, line_rows, line_at, ShowsLines}
use Rattle.rtui_buffer.proofs.{EmptyLemmas.cell-empty, LineLemmas.columns-line, LineLemmas.AreWide-line}
use Rattle.rtui_buffer.proofs.{PaintedLemmas.HasPieces-painted}
use Rattle.rtui_buffer.proofs.SettledLemmas.{IsSettled-empty, IsSettled-painted, unmarked_empty}

pub HasPieces-row : (w : ℕ) (l : LineData) → HasPieces 0 (line_pieces w l.style l.spans) (empty_cells w) (line_row w l)
unfolding line_row
HasPieces-row w l =
    let le = columns-line w l.style l.spans in let len : length (empty_cells w) ≡ w = length-replicate w empty_cell in
    HasPieces-painted 0 _ (empty_cells w) (AreWide-line w l.style l.spans) (omega arith)

row-is : (w : ℕ) (l : LineData) → painted 0 (line_pieces w l.style l.spans) (empty_cells w) ≡ line_row w l
unfolding line_row
row-is w l = refl

pub length-row : (w : ℕ) (l : LineData) → length (line_row w l) ≡ w
length-row w l = (HasPieces-row w l).outside.count ∙ length-replicate w empty_cell

pub length-rows : (w : ℕ) (ls : List LineData) → length (line_rows w ls) ≡ w * length ls
length-rows w [] = omega arith
length-rows w (l ∷ ls) = omega (arith, length-append (line_row w l) (line_rows w ls), length-row w l, length-rows w ls)

rows-suc : (w i : ℕ) (ls : List LineData) (l : LineData) → i < length ls → l ≡ get_or ls i l
    → line_rows w (take (i + 1) ls) ≡ line_rows w (take i ls) ++ line_row w l
rows-suc w i ls l lt is =
    let last : line_rows w (l ∷ []) ≡ line_row w l = append-nil (line_row w l) in
    rw (add-one, take-suc ls i l lt, ← is) (flat_map-append (line_row w) (take i ls) (l ∷ [])
    ∙ ap (λ r. line_rows w (take i ls) ++ r) last)

-- a turn of the loop paints the next row
pub rows-turn : (w i start n : ℕ) (ls : List LineData) (l : LineData) (cells row : List Cell) → i < length ls → l ≡ get_or ls i l
    → start ≡ i * w → n ≡ w → cells ≡ line_rows w (take i ls) ++ empty_cells (w * (length ls - i))
    → row ≡ painted 0 (line_pieces w l.style l.spans) (take n (drop start cells))
    → put_mid start n cells row ≡ line_rows w (take (i + 1) ls) ++ empty_cells (w * (length ls - (i + 1)))
rows-turn w i start n ls l cells row lt is place wide former put =
    let front : List Cell = line_rows w (take i ls) in
    let others : List Cell = empty_cells (w * (length ls - (i + 1))) in
    let len : length front ≡ w * i = length-rows w (take i ls) ∙ ap (λ n. w * n) (length-take-le i ls (omega arith)) in
    let left : length ls - i ≡ suc (length ls - (i + 1)) = omega arith in
    let size : w * (length ls - i) ≡ w + w * (length ls - (i + 1)) = rw left (omega arith) in
    let whole : cells ≡ front ++ (empty_cells w ++ others) = former ∙ ap (λ cs. front ++ cs) (ap empty_cells size
    ∙ sym (replicate-append-replicate w (w * (length ls - (i + 1))) empty_cell)) in
    let rest : drop start cells ≡ empty_cells w ++ others = ap (drop start) whole ∙ drop_at front _ start (omega arith) in
    let seam : length (empty_cells w) ≡ n = length-replicate w empty_cell ∙ sym wide in
    let before : take start cells ≡ front = ap (take start) whole ∙ take_at front _ start (omega arith) in
    let next : row ≡ line_row w l = put ∙ ap (painted 0 (line_pieces w l.style l.spans)) (ap (take n) rest
    ∙ take_at (empty_cells w) others n seam) ∙ row-is w l in
    let after : drop n (drop start cells) ≡ others = ap (drop n) rest ∙ drop_at (empty_cells w) others n seam in
    ap (λ cs. cs ++ (row ++ drop n (drop start cells))) before
    ∙ ap (λ cs. front ++ cs) (ap (λ cs. cs ++ drop n (drop start cells)) next ∙ ap (λ cs. line_row w l ++ cs) after)
    ∙ sym (append_assoc front (line_row w l) others) ∙ ap (λ cs. cs ++ others) (sym (rows-suc w i ls l lt is))

row-at : (w : ℕ) (ls : List LineData) (k : ℕ) → k < length ls → row_cells w (line_rows w ls) k ≡ line_row w (line_at ls k)
row-at w [] k lt = absurd (omega arith)
row-at w (l ∷ ls) zero lt =
    let none : 0 * w ≡ 0 = omega arith in
    let len = length-row w l in
    rw none (ap (λ n. take n (line_row w l ++ line_rows w ls)) (sym len) ∙ take-append_seam (line_row w l) (line_rows w ls))
row-at w (l ∷ ls) (suc k) lt =
    let len = length-row w l in
    let e : suc k * w ≡ length (line_row w l) + k * w = omega arith in
    rw (e, drop-append-add (line_row w l) (line_rows w ls) (k * w)) (row-at w ls k (omega arith))

pub ShowsLines-rows : (w : ℕ) (ls : List LineData) → ShowsLines w ls (line_rows w ls)
ShowsLines-rows w ls = record {
  count = length-rows w ls;
  row = λ k lt. subst (λ r. HasPieces 0 (line_pieces w (line_at ls k).style (line_at ls k).spans) (empty_cells w) r)
      (sym (row-at w ls k lt)) (HasPieces-row w (line_at ls k));
}

-- rows are settled if each of them is
module _ (w n : ℕ) (cells : List Cell) (each : (k : ℕ) → k < n → IsSettled w 1 (row_cells w cells k)) where
  in-row : (a b : ℕ) → a < w → cell_at w (row_cells w cells b) a 0 ≡ cell_at w cells a b
  in-row a b a_in =
      let here : 0 * w + a ≡ a = omega arith in
      rw here (get_or-take w (drop (b * w) cells) a empty_cell a_in ∙ get_or-drop (b * w) cells a empty_cell)

  settled-rows : IsSettled w n cells
  settled-rows = record {
    skipped = λ a b a_in b_in skip. let e = in-row a b a_in in
        subst (λ c. width_of c ≤ 1) e ((each b b_in).skipped a 0 a_in (omega arith) (ap is_skipped e ∙ skip));
    within = λ a b a_in b_in off. let e = in-row a b a_in in
        subst (λ c. a + width_of c ≤ w) e ((each b b_in).within a 0 a_in (omega arith) (ap is_skipped e ∙ off));
    behind = λ a b k a_in b_in off more less.
        let e = in-row a b a_in in let plain = ap is_skipped e ∙ off in
        let ends = (each b b_in).within a 0 a_in (omega arith) plain in
        let reach = subst (λ c. k < a + width_of c) (sym e) less in
        subst IsBlankOrSkipped (in-row k b (omega arith)) ((each b b_in).behind a 0 k a_in (omega arith) plain more reach);
  }

settled-row : (w : ℕ) (l : LineData) → IsSettled w 1 (line_row w l)
settled-row w l =
    let le = columns-line w l.style l.spans in let here : 0 * w + 0 ≡ 0 = omega arith in
    IsSettled-painted w 1 0 0 (line_pieces w l.style l.spans) (empty_cells w) (line_row w l) (rw here (HasPieces-row w l))
    (IsSettled-empty w 1 _ (cell-empty w)) (λ a _ _. unmarked_empty (cell-empty w _)) (λ a lt. absurd (omega arith))
    (omega arith) (omega arith)

pub IsSettled-rows : (w : ℕ) (ls : List LineData) → IsSettled w (length ls) (line_rows w ls)
IsSettled-rows w ls = settled-rows w (length ls) (line_rows w ls) (λ k lt. subst (IsSettled w 1) (sym (row-at w ls k lt))
    (settled-row w (line_at ls k)))
