-- Settled, place by place.
use Rattle.std.proofs.Common.{◌≡◌, ℕ, ◌+◌, ◌-◌, ◌*◌, ◌/◌, ◌%◌, ◌<◌, ◌≤◌, false, List, subst, ap, arith}
use Rattle.std.proofs.lemmas.Nat.{mod-mul-add, same_from_place}
use Rattle.rtui_cell.specs.{declared.cell.Cell.Cell, Cell.width_of, Cell.is_skipped}
use Rattle.rtui_diff.specs.{Cells.cell, Settled.IsBlankOrSkipped, Settled.IsSettled, Settled.IsSettledAt}
use Rattle.rtui_diff.specs.{Completeness.CoversColumn}
use Rattle.rtui_diff.proofs.ColumnLemmas.{Covers, Settled}
use Rattle.rtui_diff.proofs.FrameLemmas.{row_start, row_end, column_in, row_in}

module _ (w h : ℕ) (cells : List Cell) where
  pub settled_at : (i : ℕ) → i < w * h → IsSettled w h cells → IsSettledAt w cells i
  settled_at i lt s = subst (IsSettledAt w cells) (row_start w h i) (at (i % w) (i / w) (column_in w h i lt) (row_in w h i lt))
    where
      at : (a b : ℕ) → a < w → b < h → IsSettledAt w cells (b * w + a)
      at a b a_in b_in = record {
        skipped = s.skipped a b a_in b_in;
        within = λ e. rw (mod-mul-add b w a a_in) (s.within a b a_in b_in e);
        behind = λ e k more less.
            let to : b * w + (k - b * w) ≡ k = omega arith in
            subst (λ x. IsBlankOrSkipped (cell cells x)) to (s.behind a b (k - b * w) a_in b_in e (omega arith) (omega arith));
      }

  pub settled_from : ((i : ℕ) → i < w * h → IsSettledAt w cells i) → IsSettled w h cells
  settled_from all = record {
    skipped = λ a b a_in b_in e. (at a b a_in b_in).skipped e;
    within = λ a b a_in b_in e. subst (λ x. x + width_of (cell cells (b * w + a)) ≤ w) (mod-mul-add b w a a_in)
        ((at a b a_in b_in).within e);
    behind = λ a b k a_in b_in e more less. (at a b a_in b_in).behind e (b * w + k) (omega arith) (omega arith);
  }
    where
      at : (a b : ℕ) → a < w → b < h → IsSettledAt w cells (b * w + a)
      at a b a_in b_in = let e : b * w + w ≤ w * h = row_end w h b b_in in all (b * w + a) (omega arith)

  -- the rows joined to one
  pub settled_flat : IsSettled w h cells → Settled (w * h) cells
  settled_flat s = record {
    skipped = λ i lt. (settled_at i lt s).skipped;
    within = λ i lt e. omega (arith, (settled_at i lt s).within e, row_start w h i, row_end w h (i / w) (row_in w h i lt));
    behind = λ i k lt x. (settled_at i (omega (arith, x.before)) s).behind x.unskipped k x.before x.reaches;
  }

  -- what covers a column stands in its row
  pub same_row : (a b k : ℕ) → IsSettled w h cells → a < w → b < h → Covers cells k (b * w + a)
      → (k ≡ b * w + k % w) × CoversColumn w cells (k % w) a b
  same_row a b k s a_in b_in x =
      let end : b * w + w ≤ w * h = row_end w h b b_in in
      let fits : k % w + width_of (cell cells k) ≤ w = (settled_at k (omega (arith, x.before)) s).within x.unskipped in
      let start : k / w * w + k % w ≡ k = row_start w h k in
      let same = same_from_place (k / w) (k % w + (b * w + a - k)) b a w (omega (arith, x.reaches)) a_in
      (omega (arith, x.before)) in
      let first : k / w * w ≡ b * w = ap (λ q. q * w) same.0 in
      let here : k ≡ b * w + k % w = omega arith in
      let unskipped : is_skipped (cell cells (b * w + k % w)) ≡ false =
      subst (λ y. is_skipped (cell cells y) ≡ false) here x.unskipped in
      let reaches : a < k % w + width_of (cell cells (b * w + k % w)) = subst (λ y. a < k % w + width_of (cell cells y)) here
      (omega (arith, x.reaches)) in
      (here, record { before = omega (arith, x.before); unskipped = unskipped; reaches = reaches })

-- the first rows of a settled frame are settled
pub settled_fewer : (w h rows : ℕ) (cells : List Cell) → rows ≤ h → IsSettled w h cells → IsSettled w rows cells
settled_fewer w h rows cells le s = record {
  skipped = λ a b a_in b_in. s.skipped a b a_in (omega arith);
  within = λ a b a_in b_in. s.within a b a_in (omega arith);
  behind = λ a b k a_in b_in. s.behind a b k a_in (omega arith);
}
