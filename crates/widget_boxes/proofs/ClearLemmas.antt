-- Clearing keeps a buffer settled.
use Rattle.std.proofs.Common.{◌≡◌, ℕ, ◌+◌, ◌<◌, ◌⊎◌, ⊎_elim, inl, inr, sym, ap, subst, ◌∙◌, arith}
use Rattle.ratatui_core.specs.Layout.{Rect, Position, HasPosition, EdgesFit}
use Rattle.ratatui_core.specs.Buffer.{BufferData, cell, cell_at, cell_index, empty_cell, width_of, is_skipped, is_same, IsSettled}
use Rattle.ratatui_core.specs.Buffer.{IsSettledBuffer, IsBlankOrSkipped, position_of}
use Rattle.ratatui_core.proofs.BufferLemmas.{width-empty, same-empty, index-at, decide_position}
use Rattle.widget_boxes.specs.{Clears.RendersClear}

module _ (area : Rect) (old new : BufferData) (edges : EdgesFit old.area) (is : RendersClear area old new)
    (was : IsSettledBuffer old) where
  each : (a b : ℕ) → a < old.area.width → b < old.area.height
      → (cell_at old.area.width new.cells a b ≡ cell_at old.area.width old.cells a b)
      ⊎ (cell_at old.area.width new.cells a b ≡ empty_cell)
  each a b a_in b_in =
      let right = edges.right in let bottom = edges.bottom in
      let p : Position = position_of (old.area.x + a, old.area.y + b) in
      let has : HasPosition old.area p = record {
        left = omega arith;
        right = omega arith;
        top = omega arith;
        bottom = omega arith;
      } in
      let at = index-at old.area.x old.area.y old.area.width a b in
      elim (decide_position area p) [
        | inl (inside, e) ↦ inr (subst (λ i. cell new.cells i ≡ empty_cell) at
            (subst (λ q. cell new.cells (cell_index q p) ≡ empty_cell) is.area (is.inside p has inside)))
        | inr (off, e) ↦ inl (subst (λ i. cell new.cells i ≡ cell old.cells i) at
            (subst (λ q. cell new.cells (cell_index q p) ≡ cell old.cells (cell_index old.area p)) is.area
            (is.outside p has off)))
      ]

  pub clear-settled : IsSettledBuffer new
  clear-settled = subst (λ q. IsSettled q.width q.height new.cells) (sym is.area) (record {
    skipped = λ a b a_in b_in skip. ⊎_elim
        (λ (same : cell_at old.area.width new.cells a b ≡ cell_at old.area.width old.cells a b).
        rw same (was.skipped a b a_in b_in (sym (ap is_skipped same) ∙ skip)))
        (λ (empty : cell_at old.area.width new.cells a b ≡ empty_cell).
        let w : width_of (cell_at old.area.width new.cells a b) ≡ 1 = ap width_of empty ∙ width-empty in omega arith)
        (each a b a_in b_in);
    within = λ a b a_in b_in off. ⊎_elim
        (λ (same : cell_at old.area.width new.cells a b ≡ cell_at old.area.width old.cells a b).
        rw same (was.within a b a_in b_in (sym (ap is_skipped same) ∙ off)))
        (λ (empty : cell_at old.area.width new.cells a b ≡ empty_cell).
        let w : width_of (cell_at old.area.width new.cells a b) ≡ 1 = ap width_of empty ∙ width-empty in omega arith)
        (each a b a_in b_in);
    behind = λ a b k a_in b_in off more less. ⊎_elim
        (λ (same : cell_at old.area.width new.cells a b ≡ cell_at old.area.width old.cells a b).
        let w : width_of (cell_at old.area.width new.cells a b) ≡ width_of (cell_at old.area.width old.cells a b) =
        ap width_of same in
        let plain = sym (ap is_skipped same) ∙ off in
        let ends = was.within a b a_in b_in plain in
        ⊎_elim
        (λ (stays : cell_at old.area.width new.cells k b ≡ cell_at old.area.width old.cells k b). subst IsBlankOrSkipped
        (sym stays) (was.behind a b k a_in b_in plain more (omega arith)))
        (λ (gone : cell_at old.area.width new.cells k b ≡ empty_cell). inl (ap (λ c. is_same c empty_cell) gone ∙ same-empty))
        (each k b (omega arith) b_in))
        (λ (empty : cell_at old.area.width new.cells a b ≡ empty_cell).
        let w : width_of (cell_at old.area.width new.cells a b) ≡ 1 = ap width_of empty ∙ width-empty in absurd (omega arith))
        (each a b a_in b_in);
  })
