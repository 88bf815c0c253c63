use Rattle.std.proofs.Common.{◌≡◌, ◌*◌, length, refl, ap, ◌∙◌, arith}
use Rattle.std.proofs.lemmas.Grind.{common_steps}
use Rattle.rtui_geometry.specs.declared.rect.Rect.{Rect}
use Rattle.rtui_buffer.specs.BufferData.{refilled}
use Rattle.rtui_buffer.proofs.EmptyLemmas.{cell-empty}
use Rattle.rtui_backend.proofs.SizeLemmas.{taken-grid, taken-unmarked}
use Rattle.rtui_backend.proofs.test.TestBackend.resize.Goals as goal

pub returns-clause-ok : goal.returns-clause-ok
returns-clause-ok c =
    let s = c.args.self.now in
    let former = s.buffer.area in
    let new = c.move_block.new.items in
    let made = c.in_ok-buffer.ensures.emptied in
    let width : c.in_ok-buffer.buffer.area.width ≡ c.args.width = ap (λ (r : Rect). r.width) (made.area ∙ c.new.ensures.value)
    ∙ omega arith in
    let height : c.in_ok-buffer.buffer.area.height ≡ c.args.height = ap (λ (r : Rect). r.height) (made.area ∙ c.new.ensures.value)
    ∙ omega arith in
    let items : refilled c.in_ok-buffer.buffer.cells new ≡ new = grind (arith, common_steps) in
    let moved = rw (
      c.min.ensures,
      c.min-2.ensures,
      c.as_size-former.ensures,
      c.area.ensures.area,
      c.cells_mut-former_cells.ensures.cells,
      c.cells_mut.ensures.cells,
    ) at c.move_block.ensures in
    record {
      history = refl;
      size = rw (width, height) refl;
      grid = λ a b a_in b_in. rw (width, items)
          (taken-grid former.width former.height c.args.width c.args.height s.buffer.cells c.in_ok-buffer.buffer.cells new
          (λ k. rw made.cells (cell-empty _ k)) moved a b a_in b_in);
      cursor = rw (c.min-self.ensures, c.min-self-2.ensures, c.saturating_sub.ensures, c.saturating_sub-2.ensures) refl;
      visible = refl;
      written = refl;
    }

pub invariant_of-self-clause-plain : goal.invariant_of-self-clause-plain
invariant_of-self-clause-plain c =
    let s = c.args.self.now in
    let former = s.buffer.area in
    let new = c.move_block.new.items in
    let made = c.in_ok-buffer.ensures.emptied in
    let width : c.in_ok-buffer.buffer.area.width ≡ c.args.width = ap (λ (r : Rect). r.width) (made.area ∙ c.new.ensures.value)
    ∙ omega arith in
    let height : c.in_ok-buffer.buffer.area.height ≡ c.args.height = ap (λ (r : Rect). r.height) (made.area ∙ c.new.ensures.value)
    ∙ omega arith in
    let items : refilled c.in_ok-buffer.buffer.cells new ≡ new = grind (arith, common_steps) in
    let moved = rw (
      c.min.ensures,
      c.min-2.ensures,
      c.as_size-former.ensures,
      c.area.ensures.area,
      c.cells_mut-former_cells.ensures.cells,
      c.cells_mut.ensures.cells,
    ) at c.move_block.ensures in
    let count : length new ≡ c.args.width * c.args.height = rw (width, height) at (c.move_block.auto.items
    ∙ c.cells_mut.ensures.count) in
    rw items (taken-unmarked former.width former.height c.args.width c.args.height s.buffer.cells c.in_ok-buffer.buffer.cells new
    (λ k. rw made.cells (cell-empty _ k)) moved count s.plain)
