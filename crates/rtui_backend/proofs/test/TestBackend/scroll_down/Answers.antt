use Rattle.std.proofs.Common.{◌≡◌, min, refl, arith}
use Rattle.std.proofs.lemmas.Grind.{common_steps}
use Rattle.rtui_grid.proofs.MoveLemmas.{rows_lowered}
use Rattle.rtui_cell.specs.Cell.{empty_cell}
use Rattle.rtui_backend.specs.Screen.{scrolling_down}
use Rattle.rtui_buffer.specs.BufferData.{refilled}
use Rattle.rtui_backend.proofs.ShiftLemmas.{unmarked_moved, grid_moved}
use Rattle.rtui_backend.proofs.test.TestBackend.scroll_down.Goals as goal

pub returns-clause-scrolled : goal.returns-clause-scrolled
returns-clause-scrolled c =
    let s = c.args.self.now in
    let w = s.buffer.area.width in
    let cells = s.buffer.cells in
    let new = c.shift_down.new.items in
    let a = c.args.region.start in
    let e = min c.args.region.end s.buffer.area.height in
    let items : refilled cells new ≡ new = grind (arith, common_steps) in
    let end : c.min-end.result ≡ e = grind (arith, common_steps) in
    let moved = rw (
      c.cells_mut.ensures.cells,
      c.from-3.ensures,
      c.from-2.ensures,
      c.from.ensures,
      c.from-width.ensures,
      end,
      c.area-area.ensures.area,
    ) at c.shift_down.ensures in
    record {
      history = refl;
      width = refl;
      height = refl;
      grid = λ x y x_in y_in. rw items (grid_moved (scrolling_down a e c.args.n) w x y cells new x_in
          (rows_lowered empty_cell w x x_in cells new a e c.args.n moved y));
      visible = refl;
      written = refl;
      no_rows = λ none. absurd (omega (arith, end));
    }

pub invariant_of-self-clause-plain : goal.invariant_of-self-clause-plain
invariant_of-self-clause-plain c =
    let items : refilled c.args.self.now.buffer.cells c.shift_down.new.items ≡ c.shift_down.new.items =
    grind (arith, common_steps) in
    λ i. rw (items, c.shift_down.ensures i, c.cells_mut.ensures.cells) (unmarked_moved _ _ _ _ (c.args.self.now.plain _)
    (c.args.self.now.plain _))
