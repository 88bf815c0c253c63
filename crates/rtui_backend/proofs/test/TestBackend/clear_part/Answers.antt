use Rattle.std.proofs.Common.{◌≡◌, ◌+◌, ◌*◌, refl, arith, false}
use Rattle.std.proofs.lemmas.Grind.{common_steps}
use Rattle.rtui_buffer.specs.BufferData.{refilled}
use Rattle.rtui_backend.proofs.{ShiftLemmas.grid_moved, ShiftLemmas.unmarked_moved, PlainLemmas.unmarked-empty}
use Rattle.rtui_cell.specs.Cell.{empty_cell}
use Rattle.rtui_backend.specs.{Clear.is_cleared, Screen.clearing}
use Rattle.rtui_backend.proofs.test.TestBackend.clear_part.Goals as goal

pub returns-clause-cleared : goal.returns-clause-cleared
returns-clause-cleared c =
    let s = c.args.self.now in
    let new = c.fill.new.items in
    let items : refilled s.buffer.cells new ≡ new = grind (arith, common_steps) in
    let places = rw (c.as_size-size.ensures, c.area.ensures.area) at c.cleared_places-from.ensures.places in
    record {
      rest = refl;
      grid = λ a b a_in b_in.
          rw items (grid_moved (clearing (is_cleared c.args.clear_type s.cursor.x s.cursor.y)) s.buffer.area.width a b
          s.buffer.cells new a_in (rw (c.cells_mut.ensures.cells, places a b a_in b_in) at
          (c.fill.ensures (b * s.buffer.area.width + a))));
    }

pub invariant_of-self-clause-plain : goal.invariant_of-self-clause-plain
invariant_of-self-clause-plain c =
    let items : refilled c.args.self.now.buffer.cells c.fill.new.items ≡ c.fill.new.items = grind (arith, common_steps) in
    λ i. rw (items, c.fill.ensures i, c.cells_mut.ensures.cells)
    (unmarked_moved _ false empty_cell _ unmarked-empty (c.args.self.now.plain _))
