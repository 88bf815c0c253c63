use Rattle.std.proofs.Common.{◌≡◌, ◌+◌, ◌*◌, length, map, refl, ◌∙◌, arith, mul_comm}
use Rattle.std.specs.List.{range_with_len}
use Rattle.std.proofs.lemmas.{Bool.Decides.nat_tests, Grind.common_steps}
use Rattle.rtui_cell.specs.{Look.look_of, Cell.empty_cell}
use Rattle.rtui_buffer.specs.BufferData.{refilled}
use Rattle.rtui_backend.specs.{CellGrid.look_at, Screen.lines_past, Screen.scrolling_up, TestBackend.screen_of}
use Rattle.rtui_grid.proofs.MoveLemmas.{rows_raised}
use Rattle.rtui_backend.proofs.ShiftLemmas.{unmarked_moved, unmarked_rows, rows_are, looks_behind, grid_moved}
use Rattle.rtui_backend.proofs.test.TestBackend.append.Goals as goal

pub returns-clause-ok : goal.returns-clause-ok
returns-clause-ok c =
    let s = c.args.self.now in
    let w = s.buffer.area.width in
    let h = s.buffer.area.height in
    let cells = s.buffer.cells in
    let new = c.shift_up.new.items in
    let past = lines_past (screen_of s) c.args.n in
    let size : length cells ≡ w * h = grind (arith, common_steps) in
    let count : c.saturating_sub-past.result ≡ past = grind (arith, common_steps, nat_tests) in
    let items : refilled cells new ≡ new = grind (arith, common_steps) in
    let rows : map (λ r. map look_of r.items) c.in_ok-rows.rows.items ≡ map (λ b. map (λ a. look_at cells (b * w + a))
    (range_with_len 0 w)) (range_with_len 0 past) =
    rw (c.content.ensures.cells, c.area-area.ensures.area, count) at c.in_ok-rows.ensures.looks in
    let end : length cells ≡ h * w = size ∙ mul_comm w h in
    let top : 0 * w ≡ 0 = omega arith in
    let moved = rw (
      c.cells_mut-cells.ensures.cells,
      end,
      c.from-4.ensures,
      c.area-area.ensures.area,
      count,
    ) at c.shift_up.ensures in
    record {
      scrolled = record {
        history = looks_behind (λ r. map look_of r.items) s.scrollback.items _ c.in_ok-rows.rows.items _
            c.in_ok-append.ensures.items (rows ∙ rows_are w h cells size past);
        width = refl;
        height = refl;
        grid = λ a b a_in b_in. rw items (grid_moved (scrolling_up 0 h past) w a b cells new a_in
            (rows_raised empty_cell w a a_in cells new 0 h past (rw top moved) b) ∙ grind (arith, nat_tests));
        visible = refl;
        written = refl;
      };
      row = grind (arith, common_steps, nat_tests);
      no_rows = λ none. refl;
    }

pub invariant_of-self-2-clause-plain_history : goal.invariant_of-self-2-clause-plain_history
invariant_of-self-2-clause-plain_history c =
    rw c.in_ok-append.ensures.items
    (unmarked_rows (λ r. r.items) c.args.self.now.scrollback.items c.in_ok-rows.rows.items c.args.self.now.plain_history
    (c.in_ok-rows.ensures.unmarked (rw c.content.ensures.cells c.args.self.now.plain)))

pub invariant_of-self-2-clause-plain : goal.invariant_of-self-2-clause-plain
invariant_of-self-2-clause-plain c =
    let items : refilled c.args.self.now.buffer.cells c.shift_up.new.items ≡ c.shift_up.new.items = grind (arith, common_steps) in
    λ i. rw (items, c.shift_up.ensures i, c.cells_mut-cells.ensures.cells) (unmarked_moved _ _ _ _ (c.args.self.now.plain _)
    (c.args.self.now.plain _))
