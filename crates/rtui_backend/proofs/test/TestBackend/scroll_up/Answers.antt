use Rattle.std.proofs.Common.{◌≡◌, ◌+◌, ◌*◌, ◌==◌, true, min, nat_lt, length, take, map, [], if◌then◌else◌, refl, ◌∙◌, arith}
use Rattle.std.specs.List.{range_with_len}
use Rattle.std.proofs.lemmas.{Bool.Decides.nat_tests, Grind.common_steps}
use Rattle.rtui_cell.specs.{Look.look_of, Cell.empty_cell}
use Rattle.rtui_grid.proofs.MoveLemmas.{rows_raised}
use Rattle.rtui_backend.specs.{Screen.scrolling_up, CellGrid.look_at}
use Rattle.rtui_buffer.specs.BufferData.{refilled}
use Rattle.rtui_backend.proofs.ShiftLemmas.{unmarked_moved, unmarked_rows, unmarked_front, grid_moved, rows_left, looks_behind}
use Rattle.rtui_backend.proofs.ShiftLemmas.{history_left}
use Rattle.rtui_backend.proofs.test.TestBackend.scroll_up.Goals as goal

pub returns-clause-ok : goal.returns-clause-ok
returns-clause-ok c =
    let s = c.args.self.now in
    let w = s.buffer.area.width in
    let h = s.buffer.area.height in
    let cells = s.buffer.cells in
    let new = c.shift_up.new.items in
    let a = c.args.region.start in
    let b = c.args.region.end in
    let e = min b h in
    let size : length cells ≡ w * h = grind (arith, common_steps) in
    let items : refilled cells new ≡ new = grind (arith, common_steps) in
    let end : c.min-end.result ≡ e = grind (arith, common_steps) in
    let moved = rw (
      c.cells_mut.ensures.cells,
      c.from-3.ensures,
      c.from-2.ensures,
      c.from.ensures,
      c.from-width.ensures,
      end,
      c.area-area.ensures.area,
    ) at c.shift_up.ensures in
    let some : nat_lt 0 e ≡ true = grind (arith, nat_tests) in
    let rows : map (λ r. map look_of r.items) c.in_ok-rows.rows.items ≡
    (if a == 0 then map (λ y. map (λ x. look_at (take (e * w) cells) (y * w + x)) (range_with_len 0 w))
    (range_with_len 0 c.args.n) else []) =
    rw (
      c.content.ensures.cells,
      c.from.ensures,
      c.from-width.ensures,
      end,
      c.area-area.ensures.area,
    ) at c.in_ok-rows.ensures.looks in
    record {
      history =
          looks_behind (λ r. map look_of r.items) s.scrollback.items _ c.in_ok-rows.rows.items _ c.in_ok-append.ensures.items rows
          ∙ history_left (map (λ r. map look_of r.items) s.scrollback.items) (a == 0)
          (nat_lt 0 e) some (rows_left w h e cells size (omega arith) c.args.n);
      width = refl;
      height = refl;
      grid = λ x y x_in y_in. rw items (grid_moved (scrolling_up a e c.args.n) w x y cells new x_in
          (rows_raised empty_cell w x x_in cells new a e c.args.n moved y));
      visible = refl;
      written = refl;
      no_rows = λ none. absurd (omega (arith, end));
    }

pub invariant_of-self-2-clause-plain_history : goal.invariant_of-self-2-clause-plain_history
invariant_of-self-2-clause-plain_history c =
    rw c.in_ok-append.ensures.items
    (unmarked_rows (λ r. r.items) c.args.self.now.scrollback.items c.in_ok-rows.rows.items c.args.self.now.plain_history
    (c.in_ok-rows.ensures.unmarked (unmarked_front (c.from.result * c.from-width.result) c.content.result.now
    (rw c.content.ensures.cells c.args.self.now.plain))))

pub invariant_of-self-2-clause-plain : goal.invariant_of-self-2-clause-plain
invariant_of-self-2-clause-plain c =
    let items : refilled c.args.self.now.buffer.cells c.shift_up.new.items ≡ c.shift_up.new.items = grind (arith, common_steps) in
    λ i. rw (items, c.shift_up.ensures i, c.cells_mut.ensures.cells) (unmarked_moved _ _ _ _ (c.args.self.now.plain _)
    (c.args.self.now.plain _))
