use Rattle.std.proofs.Common.{◌≡◌, Ok, refl, ap, ◌∙◌, arith, rules}
use Rattle.rtui_buffer.specs.BufferData.{IsEmptied}
use Rattle.rtui_viewport.specs.Placing.{area_in}
use Rattle.rtui_terminal.proofs.StepLemmas.{blank_in_step, never_raised, not_both, first_cursor_is, first_area_open, placed_empty}
use Rattle.rtui_terminal.proofs.StepLemmas.{placed_scrolls}
use Rattle.rtui_terminal.proofs.terminal.Terminal.with_options.Goals as goal

pub returns-clause-starts : goal.returns-clause-starts
returns-clause-starts g c =
    let screen = g.B.Backend.screen in
    let viewport = c.args.options.viewport in
    let next = c.in_ok-placed.placed.area in
    let asks : c.first_area.result ≡ Ok c.in_ok-area.area = search rules in
    let places : c.place_viewport.result ≡ Ok c.in_ok-placed.placed = search rules in
    let asked = rw asks at c.first_area.ensures in
    let placed = rw (places, asked.stays) at c.place_viewport.ensures in
    let area : next ≡ area_in viewport c.in_ok-area.area 0 (screen c.args.backend).cursor_y = placed.area ∙ never_raised _ in
    let empty = placed_empty viewport c.in_ok-area.area 0 _ next in
    let made = rw c.rows_in.ensures at c.in_ok-frames.ensures in
    let moved = rw c.as_position.ensures at c.move_to.ensures in
    let current : IsEmptied next c.move_to.new.self.current = empty _ _ area made.current moved.current in
    let previous : IsEmptied next c.move_to.new.self.previous = empty _ _ area made.previous moved.previous in
    record {
      kind = refl;
      last_known_area = asked.area;
      last_known_cursor_pos = first_cursor_is viewport (screen c.args.backend) _ _ _ asked.area placed.cursor
          (rw c.as_position-2.ensures at c.unwrap_or-last_known_cursor_pos.ensures);
      viewport_area = area;
      current = current;
      previous = previous;
      hidden = refl;
      count = refl;
      scrolls = placed_scrolls viewport _ 0 placed.placed;
      cursor_row = placed.placed.cursor_row;
      untouched = λ other. ap screen (placed.quiet other (omega arith)).1 ∙ asked.stays;
      fixed = λ fixed. (placed.quiet (λ inline. not_both viewport inline fixed) (omega arith)).1 ∙ (asked.fixed fixed).1;
      on_screen = λ other. placed.on_screen (asked.area ∙ first_area_open viewport (screen c.args.backend) other);
      in_step = λ on blank. blank_in_step screen _ placed.fits on blank previous;
    }
