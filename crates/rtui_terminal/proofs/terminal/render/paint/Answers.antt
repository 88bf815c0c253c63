use Rattle.std.proofs.Common.{rules, refl}
use Rattle.rtui_terminal.proofs.terminal.render.paint.Goals as goal

pub returns : goal.returns
returns g c =
    record {
      before = _;
      new_frame = record { no_cursor = refl; over = refl; numbered = refl; shows = refl };
      after = _;
      ran = record { shown = _; shows = refl; left = _; met = c.render_callback-answer.ensures; leaves = refl };
      left_cursor = refl;
      left_buffer = λ same. search rules;
    }
