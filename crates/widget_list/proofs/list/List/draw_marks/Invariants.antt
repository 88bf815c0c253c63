use Rattle.std.proofs.Common.{◌-◌}
use Rattle.rtui_drawing.proofs.Laws.{Continues}
use Rattle.widget_list.specs.Items.{marks_drawing}
use Rattle.widget_list.proofs.list.List.draw_marks.Given as goal

abbrev pub invariant-loop-j : goal.invariant-loop-j
invariant-loop-j l =
    Continues (marks_drawing l.fn.self l.fn.is_selected l.j (l.fn.columns.height - l.j)) l.fn.columns
    (marks_drawing l.fn.self l.fn.is_selected 0 l.fn.columns.height) l.fn.columns l.fn.buf l.buf
