use Rattle.std.proofs.Common.{◌≡◌, ◌-◌, ◌≤◌}
use Rattle.ratatui_core.specs.Buffer.{ChangesEach}
use Rattle.rtui_widgets.proofs.ChangeLemmas.{columns_to}
use Rattle.widget_boxes.specs.Inner.{ends_of, highlighted}
use Rattle.widget_boxes.proofs.highlights.highlight_row.Given as goal

abbrev pub invariant-loop-x : goal.invariant-loop-x
invariant-loop-x l = record {
  changes : ChangesEach (columns_to l.fn.part l.fn.y l.x) (highlighted l.fn.style l.fn.part l.fn.buf) l.fn.buf l.buf;
  end : l.end ≡ ends_of l.fn.buf l.fn.y l.fn.part.x (l.x - l.fn.part.x);
  small : l.end ≤ 131070;
}
