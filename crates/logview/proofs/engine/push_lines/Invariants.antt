use Rattle.std.proofs.Common.{◌≡◌, ◌+◌, [], length, map}
use Rattle.ratatui_core.specs.{Layout.Size}
use Rattle.logview.specs.Views.{IsViewOf}
use Rattle.logview.proofs.engine.push_lines.Given as goal

abbrev pub invariant-loop-line : goal.invariant-loop-line
invariant-loop-line g l = record {
  count : l.number ≡ length l.yielded + 1;
  view : (size : Size) → IsViewOf g.B.Backend.screen size [] l.initial.view
      → IsViewOf g.B.Backend.screen size (map (λ line. line.now) l.yielded) l.view;
}
