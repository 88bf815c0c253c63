use Rattle.std.proofs.Common.{◌≡◌}
use Rattle.rtui_terminal.specs.Writing.{last_place}
use Rattle.rtui_buffer.specs.Shown.{buffer_updates}
use Rattle.rtui_terminal.proofs.terminal.following.last_update.Given as goal

abbrev pub invariant-loop-x : goal.invariant-loop-x
invariant-loop-x l = last_place l.last l.x-iterator ≡ last_place l.fn.start (buffer_updates l.fn.previous l.fn.current)
