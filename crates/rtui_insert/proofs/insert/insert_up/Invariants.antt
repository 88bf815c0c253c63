use Rattle.std.proofs.Common.{◌≡◌, ◌-◌, ◌≤◌, true}
use Rattle.rtui_buffer.specs.Shown.{IsSettledBuffer}
use Rattle.rtui_insert.specs.{Insertion.KeepsSizeAndVisibility, Scrolling.HasRaised}
use Rattle.rtui_insert.proofs.insert.insert_up.Given as goal

abbrev pub invariant-loop-done : goal.invariant-loop-done
invariant-loop-done g l = record {
  all : l.height ≡ l.rows.area.height;
  done : l.done ≤ l.height;
  first : l.fn.first ≤ l.done;
  counts : g.B.Backend.failures l.backend ≡ g.B.Backend.failures l.fn.backend;
  shape : KeepsSizeAndVisibility (g.B.Backend.screen l.fn.backend) (g.B.Backend.screen l.backend);
  flushed : (l.fn.first ≡ l.done → g.B.Backend.is_flushed l.fn.backend ≡ true) → g.B.Backend.is_flushed l.backend ≡ true;
  raised : l.rows.area.width ≡ (g.B.Backend.screen l.fn.backend).width → l.fn.top ≤ (g.B.Backend.screen l.fn.backend).height
      → IsSettledBuffer l.rows
      → HasRaised l.rows l.fn.first (l.done - l.fn.first) l.fn.top (g.B.Backend.screen l.fn.backend)
      (g.B.Backend.screen l.backend);
}

abbrev pub decreases-loop-done : goal.decreases-loop-done
decreases-loop-done g l = l.height - l.done
