use Rattle.std.proofs.Common.{◌+◌}
use Rattle.ratatui_core.specs.{Widgets.ChangesWithin, Buffer.IsReadyFrom}
use Rattle.files.specs.Pages.{PaintsFirstRows}
use Rattle.files.proofs.browser.Browser.paint_rows.Given as goal

abbrev pub invariant-loop-k : goal.invariant-loop-k
invariant-loop-k l = record {
  within : ChangesWithin l.fn.part l.fn.buf l.buf;
  paints : PaintsFirstRows l.fn.self l.fn.part l.k l.fn.buf l.buf;
  ready : IsReadyFrom l.fn.part.y l.fn.buf → IsReadyFrom (l.fn.part.y + l.k) l.buf;
}
