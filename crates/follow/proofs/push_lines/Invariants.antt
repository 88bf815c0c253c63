use Rattle.std.proofs.Common.{◌≡◌, [], IfSome}
use Rattle.ratatui_core.specs.Layout.{Size}
use Rattle.ratatui_ansi.specs.Backend.{shown_by}
use Rattle.logview.specs.Views.{IsViewOf}
use Rattle.follow.proofs.LineLemmas.{HasRead}
use Rattle.follow.proofs.push_lines.Given as goal

abbrev pub invariant-loop : goal.invariant-loop
invariant-loop g l = record {
  read : IfSome (g.R.Read.remaining l.fn.reader) (λ text. (size : Size) → IsViewOf shown_by size [] l.fn.view
      → HasRead size text (g.R.Read.remaining l.reader) l.view);
  calls : l.view.terminal.backend.failures ≡ l.fn.view.terminal.backend.failures;
}
