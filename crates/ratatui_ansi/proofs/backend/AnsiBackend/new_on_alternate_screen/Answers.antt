use Rattle.std.proofs.Common.{[]}
use Rattle.std.proofs.lemmas.Result.{IfOk-weaker}
use Rattle.ratatui_ansi.proofs.backend.AnsiBackend.new_on_alternate_screen.Goals as goal

pub returns-clause-before : goal.returns-clause-before
returns-clause-before g c =
    IfOk-weaker c.begin.result _ _ (λ b tied. record {
      first = c.opening_alternate.result.now;
      begins = c.opening_alternate.ensures c.args.size.width c.args.size.height [];
      tied = tied;
    }) c.begin.ensures.before
