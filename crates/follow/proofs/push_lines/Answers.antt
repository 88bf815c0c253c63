use Rattle.std.proofs.Common.{refl, ◌∙◌}
use Rattle.ratatui_ansi.proofs.RefusalLemmas.{if-error}
use Rattle.follow.proofs.LineLemmas.{begun, turned, ended, stopped, overrun}
use Rattle.follow.proofs.push_lines.Goals as goal

pub loop-init : goal.loop-init
loop-init g c = record { read = begun (g.R.Read.remaining c.args.reader.now) c.args.view.now; calls = refl }

pub loop-preserved : goal.loop-preserved
loop-preserved g c = record {
  read = turned (g.R.Read.remaining c.args.reader.now)
      (g.R.Read.remaining c.loop.reader) _ c.args.view.now c.loop.view _ c.loop.invariant.read
      (rw c.if-not-branch.false at c.in_ok-push_line.ensures.ok);
  calls = c.in_ok-push_line.ensures.calls ∙ c.loop.invariant.calls;
}

pub returns-then-not-branch-clause-ok : goal.returns-then-not-branch-clause-ok
returns-then-not-branch-clause-ok g c = ended (g.R.Read.remaining c.args.reader.now)
    (g.R.Read.remaining c.loop.reader) _ c.args.view.now c.loop.view _ c.loop.invariant.read
    (rw c.if-not-branch.true at c.in_ok-push_line.ensures.ok)

pub returns-in_err-push_line-clause-stopped : goal.returns-in_err-push_line-clause-stopped
returns-in_err-push_line-clause-stopped g c =
    if-error _ _ _ c.from_residual.ensures (stopped (g.R.Read.remaining c.args.reader.now)
    (g.R.Read.remaining c.loop.reader) c.args.view.now c.loop.view _ _ c.loop.invariant.read
    c.in_err-push_line.ensures.stopped)

pub returns-clause-stopped : goal.returns-clause-stopped
returns-clause-stopped g c = overrun (g.R.Read.remaining c.args.reader.now)
    (g.R.Read.remaining c.loop.reader) c.args.view.now c.loop.view c.loop.invariant.read
