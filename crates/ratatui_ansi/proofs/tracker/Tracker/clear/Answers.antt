use Rattle.std.proofs.lemmas.Result.{on_ok_weaker}
use Rattle.ratatui_core.specs.Backend.{UntilNewLine}
use Rattle.ratatui_ansi.proofs.TrackLemmas.{clears-corner, clears-at, clears-before}
use Rattle.ratatui_ansi.proofs.tracker.Tracker.clear.Goals as goal

pub returns-then-y-eq0-clause-ok : goal.returns-then-y-eq0-clause-ok
returns-then-y-eq0-clause-ok c =
    rw c.in-AfterCursor.is (on_ok_weaker c.clear_all-then-y-eq0.result
    (clears-corner c.args.self.now _ c.if-x-eq0.true c.if-y-eq0.true) c.clear_all-then-y-eq0.ensures.ok)

pub returns-in-BeforeCursor-clause-ok : goal.returns-in-BeforeCursor-clause-ok
returns-in-BeforeCursor-clause-ok c =
    let end = c.symbol_end-end in
    rw c.in-BeforeCursor.is (on_ok_weaker c.clear_at-in-BeforeCursor.result
    (clears-before c.args.self.now _ end.result end.ensures.from end.ensures.column
    (rw c.as_slice.ensures.value at end.ensures.continuations)) c.clear_at-in-BeforeCursor.ensures.ok)

pub returns-in-UntilNewLine-clause-ok : goal.returns-in-UntilNewLine-clause-ok
returns-in-UntilNewLine-clause-ok c =
    rw c.in-UntilNewLine.is (on_ok_weaker c.clear_at-in-UntilNewLine.result (clears-at c.args.self.now _ UntilNewLine)
    c.clear_at-in-UntilNewLine.ensures.ok)
