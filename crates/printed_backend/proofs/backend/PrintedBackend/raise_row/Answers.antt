use Rattle.std.proofs.Common.{refl, arith, ◌∙◌}
use Rattle.rtui_backend.proofs.DrawLemmas.{Draws-push}
use Rattle.printed_backend.specs.Printed.{shown_on}
use Rattle.printed_backend.proofs.DrawingLemmas.{drawn_further}
use Rattle.printed_backend.proofs.RaisingLemmas.{raised-more}
use Rattle.printed_backend.proofs.backend.PrintedBackend.raise_row.Goals as goal

pub returns-in_err-put-clause-drawn : goal.returns-in_err-put-clause-drawn
returns-in_err-put-clause-drawn c = drawn_further c.args.self.now c.loop-x.self c.put.new.self _ c.loop-x.invariant.drawn.1
    c.loop-x.invariant.raised.cursor c.in_err-put.ensures.memory

pub loop-x-preserved : goal.loop-x-preserved
loop-x-preserved c =
    let was = c.loop-x.invariant in
    let drawn = c.in_ok-put.ensures.ok in
    record {
      raised = raised-more c.args.from c.args.end c.loop-x.x (shown_on c.args.self.now) (shown_on c.loop-x.self)
          (shown_on c.put.new.self) _ c.requires.above (omega (arith, was.width, c.loop-x-test.true))
          (omega (arith, c.requires.some, c.requires.rows)) was.raised refl refl c.in_ok-cell.ensures drawn
          c.in_ok-put.ensures.cursor;
      drawn = (_, Draws-push was.drawn.1 drawn);
      failures = c.put.ensures.failures ∙ was.failures;
      width = was.width;
    }
