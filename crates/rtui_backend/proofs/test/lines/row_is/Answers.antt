use Rattle.std.proofs.Common.{length}
use Rattle.std.specs.Str.Lines.{lines}
use Rattle.std.proofs.lemmas.Bool.{false≢true}
use Rattle.rtui_backend.specs.Inner.{symbol_in}
use Rattle.rtui_backend.proofs.WalkLemmas.{line-if, no-line}
use Rattle.rtui_backend.proofs.test.lines.row_is.Goals as goal

pub returns-in-Some : goal.returns-in-Some
returns-in-Some c =
    line-if (symbol_in c.args.row.now) (length c.args.row.now) (lines c.args.line.now) c.in-Some.end c.is_blank.result
    (rw c.in-Some.is at c.line_end.ensures.end) c.is_blank.ensures

pub returns-in-None : goal.returns-in-None
returns-in-None c = (
  λ t. absurd (false≢true t),
  λ h. absurd (no-line (symbol_in c.args.row.now) (length c.args.row.now) (lines c.args.line.now)
      (rw c.in-None.is at c.line_end.ensures.end) h),
)
