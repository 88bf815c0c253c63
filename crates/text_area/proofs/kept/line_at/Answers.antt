use Rattle.std.proofs.Common.{subst}
use Rattle.rtui_text.specs.Printable.{ArePrintable}
use Rattle.text_area.proofs.LineKept.{kept-read}
use Rattle.text_area.proofs.kept.line_at.Goals as goal

pub returns-clause-kept : goal.returns-clause-kept
returns-clause-kept c =
    kept-read c.args.text.now record {
      start = c.line_begin-start.result;
      end = c.line_end-end.result;
      is_plain = c.is_plain.result;
    } c.args.at c.utf8.text c.requires c.line_begin-start.ensures.value c.line_begin-start.ensures.stops
    c.line_begin-start.ensures.boundary c.line_end-end.ensures.value c.line_end-end.ensures.boundary
    c.line_end-end.ensures.stops
    (λ plain. subst ArePrintable c.range.ensures.value (c.is_plain.ensures plain))
