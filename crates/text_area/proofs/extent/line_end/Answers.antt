use Rattle.std.proofs.Common.{eqb-true}
use Rattle.memchr.specs.Find.{is_byte}
use Rattle.text_area.proofs.RunLemmas.{end-value, end-stops, end-none}
use Rattle.text_area.proofs.extent.line_end.Goals as goal

pub returns-in-Some-clause-value : goal.returns-in-Some-clause-value
returns-in-Some-clause-value c =
    end-value (is_byte 10) c.args.text.now _ c.args.at c.as_bytes.ensures.value c.requires c.in-Some.offset
    c.in-Some.ensures.0 c.in-Some.ensures.1

pub returns-in-Some-clause-stops : goal.returns-in-Some-clause-stops
returns-in-Some-clause-stops c _ =
    eqb-true _ _ (end-stops (is_byte 10) c.args.text.now _ c.args.at c.as_bytes.ensures.value c.requires c.in-Some.offset
    c.in-Some.ensures.0 c.in-Some.ensures.1)

pub returns-in-None-clause-value : goal.returns-in-None-clause-value
returns-in-None-clause-value c =
    end-none (is_byte 10) c.args.text.now _ c.args.at c.as_bytes.ensures.value c.requires c.in-None.ensures
