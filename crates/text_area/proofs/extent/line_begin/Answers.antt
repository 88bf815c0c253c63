use Rattle.std.proofs.Common.{◌+◌, eqb-true, arith}
use Rattle.memchr.specs.Find.{is_byte}
use Rattle.text_area.proofs.RunLemmas.{begin-within, begin-value, begin-stops, begin-none, boundary-after}
use Rattle.text_area.proofs.extent.line_begin.Goals as goal

pub returns-in-Some-clause-value : goal.returns-in-Some-clause-value
returns-in-Some-clause-value c =
    begin-value (is_byte 10) c.args.text.now _ c.args.at c.as_bytes.ensures.value c.requires c.in-Some.feed
    c.in-Some.ensures.0 c.in-Some.ensures.1

pub returns-in-Some-clause-stops : goal.returns-in-Some-clause-stops
returns-in-Some-clause-stops c _ =
    eqb-true _ _ (begin-stops (is_byte 10) c.args.text.now _ c.args.at c.as_bytes.ensures.value c.requires c.in-Some.feed
    c.in-Some.ensures.0 c.in-Some.ensures.1)

pub returns-in-Some-clause-boundary : goal.returns-in-Some-clause-boundary
returns-in-Some-clause-boundary c =
    boundary-after c.args.text.now (c.in-Some.feed + 1) c.utf8.text
    (begin-within (is_byte 10) c.args.text.now _ c.args.at c.as_bytes.ensures.value c.requires c.in-Some.feed
    c.in-Some.ensures.0 c.in-Some.ensures.1)
    (λ some. omega (arith, returns-in-Some-clause-stops c some))

pub returns-in-None-clause-value : goal.returns-in-None-clause-value
returns-in-None-clause-value c =
    begin-none (is_byte 10) c.args.text.now _ c.args.at c.as_bytes.ensures.value c.requires c.in-None.ensures
