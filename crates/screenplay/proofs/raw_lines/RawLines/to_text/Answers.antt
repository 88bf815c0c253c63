use Rattle.std.proofs.Common.{◌∙◌, ap}
use Rattle.screenplay.specs.Inner.{front_of}
use Rattle.screenplay.proofs.FrontLemmas.{front-whole}
use Rattle.screenplay.proofs.raw_lines.RawLines.to_text.Goals as goal

pub returns : goal.returns
returns c = rw c.as_slice-lines.ensures.value at
    (c.loop-line.invariant ∙ front-whole _ c.min-count.result c.loop-line.line-index c.min-count.ensures c.loop-line-test.false)
    ∙ ap front_of c.self.view_is
