use Rattle.widget_paragraph.proofs.ReflowLemmas.{blank-ends, blank-whole}
use Rattle.widget_paragraph.proofs.reflow.break_at_blank.Goals as goal

pub returns-then-end-gt0 : goal.returns-then-end-gt0
returns-then-end-gt0 c = blank-ends c.args.graphemes.now c.args.count c.words_end-end.result c.words_end-end.ensures
    c.if-end-gt0.true

pub returns : goal.returns
returns c = blank-whole c.args.graphemes.now c.args.count c.words_end-end.result c.words_end-end.ensures c.if-end-gt0.false
