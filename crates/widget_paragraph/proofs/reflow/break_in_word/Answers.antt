use Rattle.std.proofs.Common.{arith}
use Rattle.std.proofs.lemmas.List.{length-take}
use Rattle.widget_paragraph.specs.Reflow.{is_break}
use Rattle.widget_paragraph.proofs.ReflowLemmas.{last-inside, word-ends-at, word-broken}
use Rattle.widget_paragraph.proofs.reflow.break_in_word.Goals as goal

pub slice_bounds-words_end-end : goal.slice_bounds-words_end-end
slice_bounds-words_end-end c =
    let le = last-inside is_break c.args.graphemes.now c.args.count c.last_word-word.result c.last_word-word.ensures in
    omega (arith, c.requires, length-take c.last_word-word.result c.args.graphemes.now)

pub returns-then-end-gt0 : goal.returns-then-end-gt0
returns-then-end-gt0 c = word-ends-at c.args.graphemes.now c.args.count c.last_word-word.result c.words_end-end.result
    c.last_word-word.ensures c.words_end-end.ensures c.if-end-gt0.true

pub returns-else-end-gt0 : goal.returns-else-end-gt0
returns-else-end-gt0 c = word-broken c.args.graphemes.now c.args.count c.last_word-word.result c.words_end-end.result
    c.last_word-word.ensures c.words_end-end.ensures c.if-end-gt0.false
