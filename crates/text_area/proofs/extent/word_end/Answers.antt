use Rattle.std.proofs.Common.{◌+◌, drop, ap, ◌∙◌}
use Rattle.std.specs.List.{prefix_len}
use Rattle.text_area.specs.Extents.{is_gap, in_word}
use Rattle.text_area.proofs.RunLemmas.{word-right}
use Rattle.text_area.proofs.extent.word_end.Goals as goal

pub returns-clause-value : goal.returns-clause-value
returns-clause-value c =
    let same = c.as_bytes-bytes.ensures.value in
    word-right c.args.text.now c.args.at c.run_end.result c.letters_end.result
    (c.run_end.ensures.value ∙ ap (λ t. c.args.at + prefix_len is_gap (drop c.args.at t)) same)
    (c.letters_end.ensures.value ∙ ap (λ t. c.run_end.result + prefix_len in_word (drop c.run_end.result t)) same)
