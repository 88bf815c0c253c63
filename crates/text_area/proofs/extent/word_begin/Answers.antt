use Rattle.std.proofs.Common.{◌+◌, take, ap, sym, ◌∙◌}
use Rattle.std.specs.List.{suffix_len}
use Rattle.text_area.specs.Extents.{is_gap, in_word}
use Rattle.text_area.proofs.RunLemmas.{word-left}
use Rattle.text_area.proofs.extent.word_begin.Goals as goal

pub returns-clause-value : goal.returns-clause-value
returns-clause-value c =
    let same = sym c.as_bytes-bytes.ensures.value in
    word-left c.args.text.now c.args.at c.run_start.result c.letters_begin.result c.requires
    (ap (λ t. c.run_start.result + suffix_len is_gap (take c.args.at t)) same ∙ c.run_start.ensures.value)
    (ap (λ t. c.letters_begin.result + suffix_len in_word (take c.run_start.result t)) same ∙ c.letters_begin.ensures.value)
