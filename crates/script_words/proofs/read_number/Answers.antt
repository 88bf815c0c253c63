use Rattle.std.proofs.Common.{sym, ◌∙◌}
use Rattle.script_words.proofs.NumberLemmas.{number_parsed}
use Rattle.script_words.proofs.read_number.Goals as goal

pub returns-then-are_digits : goal.returns-then-are_digits
returns-then-are_digits c =
    c.ok.ensures.value
    ∙ number_parsed c.args.text.now c.parse.result c.parse.ensures.value.0 (sym c.are_digits.ensures ∙ c.if-are_digits.true)
