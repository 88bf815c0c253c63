use Rattle.std.proofs.Common.{◌∙◌, ap}
use Rattle.bitflags.specs.Sets.{known_bits, known_from, without}
use Rattle.widget_boxes.specs.Borders.{border_table, sides_of}
use Rattle.ratatui_serde.specs.Flags.{with_names, with_stray}
use Rattle.ratatui_serde.proofs.borders.side_words.Goals as goal

pub returns : goal.returns
unfolding known_from
returns c =
    let bits = sides_of c.args.borders in
    c.in_ok-push_stray.ensures
    ∙ ap (with_stray c.push_names.new.text.bytes)
    (c.from.ensures ∙ c.bits.ensures tt ∙ c.difference.ensures tt)
    ∙ ap (λ t. with_stray t (without 8 bits (known_bits border_table)))
    (c.in_ok-push_names.ensures tt ∙ ap (λ t. with_names t border_table bits) c.new-words.ensures)
