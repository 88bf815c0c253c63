use Rattle.std.proofs.Common.{◌∙◌, ap}
use Rattle.bitflags.specs.Sets.{known_bits, known_from, without}
use Rattle.rtui_style.specs.Modifier.{bits_of, modifier_table}
use Rattle.ratatui_serde.specs.Flags.{with_names, with_stray}
use Rattle.ratatui_serde.proofs.colors.modifier_words.Goals as goal

pub returns : goal.returns
unfolding known_from
returns c =
    let bits = bits_of c.args.modifier in
    c.in_ok-push_stray.ensures
    ∙ ap (with_stray c.push_names.new.text.bytes) (c.bits.ensures tt ∙ c.difference.ensures tt)
    ∙ ap (λ t. with_stray t (without 16 bits (known_bits modifier_table)))
    (c.in_ok-push_names.ensures tt ∙ ap (λ t. with_names t modifier_table bits) c.new-words.ensures)
