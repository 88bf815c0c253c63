use Rattle.std.proofs.Common.{◌∙◌, ap, sym}
use Rattle.bitflags.specs.Text.{bits_result, flag_piece, read_text}
use Rattle.bitflags.proofs.HexFacts.{reads_hex}
use Rattle.rtui_style.specs.Modifier.{bits_of, modifier_table}
use Rattle.ratatui_serde.proofs.colors.ModifierSetting.read.Goals as goal

pub returns-in-Ok : goal.returns-in-Ok
returns-in-Ok g c = (
  _,
  c.in_ok-words.ensures,
  ap (read_text (flag_piece modifier_table 16)) (sym c.as_str.ensures.value)
      ∙ sym (c.from_str.ensures.value tt (reads_hex 16)) ∙ ap (bits_result bits_of) c.in-Ok.is,
)
