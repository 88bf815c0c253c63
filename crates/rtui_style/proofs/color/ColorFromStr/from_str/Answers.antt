use Rattle.std.proofs.Common.{Some, None, ◌∙◌, sym}
use Rattle.rtui_style.proofs.Reading.{read_index, read_hex, index_is_parsed, no_index}
use Rattle.rtui_style.proofs.color.ColorFromStr.from_str.Goals as goal

pub returns-in-Ok : goal.returns-in-Ok
returns-in-Ok c = read_index c.args.text.now c.in-Ok.index (sym c.named_color.ensures ∙ c.in_default.is)
    (index_is_parsed c.args.text.now c.in-Ok.index c.in-Ok.ensures.value.0)

pub returns-in-Some-hex_color : goal.returns-in-Some-hex_color
returns-in-Some-hex_color c =
    read_hex c.args.text.now (Some c.in-Some-hex_color.color) (sym c.named_color.ensures ∙ c.in_default.is)
    (no_index c.args.text.now c.in_default-parse.ensures.value.0) (sym c.hex_color.ensures ∙ c.in-Some-hex_color.is)

pub returns-in-None : goal.returns-in-None
returns-in-None c =
    read_hex c.args.text.now None (sym c.named_color.ensures ∙ c.in_default.is)
    (no_index c.args.text.now c.in_default-parse.ensures.value.0) (sym c.hex_color.ensures ∙ c.in-None.is)
