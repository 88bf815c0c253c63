use Rattle.rtui_style.proofs.ReadBack.{name_is_read}
use Rattle.rtui_style.proofs.laws.printed_color_is_read.Goals as goal

pub returns-in-Indexed : goal.returns-in-Indexed
returns-in-Indexed c = rw c.in-Indexed.is c.index_is_read.ensures

pub returns-in_default : goal.returns-in_default
returns-in_default c = name_is_read c.args.color c.in_default.not-Rgb c.in_default.not-Indexed
