use Rattle.rtui_text.proofs.RestLemmas.{graphemes-control_free}
use Rattle.rtui_text.proofs.laws.no_grapheme_has_a_control_character_of_its_own.Goals as goal

pub returns : goal.returns
returns c = graphemes-control_free
