use Rattle.std.proofs.Common.{refl}
use Rattle.rtui_symbols.proofs.laws.braille_patterns_have_their_dots.Goals as goal

pub returns : goal.returns
returns c = refl
