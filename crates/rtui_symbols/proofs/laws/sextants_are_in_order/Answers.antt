use Rattle.std.proofs.Common.{refl}
use Rattle.rtui_symbols.proofs.laws.sextants_are_in_order.Goals as goal

pub returns : goal.returns
returns c = refl
