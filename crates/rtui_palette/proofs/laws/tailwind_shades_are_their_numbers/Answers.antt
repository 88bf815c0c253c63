use Rattle.std.proofs.Common.{refl}
use Rattle.rtui_palette.proofs.laws.tailwind_shades_are_their_numbers.Goals as goal

pub returns : goal.returns
returns c = refl
