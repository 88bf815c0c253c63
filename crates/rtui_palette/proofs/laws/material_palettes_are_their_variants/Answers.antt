use Rattle.std.proofs.Common.{refl}
use Rattle.rtui_palette.proofs.laws.material_palettes_are_their_variants.Goals as goal

pub returns-clause-accented : goal.returns-clause-accented
returns-clause-accented c = refl

pub returns-clause-non_accented : goal.returns-clause-non_accented
returns-clause-non_accented c = refl
