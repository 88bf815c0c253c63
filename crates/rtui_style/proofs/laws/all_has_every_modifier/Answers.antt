use Rattle.std.proofs.Common.{refl}
use Rattle.bitflags.specs.Sets.{known_from}
use Rattle.rtui_style.proofs.laws.all_has_every_modifier.Goals as goal

pub returns : goal.returns
unfolding known_from
returns c = refl
