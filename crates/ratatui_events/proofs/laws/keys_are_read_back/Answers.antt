use Rattle.std.proofs.Common.{refl}
use Rattle.std.specs.Str.{chars}
use Rattle.ratatui_events.proofs.laws.keys_are_read_back.Goals as goal

pub returns-clause-names : goal.returns-clause-names
unfolding chars
returns-clause-names c = refl

pub returns-clause-held : goal.returns-clause-held
unfolding chars
returns-clause-held c = refl
