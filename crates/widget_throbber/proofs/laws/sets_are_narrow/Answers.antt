use Rattle.std.proofs.Common.{refl}
use Rattle.std.specs.Char.{encode_utf8}
use Rattle.unicode_width.proofs.Computing.{unicode_width}
use Rattle.ratatui_core.specs.Buffer.{text_width}
use Rattle.widget_throbber.proofs.laws.sets_are_narrow.Goals as goal

pub returns-clause-sets : goal.returns-clause-sets
unfolding encode_utf8
returns-clause-sets c = refl

pub returns-clause-narrow : goal.returns-clause-narrow
unfolding text_width unicode_width
returns-clause-narrow c = refl
