use Rattle.std.proofs.Common.{refl}
use Rattle.std.specs.Char.{encode_utf8}
use Rattle.widget_meters.proofs.laws.gauges_have_these_symbols.Goals as goal

pub returns-clause-line : goal.returns-clause-line
unfolding encode_utf8
returns-clause-line c = refl

pub returns-clause-block : goal.returns-clause-block
unfolding encode_utf8
returns-clause-block c = refl

pub returns-clause-tips : goal.returns-clause-tips
unfolding encode_utf8
returns-clause-tips c = refl
