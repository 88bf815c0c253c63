use Rattle.widget_canvas.proofs.NarrowCanvasLemmas.{braille-narrow, halves-narrow, dot-narrow, block-narrow, bar-narrow}
use Rattle.widget_canvas.proofs.NarrowPixelLemmas.{quadrants-narrow, sextants-narrow, octants-narrow}
use Rattle.widget_canvas.proofs.laws.marks_are_narrow.Goals as goal

pub returns-clause-braille : goal.returns-clause-braille
returns-clause-braille c = braille-narrow

pub returns-clause-half_blocks : goal.returns-clause-half_blocks
returns-clause-half_blocks c = halves-narrow

pub returns-clause-dots : goal.returns-clause-dots
returns-clause-dots c = dot-narrow

pub returns-clause-blocks : goal.returns-clause-blocks
returns-clause-blocks c = block-narrow

pub returns-clause-bars : goal.returns-clause-bars
returns-clause-bars c = bar-narrow

pub returns-clause-quadrants : goal.returns-clause-quadrants
returns-clause-quadrants c = quadrants-narrow

pub returns-clause-sextants : goal.returns-clause-sextants
returns-clause-sextants c = sextants-narrow

pub returns-clause-octants : goal.returns-clause-octants
returns-clause-octants c = octants-narrow
