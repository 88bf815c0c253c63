-- The symbols of each set are narrow.
use Rattle.std.proofs.Common.{refl}
use Rattle.unicode_width.proofs.Computing.{unicode_width}
use Rattle.rtui_symbols.specs.Sets.{bar_levels, block_levels, plain_border, normal_lines}
use Rattle.rtui_cell.specs.Width.{text_width}
use Rattle.rtui_cell.specs.Narrow.{AreNarrowTexts}

pub bars-narrow : AreNarrowTexts bar_levels
unfolding text_width unicode_width
bars-narrow = refl

pub blocks-narrow : AreNarrowTexts block_levels
unfolding text_width unicode_width
blocks-narrow = refl

pub plain-border-narrow : AreNarrowTexts plain_border
unfolding text_width unicode_width
plain-border-narrow = refl

pub line-narrow : AreNarrowTexts normal_lines
unfolding text_width unicode_width
line-narrow = refl
