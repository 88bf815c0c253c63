use Rattle.std.proofs.Common.{true, ◌≡◌, ◌++◌, length, string_bytes}
use Rattle.unicode_segmentation.specs.{Grapheme.graphemes, Iter.graphemes_left}
use Rattle.widget_field.specs.Fields.{masks}
use Rattle.widget_field.proofs.mask.masked.Given as goal

-- the masks that are written, and those for what is left
abbrev pub invariant-walk : goal.invariant-walk
invariant-walk l = string_bytes l.shown ++ masks l.mask (graphemes_left l.left) ≡ masks l.mask (graphemes true l.text)

abbrev pub decreases-walk : goal.decreases-walk
decreases-walk l = length (graphemes_left l.left)
