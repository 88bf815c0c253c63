-- The names of variants, as they are printed and read.
use Rattle.std.specs.Prelude.{ℕ, List, codes}
use Rattle.widget_list.specs.declared.list.ListDirection.{ListDirection}
use Rattle.widget_list.specs.declared.list.ListDirection.TheVariants as list_direction
use Rattle.widget_list.specs.declared.list.HighlightSpacing.{HighlightSpacing}
use Rattle.widget_list.specs.declared.list.HighlightSpacing.TheVariants as spacing

abbrev pub list_direction_name : ListDirection → List ℕ
list_direction_name list_direction.TopToBottom = codes "TopToBottom"
list_direction_name list_direction.BottomToTop = codes "BottomToTop"

abbrev pub spacing_name : HighlightSpacing → List ℕ
spacing_name spacing.Always = codes "Always"
spacing_name spacing.WhenSelected = codes "WhenSelected"
spacing_name spacing.Never = codes "Never"
