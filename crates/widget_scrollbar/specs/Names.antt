-- The names of variants, as they are printed and read.
use Rattle.std.specs.Prelude.{ℕ, List, codes}
use Rattle.widget_scrollbar.specs.declared.scrollbar.ScrollbarOrientation.{ScrollbarOrientation}
use Rattle.widget_scrollbar.specs.declared.scrollbar.ScrollbarOrientation.TheVariants as orientation
use Rattle.widget_scrollbar.specs.declared.scrollbar.state.ScrollDirection.{ScrollDirection}
use Rattle.widget_scrollbar.specs.declared.scrollbar.state.ScrollDirection.TheVariants as scroll

abbrev pub orientation_name : ScrollbarOrientation → List ℕ
orientation_name orientation.VerticalRight = codes "VerticalRight"
orientation_name orientation.VerticalLeft = codes "VerticalLeft"
orientation_name orientation.HorizontalBottom = codes "HorizontalBottom"
orientation_name orientation.HorizontalTop = codes "HorizontalTop"

abbrev pub scroll_name : ScrollDirection → List ℕ
scroll_name scroll.Forward = codes "Forward"
scroll_name scroll.Backward = codes "Backward"
