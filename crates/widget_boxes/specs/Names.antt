-- The names of variants, as they are printed and read.
use Rattle.std.specs.Prelude.{ℕ, List, codes}
use Rattle.widget_boxes.specs.declared.border_type.BorderType.{BorderType}
use Rattle.widget_boxes.specs.declared.border_type.BorderType.TheVariants as kind
use Rattle.widget_boxes.specs.declared.title.TitlePosition.{TitlePosition}
use Rattle.widget_boxes.specs.declared.title.TitlePosition.TheVariants as place

abbrev pub kind_name : BorderType → List ℕ
kind_name kind.Plain = codes "Plain"
kind_name kind.Rounded = codes "Rounded"
kind_name kind.Double = codes "Double"
kind_name kind.Thick = codes "Thick"
kind_name kind.LightDoubleDashed = codes "LightDoubleDashed"
kind_name kind.HeavyDoubleDashed = codes "HeavyDoubleDashed"
kind_name kind.LightTripleDashed = codes "LightTripleDashed"
kind_name kind.HeavyTripleDashed = codes "HeavyTripleDashed"
kind_name kind.LightQuadrupleDashed = codes "LightQuadrupleDashed"
kind_name kind.HeavyQuadrupleDashed = codes "HeavyQuadrupleDashed"
kind_name kind.QuadrantInside = codes "QuadrantInside"
kind_name kind.QuadrantOutside = codes "QuadrantOutside"

abbrev pub place_name : TitlePosition → List ℕ
place_name place.Top = codes "Top"
place_name place.Bottom = codes "Bottom"
