-- The symbols of each kind of border.
use Rattle.std.specs.Prelude.{ℕ, List}
use Rattle.ratatui_core.specs.Symbols.{border_by, normal_lines, rounded_lines, double_lines, thick_lines}
use Rattle.ratatui_core.specs.Symbols.{light_double_dashed_lines, heavy_double_dashed_lines}
use Rattle.ratatui_core.specs.Symbols.{light_triple_dashed_lines}
use Rattle.ratatui_core.specs.Symbols.{heavy_triple_dashed_lines, light_quadruple_dashed_lines}
use Rattle.ratatui_core.specs.Symbols.{heavy_quadruple_dashed_lines}
use Rattle.ratatui_core.specs.Symbols.{inside_border, outside_border}
use Rattle.widget_boxes.specs.declared.border_type.BorderType.{BorderType}
use Rattle.widget_boxes.specs.declared.border_type.BorderType.TheVariants as kind

-- the corners and sides of a kind, in the order of the fields of a set
abbrev pub border_of_kind : BorderType → List (List ℕ)
border_of_kind kind.Plain = border_by normal_lines
border_of_kind kind.Rounded = border_by rounded_lines
border_of_kind kind.Double = border_by double_lines
border_of_kind kind.Thick = border_by thick_lines
border_of_kind kind.LightDoubleDashed = border_by light_double_dashed_lines
border_of_kind kind.HeavyDoubleDashed = border_by heavy_double_dashed_lines
border_of_kind kind.LightTripleDashed = border_by light_triple_dashed_lines
border_of_kind kind.HeavyTripleDashed = border_by heavy_triple_dashed_lines
border_of_kind kind.LightQuadrupleDashed = border_by light_quadruple_dashed_lines
border_of_kind kind.HeavyQuadrupleDashed = border_by heavy_quadruple_dashed_lines
border_of_kind kind.QuadrantInside = inside_border
border_of_kind kind.QuadrantOutside = outside_border
