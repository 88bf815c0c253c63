-- The arms of a border symbol. `Nothing` is the style of an arm that is not there.
use Rattle.std.specs.Prelude.{ℕ, Bool, ◌==◌, ◌&&◌, ◌||◌, if◌then◌else◌}
use Rattle.rtui_merge.specs.{declared.border_symbol.LineStyle.LineStyle}
use Rattle.rtui_merge.specs.{declared.border_symbol.BorderSymbol.BorderSymbol}
use Rattle.rtui_merge.specs.declared.border_symbol.LineStyle.TheVariants.{Nothing, Plain, Double, Thick}
use Rattle.rtui_merge.specs.declared.border_symbol.LineStyle.TheVariants.{Rounded, DoubleDash}
use Rattle.rtui_merge.specs.declared.border_symbol.LineStyle.TheVariants.{DoubleDashThick, TripleDash}
use Rattle.rtui_merge.specs.declared.border_symbol.LineStyle.TheVariants.{TripleDashThick, QuadrupleDash}
use Rattle.rtui_merge.specs.declared.border_symbol.LineStyle.TheVariants.{QuadrupleDashThick}

-- a number for each style, to tell them apart
abbrev pub style_number : LineStyle → ℕ
style_number Nothing = 0
style_number Plain = 1
style_number Double = 2
style_number Thick = 3
style_number Rounded = 4
style_number DoubleDash = 5
style_number DoubleDashThick = 6
style_number TripleDash = 7
style_number TripleDashThick = 8
style_number QuadrupleDash = 9
style_number QuadrupleDashThick = 10

-- the two styles are one
unfoldable pub same_style : LineStyle → LineStyle → Bool
same_style a b = style_number a == style_number b

-- the arm is not there
abbrev pub is_nothing : LineStyle → Bool
is_nothing style = same_style style Nothing

-- the two symbols have the same arms
abbrev pub same_arms : BorderSymbol → BorderSymbol → Bool
same_arms a b =
    same_style a.right b.right && (same_style a.up b.up &&
    (same_style a.left b.left && same_style a.down b.down))

-- some arm has this style
unfoldable pub contains : BorderSymbol → LineStyle → Bool
contains s style =
    same_style s.right style || (same_style s.up style ||
    (same_style s.left style || same_style s.down style))

-- opposite arms are equal, and one of the two pairs is not there
unfoldable pub is_straight : BorderSymbol → Bool
is_straight s =
    same_style s.up s.down && (same_style s.left s.right && (is_nothing s.up || is_nothing s.left))

-- the first two arms are equal, and the other two are not there
unfoldable pub bends : LineStyle → LineStyle → LineStyle → LineStyle → Bool
bends a b c d = same_style a b && (is_nothing c && is_nothing d)

-- two neighbouring arms are equal, and the other two are not there
unfoldable pub is_corner : BorderSymbol → Bool
is_corner s =
    bends s.right s.up s.left s.down
    || (bends s.up s.left s.right s.down
    || (bends s.left s.down s.right s.up || bends s.down s.right s.left s.up))

-- each arm changed alike
abbrev pub each_arm : (LineStyle → LineStyle) → BorderSymbol → BorderSymbol
each_arm f s = record { right = f s.right; up = f s.up; left = f s.left; down = f s.down }

-- an arm of one style drawn in another
abbrev pub replace_style : LineStyle → LineStyle → LineStyle → LineStyle
replace_style style from to = if same_style style from then to else style

-- every arm of one style drawn in another
unfoldable pub replace : BorderSymbol → LineStyle → LineStyle → BorderSymbol
replace s from to = each_arm (λ style. replace_style style from to) s

-- a dashed style without its gaps
abbrev pub solid : LineStyle → LineStyle
solid DoubleDash = Plain
solid TripleDash = Plain
solid QuadrupleDash = Plain
solid DoubleDashThick = Thick
solid TripleDashThick = Thick
solid QuadrupleDashThick = Thick
solid style = style
