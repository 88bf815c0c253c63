-- The shapes of arms by which a symbol is looked up: every symbol has one of them.
use Rattle.std.specs.Prelude.{nat_lt, Bool, ◌&&◌}
use Rattle.rtui_merge.specs.declared.border_symbol.LineStyle.{LineStyle}
use Rattle.rtui_merge.specs.declared.border_symbol.LineStyle.TheVariants.{Nothing, Rounded}
use Rattle.rtui_merge.specs.{declared.border_symbol.BorderSymbol.BorderSymbol, Arms.style_number}
use Rattle.rtui_merge.specs.{Arms.is_corner, Arms.contains}

-- a horizontal symbol of one style
abbrev pub across : LineStyle → BorderSymbol
across style = record { right = style; up = Nothing; left = style; down = Nothing }

-- a vertical symbol of one style
abbrev pub upright : LineStyle → BorderSymbol
upright style = record { right = Nothing; up = style; left = Nothing; down = style }

-- each arm is none, plain, double or thick: these styles mix
unfoldable pub is_mixed : BorderSymbol → Bool
is_mixed s =
    (nat_lt (style_number s.right) 4 && nat_lt (style_number s.up) 4)
    && (nat_lt (style_number s.left) 4 && nat_lt (style_number s.down) 4)

-- a corner of rounded arms
unfoldable pub is_rounded : BorderSymbol → Bool
is_rounded s = is_corner s && contains s Rounded
