-- Sets of symbols as the texts of their fields, in order.
use Rattle.std.specs.Prelude.{ℕ, List, [], ◌∷◌, codes, encode_utf8_all}
use Rattle.rtui_symbols.specs.declared.bar.TheConstants as bar_symbol
use Rattle.rtui_symbols.specs.declared.block.TheConstants as block_symbol
use Rattle.rtui_symbols.specs.declared.border.TheConstants as border_symbol
use Rattle.rtui_symbols.specs.declared.line.TheConstants as line_symbol
use Rattle.rtui_symbols.specs.declared.bar.Set as bar
use Rattle.rtui_symbols.specs.declared.block.Set as block
use Rattle.rtui_symbols.specs.declared.border.Set as border
use Rattle.rtui_symbols.specs.declared.line.Set as line
use Rattle.rtui_symbols.specs.declared.scrollbar.Set as scrollbar

abbrev pub bar_texts : bar.Set → List (List ℕ)
bar_texts s = s.full.now ∷ s.seven_eighths.now ∷ s.three_quarters.now ∷ s.five_eighths.now ∷ s.half.now
    ∷ s.three_eighths.now ∷ s.one_quarter.now ∷ s.one_eighth.now ∷ s.empty.now ∷ []

abbrev pub block_texts : block.Set → List (List ℕ)
block_texts s = s.full.now ∷ s.seven_eighths.now ∷ s.three_quarters.now ∷ s.five_eighths.now ∷ s.half.now
    ∷ s.three_eighths.now ∷ s.one_quarter.now ∷ s.one_eighth.now ∷ s.empty.now ∷ []

abbrev pub line_texts : line.Set → List (List ℕ)
line_texts s = s.vertical.now ∷ s.horizontal.now ∷ s.top_right.now ∷ s.top_left.now ∷ s.bottom_right.now
    ∷ s.bottom_left.now ∷ s.vertical_left.now ∷ s.vertical_right.now ∷ s.horizontal_down.now
    ∷ s.horizontal_up.now ∷ s.cross.now ∷ []

abbrev pub border_texts : border.Set → List (List ℕ)
border_texts s = s.top_left.now ∷ s.top_right.now ∷ s.bottom_left.now ∷ s.bottom_right.now
    ∷ s.vertical_left.now ∷ s.vertical_right.now ∷ s.horizontal_top.now ∷ s.horizontal_bottom.now ∷ []

abbrev pub scrollbar_texts : scrollbar.Set → List (List ℕ)
scrollbar_texts s = s.track.now ∷ s.thumb.now ∷ s.begin.now ∷ s.end.now ∷ []

-- the symbols of each filling, from full to empty
abbrev pub bar_levels : List (List ℕ)
bar_levels =
    bar_symbol.FULL.now ∷ bar_symbol.SEVEN_EIGHTHS.now ∷ bar_symbol.THREE_QUARTERS.now
    ∷ bar_symbol.FIVE_EIGHTHS.now ∷ bar_symbol.HALF.now ∷ bar_symbol.THREE_EIGHTHS.now
    ∷ bar_symbol.ONE_QUARTER.now ∷ bar_symbol.ONE_EIGHTH.now ∷ codes " " ∷ []

abbrev pub block_levels : List (List ℕ)
block_levels =
    block_symbol.FULL.now ∷ block_symbol.SEVEN_EIGHTHS.now ∷ block_symbol.THREE_QUARTERS.now
    ∷ block_symbol.FIVE_EIGHTHS.now ∷ block_symbol.HALF.now ∷ block_symbol.THREE_EIGHTHS.now
    ∷ block_symbol.ONE_QUARTER.now ∷ block_symbol.ONE_EIGHTH.now ∷ codes " " ∷ []

-- plain lines: an upright and a level one, the corners, the joints, the cross
abbrev pub normal_lines : List (List ℕ)
normal_lines =
    line_symbol.VERTICAL.now ∷ line_symbol.HORIZONTAL.now ∷ line_symbol.TOP_RIGHT.now
    ∷ line_symbol.TOP_LEFT.now ∷ line_symbol.BOTTOM_RIGHT.now ∷ line_symbol.BOTTOM_LEFT.now
    ∷ line_symbol.VERTICAL_LEFT.now ∷ line_symbol.VERTICAL_RIGHT.now ∷ line_symbol.HORIZONTAL_DOWN.now
    ∷ line_symbol.HORIZONTAL_UP.now ∷ line_symbol.CROSS.now ∷ []

-- thick lines
abbrev pub thick_lines : List (List ℕ)
thick_lines =
    line_symbol.THICK_VERTICAL.now ∷ line_symbol.THICK_HORIZONTAL.now ∷ line_symbol.THICK_TOP_RIGHT.now
    ∷ line_symbol.THICK_TOP_LEFT.now ∷ line_symbol.THICK_BOTTOM_RIGHT.now
    ∷ line_symbol.THICK_BOTTOM_LEFT.now ∷ line_symbol.THICK_VERTICAL_LEFT.now
    ∷ line_symbol.THICK_VERTICAL_RIGHT.now ∷ line_symbol.THICK_HORIZONTAL_DOWN.now
    ∷ line_symbol.THICK_HORIZONTAL_UP.now ∷ line_symbol.THICK_CROSS.now ∷ []

-- double lines
abbrev pub double_lines : List (List ℕ)
double_lines =
    line_symbol.DOUBLE_VERTICAL.now ∷ line_symbol.DOUBLE_HORIZONTAL.now ∷ line_symbol.DOUBLE_TOP_RIGHT.now
    ∷ line_symbol.DOUBLE_TOP_LEFT.now ∷ line_symbol.DOUBLE_BOTTOM_RIGHT.now
    ∷ line_symbol.DOUBLE_BOTTOM_LEFT.now ∷ line_symbol.DOUBLE_VERTICAL_LEFT.now
    ∷ line_symbol.DOUBLE_VERTICAL_RIGHT.now ∷ line_symbol.DOUBLE_HORIZONTAL_DOWN.now
    ∷ line_symbol.DOUBLE_HORIZONTAL_UP.now ∷ line_symbol.DOUBLE_CROSS.now ∷ []

-- lines with these corners in place of their own
abbrev pub with_corners : List ℕ → List ℕ → List ℕ → List ℕ → List (List ℕ) → List (List ℕ)
with_corners a b c d (vertical ∷ horizontal ∷ _ ∷ _ ∷ _ ∷ _ ∷ joints) =
    vertical ∷ horizontal ∷ a ∷ b ∷ c ∷ d ∷ joints
with_corners a b c d lines = lines

-- lines with this upright and this level one in place of their own
abbrev pub with_dashes : List ℕ → List ℕ → List (List ℕ) → List (List ℕ)
with_dashes vertical horizontal (_ ∷ _ ∷ rest) = vertical ∷ horizontal ∷ rest
with_dashes vertical horizontal lines = lines

-- plain lines with rounded corners
abbrev pub rounded_lines : List (List ℕ)
rounded_lines =
    with_corners line_symbol.ROUNDED_TOP_RIGHT.now line_symbol.ROUNDED_TOP_LEFT.now
    line_symbol.ROUNDED_BOTTOM_RIGHT.now line_symbol.ROUNDED_BOTTOM_LEFT.now normal_lines

-- the border of a box that is drawn with a set of lines: both upright sides are its upright line, both level
-- ones its level line
abbrev pub border_of : line.Set → List (List ℕ)
border_of l =
    l.top_left.now ∷ l.top_right.now ∷ l.bottom_left.now ∷ l.bottom_right.now ∷ l.vertical.now
    ∷ l.vertical.now ∷ l.horizontal.now ∷ l.horizontal.now ∷ []

-- the border of plain lines
abbrev pub plain_border : List (List ℕ)
plain_border =
    line_symbol.TOP_LEFT.now ∷ line_symbol.TOP_RIGHT.now ∷ line_symbol.BOTTOM_LEFT.now
    ∷ line_symbol.BOTTOM_RIGHT.now ∷ line_symbol.VERTICAL.now ∷ line_symbol.VERTICAL.now
    ∷ line_symbol.HORIZONTAL.now ∷ line_symbol.HORIZONTAL.now ∷ []

-- the border that lines make: their corners, the upright line on both sides, the level one at the top and at
-- the bottom
abbrev pub border_by : List (List ℕ) → List (List ℕ)
border_by (upright ∷ level ∷ top_right ∷ top_left ∷ bottom_right ∷ bottom_left ∷ joints) =
    top_left ∷ top_right ∷ bottom_left ∷ bottom_right ∷ upright ∷ upright ∷ level ∷ level ∷ []
border_by lines = []

-- dashed lines, of two, three and four dashes
abbrev pub light_double_dashed_lines : List (List ℕ)
light_double_dashed_lines =
    with_dashes line_symbol.LIGHT_DOUBLE_DASH_VERTICAL.now line_symbol.LIGHT_DOUBLE_DASH_HORIZONTAL.now
    normal_lines

abbrev pub heavy_double_dashed_lines : List (List ℕ)
heavy_double_dashed_lines =
    with_dashes line_symbol.HEAVY_DOUBLE_DASH_VERTICAL.now line_symbol.HEAVY_DOUBLE_DASH_HORIZONTAL.now
    thick_lines

abbrev pub light_triple_dashed_lines : List (List ℕ)
light_triple_dashed_lines =
    with_dashes line_symbol.LIGHT_TRIPLE_DASH_VERTICAL.now line_symbol.LIGHT_TRIPLE_DASH_HORIZONTAL.now
    normal_lines

abbrev pub heavy_triple_dashed_lines : List (List ℕ)
heavy_triple_dashed_lines =
    with_dashes line_symbol.HEAVY_TRIPLE_DASH_VERTICAL.now line_symbol.HEAVY_TRIPLE_DASH_HORIZONTAL.now
    thick_lines

abbrev pub light_quadruple_dashed_lines : List (List ℕ)
light_quadruple_dashed_lines =
    with_dashes line_symbol.LIGHT_QUADRUPLE_DASH_VERTICAL.now line_symbol.LIGHT_QUADRUPLE_DASH_HORIZONTAL.now
    normal_lines

abbrev pub heavy_quadruple_dashed_lines : List (List ℕ)
heavy_quadruple_dashed_lines =
    with_dashes line_symbol.HEAVY_QUADRUPLE_DASH_VERTICAL.now line_symbol.HEAVY_QUADRUPLE_DASH_HORIZONTAL.now
    thick_lines

-- half blocks towards the outside, and towards the inside, with the corners that join them
abbrev pub outside_border : List (List ℕ)
outside_border =
    border_symbol.QUADRANT_TOP_LEFT_TOP_RIGHT_BOTTOM_LEFT.now
    ∷ border_symbol.QUADRANT_TOP_LEFT_TOP_RIGHT_BOTTOM_RIGHT.now
    ∷ border_symbol.QUADRANT_TOP_LEFT_BOTTOM_LEFT_BOTTOM_RIGHT.now
    ∷ border_symbol.QUADRANT_TOP_RIGHT_BOTTOM_LEFT_BOTTOM_RIGHT.now
    ∷ border_symbol.QUADRANT_LEFT_HALF.now ∷ border_symbol.QUADRANT_RIGHT_HALF.now
    ∷ border_symbol.QUADRANT_TOP_HALF.now ∷ border_symbol.QUADRANT_BOTTOM_HALF.now ∷ []

abbrev pub inside_border : List (List ℕ)
inside_border =
    border_symbol.QUADRANT_BOTTOM_RIGHT.now ∷ border_symbol.QUADRANT_BOTTOM_LEFT.now
    ∷ border_symbol.QUADRANT_TOP_RIGHT.now ∷ border_symbol.QUADRANT_TOP_LEFT.now
    ∷ border_symbol.QUADRANT_RIGHT_HALF.now ∷ border_symbol.QUADRANT_LEFT_HALF.now
    ∷ border_symbol.QUADRANT_BOTTOM_HALF.now ∷ border_symbol.QUADRANT_TOP_HALF.now ∷ []

-- eighths of a block: sides of full height at the edges of the columns, and the other way round
abbrev pub one_eighth_wide_border : List (List ℕ)
one_eighth_wide_border =
    let above = border_symbol.ONE_EIGHTH_TOP_EIGHT.now in
    let below = border_symbol.ONE_EIGHTH_BOTTOM_EIGHT.now in
    below ∷ below ∷ above ∷ above ∷ border_symbol.ONE_EIGHTH_LEFT_EIGHT.now
    ∷ border_symbol.ONE_EIGHTH_RIGHT_EIGHT.now ∷ below ∷ above ∷ []

abbrev pub one_eighth_tall_border : List (List ℕ)
one_eighth_tall_border =
    let left = border_symbol.ONE_EIGHTH_LEFT_EIGHT.now in
    let right = border_symbol.ONE_EIGHTH_RIGHT_EIGHT.now in
    right ∷ left ∷ right ∷ left ∷ right ∷ left ∷ border_symbol.ONE_EIGHTH_TOP_EIGHT.now
    ∷ border_symbol.ONE_EIGHTH_BOTTOM_EIGHT.now ∷ []

-- sides that look as thick as each other: whole blocks upright, half blocks level; and the other way round
abbrev pub proportional_wide_border : List (List ℕ)
proportional_wide_border =
    let whole = border_symbol.QUADRANT_BLOCK.now in
    let above = border_symbol.QUADRANT_TOP_HALF.now in
    let below = border_symbol.QUADRANT_BOTTOM_HALF.now in
    below ∷ below ∷ above ∷ above ∷ whole ∷ whole ∷ below ∷ above ∷ []

abbrev pub proportional_tall_border : List (List ℕ)
proportional_tall_border =
    let whole = border_symbol.QUADRANT_BLOCK.now in
    whole ∷ whole ∷ whole ∷ whole ∷ whole ∷ whole ∷ border_symbol.QUADRANT_TOP_HALF.now
    ∷ border_symbol.QUADRANT_BOTTOM_HALF.now ∷ []

-- one symbol everywhere
abbrev pub border_all : List ℕ → List (List ℕ)
border_all symbol = symbol ∷ symbol ∷ symbol ∷ symbol ∷ symbol ∷ symbol ∷ symbol ∷ symbol ∷ []

-- all sets of borders, in the order in which `border` has them
abbrev pub border_sets : List (List (List ℕ))
border_sets =
    border_by normal_lines ∷ border_by rounded_lines ∷ border_by double_lines ∷ border_by thick_lines
    ∷ border_by light_double_dashed_lines ∷ border_by heavy_double_dashed_lines
    ∷ border_by light_triple_dashed_lines ∷ border_by heavy_triple_dashed_lines
    ∷ border_by light_quadruple_dashed_lines ∷ border_by heavy_quadruple_dashed_lines
    ∷ outside_border ∷ inside_border ∷ one_eighth_wide_border ∷ one_eighth_tall_border
    ∷ proportional_wide_border ∷ proportional_tall_border ∷ border_all block_symbol.FULL.now ∷ border_all
    (codes " ") ∷ []

-- all sets of lines, in the order in which `line` has them
abbrev pub line_sets : List (List (List ℕ))
line_sets =
    normal_lines ∷ rounded_lines ∷ double_lines ∷ thick_lines ∷ light_double_dashed_lines
    ∷ heavy_double_dashed_lines
    ∷ light_triple_dashed_lines ∷ heavy_triple_dashed_lines ∷ light_quadruple_dashed_lines
    ∷ heavy_quadruple_dashed_lines ∷ []

-- a scroll bar: its line, a whole block for its thumb, and an arrow at each end
abbrev pub scrollbar_by : List ℕ → List ℕ → List ℕ → List (List ℕ)
scrollbar_by track begin end =
    track ∷ block_symbol.FULL.now ∷ encode_utf8_all begin ∷ encode_utf8_all end ∷ []

-- all sets of scroll bars, in the order in which `scrollbar` has them
abbrev pub scrollbar_sets : List (List (List ℕ))
scrollbar_sets =
    scrollbar_by line_symbol.DOUBLE_VERTICAL.now (codes "▲") (codes "▼")
    ∷ scrollbar_by line_symbol.DOUBLE_HORIZONTAL.now (codes "◄") (codes "►")
    ∷ scrollbar_by line_symbol.VERTICAL.now (codes "↑") (codes "↓")
    ∷ scrollbar_by line_symbol.HORIZONTAL.now (codes "←") (codes "→") ∷ []
