-- What two texts give that come into one cell.
use Rattle.std.specs.Prelude.{◌≡◌, ℕ, List, Bool, not, ◌&&◌, ◌||◌, Option, Some, None, is_some, IfSome}
use Rattle.std.specs.Prelude.{IsSomeAnd, unwrap_or, if◌then◌else◌}
use Rattle.rtui_merge.specs.declared.MergeStrategy.{MergeStrategy}
use Rattle.rtui_merge.specs.declared.MergeStrategy.TheVariants.{Replace, Exact, Fuzzy}
use Rattle.rtui_merge.specs.{declared.border_symbol.LineStyle.LineStyle}
use Rattle.rtui_merge.specs.{declared.border_symbol.BorderSymbol.BorderSymbol, Symbols.arms_of}
use Rattle.rtui_merge.specs.{Symbols.symbol_of}
use Rattle.rtui_merge.specs.declared.border_symbol.LineStyle.TheVariants.{Plain, Double, Thick, Rounded}
use Rattle.rtui_merge.specs.Arms.{is_nothing, contains, is_straight, is_corner, each_arm, replace, solid}

-- next's arm, or the one before if next has none
abbrev pub over : LineStyle → LineStyle → LineStyle
over prev next = if is_nothing next then prev else next

-- each arm is next's unless that is none, then prev's
unfoldable pub exact : BorderSymbol → BorderSymbol → BorderSymbol
exact prev next = record {
  right = over prev.right next.right;
  up = over prev.up next.up;
  left = over prev.left next.left;
  down = over prev.down next.down;
}

-- the first rule of Fuzzy: dashes stand in straight symbols alone
unfoldable pub solid_unless_straight : BorderSymbol → BorderSymbol
solid_unless_straight s = if is_straight s then s else each_arm solid s

-- the second: rounded arms stand in corners alone
unfoldable pub square_unless_corner : BorderSymbol → BorderSymbol
square_unless_corner s = if is_corner s then s else replace s Rounded Plain

-- the third: double and thick never meet. All of both become double if next has a double arm, else thick
unfoldable pub double_or_thick : BorderSymbol → BorderSymbol → BorderSymbol
double_or_thick s next =
    if contains s Double && contains s Thick
    then (if contains next Double then replace s Thick Double else replace s Double Thick)
    else s

-- the fourth: if there is no such symbol, all plain and double arms become double if next has a double arm,
-- else plain
unfoldable pub double_or_plain : BorderSymbol → BorderSymbol → BorderSymbol
double_or_plain s next =
    if is_some (symbol_of s)
    then s
    else (if contains next Double then replace s Plain Double else replace s Double Plain)

-- the four rules in this order, if next was drawn last
unfoldable pub fuzzy : BorderSymbol → BorderSymbol → BorderSymbol
fuzzy s next = double_or_plain (double_or_thick (square_unless_corner (solid_unless_straight s)) next) next

-- two texts merged by their arms: what isn't a border symbol stays or comes as it is
abbrev pub by_arms : (BorderSymbol → BorderSymbol → BorderSymbol) → Option BorderSymbol → Option BorderSymbol
    → List ℕ → List ℕ → List ℕ
by_arms joined (Some a) (Some b) prev next = unwrap_or (symbol_of (joined a b)) next
by_arms joined None (Some b) prev next = prev
by_arms joined _ None prev next = next

-- what stands in a cell that held prev, once next is drawn there
unfoldable pub merged : MergeStrategy → List ℕ → List ℕ → List ℕ
merged Replace prev next = next
merged Exact prev next = by_arms exact (arms_of prev) (arms_of next) prev next
merged Fuzzy prev next = by_arms (λ a b. fuzzy (exact a b) b) (arms_of prev) (arms_of next) prev next

-- the sides of a symbol
pub data Side : Type 0 where
  right : Side
  up : Side
  left : Side
  down : Side

-- the symbol has an arm on this side
abbrev pub has_arm : BorderSymbol → Side → Bool
has_arm s right = not (is_nothing s.right)
has_arm s up = not (is_nothing s.up)
has_arm s left = not (is_nothing s.left)
has_arm s down = not (is_nothing s.down)

-- the symbol has an arm exactly if one of the two has one
abbrev pub HasArmsOfBoth : BorderSymbol → BorderSymbol → BorderSymbol → Type 0
HasArmsOfBoth a b s = (side : Side) → has_arm s side ≡ (has_arm a side || has_arm b side)

-- two border symbols give a border symbol with the arms of both, in some style
unfoldable pub Unites : List ℕ → List ℕ → List ℕ → Type 0
Unites prev next result =
    IfSome (arms_of prev) (λ a. IfSome (arms_of next) (λ b. IsSomeAnd (arms_of result) (HasArmsOfBoth a b)))
