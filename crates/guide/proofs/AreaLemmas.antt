-- What a layout of a row and of what is left makes of an area.
use Rattle.std.proofs.Common.{◌≡◌, ◌≤◌, ◌<◌, ◌+◌, List, [], ◌∷◌, arith}
use Rattle.std.proofs.lemmas.Bool.Decides.{nat_tests}
use Rattle.std.proofs.lemmas.List.Elements.{All-head, All-tail}
use Rattle.ratatui_core.specs.Layout.{Rect, LayoutData, default_layout, inner, IsSplit, LeavesNoSpace, IsPartAlong, bottom_edge}
use Rattle.ratatui_core.specs.declared.layout.Direction.TheVariants.{Vertical}
use Rattle.ratatui_core.specs.declared.layout.Constraint.TheVariants.{Length, Fill}
use Rattle.guide.specs.Areas.{IsHeadAndBody}

-- the layout of a row and of what is left
abbrev pub head_layout : LayoutData
head_layout = record default_layout { direction = Vertical; constraints = Length 1 ∷ Fill 1 ∷ [] }

-- an area that has a row, and no margin
pub no_margin : (area : Rect) → area.x ≤ 65535 → area.y ≤ 65535
    → ((inner area head_layout.margin).x ≡ area.x) × ((inner area head_layout.margin).y ≡ area.y)
    × ((inner area head_layout.margin).width ≡ area.width) × ((inner area head_layout.margin).height ≡ area.height)
no_margin area x_small y_small =
    (grind (arith, nat_tests), grind (arith, nat_tests), grind (arith, nat_tests), grind (arith, nat_tests))

pub head_and_body : (area inside : Rect) (parts : List Rect) → IsSplit head_layout inside parts
    → LeavesNoSpace head_layout inside parts → inside.x ≡ area.x → inside.y ≡ area.y → inside.width ≡ area.width
    → inside.height ≡ area.height → 0 < area.height → area.y + area.height ≤ 65535 → IsHeadAndBody area parts
head_and_body area inside [] split filled x y w h some fits = absurd (omega (arith, split.count))
head_and_body area inside (p ∷ []) split filled x y w h some fits = absurd (omega (arith, split.count))
head_and_body area inside (p ∷ q ∷ []) split filled x y w h some fits =
    let given = split.given tt tt 2 (omega arith) (omega (arith, y, h, some, fits)) in
    let one : p.height ≡ 1 = given.0 (omega arith) in
    let order = split.in_order tt in
    let Inside : Rect → Type 0 = IsPartAlong Vertical inside inside.y (bottom_edge inside) in
    let head : (p.x ≡ inside.x) × (p.width ≡ inside.width) = (All-head Inside p (q ∷ []) split.inside).across in
    let body : (q.x ≡ inside.x) × (q.width ≡ inside.width) = (All-head Inside q []
    (All-tail Inside p (q ∷ []) split.inside)).across in (
      record {
        across = (omega (arith, head.0, x), omega (arith, head.1, w));
        from = omega (arith, filled.0, order.0, y);
        count = one;
      },
      record {
        across = (omega (arith, body.0, x), omega (arith, body.1, w));
        from = omega (arith, one, filled.0, filled.1.0, order.0, order.1.0, y);
        count = omega (arith, one, filled.0, filled.1.0, filled.1.1, order.0, order.1.0, order.1.1, y, h, fits);
      },
    )
head_and_body area inside (p ∷ q ∷ r ∷ rs) split filled x y w h some fits = absurd (omega (arith, split.count))
