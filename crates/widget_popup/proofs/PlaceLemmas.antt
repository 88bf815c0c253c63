-- Where a popup stands, and its text.
use Rattle.std.proofs.Common.{◌≡◌, ℕ, ◌+◌, ◌-◌, ◌≤◌, length, Option, Some, None, arith}
use Rattle.ratatui_core.specs.Layout.{Rect, IsInside, EdgesFit}
use Rattle.ratatui_core.specs.Text.{widest}
use Rattle.widget_boxes.specs.{declared.block.Block.Block, Framed.inner_if, Framed.columns_around_if, Framed.rows_around_if}
use Rattle.widget_popup.specs.declared.popup.Popup.{Popup}
use Rattle.widget_popup.specs.Places.{middle_of, columns_wanted, rows_wanted, popup_area, popup_inner}

-- what is inside a box lies in its area
pub inner-inside : (o : Option Block) (r : Rect) → IsInside (inner_if o r) r
inner-inside None r p has = has
inner-inside (Some b) r p has =
    let left = has.left in let right = has.right in let top = has.top in let bottom = has.bottom in
    record { left = omega arith; right = omega arith; top = omega arith; bottom = omega arith }

-- the middle of an area lies in it
pub middle-inside : (w h : ℕ) (r : Rect) → IsInside (middle_of w h r) r
middle-inside w h r p has =
    let left = has.left in let right = has.right in let top = has.top in let bottom = has.bottom in
    record { left = omega arith; right = omega arith; top = omega arith; bottom = omega arith }

pub middle-fits : (w h : ℕ) (r : Rect) → EdgesFit r → EdgesFit (middle_of w h r)
middle-fits w h r fit =
    let right = fit.right in let bottom = fit.bottom in record { right = omega arith; bottom = omega arith }

-- what is left inside a box is what was wanted
inner-columns : (o : Option Block) (n : ℕ) (r : Rect) → r.width ≡ n + columns_around_if o → (inner_if o r).width ≡ n
inner-columns None n r e = omega arith
inner-columns (Some b) n r e = omega arith

inner-rows : (o : Option Block) (n : ℕ) (r : Rect) → r.height ≡ n + rows_around_if o → (inner_if o r).height ≡ n
inner-rows None n r e = omega arith
inner-rows (Some b) n r e = omega arith

pub text-columns : (p : Popup) (area : Rect) → columns_wanted p ≤ area.width → (popup_inner p area).width ≡ widest p.text.lines
text-columns p area room = inner-columns p.block (widest p.text.lines) (popup_area p area) (omega arith)

pub text-rows : (p : Popup) (area : Rect) → rows_wanted p ≤ area.height → (popup_inner p area).height ≡ length p.text.lines
text-rows p area room = inner-rows p.block (length p.text.lines) (popup_area p area) (omega arith)

pub ruleset place_steps = (inner-inside, middle-inside, middle-fits)
