-- Where the content and the bars stand.
use Rattle.std.proofs.Common.{◌≡◌, ℕ, ◌+◌, ◌-◌, ◌<◌, ◌≤◌, Bool, true, false, min, refl, sym, ap, ◌∙◌, arith}
use Rattle.std.proofs.lemmas.Bool.Decides.{nat_tests}
use Rattle.ratatui_core.specs.Layout.{Rect, Position, HasPosition, EdgesFit, IsInside}
use Rattle.ratatui_core.specs.Buffer.{BufferData}
use Rattle.widget_boxes.specs.{Boxes.one_if, Boxes.IsBoxArea}
use Rattle.widget_scroll_view.specs.declared.scroll_view.ScrollView.{ScrollView}
use Rattle.widget_scroll_view.specs.declared.scroll_view.ScrollbarVisibility.{ScrollbarVisibility}
use Rattle.widget_scroll_view.specs.declared.scroll_view.ScrollbarVisibility.TheVariants.{Automatic, Always, Never}
use Rattle.widget_scroll_view.specs.Places.{has_bar, has_vertical, has_horizontal, view_area, shown_offset, shown_area}
use Rattle.widget_scroll_view.specs.Places.{content_position, StandApart, CanBeSeen}

-- what a bar takes
pub less-most : (b : Bool) (n : ℕ) → n - one_if b ≤ n
less-most true n = omega arith
less-most false n = omega arith

-- a bar takes one of a breadth of two at least
bar-leaves : (o : ScrollbarVisibility) (length room breadth : ℕ) → 0 < breadth
    → 0 < breadth - one_if (has_bar o length room breadth)
bar-leaves o length room breadth some = grind (arith, nat_tests)

pub view-inside : (v : ScrollView) (r : Rect) → IsInside (view_area v r) r
view-inside v r p has =
    let left = has.left in let right = has.right in let top = has.top in let bottom = has.bottom in
    let w = less-most (has_vertical v r) r.width in let h = less-most (has_horizontal v r) r.height in
    record { left = omega arith; right = omega arith; top = omega arith; bottom = omega arith }

pub view-some : (v : ScrollView) (r : Rect) → IsBoxArea r → IsBoxArea (view_area v r)
view-some v r box =
    let a = box.across in let d = box.down in
    let w = less-most (has_vertical v r) r.width in let h = less-most (has_horizontal v r) r.height in
    record {
      columns = bar-leaves v.vertical_scrollbar_visibility v.content.area.height _ r.width box.columns;
      rows = bar-leaves v.horizontal_scrollbar_visibility v.content.area.width _ r.height box.rows;
      across = omega arith;
      down = omega arith;
    }

pub shown-inside : (c : BufferData) (r : Rect) → IsInside (shown_area c r) r
shown-inside c r p has =
    let left = has.left in let right = has.right in let top = has.top in let bottom = has.bottom in
    record { left = omega arith; right = omega arith; top = omega arith; bottom = omega arith }

none-taken : (n : ℕ) → n - one_if false ≡ n
none-taken n = omega arith

pub stand-apart : (v : ScrollView) (r : Rect) → IsBoxArea r → StandApart v r
stand-apart v r box =
    let wide = box.columns in let high = box.rows in let a = box.across in let d = box.down in
    let w = less-most (has_vertical v r) r.width in let h = less-most (has_horizontal v r) r.height in
    record {
      view = view-inside v r;
      vertical = λ e p has.
          let left = has.left in let right = has.right in let top = has.top in let bottom = has.bottom in
          record { left = omega arith; right = omega arith; top = omega arith; bottom = omega arith };
      horizontal = λ e p has.
          let left = has.left in let right = has.right in let top = has.top in let bottom = has.bottom in
          record { left = omega arith; right = omega arith; top = omega arith; bottom = omega arith };
      beside = λ e p has here.
          let left = has.left in let right = here.right in
          let taken : one_if (has_vertical v r) ≡ 1 = ap one_if e in omega arith;
      above = λ e p has here.
          let top = has.top in let bottom = here.bottom in
          let taken : one_if (has_horizontal v r) ≡ 1 = ap one_if e in omega arith;
      bars = λ e p has f here.
          let bottom = has.bottom in let top = here.top in
          let taken : one_if (has_horizontal v r) ≡ 1 = ap one_if f in omega arith;
    }

-- a content that is no larger than an area takes no bar
no-bar : (o : ScrollbarVisibility) (length room breadth : ℕ) → (o ≡ Always → ⊥) → length ≤ room
    → has_bar o length room breadth ≡ false
no-bar Automatic length room breadth off le = grind (arith, nat_tests)
no-bar Always length room breadth off le = absurd (off refl)
no-bar Never length room breadth off le = refl

pub record FitsWhole (v : ScrollView) (r : Rect) : Type 0 where
  pub view : view_area v r ≡ r
  pub first : (offset : Position) → shown_offset v.content r offset ≡ record { x = 0; y = 0 }

pub fits-whole : (v : ScrollView) (r : Rect) → (v.vertical_scrollbar_visibility ≡ Always → ⊥)
    → (v.horizontal_scrollbar_visibility ≡ Always → ⊥) → v.content.area.width ≤ r.width → v.content.area.height ≤ r.height → FitsWhole v r
fits-whole v r off_down off_across wide high =
    let below : has_bar v.horizontal_scrollbar_visibility v.content.area.width r.width r.height ≡ false = no-bar _ _ _ _ off_across wide in
    let right : has_vertical v r ≡ false = rw (below, none-taken r.height) (no-bar v.vertical_scrollbar_visibility v.content.area.height r.height r.width off_down high) in
    let bottom : has_horizontal v r ≡ false = rw (right, none-taken r.width) below in
    let w : r.width - one_if (has_vertical v r) ≡ r.width = rw right (none-taken r.width) in
    let h : r.height - one_if (has_horizontal v r) ≡ r.height = ap (λ b. r.height - one_if b) bottom ∙ none-taken r.height in
    record {
      view = λ i. record { x = r.x; y = r.y; width = w i; height = h i };
      first = λ offset. let x : min offset.x (v.content.area.width - r.width) ≡ 0 = omega arith in
          let y : min offset.y (v.content.area.height - r.height) ≡ 0 = omega arith in λ i. record { x = x i; y = y i };
    }

-- each cell of the content can be seen
module _ (c : BufferData) (view : Rect) (q : Position) (edges : EdgesFit c.area) (box : IsBoxArea view) (has : HasPosition c.area q) where
  abbrev from : Position
  from = record { x = min (q.x - c.area.x) (c.area.width - view.width); y = min (q.y - c.area.y) (c.area.height - view.height) }

  abbrev at : Position
  at = record { x = view.x + (q.x - c.area.x - from.x); y = view.y + (q.y - c.area.y - from.y) }

  from-last : shown_offset c view from ≡ from
  from-last =
      let x : min from.x (c.area.width - view.width) ≡ from.x = omega arith in
      let y : min from.y (c.area.height - view.height) ≡ from.y = omega arith in λ i. record { x = x i; y = y i }

  at-there : HasPosition (shown_area c view) at
  at-there =
      let l = has.left in let r = has.right in let t = has.top in let b = has.bottom in
      let wide = box.columns in let high = box.rows in let a = box.across in let d = box.down in
      record { left = omega arith; right = omega arith; top = omega arith; bottom = omega arith }

  at-is : content_position c from (shown_area c view) at ≡ q
  at-is =
      let l = has.left in let t = has.top in
      let x : c.area.x + from.x + (at.x - view.x) ≡ q.x = omega arith in
      let y : c.area.y + from.y + (at.y - view.y) ≡ q.y = omega arith in λ i. record { x = x i; y = y i }

  at-whole : (w : ℕ) → w ≤ view.width → q.x + w ≤ c.area.x + c.area.width → at.x + w ≤ view.x + (shown_area c view).width
  at-whole w room ends = let l = has.left in omega arith

pub can-be-seen : (v : ScrollView) (r : Rect) (q : Position) → EdgesFit v.content.area → IsBoxArea r
    → HasPosition v.content.area q
    → CanBeSeen v r q
can-be-seen v r q edges box has =
    let view = view_area v r in
    let some = view-some v r box in
    record {
      offset = from v.content view q edges some has;
      place = at v.content view q edges some has;
      last = from-last v.content view q edges some has;
      there = at-there v.content view q edges some has;
      is = at-is v.content view q edges some has;
      whole = at-whole v.content view q edges some has;
    }
