-- Where the content of a scroll view stands in an area, and its bars.
use Rattle.std.specs.Prelude.{◌≡◌, ℕ, Bool, true, false, ◌+◌, ◌-◌, ◌≤◌, ◌&&◌, nat_lt, min}
use Rattle.ratatui_core.specs.Layout.{Rect, Position, Size, HasPosition, IsInside}
use Rattle.ratatui_core.specs.Buffer.{BufferData}
use Rattle.widget_boxes.specs.Boxes.{one_if, last_column, last_row}
use Rattle.widget_scroll_view.specs.declared.scroll_view.ScrollView.{ScrollView}
use Rattle.widget_scroll_view.specs.declared.scroll_view.ScrollbarVisibility.{ScrollbarVisibility}
use Rattle.widget_scroll_view.specs.declared.scroll_view.ScrollbarVisibility.TheVariants.{Automatic, Always, Never}

-- whether a bar is wanted for a content of this length that has this room: always, never, or if it is longer
abbrev pub wants_bar : ScrollbarVisibility → ℕ → ℕ → Bool
wants_bar Automatic length room = nat_lt room length
wants_bar Always length room = true
wants_bar Never length room = false

-- a bar stands if it is wanted, and if the breadth of which it takes one leaves some for the content
abbrev pub has_bar : ScrollbarVisibility → ℕ → ℕ → ℕ → Bool
has_bar visibility length room breadth = wants_bar visibility length room && nat_lt 1 breadth

-- whether the bar at the right stands in an area; that at the bottom takes a row if it stands even without
-- one at the right
abbrev pub has_vertical : ScrollView → Rect → Bool
has_vertical v r =
    let below = has_bar v.horizontal_scrollbar_visibility v.content.area.width r.width r.height in
    has_bar v.vertical_scrollbar_visibility v.content.area.height (r.height - one_if below) r.width

-- whether the bar at the bottom stands, beside the one at the right
abbrev pub has_horizontal : ScrollView → Rect → Bool
has_horizontal v r = has_bar v.horizontal_scrollbar_visibility v.content.area.width
    (r.width - one_if (has_vertical v r)) r.height

-- what the bars leave of an area
abbrev pub view_area : ScrollView → Rect → Rect
view_area v r = record r {
  width = r.width - one_if (has_vertical v r);
  height = r.height - one_if (has_horizontal v r);
}

-- where the bars stand: in the last column and in the last row, beside what they leave
abbrev pub vertical_bar : Rect → Rect → Rect
vertical_bar r view = record { x = last_column r; y = r.y; width = 1; height = view.height }

abbrev pub horizontal_bar : Rect → Rect → Rect
horizontal_bar r view = record { x = r.x; y = last_row r; width = view.width; height = 1 }

-- how many columns and rows a rectangle has
abbrev pub extent : Rect → Size
extent r = record { width = r.width; height = r.height }

-- an offset, but at most the last one, from which on the content's end is shown in a view
abbrev pub shown_offset : BufferData → Rect → Position → Position
shown_offset content view offset = record {
  x = min offset.x (content.area.width - view.width);
  y = min offset.y (content.area.height - view.height);
}

-- the part of a view in which the content stands: all of it, if the content isn't smaller
abbrev pub shown_area : BufferData → Rect → Rect
shown_area content view = record view {
  width = min view.width content.area.width;
  height = min view.height content.area.height;
}

-- which of the content's positions is shown at one of a view, from an offset on
abbrev pub content_position : BufferData → Position → Rect → Position → Position
content_position content offset view p = record {
  x = content.area.x + offset.x + (p.x - view.x);
  y = content.area.y + offset.y + (p.y - view.y);
}

-- the bars that stand and what they leave lie in an area, each apart from the others
pub record StandApart (v : ScrollView) (r : Rect) : Type 0 where
  pub view : IsInside (view_area v r) r
  pub vertical : has_vertical v r ≡ true → IsInside (vertical_bar r (view_area v r)) r
  pub horizontal : has_horizontal v r ≡ true → IsInside (horizontal_bar r (view_area v r)) r
  pub beside : has_vertical v r ≡ true → (p : Position) → HasPosition (vertical_bar r (view_area v r)) p
      → ¬ (HasPosition (view_area v r) p)
  pub above : has_horizontal v r ≡ true → (p : Position) → HasPosition (horizontal_bar r (view_area v r)) p
      → ¬ (HasPosition (view_area v r) p)
  pub bars : has_vertical v r ≡ true → (p : Position) → HasPosition (vertical_bar r (view_area v r)) p
      → has_horizontal v r ≡ true → ¬ (HasPosition (horizontal_bar r (view_area v r)) p)

-- a position of the content is shown at a place of an area from an offset on, which isn't past the last one;
-- and so are all of the w columns that end within the content, if the view has as many
pub record CanBeSeen (v : ScrollView) (r : Rect) (q : Position) : Type 0 where
  pub offset : Position
  pub place : Position
  pub last : shown_offset v.content (view_area v r) offset ≡ offset
  pub there : HasPosition (shown_area v.content (view_area v r)) place
  pub is : content_position v.content offset (shown_area v.content (view_area v r)) place ≡ q
  pub whole : (w : ℕ) → w ≤ (view_area v r).width → q.x + w ≤ v.content.area.x + v.content.area.width
      → place.x + w ≤ r.x + (shown_area v.content (view_area v r)).width
