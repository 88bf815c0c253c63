-- What a rendering leaves in a state, as a step of its own.
use Rattle.std.specs.Prelude.{◌≡◌, ℕ, Bool, ◌+◌, ◌-◌, ◌<◌, ◌==◌, ◌||◌, nat_lt, nat_le, zero, suc, min, List, []}
use Rattle.std.specs.Prelude.{◌∷◌, length, Option, Some, None, if◌then◌else◌}
use Rattle.ratatui_core.specs.{Layout.Rect}
use Rattle.widget_boxes.specs.{declared.block.Block.Block, Framed.inner_if, Framed.IsBare}
use Rattle.widget_list.specs.{declared.list.List.List as ListData}
use Rattle.widget_list.specs.{declared.item.ListItem.ListItem, declared.state.ListState.ListState}
use Rattle.widget_list.specs.Windows.{rows_before, first_kept, last_kept, last_item}
use Rattle.widget_list.specs.Items.{at_most, IsNextListState}

-- what a widget in a box makes of its state over an area: what f says of what is inside; without cells inside
-- the state stays
pub record SettlesInside {S : Type 0} (block : Option Block) (f : Rect → S → S → Type 0) (area : Rect)
    (s t : S) : Type 0 where
  pub none : IsBare (inner_if block area) → t ≡ s
  pub inside : 0 < (inner_if block area).width → 0 < (inner_if block area).height
      → f (inner_if block area) s t

-- what a list makes of its state over an area
abbrev pub SettlesList : ListData → Rect → ListState → ListState → Type 0
SettlesList l = SettlesInside l.block (λ r. IsNextListState l r.height)

-- The same as a value. First: the first number of so many from one on that passes a test, or the one after
-- them; and the largest number up to one that does, or 0.
abbrev pub first_passing : (ℕ → Bool) → ℕ → ℕ → ℕ
first_passing test k zero = k
first_passing test k (suc more) = if test k then k else first_passing test (k + 1) more

abbrev pub largest_passing : (ℕ → Bool) → ℕ → ℕ
largest_passing test zero = 0
largest_passing test (suc n) = if test (suc n) then suc n else largest_passing test n

-- whether the items from one up to another fit into so many rows
abbrev pub do_fit : List ListItem → ℕ → ℕ → ℕ → Bool
do_fit items height from to = nat_le (rows_before items to) (rows_before items from + height)

-- how many items are kept in view on each side of the selected one
abbrev pub padding_of : List ListItem → ℕ → ℕ → ℕ → ℕ
padding_of items height asked selected =
    largest_passing (λ k. do_fit items height (first_kept selected k) (last_kept items selected k + 1))
    (min asked (length items))

-- where a list begins that began with an item, so that the items from the first to the last one kept are in
-- view
abbrev pub scrolled_from : List ListItem → ℕ → ℕ → ℕ → ℕ → ℕ
scrolled_from items height first last was =
    if nat_lt last was || do_fit items height was (last + 1) then min first was
    else first_passing (λ k. do_fit items height k (last + 1)) was (last - was)

-- where it begins if an item is selected, or none
abbrev pub list_offset : List ListItem → ℕ → ℕ → Option ℕ → ℕ → ℕ
list_offset items height asked None was = min was (last_item items)
list_offset items height asked (Some selected) was =
    let padding = padding_of items height asked selected in
    scrolled_from items height (first_kept selected padding) (last_kept items selected padding)
    (min was (last_item items))

-- the state after these items were shown in so many rows
abbrev pub next_list_state : List ListItem → ℕ → ℕ → ListState → ListState
next_list_state [] asked height s = record { offset = 0; selected = None }
next_list_state (item ∷ items) asked height s =
    let all = item ∷ items in
    let selected = at_most (last_item all) s.selected in
    record { offset = list_offset all height asked selected s.offset; selected = selected }

-- what is inside a box over an area makes of a state, as a value
abbrev pub settled_inside : {S : Type 0} → Option Block → (Rect → S → S) → Rect → S → S
settled_inside block f area s =
    let r = inner_if block area in if (r.width == 0) || (r.height == 0) then s else f r s

-- what a list makes of its state over an area, as a value
abbrev pub settled_list : ListData → Rect → ListState → ListState
settled_list l = settled_inside l.block (λ r. next_list_state l.items.items l.scroll_padding r.height)
