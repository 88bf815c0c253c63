-- Which items of a list are shown.
use Rattle.std.specs.Prelude.{◌≡◌, ℕ, ◌+◌, ◌-◌, ◌<◌, ◌≤◌, ◌⊎◌, min, List, length, take, sum_by, Option, Some}
use Rattle.std.specs.Prelude.{None}
use Rattle.widget_list.specs.declared.item.ListItem.{ListItem}

-- how many rows an item takes: one for each line
abbrev pub item_rows : ListItem → ℕ
item_rows i = length i.content.lines

-- how many rows the items before one take
abbrev pub rows_before : List ListItem → ℕ → ℕ
rows_before items k = sum_by item_rows (take k items)

-- the items from one up to another fit into so many rows
abbrev pub Fit : List ListItem → ℕ → ℕ → ℕ → Type 0
Fit items height from to = rows_before items to ≤ rows_before items from + height

-- how many items are shown from one on: as many as fit whole
pub record IsCount (items : List ListItem) (height from n : ℕ) : Type 0 where
  pub inside : from + n ≤ length items
  pub fits : Fit items height from (from + n)
  pub longest : from + n < length items → rows_before items from + height < rows_before items (from + n + 1)

-- the first item, from one on, with which all up to another one fit; that one itself if it alone doesn't
pub record IsFirst (items : List ListItem) (height least last first : ℕ) : Type 0 where
  pub from : least ≤ first
  pub to : first ≤ last
  pub fits : first < last → Fit items height first (last + 1)
  pub nearest : (k : ℕ) → least ≤ k → k < first → rows_before items k + height < rows_before items (last + 1)

-- the last item
abbrev pub last_item : List ListItem → ℕ
last_item items = length items - 1

-- the first and the last of the items that are kept in view: so many before and after the selected one
abbrev pub first_kept : ℕ → ℕ → ℕ
first_kept selected padding = selected - padding

abbrev pub last_kept : List ListItem → ℕ → ℕ → ℕ
last_kept items selected padding = min (selected + padding) (last_item items)

-- the items that are kept in view fit
abbrev pub FitAround : List ListItem → ℕ → ℕ → ℕ → Type 0
FitAround items height selected padding = Fit items height (first_kept selected padding)
    (last_kept items selected padding + 1)

-- how many items are kept in view on each side of the selected one: as many as are asked for and fit
pub record IsPadding (items : List ListItem) (height asked selected padding : ℕ) : Type 0 where
  pub asked_for : padding ≤ min asked (length items)
  pub fits : 0 < padding → FitAround items height selected padding
  pub largest : (k : ℕ) → k ≤ min asked (length items) → FitAround items height selected k → k ≤ padding

-- where a list begins that began with an item, so that the items from the first to the last one kept are in
-- view: where it did, or as little before or after as it takes
pub record IsScrolled (items : List ListItem) (height first last was begins : ℕ) : Type 0 where
  pub up : (last < was) ⊎ Fit items height was (last + 1) → begins ≡ min first was
  pub down : was ≤ last → rows_before items was + height < rows_before items (last + 1)
      → IsFirst items height was last begins

-- where a list begins that began with an item, if another one is selected
pub record KeepsInView (items : List ListItem) (height asked selected was begins : ℕ) : Type 0 where
  pub padding : ℕ
  pub is_padding : IsPadding items height asked selected padding
  pub scrolled : IsScrolled items height (first_kept selected padding)
      (last_kept items selected padding) was begins

-- where it begins: without a selection where it did
abbrev pub IsOffset : List ListItem → ℕ → ℕ → Option ℕ → ℕ → ℕ → Type 0
IsOffset items height asked None was begins = begins ≡ min was (last_item items)
IsOffset items height asked (Some selected) was begins =
    KeepsInView items height asked selected (min was (last_item items)) begins
