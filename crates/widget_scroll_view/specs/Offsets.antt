-- How the state of a scroll view is scrolled.
use Rattle.std.specs.Prelude.{ℕ, ◌+◌, ◌-◌, ◌≤◌, min, max, Option, Some, None, IfSome}
use Rattle.ratatui_core.specs.Layout.{Position, Size}
use Rattle.widget_scroll_view.specs.declared.state.ScrollViewState.{ScrollViewState}

-- a state at an offset, of a view that wasn't rendered yet
abbrev pub unseen_at : Position → ScrollViewState
unseen_at offset = record { offset = offset; size = None; page_size = None }

-- so many rows or columns to a side, as far as there are any
abbrev pub scrolled_up : ℕ → ScrollViewState → ScrollViewState
scrolled_up n s = record s { offset = record s.offset { y = s.offset.y - n } }

abbrev pub scrolled_down : ℕ → ScrollViewState → ScrollViewState
scrolled_down n s = record s { offset = record s.offset { y = min (s.offset.y + n) 65535 } }

abbrev pub scrolled_left : ℕ → ScrollViewState → ScrollViewState
scrolled_left n s = record s { offset = record s.offset { x = s.offset.x - n } }

abbrev pub scrolled_right : ℕ → ScrollViewState → ScrollViewState
scrolled_right n s = record s { offset = record s.offset { x = min (s.offset.x + n) 65535 } }

-- how many rows a page is scrolled by: one less than it has, and at least one
abbrev pub page_step : Option Size → ℕ
page_step None = 1
page_step (Some page) = max (page.height - 1) 1

-- the last row was among those that were seen, if anything was
abbrev pub SeesBottom : ScrollViewState → Type 0
SeesBottom s = IfSome s.size (λ size. IfSome s.page_size (λ page. size.height ≤ s.offset.y + page.height))
