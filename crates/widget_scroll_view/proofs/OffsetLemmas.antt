-- Scrolling so many times by one is scrolling by so many, and leads back.
use Rattle.std.proofs.Common.{◌≡◌, ℕ, zero, suc, ◌+◌, ◌-◌, ◌≤◌, min, ap, ◌∙◌, arith}
use Rattle.std.specs.Fn.{iterate}
use Rattle.widget_scroll_view.specs.declared.state.ScrollViewState.{ScrollViewState}
use Rattle.widget_scroll_view.specs.Offsets.{scrolled_up, scrolled_down, scrolled_left, scrolled_right}

-- a state with another row or column
at_row : ScrollViewState → ℕ → ScrollViewState
at_row s y = record s { offset = record s.offset { y = y } }

at_column : ScrollViewState → ℕ → ScrollViewState
at_column s x = record s { offset = record s.offset { x = x } }

down-times : (n : ℕ) (s : ScrollViewState) → s.offset.y ≤ 65535 → iterate (scrolled_down 1) n s ≡ scrolled_down n s
unfolding at_row
down-times zero s le = ap (at_row s) (let e : s.offset.y ≡ min (s.offset.y + 0) 65535 = omega arith in e)
down-times (suc n) s le =
    down-times n (scrolled_down 1 s) (omega arith)
    ∙ ap (at_row s) (let e : min (min (s.offset.y + 1) 65535 + n) 65535 ≡ min (s.offset.y + suc n) 65535 = omega arith in e)

up-times : (n : ℕ) (s : ScrollViewState) → iterate (scrolled_up 1) n s ≡ scrolled_up n s
unfolding at_row
up-times zero s = ap (at_row s) (let e : s.offset.y ≡ s.offset.y - 0 = omega arith in e)
up-times (suc n) s =
    up-times n (scrolled_up 1 s)
    ∙ ap (at_row s) (let e : s.offset.y - 1 - n ≡ s.offset.y - suc n = omega arith in e)

right-times : (n : ℕ) (s : ScrollViewState) → s.offset.x ≤ 65535 → iterate (scrolled_right 1) n s ≡ scrolled_right n s
unfolding at_column
right-times zero s le = ap (at_column s) (let e : s.offset.x ≡ min (s.offset.x + 0) 65535 = omega arith in e)
right-times (suc n) s le =
    right-times n (scrolled_right 1 s) (omega arith)
    ∙ ap (at_column s) (let e : min (min (s.offset.x + 1) 65535 + n) 65535 ≡ min (s.offset.x + suc n) 65535 = omega arith in e)

left-times : (n : ℕ) (s : ScrollViewState) → iterate (scrolled_left 1) n s ≡ scrolled_left n s
unfolding at_column
left-times zero s = ap (at_column s) (let e : s.offset.x ≡ s.offset.x - 0 = omega arith in e)
left-times (suc n) s =
    left-times n (scrolled_left 1 s)
    ∙ ap (at_column s) (let e : s.offset.x - 1 - n ≡ s.offset.x - suc n = omega arith in e)

pub down-up : (s : ScrollViewState) (n : ℕ) → s.offset.y + n ≤ 65535
    → iterate (scrolled_up 1) n (iterate (scrolled_down 1) n s) ≡ s
unfolding at_row
down-up s n le =
    ap (iterate (scrolled_up 1) n) (down-times n s (omega arith)) ∙ up-times n (scrolled_down n s)
    ∙ ap (at_row s) (let e : min (s.offset.y + n) 65535 - n ≡ s.offset.y = omega arith in e)

pub up-down : (s : ScrollViewState) (n : ℕ) → n ≤ s.offset.y → s.offset.y ≤ 65535
    → iterate (scrolled_down 1) n (iterate (scrolled_up 1) n s) ≡ s
unfolding at_row
up-down s n le fits =
    ap (iterate (scrolled_down 1) n) (up-times n s) ∙ down-times n (scrolled_up n s) (omega arith)
    ∙ ap (at_row s) (let e : min (s.offset.y - n + n) 65535 ≡ s.offset.y = omega arith in e)

pub right-left : (s : ScrollViewState) (n : ℕ) → s.offset.x + n ≤ 65535
    → iterate (scrolled_left 1) n (iterate (scrolled_right 1) n s) ≡ s
unfolding at_column
right-left s n le =
    ap (iterate (scrolled_left 1) n) (right-times n s (omega arith)) ∙ left-times n (scrolled_right n s)
    ∙ ap (at_column s) (let e : min (s.offset.x + n) 65535 - n ≡ s.offset.x = omega arith in e)

pub left-right : (s : ScrollViewState) (n : ℕ) → n ≤ s.offset.x → s.offset.x ≤ 65535
    → iterate (scrolled_right 1) n (iterate (scrolled_left 1) n s) ≡ s
unfolding at_column
left-right s n le fits =
    ap (iterate (scrolled_right 1) n) (left-times n s) ∙ right-times n (scrolled_left n s) (omega arith)
    ∙ ap (at_column s) (let e : min (s.offset.x - n + n) 65535 ≡ s.offset.x = omega arith in e)
