use Rattle.std.proofs.Common.{◌≡◌, ℕ, ◌+◌, ◌-◌, sym, ap, subst, ◌∙◌, arith}
use Rattle.rtui_backend.specs.Screen.{Scrolls, Appends, lines_past}
use Rattle.printed_backend.specs.{Printed.shown_on, Inner.ScrollsFront}
use Rattle.printed_backend.proofs.LeavingLemmas.{none_scrolled, all_scrolled, appended, past_some, past_none, row_moved}
use Rattle.printed_backend.proofs.backend.PrintedBackend.append.Goals as goal
use Rattle.printed_backend.proofs.backend.PrintedBackend.append.Goals.{then-n-below+in_ok-scroll_front, else-n-below}

pub returns-clause-ok : goal.returns-clause-ok
returns-clause-ok c =
    let s = shown_on c.args.self.now in
    let n = c.args.n in
    let y = c.place-place.result.y in
    let h = c.area.result.now.height in
    let same = c.place-place.ensures.screen in
    let high : h ≡ s.height = ap (λ r. r.height) (c.area.ensures.area ∙ c.buffer.ensures.area) ∙ ap (λ z. z.height) same in
    let at : y ≡ s.cursor_y = ap (λ p. p.y) c.place-place.ensures.place in
    let some = c.if-height-eq0.false in
    let on = c.place-place.ensures.on_grid in
    let mid = c.if-n-below.self in
    let moved : (k : ℕ) × (k ≡ lines_past s n) × Scrolls s k (shown_on mid) = elim c.if-n-below.branch [
      | then-n-below+in_ok-scroll_front w ↦
          let front = subst (λ z. ScrollsFront h (n - (h - 1 - y)) z (shown_on w.scroll_front.new.self)) same
          w.in_ok-scroll_front.ensures.ok in
          let whole = subst (λ e. ScrollsFront e (n - (h - 1 - y)) s (shown_on w.scroll_front.new.self)) high front in (
            n - (h - 1 - y),
            past_some s n h y high at some on w.if-n-below.true,
            subst (λ b. Scrolls s (n - (h - 1 - y)) (shown_on b)) (sym w.self-is) (all_scrolled s _ _ whole),
          )
      | else-n-below w ↦ (
        0,
        past_none s n h y high at some on (omega (arith, w.if-n-below.false)),
        subst (λ z. Scrolls s 0 z) (sym (ap shown_on w.self-is ∙ same)) (none_scrolled s),
      )
    ] in
    subst (Appends s n) (sym c.move_to.ensures.screen)
    (appended s n moved.0 c.place-place.result.x (y + c.min.result) (shown_on mid) moved.1 moved.2
    (rw c.min.ensures (row_moved s n h y high at some on (shown_on mid) moved.2.height)) (omega (arith, high, some)))
