-- What leaves a terminal, on one between two calls.
use Rattle.std.proofs.Common.{◌≡◌, ℕ, ◌+◌, ◌-◌, ◌<◌, min, true, refl, ap, ◌∙◌, subst, arith}
use Rattle.ratatui_core.specs.Backend.{Screen, Appends}
use Rattle.ansi_model.specs.{Sgr.default_sgr, Endings.left_below, Endings.left_within, Endings.IsLeftBelow, Screens.screen_shown, Screens.IsIdle}
use Rattle.ansi_model.specs.Emulator.{Emulator, fed, returned, cursor_moved, without_region, with_sgr}
use Rattle.ansi_model.specs.Emulator as terminal
use Rattle.ansi_model.proofs.ScrollLemmas.{Feeds, fed-feeds, fed-above, appends-ready}

-- an idle terminal of h rows is left in order
pub left-in-order : (w h : ℕ) → 0 < w → 0 < h → (t : Emulator) → IsIdle w h t → IsLeftBelow w h t (left_below h t)
left-in-order w h wide high t ready =
    let width : t.width ≡ w = ready.rest.width in
    let height : t.height ≡ h = ready.rest.height in
    let s : Emulator = cursor_moved 0 (h - 1) (terminal.cursor_shown true (without_region (with_sgr default_sgr t))) in
    let idle : IsIdle w h s = record {
      rest = record {
        phase = ready.rest.phase;
        text = ready.rest.text;
        width = ready.rest.width;
        height = ready.rest.height;
        sgr = refl;
        top = refl;
        bottom = ready.rest.height;
        modes = ready.rest.modes;
        sure = ready.rest.sure;
      };
      row = omega arith;
      tidy = ready.tidy;
    } in
    let both = appends-ready w h 1 wide high s idle in
    let column : min (min 0 (t.width - 1)) (t.width - 1) ≡ min 0 (t.width - 1) = omega arith in
    let last : 0 < 1 → min (h - 1) (t.height - 1) + 1 ≡ t.height = λ some. omega arith in
    let feeds : Feeds t.height 1 (returned s) (fed 1 (returned s)) = fed-feeds 1 (returned s) refl last in
    record {
      rest = both.0.rest;
      screen = λ written.
          subst (λ (p : Screen). Appends p 1 (screen_shown written (left_below h t)))
          (ap (λ i. record (screen_shown written t) { cursor_x = i; cursor_y = min (h - 1) (t.height - 1); visible = true })
          column)
          (both.1.screens written).0;
      column = ap (λ (u : Emulator). u.x) feeds.rest;
    }

-- a higher one scrolls nothing
pub left-in-higher : (w h high : ℕ) → 0 < w → 0 < h → h < high → (t : Emulator) → IsIdle w high t
    → left_below h t ≡ left_within h t
left-in-higher w h high wide some below t ready =
    let width : t.width ≡ w = ready.rest.width in
    let height : t.height ≡ high = ready.rest.height in
    let s : Emulator = returned (cursor_moved 0 (h - 1) (terminal.cursor_shown true (without_region (with_sgr default_sgr t)))) in
    let row : min (h - 1) (t.height - 1) + 1 ≡ h = omega arith in
    fed-above 1 s refl ready.rest.sure (omega arith) (omega arith) ∙ ap (λ k. record (left_within h t) { y = k }) row
