-- How a program leaves its terminal.
use Rattle.std.specs.Prelude.{◌≡◌, ◌-◌, true, List, ℕ, IfSome, None}
use Rattle.ratatui_core.specs.Backend.{Appends, with_cursor, with_visible}
use Rattle.ansi_model.specs.Emulator.{Emulator, rested, fed, returned, cursor_moved, cursor_shown}
use Rattle.ansi_model.specs.Emulator.{without_region, with_sgr}
use Rattle.ansi_model.specs.{Sgr.default_sgr, Emulator.Phase.Ground, Screens.screen_shown, Screens.IsResting}
use Rattle.ansi_model.specs.{Windows.come_back, Windows.feed_window, Sends.LeadsBy}

-- a terminal of which a program had the first h rows, in its own colours, without margins, and with its
-- cursor shown at the beginning of the row after these: where there is none below, one comes in
abbrev pub left_below : ℕ → Emulator → Emulator
left_below h t =
    fed 1 (returned (cursor_moved 0 (h - 1) (cursor_shown true (without_region (with_sgr default_sgr t)))))

-- a higher terminal of which a program had the first h rows was left: all stands where it stood, and the
-- cursor is shown at the beginning of the row after these
abbrev pub left_within : ℕ → Emulator → Emulator
left_within h t = record t {
  sgr = default_sgr;
  top = 0;
  bottom = t.height;
  x = 0;
  y = h;
  visible = true;
}

-- a terminal of this size was given back, which showed a screen before: it awaits text and rests, and one row
-- came in below the last one, with the cursor shown at its beginning
pub record IsLeftBelow (w h : ℕ) (before after : Emulator) : Type 0 where
  pub rest : IsResting w h after.phase after.text after.width after.height after.sgr after.top after.bottom
      after.modes after.sure
  pub screen : (written : ℕ)
      → Appends (with_visible true (with_cursor 0 (h - 1) (screen_shown written before))) 1
      (screen_shown written after)
  pub column : after.x ≡ 0

-- the main screen as it was put aside, in the terminal's own colours, without margins, and with its cursor
-- shown
abbrev pub left_back : Emulator → Emulator → Emulator
left_back main t = with_sgr default_sgr (come_back main (cursor_shown true (without_region t)))

-- bytes were appended that bring the main screen of each window back that shows its alternate one
abbrev pub ClosesAlternate : List ℕ → List ℕ → Type 0
ClosesAlternate old new =
    LeadsBy feed_window old new (λ w. w.shown.phase ≡ Ground)
    (λ w after. IfSome w.aside (λ main. after ≡ record {
      shown = left_back main (rested w.shown);
      aside = None;
    }))
