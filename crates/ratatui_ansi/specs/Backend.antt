-- What callers see of a backend that sends escape sequences, and the screen that it stands for.
use Rattle.std.specs.Prelude.{◌≡◌, ℕ, ◌+◌, ◌-◌, ◌^◌, min, Bool, true, false, List, [], Option, Some, None}
use Rattle.std.specs.Prelude.{IsSome, length, nat_eq}
use Rattle.ratatui_core.specs.{Layout.Position, Layout.Size, Backend.Screen}
use Rattle.ansi_model.specs.{Emulator.Emulator, Emulator.rested, Emulator.blank_terminal, Sequences.feed}
use Rattle.ansi_model.specs.{Screens.screen_shown}
use Rattle.ratatui_ansi.specs.Tracker.{FitsScreen, IsAwaiting}
use Rattle.ratatui_ansi.specs.{declared.settings.Settings.Settings, Settings.UndoesFirst}
use Rattle.ansi_model.specs.Beginnings.{IsAsFound, anew, with_rows_above}
use Rattle.ansi_model.specs.{Sends.Performs, Endings.left_below, Endings.IsLeftBelow, Endings.left_back}
use Rattle.ansi_model.specs.{Endings.ClosesAlternate, Windows.feed_window}
use Rattle.std.specs.Io.KnownBytes.{Appends}

-- the writer, what it held as the backend began or began anew, if that is known, what it was sent since, and
-- what of that after the last flush; the terminal's size, whether it is sent colours of the underline, places
-- after ambiguous characters as if these were wide, and draws within synchronized updates; whether its
-- alternate screen is shown, and what else was set on it; how many items were drawn and how many calls failed,
-- and whether a write failed
pub record BackendState (W : Type 0) : Type 0 where
  pub writer : W
  pub before : Option (List ℕ)
  pub sent : List ℕ
  pub held : List ℕ
  pub size : Size
  pub has_underline_colors : Bool
  pub ambiguous_is_wide : Bool
  pub is_synchronized : Bool
  pub is_on_alternate : Bool
  pub settings : Settings
  pub written : ℕ
  pub failures : ℕ
  pub is_broken : Bool

-- with this writer, of which it isn't known what it was sent: that counts as a failed call, and is as if a
-- write had failed
abbrev pub with_writer : {W : Type 0} → BackendState W → W → BackendState W
with_writer b writer =
    record b { writer = writer; failures = min (b.failures + 1) (2 ^ 64 - 1); is_broken = true }

-- a size is the backend's own, and no write failed
pub record HasSize {W : Type 0} (size : Size) (b : BackendState W) : Type 0 where
  pub own : b.size ≡ size
  pub works : b.is_broken ≡ false

-- nothing was sent after the last flush
abbrev pub is_flushed : {W : Type 0} → BackendState W → Bool
is_flushed b = nat_eq (length b.held) 0

-- a new terminal of a size that has read these bytes
abbrev pub reader : Size → List ℕ → Emulator
reader size bytes = feed bytes (blank_terminal size.width size.height)

-- the screen of the new terminal that has read what the writer was sent
abbrev pub shown_by : {W : Type 0} → BackendState W → Screen
shown_by b = screen_shown b.written (rested (reader b.size b.sent))

-- of each writer of a kind it is known what it holds, as it is of memory
abbrev pub IsAlwaysKnown : {W : Type 0} → (W → Option (List ℕ)) → Type 0
IsAlwaysKnown {W} contents = (w : W) → IsSome (contents w)

-- a writer holds what it held before, if that is known, and then what it was sent; and it is known of a kind
-- of which it always is
pub record IsTied {W : Type 0} (contents : W → Option (List ℕ)) (before : Option (List ℕ)) (writer : W)
    (sent : List ℕ) : Type 0 where
  pub appends : Appends before (contents writer) sent
  pub known : IsAlwaysKnown contents → IsSome before

-- before a backend began its writer took bytes that do this, after what it held
pub record BeginsBy (does : List ℕ → List ℕ → Type 0) (held before : Option (List ℕ)) : Type 0 where
  pub first : List ℕ
  pub begins : does [] first
  pub tied : Appends held before first

-- after what was sent since the backend began a writer has taken bytes that take back what was set, and leave
-- each terminal below the backend's last row; one of the backend's size that has read them all, however it
-- was left before, rests, and has one row more than it showed
pub record LeavesTerminal {W : Type 0} (b : BackendState W) (contents : Option (List ℕ)) : Type 0 where
  pub sent : List ℕ
  pub undoes : UndoesFirst b.settings b.sent sent
  pub leaves : Performs b.sent sent (left_below b.size.height)
  pub left : (t : Emulator) → IsAsFound b.size.width b.size.height t
      → IsLeftBelow b.size.width b.size.height (rested (feed b.sent (anew t))) (feed sent (anew t))
  pub tied : Appends b.before contents sent

-- after what was sent since the backend began a writer has taken bytes that take back what was set, and bring
-- the main screen of each window back that shows its alternate one and has read them all
pub record BringsBack {W : Type 0} (b : BackendState W) (contents : Option (List ℕ)) : Type 0 where
  pub sent : List ℕ
  pub undoes : UndoesFirst b.settings b.sent sent
  pub closes : ClosesAlternate b.sent sent
  pub back : (t main : Emulator) → IsAsFound b.size.width b.size.height t
      → feed_window sent (record { shown = anew t; aside = Some main })
      ≡ record { shown = left_back main (rested (feed b.sent (anew t))); aside = None }
  pub tied : Appends b.before contents sent

-- a terminal of this size that reads these bytes becomes what a new one would, however it was left; its
-- history stays above
abbrev pub IsReadAlike : Size → List ℕ → Type 0
IsReadAlike size sent = (t : Emulator) → IsAsFound size.width size.height t
    → feed sent (anew t) ≡ with_rows_above t.history (reader size sent)

-- what a backend keeps is in order: its tracker fits its screen, and unless a write failed, the new terminal
-- that has read what was sent awaits the next call as it is tracked, however it was left at first; no write
-- failed if no call did
pub record IsInOrder (size : Size) (cursor : Position) (flags draft : List Bool) (visible is_broken : Bool)
    (failures : ℕ) (sent : List ℕ) : Type 0 where
  pub tracker : FitsScreen size flags draft
  pub unfailed : failures ≡ 0 → is_broken ≡ false
  pub awaiting : is_broken ≡ false → IsAwaiting size.width size.height cursor flags (reader size sent)
  pub seen : is_broken ≡ false → (rested (reader size sent)).visible ≡ visible
  pub alike : is_broken ≡ false → IsReadAlike size sent
