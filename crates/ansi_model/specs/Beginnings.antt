-- Terminals as other programs may have left them, and what makes one blank.
use Rattle.std.specs.Prelude.{◌≡◌, ◌⊎◌, ℕ, ◌+◌, ◌<◌, ◌≤◌, true, List, [], ◌∷◌, ◌++◌, map, Some, None}
use Rattle.std.specs.List.{range_with_len}
use Rattle.ratatui_core.specs.Buffer.{Look, empty_look}
use Rattle.ansi_model.specs.{Columns.Columns, Columns.blank_column, Columns.is_known_column}
use Rattle.ansi_model.specs.{Emulator.Emulator, Emulator.blank_terminal, Emulator.row_shown}
use Rattle.ansi_model.specs.{Emulator.with_sgr, Emulator.Phase.Ground, Sgr.default_sgr}
use Rattle.ansi_model.specs.{Sequences.feed, Sends.LeadsBy}
use Rattle.ansi_model.specs.Windows.{Window, alternate_of, feed_window}

-- a terminal of this size as another program may have left it, whatever its rendition, margins, modes, cursor
-- and contents: it isn't in the middle of a sequence, and nothing stands off its screen
pub record IsAsFound (w h : ℕ) (t : Emulator) : Type 0 where
  pub phase : t.phase ≡ Ground
  pub text : t.text ≡ []
  pub width : t.width ≡ w
  pub height : t.height ≡ h
  pub off : (a b : ℕ) → (w ≤ a) ⊎ (h ≤ b) → t.columns a b ≡ blank_column

-- the same terminal, as it is asked from here on: real terminals agree on all that was read since
abbrev pub anew : Emulator → Emulator
anew t = record t { sure = true }

-- a terminal with these rows before those of its history
abbrev pub with_rows_above : List (List Look) → Emulator → Emulator
with_rows_above rows t = record t { history = rows ++ t.history }

-- bytes, read by a terminal that is asked from here on
abbrev pub feed_anew : List ℕ → Emulator → Emulator
feed_anew bytes t = feed bytes (anew t)

-- bytes were appended that make each terminal of this size a new one, however it was left; its history stays
abbrev pub MakesBlank : ℕ → ℕ → List ℕ → List ℕ → Type 0
MakesBlank w h old new = LeadsBy feed_anew old new (IsAsFound w h)
    (λ t u. u ≡ record (blank_terminal w h) { history = t.history })

-- it is known what stands in each column, as it is of every real terminal
abbrev pub AreKnown : Columns → Type 0
AreKnown columns = (a b : ℕ) → is_known_column (columns a b) ≡ true

-- the rows of a screen, from the first one
abbrev pub screen_rows : Emulator → List (List Look)
screen_rows t = map (row_shown t) (range_with_len 0 t.height)

-- an empty row of so many columns
abbrev pub empty_row : ℕ → List Look
empty_row w = map (λ a. empty_look) (range_with_len 0 w)

-- what is saved of a screen: its rows, and an empty one
abbrev pub saved_rows : ℕ → Emulator → List (List Look)
saved_rows w t = screen_rows t ++ empty_row w ∷ []

-- a blank terminal of this size, with these rows in its history, and its cursor shown or not
abbrev pub scrolled_off : ℕ → ℕ → List (List Look) → Emulator → Emulator
scrolled_off w h rows t = record (blank_terminal w h) { history = rows; visible = t.visible }

-- bytes were appended that scroll the screen of each terminal of this size into its history, and an empty row
-- after it, however it was left
abbrev pub SavesScreen : ℕ → ℕ → List ℕ → List ℕ → Type 0
SavesScreen w h old new = LeadsBy feed_anew old new (λ t. IsAsFound w h t × AreKnown t.columns)
    (λ t u. u ≡ scrolled_off w h (t.history ++ saved_rows w t) t)

-- a higher terminal, of which the first rows were saved so: h of them and the next one are in its history, as
-- many are blank, and each row below them stays
pub record SavesFirstRows (h : ℕ) (t u : Emulator) : Type 0 where
  pub history : u.history ≡ t.history ++ map (row_shown t) (range_with_len 0 (h + 1))
  pub blank : (a b : ℕ) → b ≤ h → u.columns a b ≡ blank_column
  pub below : (a b : ℕ) → h < b → b < t.height → u.columns a b ≡ t.columns a b

-- bytes were appended that do this to each higher terminal, however it was left
abbrev pub SavesHigher : ℕ → ℕ → List ℕ → List ℕ → Type 0
SavesHigher w h old new = LeadsBy feed_anew old new
    (λ t. IsAsFound w t.height t × AreKnown t.columns × (h < t.height) × (t.height ≤ 65535)) (SavesFirstRows h)

-- the same, read by a window that shows its main screen
abbrev pub feed_main : List ℕ → Emulator → Window
feed_main bytes main = feed_window bytes (record { shown = anew main; aside = None })

-- bytes were appended that put the main screen of each window of this size aside, however it was left, and
-- show a blank one
abbrev pub OpensAlternate : ℕ → ℕ → List ℕ → List ℕ → Type 0
OpensAlternate w h old new =
    LeadsBy feed_main old new (IsAsFound w h)
    (λ main after. let own : Emulator = with_sgr default_sgr (anew main) in after ≡ record {
      shown = alternate_of own;
      aside = Some own;
    })
