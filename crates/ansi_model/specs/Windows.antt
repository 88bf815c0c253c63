-- A window with two screens: its main one, and an alternate one that a program may show in its place.
use Rattle.std.specs.Prelude.{◌&&◌, nat_lt, Bool, true, false, List, [], ◌∷◌, Option, Some, None, ℕ}
use Rattle.ansi_model.specs.{Columns.blank_column, Emulator.Emulator, Emulator.Phase, Emulator.unsure}
use Rattle.ansi_model.specs.{Sgr.is_own, Sequences.reads_in}
use Rattle.ansi_model.specs.Emulator.Phase.{Ground, Escape, Opened, Sequence, Spaced, Keyed, Letters}
use Rattle.ansi_model.specs.Emulator.Phase.{OtherLetters, Coding, Told, Switching}

-- a window: the screen that it shows, and its main screen while that is put aside, as it was
pub record Window : Type 0 where
  pub shown : Emulator
  pub aside : Option Emulator

-- a screen that awaits text
abbrev pub grounded : Emulator → Emulator
grounded t = record t { phase = Ground }

-- an alternate screen is blank, with the cursor where it was. Terminals differ if the rendition isn't their
-- own
abbrev pub alternate_of : Emulator → Emulator
alternate_of t = record t { columns = λ a b. blank_column; sure = t.sure && is_own t.sgr }

-- what stood on the main screen is there again, with its history, its cursor and its rendition; margins,
-- modes, and whether the cursor is shown are the window's. Terminals differ on a cursor that was after the
-- last column
abbrev pub come_back : Emulator → Emulator → Emulator
come_back main t = record t {
  columns = main.columns;
  history = main.history;
  x = main.x;
  y = main.y;
  sgr = main.sgr;
  sure = t.sure && nat_lt main.x t.width;
}

-- the alternate screen is shown; terminals differ if it is shown already
abbrev pub put_aside : Emulator → Option Emulator → Window
put_aside t None = record { shown = alternate_of (grounded t); aside = Some (grounded t) }
put_aside t (Some main) = record { shown = unsure (grounded t); aside = Some main }

-- the main screen is shown; terminals differ if it is shown already
abbrev pub brought_back : Emulator → Option Emulator → Window
brought_back t None = record { shown = unsure (grounded t); aside = None }
brought_back t (Some main) = record { shown = come_back main (grounded t); aside = None }

abbrev pub switched : Bool → Emulator → Option Emulator → Window
switched true t aside = put_aside t aside
switched false t aside = brought_back t aside

-- a screen that was told to is switched
abbrev pub settled_in : Phase → Emulator → Option Emulator → Window
settled_in (Switching alternate) t aside = switched alternate t aside
settled_in Ground t aside = record { shown = t; aside = aside }
settled_in Escape t aside = record { shown = t; aside = aside }
settled_in Opened t aside = record { shown = t; aside = aside }
settled_in (Sequence mark done number) t aside = record { shown = t; aside = aside }
settled_in (Spaced parameters) t aside = record { shown = t; aside = aside }
settled_in Keyed t aside = record { shown = t; aside = aside }
settled_in Letters t aside = record { shown = t; aside = aside }
settled_in OtherLetters t aside = record { shown = t; aside = aside }
settled_in Coding t aside = record { shown = t; aside = aside }
settled_in Told t aside = record { shown = t; aside = aside }

-- one byte, read by the screen that is shown
abbrev pub reads_on : ℕ → Window → Window
reads_on b w = let t : Emulator = reads_in w.shown.phase b w.shown in settled_in t.phase t w.aside

-- bytes, read in order
unfoldable pub feed_window : List ℕ → Window → Window
feed_window [] w = w
feed_window (b ∷ bs) w = feed_window bs (reads_on b w)
