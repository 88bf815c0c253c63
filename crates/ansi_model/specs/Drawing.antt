-- What a symbol put in its place does to the terminal that reads it.
use Rattle.std.specs.Prelude.{◌≡◌, ℕ, ◌+◌, zero, suc, ◌&&◌, Bool, true, false, IfSome, List, ◌==◌}
use Rattle.std.specs.Prelude.{chars, IsUtf8, Option, Some, None}
use Rattle.std.specs.List.{list_all}
use Rattle.ratatui_core.specs.{Layout.Position, Buffer.blank}
use Rattle.ansi_model.specs.{declared.sgr.Sgr.Sgr, declared.pen.Pen.Pen, Sgr.default_sgr}
use Rattle.ansi_model.specs.{Symbols.is_plain_char, Symbols.printed_columns, Emulator.Phase.Ground}
use Rattle.ansi_model.specs.Emulator.{Emulator, rested, prints, prints_disputed, with_sgr}
use Rattle.ansi_model.specs.{Sends.Leads, Sends.Performs, Modes.no_modes}

-- bytes were appended that set a rendition if the terminal has another, and none if it has this one
pub data ChangesSgr (from to : Sgr) (old new : List ℕ) : Type 0 where
  Stays : from ≡ to → new ≡ old → ChangesSgr from to old new
  Sets : Performs old new (with_sgr to) → ChangesSgr from to old new

-- the next plain character would be printed in this column and row
pub record WritesAt (x y : ℕ) (t : Emulator) : Type 0 where
  pub utf8 : IsUtf8 t.text
  pub plain : list_all is_plain_char (chars t.text) ≡ true
  pub column : (rested t).x ≡ x
  pub row : (rested t).y ≡ y

-- a terminal that awaits text and prints as the pen says
pub record IsDrawnBy (pen : Pen) (t : Emulator) : Type 0 where
  pub phase : t.phase ≡ Ground
  pub sgr : (rested t).sgr ≡ pen.sgr
  pub modes : (rested t).modes ≡ no_modes
  pub placed : IfSome pen.at (λ p. WritesAt p.x p.y t)

-- whether this is a known column and row
abbrev pub is_place : ℕ → ℕ → Option Position → Bool
is_place x y None = false
is_place x y (Some p) = (p.x == x) && (p.y == y)

-- whether a pen knows that the next plain character would be printed in this column and row
abbrev pub is_at : ℕ → ℕ → Pen → Bool
is_at x y pen = is_place x y pen.at

-- with the cursor in a column and a row, and a rendition
abbrev pub drawn_at : ℕ → ℕ → Sgr → Emulator → Emulator
drawn_at x y sgr t = record t { x = x; y = y; sgr = sgr }

-- a terminal of this size that is drawn by a pen
pub record IsCanvas (w h : ℕ) (pen : Pen) (t : Emulator) : Type 0 where
  pub width : (rested t).width ≡ w
  pub height : (rested t).height ≡ h
  pub drawn : IsDrawnBy pen t

-- this was done to a terminal, and it is drawn by a pen then
pub record IsPainted (effect : Emulator → Emulator) (pen : Pen) (t u : Emulator) : Type 0 where
  pub drawn : IsDrawnBy pen u
  pub printed : rested u ≡ effect (rested t)

-- bytes were appended that do this to each terminal of this size that is drawn by a pen, and leave it drawn
-- by another one
abbrev pub PenSends : ℕ → ℕ → List ℕ → Pen → (Emulator → Emulator) → List ℕ → Pen → Type 0
PenSends w h old before effect new after = Leads old new (IsCanvas w h before) (IsPainted effect after)

-- a symbol printed in a column and a row, in a rendition
abbrev pub printed_at : ℕ → ℕ → Sgr → List ℕ → Emulator → Emulator
printed_at x y sgr symbol t = prints symbol (printed_columns symbol) (drawn_at x y sgr t)

-- the same of a symbol of which terminals differ on the columns
abbrev pub disputed_at : ℕ → ℕ → Sgr → List ℕ → Emulator → Emulator
disputed_at x y sgr symbol t = prints_disputed symbol (printed_columns symbol) (drawn_at x y sgr t)

-- bytes were appended that print a symbol in a column and a row of a screen of this size, in a rendition, and
-- nothing else
abbrev pub Prints : ℕ → ℕ → List ℕ → Pen → ℕ → ℕ → Sgr → List ℕ → List ℕ → Pen → Type 0
Prints w h old before x y sgr symbol new after = PenSends w h old before (printed_at x y sgr symbol) new after

-- blanks printed in so many columns of a row, one by one, in a rendition
abbrev pub blanked_in : Sgr → ℕ → ℕ → ℕ → Emulator → Emulator
blanked_in sgr x y zero t = t
blanked_in sgr x y (suc n) t = printed_at (x + n) y sgr blank (blanked_in sgr x y n t)

-- the same in the terminal's own rendition
abbrev pub blanked : ℕ → ℕ → ℕ → Emulator → Emulator
blanked x y n t = blanked_in default_sgr x y n t
