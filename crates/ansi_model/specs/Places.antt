-- Symbols that are placed one by one, for a terminal that may give those that aren't ASCII more columns than
-- they take.
use Rattle.std.specs.Prelude.{◌≡◌, ℕ, ◌≤◌, Bool, true, false, List, encode_utf8}
use Rattle.std.specs.Option.{is_some}
use Rattle.ansi_model.specs.{declared.sgr.Sgr.Sgr, declared.pen.Pen.Pen, Symbols.is_printed}
use Rattle.ansi_model.specs.Emulator.{cursor_moved, holding, with_sgr}
use Rattle.ansi_model.specs.Sends.{Sends, Performs, typed}

-- Bytes were appended to the first ones, so that it is known in which column each symbol begins: the flag
-- says whether it is known where the next one would. At first it isn't; a move tells it, and after a symbol
-- that isn't ASCII it isn't known, however many columns that has. Renditions and updates leave it.
pub data Placed (first : List ℕ) : Bool → List ℕ → Type 0 where
  Begins : Placed first false first
  Moves : {known : Bool} {old new : List ℕ} → (x y : ℕ) → Placed first known old
      → Performs old new (cursor_moved x y) → Placed first true new
  Prints : {old new : List ℕ} → (symbol : List ℕ) → is_printed symbol ≡ true → Placed first true old
      → Sends old new (typed symbol) → Placed first false new
  Types : {old new : List ℕ} → (c : ℕ) → c ≤ 126 → Placed first true old
      → Sends old new (typed (encode_utf8 c)) → Placed first true new
  Inks : {known : Bool} {old new : List ℕ} → (sgr : Sgr) → Placed first known old
      → Performs old new (with_sgr sgr) → Placed first known new
  Holds : {known : Bool} {old new : List ℕ} → (on : Bool) → Placed first known old
      → Performs old new (holding on) → Placed first known new

-- bytes were appended so: between a symbol that isn't ASCII and the next one a move was sent
pub record PlacesEach (old new : List ℕ) : Type 0 where
  pub known : Bool
  pub places : Placed old known new

-- a pen that takes such symbols for wide keeps it so, and knows then where the next symbol would begin
pub record PlacesOn (old : List ℕ) (before : Pen) (new : List ℕ) (after : Pen) : Type 0 where
  pub kept : after.ambiguous_is_wide ≡ before.ambiguous_is_wide
  pub places : before.ambiguous_is_wide ≡ true → (first : List ℕ) → Placed first (is_some before.at) old
      → Placed first (is_some after.at) new
