-- What a change of a screen empties, and what it leaves as it is.
use Rattle.std.specs.Prelude.{◌≡◌, ℕ, ◌+◌, ◌<◌, ◌≤◌, Bool, ◌&&◌, nat_lt, nat_le, if◌then◌else◌}
use Rattle.rtui_geometry.specs.{declared.position.Position.Position, Rect.HasPosition}
use Rattle.rtui_geometry.specs.{declared.rect.Rect.Rect}
use Rattle.rtui_cell.specs.Look.{empty_look}
use Rattle.rtui_backend.specs.Screen.{Screen, KeepsSizeAndHistory}

-- nothing changed outside a rectangle
pub record KeepsOutside (r : Rect) (old new : Screen) : Type 0 where
  pub at : (a b : ℕ) → a < old.width → b < old.height → (HasPosition r (record { x = a; y = b }) → ⊥)
      → new.grid a b ≡ old.grid a b

-- each column of a rectangle has the empty look
pub record IsBlankOver (r : Rect) (s : Screen) : Type 0 where
  pub at : (a b : ℕ) → HasPosition r (record { x = a; y = b }) → s.grid a b ≡ empty_look

-- each column of the rows below a rectangle has it
pub record IsBlankBelow (r : Rect) (s : Screen) : Type 0 where
  pub at : (a b : ℕ) → a < s.width → b < s.height → r.y + r.height ≤ b → s.grid a b ≡ empty_look

-- only the looks, the cursor's place and the count of items may differ
pub record KeepsAllButLooks (old new : Screen) : Type 0 where
  pub size : KeepsSizeAndHistory old new
  pub visible : new.visible ≡ old.visible

-- the columns that `which` names were emptied, and the others stay
pub record Empties (which : Position → Bool) (old new : Screen) : Type 0 where
  pub frame : KeepsAllButLooks old new
  pub grid : (a b : ℕ) → a < old.width → b < old.height
      → new.grid a b ≡ if which (record { x = a; y = b }) then empty_look else old.grid a b

-- the rows from y up to another
abbrev pub is_between : ℕ → ℕ → Position → Bool
is_between y end p = nat_le y p.y && nat_lt p.y end
