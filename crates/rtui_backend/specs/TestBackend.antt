-- What a `TestBackend` stands for.
use Rattle.std.specs.Prelude.{◌≡◌, ◌↔◌, ℕ, ◌-◌, ◌==◌, if◌then◌else◌, map, Option, Some, None, Result, Err}
use Rattle.std.specs.Prelude.{MatchResult, OnErr, List}
use Rattle.std.specs.Iterator.{Yields}
use Rattle.rtui_cell.specs.{Look.look_of, Grid.Update}
use Rattle.rtui_buffer.specs.BufferData.{BufferData}
use Rattle.rtui_backend.specs.{Screen.Screen, Screen.Draws, Screen.cursor_of, CellGrid.grid_of}
use Rattle.rtui_backend.specs.{declared.test.TestBackend.TestBackend, declared.test.TestError.TestError}
use Rattle.rtui_backend.specs.declared.test.TestError.TheVariants.{Told}

-- its screen
abbrev pub screen_of : TestBackend → Screen
screen_of b = record {
  history = map (λ row. map look_of row.items) b.scrollback.items;
  width = b.buffer.area.width;
  height = b.buffer.area.height;
  grid = grid_of b.buffer.area.width b.buffer.cells;
  cursor_x = b.cursor.x;
  cursor_y = b.cursor.y;
  visible = b.visible;
  written = b.written;
}

-- its screen as a buffer
abbrev pub buffer_of : TestBackend → BufferData
buffer_of b = b.buffer

-- how many calls it failed
abbrev pub failures_of : TestBackend → ℕ
failures_of b = b.failures

-- how many calls answer as usual before one fails, if one is to
abbrev pub told_after : TestBackend → Option ℕ
told_after b = b.fail_after

-- the same after one more call: none is to fail once one did
abbrev pub one_call_less : Option ℕ → Option ℕ
one_call_less None = None
one_call_less (Some calls) = if calls == 0 then None else Some (calls - 1)

-- a call that takes no memory is refused exactly if its turn has come, the screen stays then, and one call
-- less is left
pub record TakesTurn {T : Type 0} (result : Result T TestError) (old new : TestBackend) : Type 0 where
  pub told : (result ≡ Err Told) ↔ (told_after old ≡ Some 0)
  pub only : MatchResult result (λ _. Unit {0}) (λ error. error ≡ Told)
  pub refused : OnErr result (screen_of new ≡ screen_of old)
  pub left : told_after new ≡ one_call_less (told_after old)

-- the same screen and count
pub record IsSameBackend (old new : TestBackend) : Type 0 where
  pub screen : screen_of new ≡ screen_of old
  pub failures : failures_of new ≡ failures_of old

-- the first items that an iterator gives, maybe none, were put in order and counted, and no others
pub record DrawsFront {S A : Type 0} (steps : S → Option A → S → Type 0) (content : S) (update : A → Update)
    (old new : Screen) : Type 0 where
  pub front : List A
  pub rest : S
  pub gives : Yields steps content front rest
  pub draws : Draws old (map update front) new

-- items were put on the screen, maybe none, and all else is as before
pub record HasOnlyPut (old new : TestBackend) : Type 0 where
  pub items : List Update
  pub draws : Draws (screen_of old) items (screen_of new)
  pub cursor : cursor_of (screen_of new) ≡ cursor_of (screen_of old)
