-- What a clear of a viewport does to a screen.
use Rattle.std.specs.Prelude.{◌≡◌, ℕ, ◌+◌, ◌-◌, ◌*◌, ◌^◌, ◌<◌, ◌==◌, ◌&&◌, Bool, true, min, nat_le}
use Rattle.std.specs.Prelude.{if◌then◌else◌}
use Rattle.rtui_geometry.specs.{declared.position.Position.Position, declared.rect.Rect.Rect}
use Rattle.rtui_geometry.specs.Rect.{has_position}
use Rattle.rtui_backend.specs.Screen.{Screen, IsOnScreen}
use Rattle.rtui_viewport.specs.declared.viewport.Viewport.{Viewport}
use Rattle.rtui_viewport.specs.declared.viewport.Viewport.TheVariants.{Fullscreen, Inline, Fixed}
use Rattle.rtui_viewport.specs.Areas.{Empties}

-- the columns that a clear empties on a screen of h rows: all; those of the rows from the top on, the last
-- row at least; the viewport's own
abbrev pub is_emptied : Viewport → Rect → ℕ → Position → Bool
is_emptied Fullscreen r h p = true
is_emptied (Inline n) r h p = nat_le (min r.y (h - 1)) p.y
is_emptied (Fixed f) r h p = has_position r p

-- an inline viewport begins in column 0, and a fixed one lies on the screen
abbrev pub HasPlace : Viewport → Rect → Screen → Type 0
HasPlace Fullscreen r s = Unit {0}
HasPlace (Inline n) r s = r.x ≡ 0
HasPlace (Fixed f) r s = IsOnScreen r s

-- a viewport that has its place was emptied
abbrev pub ClearsArea : Viewport → Rect → Screen → Screen → Type 0
ClearsArea v r old new = HasPlace v r old → Empties (is_emptied v r old.height) old new

-- n items were drawn, as far as they are counted
abbrev pub WritesItems : ℕ → Screen → Screen → Type 0
WritesItems n old new = old.written + n < 2 ^ 64 - 1 → new.written ≡ old.written + n

-- how many blanks a clear of a rectangle draws: none if it is as wide as the screen, else one for each
-- position
abbrev pub blanks_needed : Rect → Screen → ℕ
blanks_needed r s = if r.x == 0 && r.width == s.width then 0 else r.width * r.height

-- a clear draws them only over a fixed viewport
abbrev pub WritesBlanks : Viewport → Rect → Screen → Screen → Type 0
WritesBlanks (Fixed f) r old new = WritesItems (blanks_needed r old) old new
WritesBlanks other r old new = WritesItems 0 old new
