-- Runs: a scene at the start and one after each step.
use Rattle.std.specs.Prelude.{◌≡◌, ℕ, ◌+◌, ◌-◌, ◌<◌, min, true, List, [], ◌∷◌, ◌++◌, map, length, replicate}
use Rattle.std.specs.Prelude.{Option, None, Some}
use Rattle.rtui_geometry.specs.{declared.rect.Rect.Rect, declared.size.Size.Size, Rect.EdgesFit}
use Rattle.rtui_cell.specs.Look.{Look, look_of, empty_look}
use Rattle.rtui_text.specs.Text.{TextData}
use Rattle.rtui_buffer.specs.{BufferData.BufferData, BufferData.IsEmptied, Shown.IsSettledBuffer}
use Rattle.rtui_buffer.specs.{Shown.ShowsBuffer}
use Rattle.rtui_widgets.specs.Rendering.{RendersText}
use Rattle.rtui_backend.specs.Screen.{Screen, KeepsSizeAndHistory, IsOnScreen}
use Rattle.rtui_backend.specs.Screen.{TakesSize, size_of, screen_area, rows_above}
use Rattle.rtui_backend.specs.CellGrid.{grid_of, AreUnmarked, AreUnmarkedRows}
use Rattle.rtui_viewport.specs.declared.viewport.Viewport.{Viewport}
use Rattle.rtui_viewport.specs.declared.viewport.Viewport.TheVariants.{Fullscreen, Inline, Fixed}
use Rattle.rtui_viewport.specs.{Viewports.IsInline, Lying.FitsSize, Lying.MayLie, Areas.KeepsOutside}
use Rattle.rtui_viewport.specs.{Areas.IsBlankOver, Areas.IsBlankBelow}
use Rattle.rtui_insert.specs.Insertion.{AppendsRows}
use Rattle.screenplay.specs.{Puts.with_puts, declared.scene.Stage.Stage, declared.scene.Scene.Scene}
use Rattle.screenplay.specs.{declared.scene.Step.Step}
use Rattle.screenplay.specs.declared.scene.Step.TheVariants.{Draw, Insert, Clear}
use Rattle.screenplay.specs.declared.scene.PlayCause.{PlayCause}
use Rattle.screenplay.specs.declared.scene.PlayCause.TheVariants.{Memory, Unsettled}

-- a screen, of whose cursor nothing is said, and the viewport on it
pub record View : Type 0 where
  pub screen : Screen
  pub viewport : Rect

-- a screen without its cursor and its count of items
abbrev pub without_cursor : Screen → Screen
without_cursor s = record s { cursor_x = 0; cursor_y = 0; visible = true; written = 0 }

-- what a scene shows
abbrev pub view_of_scene : Scene → View
view_of_scene scene = record {
  screen = record {
    history = map (λ row. map look_of row.items) scene.history.items;
    width = scene.screen.area.width;
    height = scene.screen.area.height;
    grid = grid_of scene.screen.area.width scene.screen.cells;
    cursor_x = 0;
    cursor_y = 0;
    visible = true;
    written = 0;
  };
  viewport = scene.viewport;
}

abbrev pub view_size : View → Size
view_size s = size_of s.screen

-- the rows above the viewport
abbrev pub rows_above_view : View → List (List Look)
rows_above_view s = rows_above s.screen s.viewport.y

abbrev pub stage_size : Stage → Size
stage_size stage = record { width = stage.width; height = stage.height }

-- a stage has columns and rows, and a viewport with a place on it
pub record IsGoodStage (stage : Stage) : Type 0 where
  pub width : 0 < stage.width
  pub height : 0 < stage.height
  pub viewport : FitsSize stage.viewport (stage_size stage)

-- the viewport lies where it may, on the screen, and the rows below an inline one are blank
pub record IsStaged (stage : Stage) (s : View) : Type 0 where
  pub lies : MayLie stage.viewport (view_size s) s.viewport
  pub on_screen : IsOnScreen s.viewport s.screen
  pub below : IsInline stage.viewport → IsBlankBelow s.viewport s.screen

-- the frame of a text and puts over an area: an empty buffer, the text rendered over it, and then the puts
-- set in order
pub record IsFrame (area : Rect) (text : TextData) (puts : List (ℕ × ℕ × ℕ))
    (frame : BufferData) : Type 0 where
  pub edges : EdgesFit area
  pub blank : BufferData
  pub emptied : IsEmptied area blank
  pub rendered : BufferData
  pub renders : RendersText text area blank rendered
  pub painted : frame ≡ with_puts puts rendered

-- where the viewport is at the start: in the corner, unless it is fixed
abbrev pub first_viewport : Viewport → Size → Rect
first_viewport Fullscreen size = record { x = 0; y = 0; width = size.width; height = size.height }
first_viewport (Inline n) size = record { x = 0; y = 0; width = size.width; height = min n size.height }
first_viewport (Fixed r) size = r

-- how many blank rows scrolled off then: those that an inline viewport wants and the screen hasn't
abbrev pub rows_at_start : Viewport → Size → ℕ
rows_at_start (Inline n) size = n - size.height
rows_at_start other size = 0

-- at the start all is blank
pub record IsStart (stage : Stage) (s : View) : Type 0 where
  pub size : view_size s ≡ stage_size stage
  pub viewport : s.viewport ≡ first_viewport stage.viewport (stage_size stage)
  pub history : s.screen.history
      ≡ replicate (rows_at_start stage.viewport (stage_size stage)) (replicate stage.width empty_look)
  pub blank : (a b : ℕ) → a < stage.width → b < stage.height → s.screen.grid a b ≡ empty_look

-- the size, the viewport, the history and all columns outside the viewport stay
pub record KeepsSurroundings (old new : View) : Type 0 where
  pub viewport : new.viewport ≡ old.viewport
  pub size : KeepsSizeAndHistory old.screen new.screen
  pub outside : KeepsOutside old.viewport old.screen new.screen

-- the size after a draw: the given one, but the screen of a fixed viewport keeps its own
abbrev pub size_after : Viewport → Option Size → Size → Size
size_after kind None own = own
size_after (Fixed r) (Some given) own = own
size_after kind (Some given) own = given

-- the screen took the size that it has, and the rows above the viewport are then the topmost of it, from its
-- history on
pub record GoesOn (old new : View) : Type 0 where
  pub between : Screen
  pub takes : TakesSize old.screen (view_size new) between
  pub count : ℕ
  pub above : rows_above_view new ≡ rows_above between count
  pub left : List (List Look)
  pub history : new.screen.history ≡ old.screen.history ++ left

-- the viewport shows the settled frame of a text and puts
pub record ShowsFrame (text : TextData) (puts : List (ℕ × ℕ × ℕ)) (s : View) : Type 0 where
  pub frame : BufferData
  pub made : IsFrame s.viewport text puts frame
  pub settled : IsSettledBuffer frame
  pub shown : ShowsBuffer frame s.screen.grid

-- a draw: the screen has its size and shows the settled frame over the viewport; all else stays if the size
-- does, and at another size the history and the rows above the viewport go on
pub record IsDrawn (stage : Stage) (given : Option Size) (text : TextData) (puts : List (ℕ × ℕ × ℕ))
    (old new : View) : Type 0 where
  pub size : view_size new ≡ size_after stage.viewport given (view_size old)
  pub shows : ShowsFrame text puts new
  pub same : view_size new ≡ view_size old → KeepsSurroundings old new
  pub other : (view_size new ≡ view_size old → ⊥) → GoesOn old new

-- a clear: the viewport is empty, and all else stays
pub record IsEmptiedView (old new : View) : Type 0 where
  pub rest : KeepsSurroundings old new
  pub blank : IsBlankOver new.viewport new.screen

-- how many rows a text inserts: one for each line, as far as 16 bits count
abbrev pub row_count : TextData → ℕ
row_count text = min (length text.lines) 65535

-- the area that such a text is rendered over: as wide as the screen
abbrev pub text_area : ℕ → TextData → Rect
text_area width text = record { x = 0; y = 0; width = width; height = row_count text }

-- an insertion: exactly the rows of the settled frame of the text came to those above the viewport, which
-- moved down as far as there was room, and each column of which shows what it did; on a screen without rows
-- nothing changes
pub record IsInserted (text : TextData) (old new : View) : Type 0 where
  pub size : view_size new ≡ view_size old
  pub viewport : new.viewport ≡ record old.viewport {
    y = min (old.viewport.y + row_count text)
        (old.screen.height - old.viewport.height);
  }
  pub frame : BufferData
  pub made : IsFrame (text_area old.screen.width text) text [] frame
  pub settled : IsSettledBuffer frame
  pub above : 0 < old.screen.height → AppendsRows (frame ∷ []) (rows_above_view old) (rows_above_view new)
  pub shown : (a b : ℕ) → a < old.viewport.width → b < old.viewport.height
      → new.screen.grid (old.viewport.x + a) (new.viewport.y + b) ≡ old.screen.grid (old.viewport.x + a)
      (old.viewport.y + b)
  pub none : old.screen.height ≡ 0 → new ≡ old

-- what stands after a step; an insertion changes nothing if the viewport isn't inline, for it has no rows
-- above
abbrev pub IsAfter : Stage → Step → View → View → Type 0
IsAfter stage (Draw given text puts) old new = IsDrawn stage given text puts old new
IsAfter stage (Insert text) old new = (IsInline stage.viewport → IsInserted text old new)
    × ((IsInline stage.viewport → ⊥) → new ≡ old)
IsAfter stage Clear old new = IsEmptiedView old new

-- a scene of looks alone: its screen has its corner at (0, 0), and no cell of it or of the history has an
-- option or a flag
pub record IsSceneOfLooks (scene : Scene) : Type 0 where
  pub corner : scene.screen.area ≡ screen_area (view_of_scene scene).screen
  pub screen : AreUnmarked scene.screen.cells
  pub history : AreUnmarkedRows (map (λ row. row.items) scene.history.items)

-- a scene of a play: of looks alone, with the viewport where it may lie
abbrev pub IsScene : Stage → Scene → Type 0
IsScene stage scene = IsSceneOfLooks scene × IsStaged stage (view_of_scene scene)

-- a frame that can't be shown
pub record HasUnsettled (area : Rect) (text : TextData) (puts : List (ℕ × ℕ × ℕ)) : Type 0 where
  pub frame : BufferData
  pub made : IsFrame area text puts frame
  pub unsettled : IsSettledBuffer frame → ⊥

-- a draw's viewport: the former one if the size stays, else anywhere that it may lie
pub record MayCover (stage : Stage) (size : Size) (s : View) (area : Rect) : Type 0 where
  pub lies : MayLie stage.viewport size area
  pub stays : size ≡ view_size s → area ≡ s.viewport

-- why a step can't be played: want of memory, or its frame over this viewport can't be shown, or what it is
-- to insert above it
abbrev pub IsCauseOfStep : Stage → Step → View → PlayCause → Type 0
IsCauseOfStep stage step s Memory = Unit {0}
IsCauseOfStep stage (Draw given text puts) s (Unsettled area) =
    MayCover stage (size_after stage.viewport given (view_size s)) s area × HasUnsettled area text puts
IsCauseOfStep stage (Insert text) s (Unsettled area) =
    IsInline stage.viewport × (area ≡ s.viewport) × HasUnsettled (text_area s.screen.width text) text []
IsCauseOfStep stage Clear s (Unsettled area) = ⊥

-- the scenes after each step from a view on, up to the end: all steps were played, or the next one can't be
-- for this cause
abbrev pub AreScenesFrom : Stage → Option PlayCause → View → List Step → List Scene → Type 0
AreScenesFrom stage end old [] [] = end ≡ None
AreScenesFrom stage end old [] (scene ∷ scenes) = ⊥
AreScenesFrom stage end old (step ∷ steps) [] = (cause : PlayCause) × (end ≡ Some cause)
    × IsCauseOfStep stage step old cause
AreScenesFrom stage end old (step ∷ steps) (scene ∷ scenes) =
    IsScene stage scene × IsAfter stage step old (view_of_scene scene)
    × AreScenesFrom stage end (view_of_scene scene) steps scenes

-- the scenes of a play up to its end: none if there was no memory to start, else that at the start and those
-- that follow
abbrev pub IsPlay : Stage → Option PlayCause → List Step → List Scene → Type 0
IsPlay stage end steps [] = end ≡ Some Memory
IsPlay stage end steps (scene ∷ scenes) =
    IsScene stage scene × IsStart stage (view_of_scene scene)
    × AreScenesFrom stage end (view_of_scene scene) steps scenes

-- a play of all steps
abbrev pub IsRun : Stage → List Step → List Scene → Type 0
IsRun stage steps scenes = IsPlay stage None steps scenes

-- a play that ended early for a cause: at the step after these scenes, or at 0 before the start
abbrev pub EndsEarly : Stage → List Step → List Scene → ℕ → PlayCause → Type 0
EndsEarly stage steps scenes step cause = (step ≡ length scenes) × IsPlay stage (Some cause) steps scenes
