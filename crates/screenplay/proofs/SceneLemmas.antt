-- A scene made of what a terminal's screen shows.
use Rattle.std.proofs.Common.{◌≡◌, List, map, refl, sym, subst, ap, ap₂, ◌∙◌}
use Rattle.std.proofs.lemmas.Simd.{map-map}
use Rattle.std.specs.{declared.vec.Vec.Vec, declared.alloc.Global.Global}
use Rattle.rtui_geometry.specs.declared.rect.Rect.{Rect}
use Rattle.rtui_cell.specs.{declared.cell.Cell.Cell, Look.look_of}
use Rattle.rtui_buffer.specs.BufferData.{BufferData, IsSameBuffer}
use Rattle.rtui_backend.specs.{Screen.screen_area, CellGrid.AreUnmarked, CellGrid.AreUnmarkedRows}
use Rattle.rtui_backend.specs.{TestBackend.screen_of, TestBackend.buffer_of, declared.test.TestBackend.TestBackend}
use Rattle.rtui_terminal.specs.TerminalData.{TerminalData}
use Rattle.screenplay.specs.{declared.scene.Scene.Scene}
use Rattle.screenplay.specs.Inner.{IsSceneOf}

-- what the terminal's screen shows, as a scene
abbrev pub scene_in : TerminalData TestBackend → Scene
scene_in t = record { history = t.backend.scrollback; screen = buffer_of t.backend; viewport = t.viewport_area }

pub IsSceneOf-in : (t : TerminalData TestBackend) → IsSceneOf t (scene_in t)
IsSceneOf-in t = record {
  looks = record {
    corner = ap₂ (λ x y. record { x = x; y = y; width = t.backend.buffer.area.width; height = t.backend.buffer.area.height })
        t.backend.corner_x t.backend.corner_y;
    screen = t.backend.plain;
    history = t.backend.plain_history;
  };
  shown = refl;
}

-- the cells of rows
abbrev cells_of : List (Vec Cell Global) → List (List Cell)
cells_of rows = map (λ (row : Vec Cell Global). row.items) rows

pub IsSceneOf-made : (t : TerminalData TestBackend) (history : Vec (Vec Cell Global) Global) (rows : List (Vec Cell Global))
    (buffer copy : BufferData) → AreUnmarked buffer.cells → AreUnmarkedRows (cells_of rows) → IsSameBuffer buffer copy
    → buffer.area ≡ screen_area (screen_of t.backend) → buffer ≡ buffer_of t.backend → cells_of history.items ≡ cells_of rows
    → map (λ (row : Vec Cell Global). map look_of row.items) rows ≡ (screen_of t.backend).history
    → IsSceneOf t (record { history = history; screen = copy; viewport = t.viewport_area })
IsSceneOf-made t history rows buffer copy unmarked unmarked_rows same corner value copied left =
    let area : copy.area ≡ (buffer_of t.backend).area = same.area ∙ ap (λ (s : BufferData). s.area) value in
    let cells : copy.cells ≡ (buffer_of t.backend).cells = same.cells ∙ ap (λ (s : BufferData). s.cells) value in
    let looks = λ (rows : List (Vec Cell Global)). map-map (map look_of) (λ (row : Vec Cell Global). row.items) rows in
    let scrolled = sym (looks history.items) ∙ ap (map (map look_of)) copied ∙ looks rows ∙ left in
    record {
      looks = record {
        corner = same.area ∙ corner ∙ ap (λ (r : Rect). record { x = 0; y = 0; width = r.width; height = r.height }) (sym area);
        screen = subst AreUnmarked (sym same.cells) unmarked;
        history = subst AreUnmarkedRows (sym copied) unmarked_rows;
      };
      shown = rw (scrolled, area, cells) refl;
    }
