-- The rows above an inline viewport along a run.
use Rattle.std.specs.Prelude.{◌≡◌, ℕ, ◌<◌, ◌≤◌, List, [], ◌∷◌, take, drop, Some, slice_get}
use Rattle.std.specs.List.{flat_map}
use Rattle.rtui_geometry.specs.declared.size.Size.{Size}
use Rattle.rtui_cell.specs.Look.{Look}
use Rattle.rtui_text.specs.Text.{TextData}
use Rattle.rtui_buffer.specs.BufferData.{BufferData}
use Rattle.rtui_insert.specs.Insertion.{AppendsRows}
use Rattle.screenplay.specs.Run.{view_of_scene, view_size, rows_above_view, text_area, IsFrame}
use Rattle.screenplay.specs.{declared.scene.Scene.Scene, declared.scene.Step.Step}
use Rattle.screenplay.specs.{declared.scene.Step.TheVariants.Insert}

-- a frame of each text, in order, as wide as the screen
abbrev pub AreFrames : ℕ → List TextData → List BufferData → Type 0
AreFrames width [] [] = Unit {0}
AreFrames width (text ∷ texts) (frame ∷ frames) = IsFrame (text_area width text) text [] frame
    × AreFrames width texts frames
AreFrames width texts frames = ⊥

-- exactly the rows of frames of these texts were appended, in order
pub record AppendsTexts (width : ℕ) (texts : List TextData) (old new : List (List Look)) : Type 0 where
  pub frames : List BufferData
  pub made : AreFrames width texts frames
  pub appends : AppendsRows frames old new

-- the texts that a step inserts
abbrev pub texts_inserted_by : Step → List TextData
texts_inserted_by (Insert text) = text ∷ []
texts_inserted_by other = []

abbrev pub scene_size : Scene → Size
scene_size scene = view_size (view_of_scene scene)

-- the first scene and n more have this size
abbrev pub KeepsSizeFor : ℕ → List Scene → Size → Type 0
KeepsSizeFor n scenes size = (k : ℕ) (scene : Scene) → k ≤ n → slice_get scenes k ≡ Some scene
    → scene_size scene ≡ size

-- from scene i on, n scenes later and while the size stays, the rows above an inline viewport are the former
-- ones followed by all that were inserted since
abbrev pub IsAppending : List Step → List Scene → Type 0
IsAppending steps scenes =
    (i n : ℕ) (first last : Scene) → slice_get (drop i scenes) 0 ≡ Some first
    → slice_get (drop i scenes) n ≡ Some last
    → 0 < (scene_size first).height → KeepsSizeFor n (drop i scenes) (scene_size first)
    → AppendsTexts (scene_size first).width (flat_map texts_inserted_by (take n (drop i steps)))
    (rows_above_view (view_of_scene first)) (rows_above_view (view_of_scene last))
