-- The printed text of a play.
use Rattle.std.specs.Prelude.{ℕ, List, [], ◌∷◌, ◌++◌}
use Rattle.rtui_backend.specs.Print.{printed_screen}
use Rattle.screenplay.specs.{Run.View, Run.view_of_scene, declared.act.Act.Act}
use Rattle.screenplay.specs.{declared.act.Act.TheVariants.Play, declared.act.Act.TheVariants.Show}
use Rattle.screenplay.specs.{declared.scene.Scene.Scene, declared.scene.Step.Step, declared.act.Plan.Plan}
use Rattle.screenplay.specs.declared.act.Plan.TheVariants.{Draw, Insert, Clear}
use Rattle.screenplay.specs.declared.scene.Step.TheVariants as steps

-- the step that is played
abbrev pub step_of : Plan → Step
step_of (Draw size text puts) = steps.Draw size text puts
step_of (Insert text) = steps.Insert text
step_of Clear = steps.Clear

-- the steps of acts
abbrev pub steps_of : List Act → List Step
steps_of [] = []
steps_of (Play plan ∷ acts) = step_of plan ∷ steps_of acts
steps_of (Show ∷ acts) = steps_of acts

-- the printed text of acts from a view on, after whose steps these scenes stand: for each show what stands
-- then, its history with each row after `^`, and its screen with each row after `|`
abbrev pub printed_from : View → List Act → List Scene → List ℕ
printed_from s [] scenes = []
printed_from s (Show ∷ acts) scenes = printed_screen s.screen ++ printed_from s acts scenes
printed_from s (Play plan ∷ acts) [] = []
printed_from s (Play plan ∷ acts) (scene ∷ scenes) = printed_from (view_of_scene scene) acts scenes
