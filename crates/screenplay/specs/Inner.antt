-- A script as it is read, a line at a time: what stands after each; and what is made of its text.
use Rattle.std.specs.Prelude.{◌==◌, nat_le, if◌then◌else◌, ℕ, List, [], ◌∷◌, ◌++◌, length, take}
use Rattle.std.specs.Prelude.{Option, Some, None, option_and_then, ◌≡◌, ◌<◌}
use Rattle.rtui_text.specs.Text.{TextData, raw_line, text_of}
use Rattle.screenplay.specs.{declared.act.Act.Act, declared.script.Command.Command}
use Rattle.screenplay.specs.{declared.script.Script.Script, declared.scene.Stage.Stage}
use Rattle.screenplay.specs.{declared.act.Plan.Plan, Run.EndsEarly, Print.steps_of}
use Rattle.screenplay.specs.{declared.scene.Scene.Scene, declared.error.RunError.RunError}
use Rattle.screenplay.specs.{Run.IsGoodStage}
use Rattle.screenplay.specs.declared.act.Act.TheVariants as acts
use Rattle.screenplay.specs.declared.script.Command.TheVariants.{SetStage, TakeSize, Put, AddText}
use Rattle.screenplay.specs.declared.script.Command.TheVariants.{Draw, Insert, Clear, Show}
use Rattle.screenplay.specs.declared.act.Plan.TheVariants as plans
use Rattle.screenplay.specs.Script.{command_of, is_fixed}
use Rattle.screenplay.specs.declared.error.RunError.TheVariants.{Step as AtStep, Memory}
use Rattle.rtui_geometry.specs.declared.size.Size.{Size}
use Rattle.rtui_buffer.specs.BufferData.{BufferData}
use Rattle.rtui_backend.specs.{Screen.size_of, Screen.TakesSize, TestBackend.screen_of}
use Rattle.rtui_backend.specs.{declared.test.TestBackend.TestBackend}
use Rattle.rtui_viewport.specs.Lying.{at_corner}
use Rattle.rtui_terminal.specs.{TerminalData.TerminalData, Resizing.Resizes, Insertion.Inserts}
use Rattle.screenplay.specs.Run.{view_of_scene, size_after, GoesOn, IsSceneOfLooks}
use Rattle.screenplay.specs.Playing.{view_in}

-- a script of no lines
abbrev pub nothing : Script
nothing = record { stage = None; acts = []; size = None; text = text_of []; puts = [] }

-- the draw of what waits
abbrev pub draw_of : Script → Plan
draw_of s = plans.Draw s.size s.text s.puts

-- the script, of which no text waits
abbrev pub without_text : Script → Script
without_text s = record s { text = text_of [] }

-- the script with one act more
abbrev pub with_act : Act → Script → Script
with_act act s = record s { acts = s.acts ++ act ∷ [] }

-- the script after a command, if the command may stand on its stage: one that sets it on none, and any other
-- on one, but a size only if the viewport isn't fixed, and an insertion of at most 65535 lines
abbrev pub after_on : Option Stage → Command → Script → Option Script
after_on None (SetStage stage) s = Some (record s { stage = Some stage })
after_on None other s = None
after_on (Some stage) (SetStage other) s = None
after_on (Some stage) (TakeSize size) s = if is_fixed stage.viewport then None else Some
    (record s { size = Some size })
after_on (Some stage) (Put x y c) s = Some (record s { puts = s.puts ++ (x, y, c) ∷ [] })
after_on (Some stage) (AddText line) s =
    Some (record s { text = record s.text { lines = s.text.lines ++ raw_line line ∷ [] } })
after_on (Some stage) Draw s =
    Some (with_act (acts.Play (draw_of s)) (record (without_text s) { size = None; puts = [] }))
after_on (Some stage) Insert s = if nat_le (length s.text.lines) 65535 then Some
    (with_act (acts.Play (plans.Insert s.text)) (without_text s)) else None
after_on (Some stage) Clear s = Some (with_act (acts.Play plans.Clear) s)
after_on (Some stage) Show s = Some (with_act acts.Show s)

-- the script after a line, if that is good: it is empty, or a command that may stand there
abbrev pub after_line : List ℕ → Script → Option Script
after_line line s = if length line == 0 then Some s else option_and_then (λ c. after_on s.stage c s)
    (command_of line)

-- the lines of a text that a screen can have rows for
abbrev pub front_of : TextData → TextData
front_of text = record text { lines = take 65535 text.lines }

-- a step of the acts can't be played, or memory was refused
abbrev pub StopsAtStep : Stage → List Act → RunError → Type 0
StopsAtStep stage acts (AtStep error) = (scenes : List Scene)
    × EndsEarly stage (steps_of acts) scenes error.step error.cause
StopsAtStep stage acts Memory = Unit {0}
StopsAtStep stage acts other = ⊥

-- a scene shows what the terminal's screen shows
pub record IsSceneOf (t : TerminalData TestBackend) (scene : Scene) : Type 0 where
  pub looks : IsSceneOfLooks scene
  pub shown : view_of_scene scene ≡ view_in t

-- the screen took a size, and the terminal was resized to it
pub record TakesNewSize (size : Size) (s t : TerminalData TestBackend) : Type 0 where
  pub backend : TestBackend
  pub takes : TakesSize (screen_of s.backend) size (screen_of backend)
  pub resizes : Resizes screen_of (at_corner size) (record s { backend = backend }) t

-- the screen took the size of a draw: if it stays nothing changed, and at another size the history and the
-- rows above go on
pub record IsSizedFor (stage : Stage) (given : Option Size) (s t : TerminalData TestBackend) : Type 0 where
  pub size : size_of (screen_of t.backend) ≡ size_after stage.viewport given (size_of (screen_of s.backend))
  pub same : size_of (screen_of t.backend) ≡ size_of (screen_of s.backend) → t ≡ s
  pub other : (size_of (screen_of t.backend) ≡ size_of (screen_of s.backend) → ⊥) → IsGoodStage stage
      → GoesOn (view_in s) (view_in t)

-- the rows of a buffer were inserted above an inline viewport; if the screen was known to have no rows
-- nothing changed
pub record InsertsBuffer (rows : BufferData) (s t : TerminalData TestBackend) : Type 0 where
  pub none : s.last_known_area.height ≡ 0 → t ≡ s
  pub inserts : 0 < s.last_known_area.height → Inserts screen_of rows s t

-- a command that sets the stage sets a good one
abbrev pub IsGoodCommand : Command → Type 0
IsGoodCommand (SetStage stage) = IsGoodStage stage
IsGoodCommand other = Unit {0}
