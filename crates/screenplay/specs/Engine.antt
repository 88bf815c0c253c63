-- From the bytes of a script to what is printed, or to a fault.
use Rattle.std.specs.Prelude.{◌≡◌, ℕ, List, [], ◌∷◌, ◌++◌, Option, Some, codes, MatchOption}
use Rattle.std.specs.{Fmt.decimal, Str.IsUtf8, Str.Lines.lines, Io.KnownBytes.Appends}
use Rattle.screenplay.specs.{Script.IsFirstBadLine, Script.IsScriptOf, Run.IsRun, Run.EndsEarly}
use Rattle.screenplay.specs.{Run.view_of_scene, Print.printed_from, Print.steps_of}
use Rattle.screenplay.specs.{declared.act.Act.Act, declared.script.Script.Script, declared.scene.Scene.Scene}
use Rattle.screenplay.specs.{declared.scene.Stage.Stage}
use Rattle.screenplay.specs.{declared.scene.StepError.StepError, declared.scene.PlayCause.PlayCause}
use Rattle.screenplay.specs.{declared.error.RunError.RunError}
use Rattle.screenplay.specs.declared.scene.PlayCause.TheVariants as cause
use Rattle.screenplay.specs.declared.error.RunError.TheVariants.{Line, Step as AtStep, NotText, Read, Memory}
use Rattle.screenplay.specs.declared.error.RunError.TheVariants.{Write}

-- the bytes are this script
pub record IsScript (bytes : List ℕ) (script : Script) : Type 0 where
  pub text : IsUtf8 bytes
  pub is : IsScriptOf (lines bytes) script

-- a run of the acts prints this text
abbrev pub PrintsActs : Stage → List Act → List ℕ → Type 0
PrintsActs stage acts text =
    (first : Scene) × (later : List Scene) × IsRun stage (steps_of acts) (first ∷ later)
    × (text ≡ printed_from (view_of_scene first) acts later)

-- the bytes are a script, and a run of it prints this text; without a stage there is nothing to print
pub record PrintsText (bytes text : List ℕ) : Type 0 where
  pub script : Script
  pub is : IsScript bytes script
  pub prints : MatchOption script.stage (text ≡ []) (λ stage. PrintsActs stage script.acts text)

-- the writer took that text
pub record PrintsRun (bytes : List ℕ) (old new : Option (List ℕ)) : Type 0 where
  pub text : List ℕ
  pub prints : PrintsText bytes text
  pub written : Appends old new text

-- the bytes are a script with a step that can't be played
pub record HasStepError (bytes : List ℕ) (error : StepError) : Type 0 where
  pub script : Script
  pub is : IsScript bytes script
  pub stage : Stage
  pub staged : script.stage ≡ Some stage
  pub scenes : List Scene
  pub ends : EndsEarly stage (steps_of script.acts) scenes error.step error.cause

-- why nothing of these bytes was printed, or with a failed writer a part of what a run of them prints
abbrev pub IsRunFault : List ℕ → RunError → Type 0
IsRunFault bytes (Line n) = IsUtf8 bytes × IsFirstBadLine (lines bytes) n
IsRunFault bytes (AtStep error) = HasStepError bytes error
IsRunFault bytes NotText = IsUtf8 bytes → ⊥
IsRunFault bytes Read = Unit {0}
IsRunFault bytes Memory = Unit {0}
IsRunFault bytes Write = (text : List ℕ) × PrintsText bytes text

-- why a step wasn't played, as a word
abbrev pub cause_text : PlayCause → List ℕ
cause_text cause.Memory = codes "memory"
cause_text (cause.Unsettled area) = codes "unsettled"

-- the line for standard error
abbrev pub run_error_text : RunError → List ℕ
run_error_text (Line n) = codes "line " ++ decimal n ++ codes ": bad command"
run_error_text (AtStep fault) = codes "step " ++ decimal fault.step ++ codes ": " ++ cause_text fault.cause
run_error_text NotText = codes "input: not text"
run_error_text Read = codes "input: read failed"
run_error_text Memory = codes "input: no memory"
run_error_text Write = codes "output: write failed"
