-- A play, a scene at a time.
use Rattle.std.proofs.Common.{List, [], ◌∷◌, ◌++◌, Option, Some, None, refl, sym, subst, append-nil, append_assoc}
use Rattle.rtui_backend.specs.declared.test.TestBackend.{TestBackend}
use Rattle.rtui_terminal.specs.TerminalData.{TerminalData}
use Rattle.screenplay.specs.Run.{IsStaged, IsScene, IsStart, IsAfter, IsCauseOfStep, AreScenesFrom, IsPlay, IsRun}
use Rattle.screenplay.specs.Playing.{IsPlaying, view_in, Plays}
use Rattle.screenplay.specs.Inner.{IsSceneOf}
use Rattle.screenplay.specs.{declared.scene.PlayCause.PlayCause, declared.scene.Scene.Scene, declared.scene.Stage.Stage}
use Rattle.screenplay.specs.{declared.scene.Step.Step}

-- some steps are left to play: these scenes and any that follow what the terminal's screen shows are the scenes of a play of all
-- steps
pub record HasRun (stage : Stage) (steps left : List Step) (scenes : List Scene) (t : TerminalData TestBackend) : Type 0 where
  pub playing : IsPlaying stage t
  pub goes_on : (end : Option PlayCause) (more : List Scene) → AreScenesFrom stage end (view_in t) left more
      → IsPlay stage end steps (scenes ++ more)

IsScene-playing : (stage : Stage) (t : TerminalData TestBackend) (scene : Scene) → IsPlaying stage t → IsSceneOf t scene
    → IsScene stage scene
IsScene-playing stage t scene playing made =
    let on = playing.rest.in_step.on_screen in (
      made.looks,
      subst (IsStaged stage) (sym made.shown) (record {
        lies = playing.rest.lies;
        on_screen = record { right = on.right; bottom = on.bottom };
        below = λ inline. record { at = (playing.rest.below inline).at };
      }),
    )

pub HasRun-start : (stage : Stage) (steps : List Step) (t : TerminalData TestBackend) (scene : Scene) → IsPlaying stage t
    → IsStart stage (view_in t) → IsSceneOf t scene → HasRun stage steps steps (scene ∷ []) t
HasRun-start stage steps t scene playing start made = record {
  playing = playing;
  goes_on = λ end more follows. (
    IsScene-playing stage t scene playing made,
    subst (IsStart stage) (sym made.shown) start,
    subst (λ s. AreScenesFrom stage end s steps more) (sym made.shown) follows,
  );
}

module _ (stage : Stage) (steps left : List Step) (step : Step) (scenes : List Scene) (s : TerminalData TestBackend)
    (h : HasRun stage steps (step ∷ left) scenes s) where
  -- one more step, and the scene after it
  pub HasRun-push : (t : TerminalData TestBackend) (scene : Scene) → Plays stage step s t → IsSceneOf t scene
      → HasRun stage steps left (scenes ++ scene ∷ []) t
  HasRun-push t scene plays made = record {
    playing = plays.playing;
    goes_on = λ end more follows. subst (IsPlay stage end steps) (sym (append_assoc scenes (scene ∷ []) more))
        (h.goes_on end (scene ∷ more) (
          IsScene-playing stage t scene plays.playing made,
          subst (IsAfter stage step (view_in s)) (sym made.shown) plays.after,
          subst (λ v. AreScenesFrom stage end v left more) (sym made.shown) follows,
        ));
  }

  -- it can't be played
  pub IsPlay-refused : (cause : PlayCause) → IsCauseOfStep stage step (view_in s) cause → IsPlay stage (Some cause) steps scenes
  IsPlay-refused cause why = subst (IsPlay stage (Some cause) steps) (append-nil scenes)
      (h.goes_on (Some cause) [] (cause, refl, why))

-- no step is left
pub IsRun-played : (stage : Stage) (steps : List Step) (scenes : List Scene) (t : TerminalData TestBackend)
    → HasRun stage steps [] scenes t → IsRun stage steps scenes
IsRun-played stage steps scenes t h = subst (IsRun stage steps) (append-nil scenes) (h.goes_on None [] refl)
