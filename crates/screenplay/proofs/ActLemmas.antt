-- Acts of a script that were played.
use Rattle.std.proofs.Common.{◌≡◌, ℕ, ◌+◌, List, [], ◌∷◌, ◌++◌, length, Option, Some, None, IfSome, refl, sym, ap, ◌∙◌, subst}
use Rattle.std.proofs.Common.{arith, append-nil, append_assoc, length-append}
use Rattle.std.specs.Io.KnownBytes.{Appends}
use Rattle.rtui_backend.specs.{Print.printed_screen, TestBackend.screen_of, declared.test.TestBackend.TestBackend}
use Rattle.rtui_terminal.specs.TerminalData.{TerminalData}
use Rattle.screenplay.specs.{Run.view_of_scene, Run.IsStart, Run.IsCauseOfStep, Run.EndsEarly, Playing.IsPlaying, Playing.Plays}
use Rattle.screenplay.specs.{Playing.view_in}
use Rattle.screenplay.specs.{Print.printed_from, Print.step_of, Print.steps_of}
use Rattle.screenplay.specs.{Engine.PrintsActs, Engine.PrintsRun, Engine.PrintsText}
use Rattle.screenplay.specs.{declared.act.Act.Act, declared.act.Act.TheVariants.Play, declared.act.Act.TheVariants.Show}
use Rattle.screenplay.specs.{declared.scene.PlayCause.PlayCause, declared.scene.Scene.Scene, declared.scene.Stage.Stage}
use Rattle.screenplay.specs.{declared.act.Plan.Plan}
use Rattle.screenplay.proofs.SceneLemmas.{IsSceneOf-in, scene_in}
use Rattle.screenplay.proofs.RunLemmas.{HasRun, HasRun-start, HasRun-push, IsRun-played, IsPlay-refused}

-- some acts are left to play after n steps, and this is the text of what was shown: all acts print it and what those print
pub record HasPlayed (stage : Stage) (acts left : List Act) (n : ℕ) (t : TerminalData TestBackend) (text : List ℕ) : Type 0 where
  pub first : Scene
  pub later : List Scene
  pub count : n ≡ length later
  pub ran : HasRun stage (steps_of acts) (steps_of left) (first ∷ later) t
  pub shown : (more : List Scene) → printed_from (view_of_scene first) acts (later ++ more) ≡ text ++ printed_from
      (view_in t) left more

pub HasPlayed-none : (stage : Stage) (acts : List Act) (t : TerminalData TestBackend) → IsPlaying stage t
    → IsStart stage (view_in t) → HasPlayed stage acts acts 0 t []
HasPlayed-none stage acts t playing start = record {
  first = scene_in t;
  later = [];
  count = refl;
  ran = HasRun-start stage (steps_of acts) t (scene_in t) playing start (IsSceneOf-in t);
  shown = λ more. refl;
}

module _ (stage : Stage) (acts left : List Act) (n : ℕ) (s : TerminalData TestBackend) (text : List ℕ) where
  module _ (plan : Plan) (h : HasPlayed stage acts (Play plan ∷ left) n s text) where
    -- one more step was played
    pub HasPlayed-step : (t : TerminalData TestBackend) → Plays stage (step_of plan) s t
        → HasPlayed stage acts left (n + 1) t text
    HasPlayed-step t plays = record {
      first = h.first;
      later = h.later ++ scene_in t ∷ [];
      count = omega (arith, h.count, length-append h.later (scene_in t ∷ []));
      ran = HasRun-push stage (steps_of acts) (steps_of left) (step_of plan) (h.first ∷ h.later) s h.ran t (scene_in t) plays
          (IsSceneOf-in t);
      shown = λ more. ap (printed_from (view_of_scene h.first) acts) (append_assoc h.later (scene_in t ∷ []) more)
          ∙ h.shown (scene_in t ∷ more);
    }

    -- it can't be played
    pub EndsEarly-next : (cause : PlayCause) → IsCauseOfStep stage (step_of plan) (view_in s) cause
        → (scenes : List Scene) × EndsEarly stage (steps_of acts) scenes (n + 1) cause
    EndsEarly-next cause why = (
      h.first ∷ h.later,
      (
        omega (arith, h.count),
        IsPlay-refused stage (steps_of acts) (steps_of left) (step_of plan) (h.first ∷ h.later) s h.ran cause why,
      ),
    )

  -- the scene was printed
  pub HasPlayed-show : (text' : List ℕ) → HasPlayed stage acts (Show ∷ left) n s text
      → text' ≡ text ++ printed_screen (screen_of s.backend) → HasPlayed stage acts left n s text'
  HasPlayed-show text' h is = record {
    first = h.first;
    later = h.later;
    count = h.count;
    ran = h.ran;
    shown = λ more. h.shown more ∙ sym (append_assoc text (printed_screen (screen_of s.backend))
        (printed_from (view_in s) left more)) ∙ ap (λ xs. xs ++ printed_from (view_in s) left more) (sym is);
  }

-- all acts were played
pub PrintsActs-all : (stage : Stage) (acts : List Act) (n : ℕ) (t : TerminalData TestBackend) (text : List ℕ)
    → HasPlayed stage acts [] n t text → PrintsActs stage acts text
PrintsActs-all stage acts n t text h = (
  h.first,
  h.later,
  IsRun-played stage (steps_of acts) (h.first ∷ h.later) t h.ran,
  sym (ap (printed_from (view_of_scene h.first) acts) (sym (append-nil h.later)) ∙ h.shown [] ∙ append-nil text),
)

-- the text of the bytes that were read was written
pub prints_run : (left : Option (List ℕ)) (bytes text : List ℕ) (old new : Option (List ℕ)) → IfSome left (λ all. bytes ≡ all)
    → PrintsText bytes text → Appends old new text → IfSome left (λ all. PrintsRun all old new)
prints_run None bytes text old new e prints written = tt
prints_run (Some all) bytes text old new e prints written = subst (λ bs. PrintsRun bs old new) e (record {
  text = text;
  prints = prints;
  written = written;
})
