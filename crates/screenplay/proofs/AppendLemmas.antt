-- The rows above an inline viewport along a run.
use Rattle.std.proofs.Common.{◌≡◌, ℕ, zero, suc, ◌<◌, List, [], ◌∷◌, ◌++◌, take, drop, Some, None, sym, ap, ◌∙◌, subst, arith}
use Rattle.std.proofs.Common.{append-nil, refl, slice_get}
use Rattle.std.specs.List.{flat_map}
use Rattle.std.proofs.Math.Seq.{drop-nil}
use Rattle.rtui_geometry.specs.declared.size.Size.{Size}
use Rattle.rtui_cell.specs.Look.{Look}
use Rattle.rtui_text.specs.Text.{TextData}
use Rattle.rtui_buffer.specs.BufferData.{BufferData}
use Rattle.rtui_viewport.specs.Viewports.{IsInline}
use Rattle.rtui_terminal.proofs.HeadlineLemmas.{appends_more}
use Rattle.screenplay.proofs.PlayLemmas.{kept_rows}
use Rattle.screenplay.specs.Run.{View, view_of_scene, view_size, rows_above_view, IsAfter, AreScenesFrom, IsRun}
use Rattle.screenplay.specs.Appending.{AreFrames, AppendsTexts, texts_inserted_by, scene_size, KeepsSizeFor, IsAppending}
use Rattle.screenplay.specs.{declared.scene.Stage.Stage, declared.scene.Scene.Scene, declared.scene.Step.Step}
use Rattle.screenplay.specs.declared.scene.Step.TheVariants.{Draw, Insert, Clear}

frames_append : (width : ℕ) (ss ts : List TextData) (fs gs : List BufferData) → AreFrames width ss fs → AreFrames width ts gs
    → AreFrames width (ss ++ ts) (fs ++ gs)
frames_append width [] ts [] gs p q = q
frames_append width [] ts (f ∷ fs) gs p q = absurd p
frames_append width (s ∷ ss) ts [] gs p q = absurd p
frames_append width (s ∷ ss) ts (f ∷ fs) gs p q = (p.0, frames_append width ss ts fs gs p.1 q)

texts_more : (width : ℕ) (ss ts : List TextData) (a b c : List (List Look)) → AppendsTexts width ss a b
    → AppendsTexts width ts b c → AppendsTexts width (ss ++ ts) a c
texts_more width ss ts a b c p q = record {
  frames = p.frames ++ q.frames;
  made = frames_append width ss ts p.frames q.frames p.made q.made;
  appends = appends_more p.frames q.frames a b c p.appends q.appends;
}

texts_none : (width : ℕ) (old new : List (List Look)) → new ≡ old → AppendsTexts width [] old new
texts_none width old new e = record {
  frames = [];
  made = tt;
  appends = record {
    rows = [];
    appended = e ∙ sym (append-nil old);
    agree = refl;
  };
}

step_texts : (stage : Stage) (step : Step) (old new : View) → IsInline stage.viewport → 0 < old.screen.height
    → IsAfter stage step old new → view_size new ≡ view_size old
    → AppendsTexts old.screen.width (texts_inserted_by step) (rows_above_view old) (rows_above_view new)
step_texts stage (Draw given text puts) old new inline some after same = texts_none _ (rows_above_view old) (rows_above_view new)
    (kept_rows old new (after.same same))
step_texts stage (Insert text) old new inline some after same =
    let inserted = after.0 inline in
    record { frames = inserted.frame ∷ []; made = (inserted.made, tt); appends = inserted.above some }
step_texts stage Clear old new inline some after same = texts_none _ (rows_above_view old) (rows_above_view new)
    (kept_rows old new after.rest)

module _ (stage : Stage) (inline : IsInline stage.viewport) (size : Size) (some : 0 < size.height) where
  abbrev above : Scene → List (List Look)
  above scene = rows_above_view (view_of_scene scene)

  -- from a scene on
  along : (n : ℕ) (steps : List Step) (first : Scene) (scenes : List Scene) (last : Scene)
      → AreScenesFrom stage None (view_of_scene first) steps scenes → slice_get (first ∷ scenes) n ≡ Some last
      → KeepsSizeFor n (first ∷ scenes) size → AppendsTexts size.width (flat_map texts_inserted_by (take n steps)) (above first)
      (above last)
  along zero steps first scenes last follows at keeps = let same : last ≡ first = cc in
      texts_none size.width (above first) (above last) (ap above same)
  along (suc n) [] first [] last follows at keeps = absurd (cc)
  along (suc n) [] first (scene ∷ scenes) last follows at keeps = absurd follows
  along (suc n) (step ∷ steps) first [] last follows at keeps = absurd (cc)
  along (suc n) (step ∷ steps) first (scene ∷ scenes) last follows at keeps =
      let own : scene_size first ≡ size = keeps 0 first (omega arith) refl in
      let same : scene_size scene ≡ scene_size first = keeps 1 scene (omega arith) refl ∙ sym own in
      let here : AppendsTexts size.width (texts_inserted_by step) (above first) (above scene) =
      subst (λ (s : Size). AppendsTexts s.width (texts_inserted_by step) (above first) (above scene)) own
      (step_texts stage step (view_of_scene first) (view_of_scene scene) inline (subst (λ (s : Size). 0 < s.height)
      (sym own) some) follows.1 same) in
      texts_more size.width (texts_inserted_by step) (flat_map texts_inserted_by (take n steps)) (above first) (above scene)
      (above last) here
      (along n steps scene scenes last follows.2 at (λ k sc le is. keeps (suc k) sc (omega arith) is))

  -- from scene i on
  from : (i n : ℕ) (steps : List Step) (here : Scene) (scenes : List Scene) (first last : Scene)
      → AreScenesFrom stage None (view_of_scene here) steps scenes → slice_get (drop i (here ∷ scenes)) 0 ≡ Some first
      → slice_get (drop i (here ∷ scenes)) n ≡ Some last → KeepsSizeFor n (drop i (here ∷ scenes)) size
      → AppendsTexts size.width (flat_map texts_inserted_by (take n (drop i steps))) (above first) (above last)
  from zero n steps here scenes first last follows at_first at_last keeps =
      let same : here ≡ first = cc in
      subst (λ scene. AppendsTexts size.width (flat_map texts_inserted_by (take n steps)) (above scene) (above last)) same
      (along n steps here scenes last follows at_last keeps)
  from (suc i) n steps here [] first last follows at_first at_last keeps = let none = rw (drop-nil {A = Scene} i) at at_first in
      absurd (cc none)
  from (suc i) n [] here (scene ∷ scenes) first last follows at_first at_last keeps = absurd follows
  from (suc i) n (step ∷ steps) here (scene ∷ scenes) first last follows at_first at_last keeps =
      from i n steps scene scenes first last follows.2 at_first at_last keeps

pub IsAppending-run : (stage : Stage) (steps : List Step) (scenes : List Scene) → IsInline stage.viewport
    → IsRun stage steps scenes → IsAppending steps scenes
IsAppending-run stage steps [] inline run i n first last at_first at_last some keeps = absurd (cc)
IsAppending-run stage steps (scene ∷ scenes) inline run i n first last at_first at_last some keeps =
    from stage inline (scene_size first) some i n steps scene scenes first last run.2 at_first at_last keeps
