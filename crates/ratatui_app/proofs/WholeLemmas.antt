-- Runs from beginning to end.
use Rattle.std.specs.declared.time.Duration.{Duration}
use Rattle.std.proofs.Common.{◌≡◌, ℕ, Bool, true, false, List, Option, Result, Ok, Err, OnOk, IfOk, IfErr, sym, subst, ◌∙◌}
use Rattle.ratatui_core.specs.{Backend.Screen, Backend.size_of, Layout.Rect, Layout.Position, Buffer.BufferData}
use Rattle.ratatui_core.specs.Terminal.{TerminalData, TerminalError, Viewport, Starts, IsAtRest, IsFixed, FitsSize, IsBlank, Stays}
use Rattle.ratatui_ansi.specs.Backend.{BackendState, shown_by, is_flushed, LeavesTerminal, BringsBack}
use Rattle.ratatui_ansi.specs.{declared.error.AnsiError.AnsiError}
use Rattle.ratatui_acts.specs.declared.fault.Fault.{Fault}
use Rattle.ratatui_acts.specs.Turns.{ActingRules, Standing}
use Rattle.ratatui_acts.specs.Runs.{RunsToEnd, StopsTurning}
use Rattle.ratatui_app.specs.declared.on_glass.OnGlass.{OnGlass}
use Rattle.ratatui_app.specs.Showing.{RestsUnfixed, ShowsPage}
use Rattle.ratatui_app.specs.Glass.{sender, CanShow, StandsOnGlass, Begins, IsGivenBack}
use Rattle.ratatui_app.specs.Runs.{on_glass, RunsThrough, StopsThrough}
use Rattle.ratatui_app.proofs.FrameLemmas.{rests-unfixed, rests-stays}

module _ {W : Type 0} where
  -- what is shown stays shown where the backend was asked
  asked-at : (paints : Rect → BufferData → BufferData → Type 0) (cursor : Rect → Option Position)
      (s : TerminalData (BackendState W)) (b : BackendState W) → shown_by b ≡ shown_by s.backend
      → RestsUnfixed shown_by (record s { backend = b }) → is_flushed b ≡ true
      → ShowsPage sender paints cursor s → ShowsPage sender paints cursor (record s { backend = b })
  asked-at paints cursor s b same rests flushed shows = record {
    rest = rests;
    painted = record {
      area = shows.painted.area;
      rendered = shows.painted.rendered;
      shown = λ settled. rw same (shows.painted.shown settled);
    };
    placed = rw same shows.placed;
    flushed = flushed;
  }

  pub shows-asked : (paints : Rect → BufferData → BufferData → Type 0) (cursor : Rect → Option Position)
      (s t : TerminalData (BackendState W)) → Stays shown_by s t → is_flushed t.backend ≡ true
      → ShowsPage sender paints cursor s → ShowsPage sender paints cursor t
  shows-asked paints cursor s t stays flushed shows =
      subst (λ (x : TerminalData (BackendState W)). ShowsPage sender paints cursor x) (sym stays.rest)
      (asked-at paints cursor s t.backend stays.screen_stays
      (subst (λ (x : TerminalData (BackendState W)). RestsUnfixed shown_by x) stays.rest
      (rests-stays shown_by s t stays shows.rest)) flushed shows)

  pub glass-shows : (paints : Rect → BufferData → BufferData → Type 0) (cursor : Rect → Option Position)
      (t : TerminalData (BackendState W)) → StandsOnGlass paints cursor t → ShowsPage sender paints cursor t
  glass-shows paints cursor t glass = record {
    rest = glass.ready.rest;
    painted = glass.painted;
    placed = glass.placed;
    flushed = glass.flushed;
  }

  -- a terminal that was begun is ready
  pub begun-ready : (viewport : Viewport) (backend : BackendState W) (t : TerminalData (BackendState W))
      → ((b : BackendState W) → FitsSize viewport (size_of (shown_by b)) → IsBlank (shown_by b)
      → Starts shown_by viewport b t → IsAtRest shown_by viewport t) → Begins viewport backend t
      → (IsFixed viewport → ⊥) → FitsSize viewport (size_of (shown_by backend)) → IsBlank (shown_by backend)
      → backend.failures ≡ 0 → CanShow t
  begun-ready viewport backend t started begins free fits blank none = record {
    rest = rests-unfixed shown_by viewport t free (started begins.asked
        (subst (λ (s : Screen). FitsSize viewport (size_of s)) (sym begins.shown) fits)
        (subst (λ (s : Screen). IsBlank s) (sym begins.shown) blank) begins.starts);
    unfailed = begins.faults ∙ none;
  }

module _ {W S C R H O : Type 0} (rules : ActingRules S C R) (paints : S → Rect → BufferData → BufferData → Type 0)
    (is_short : S → Rect → BufferData → Type 0) (cursor : S → Rect → Option Position) (gives : H → ℕ → List ℕ → Duration → H → Type 0) (fails : H → H → Type 0)
    (answers : O → C → R → O → Type 0) (viewport : Viewport) (backend : BackendState W) where
  -- how a run ended, and what giving back the terminal answered
  pub runs-whole : (r : Result (Unit {0}) (Fault (TerminalError AnsiError))) (has_ticks : Bool)
      (begun : TerminalData (BackendState W)) (glass ended : OnGlass W) (left : TerminalData (BackendState W))
      (contents : Option (List ℕ)) (first last : Standing S) (h h' : H) (o o' : O)
      → Begins viewport backend begun → glass ≡ record { terminal = begun; is_due = true; waited = 0 }
      → left ≡ ended.terminal → (left.backend.failures ≡ 0 → IsGivenBack left.backend contents)
      → OnOk r (RunsToEnd (on_glass rules paints is_short cursor gives fails answers) has_ticks
      (record { standing = first; glass = glass; ears = h; outside = o })
      (record { standing = last; glass = ended; ears = h'; outside = o' }))
      → OnOk r (RunsThrough (on_glass rules paints is_short cursor gives fails answers) viewport backend has_ticks first h o last h' o' contents)
  runs-whole (Ok x) has_ticks begun glass ended left contents first last h h' o o' begins is same given runs = record {
    begun = begun;
    begins = begins;
    ended = ended;
    runs = rw is at runs;
    given_back = (rw same at given) runs.runs.shown.ready.unfailed;
  }
  runs-whole (Err e) has_ticks begun glass ended left contents first last h h' o o' begins is same given runs = tt

  pub stops-whole : (r : Result (Unit {0}) (Fault (TerminalError AnsiError)))
      (begun : TerminalData (BackendState W)) (glass ended : OnGlass W) (left : TerminalData (BackendState W))
      (contents : Option (List ℕ)) (first last : Standing S) (h h' : H) (o o' : O)
      → Begins viewport backend begun → CanShow begun → glass ≡ record { terminal = begun; is_due = true; waited = 0 }
      → left ≡ ended.terminal → (left.backend.failures ≡ 0 → IsGivenBack left.backend contents)
      → IfErr r (λ fault. StopsTurning (on_glass rules paints is_short cursor gives fails answers)
      (record { standing = first; glass = glass; ears = h; outside = o })
      (record { standing = last; glass = ended; ears = h'; outside = o' }) fault)
      → IfErr r (λ fault. StopsThrough (on_glass rules paints is_short cursor gives fails answers) viewport backend fault first h o last h' o' contents)
  stops-whole (Ok x) begun glass ended left contents first last h h' o o' begins ready is same given stops = tt
  stops-whole (Err e) begun glass ended left contents first last h h' o o' begins ready is same given stops = record {
    begun = begun;
    begins = begins;
    ready = ready;
    ended = ended;
    stops = rw is at stops;
    given_back = rw same at given;
  }

-- a backend that was left has given its terminal back, whichever screen it was on
pub given-back : {W E : Type 0} (b : BackendState W) (contents : W → Option (List ℕ)) (answer : Result W E)
    → b.is_broken ≡ false
    → IfOk answer (λ writer. b.is_broken ≡ false → b.is_on_alternate ≡ false → LeavesTerminal b (contents writer))
    → IfOk answer (λ writer. b.is_broken ≡ false → b.is_on_alternate ≡ true → BringsBack b (contents writer))
    → IfOk answer (λ writer. IsGivenBack b (contents writer))
given-back b contents (Ok writer) works left back = record { left = left works; back = back works }
given-back b contents (Err error) works left back = tt
