-- What refused calls leave, and where a draw stops.
use Rattle.std.proofs.Common.{◌≡◌, ℕ, ◌+◌, ◌*◌, ◌<◌, Bool, true, IsTrue, List, Option, Result, Ok, Err, IsErr}
use Rattle.std.proofs.Common.{IsErrAnd, IfErr, OnOk, OnErr, refl, sym, ap, subst, ◌∙◌}
use Rattle.std.proofs.lemmas.Bool.{false≢true}
use Rattle.ratatui_core.specs.{Layout.Position, Buffer.Update}
use Rattle.ratatui_core.specs.Layout as layout
use Rattle.ratatui_core.specs.Backend.{ClearType, All, AfterCursor, BeforeCursor, CurrentLine, UntilNewLine}
use Rattle.ratatui_ansi.specs.{declared.error.AnsiError.AnsiError, declared.tracker.Tracker.Tracker, declared.tracker.Call.Call}
use Rattle.ratatui_ansi.specs.declared.error.AnsiError.TheVariants.{Memory, Symbol, Style, Cut, Size, Broken, Write}
use Rattle.ratatui_ansi.specs.declared.tracker.Call.TheVariants as Called
use Rattle.ratatui_ansi.specs.{declared.draw.Draw.Draw, declared.draw.CellError.CellError, Backend.BackendState}
use Rattle.ratatui_ansi.specs.declared.draw.CellError.TheVariants as Refused
use Rattle.ratatui_ansi.specs.{Tracker.IsAwaiting, Errors.error_of}
use Rattle.ratatui_ansi.specs.Inner.Draw.{RefusesUpdate}
use Rattle.ratatui_ansi.specs.Inner.Tracker.{IsTracked, IsUncollected}
use Rattle.ratatui_ansi.specs.Inner.Draw.{IsDrawing, BeginsDraw}
use Rattle.ansi_model.specs.{Flags.flag, Flags.is_clear_cut, Screens.screen_shown, Sequences.feed}
use Rattle.ansi_model.specs.{Emulator.Emulator, Emulator.rested}
use Rattle.ratatui_ansi.specs.Refusals.{IsOfClearing, FailsToResize, names_cell, IsRefusedOn}
use Rattle.ratatui_ansi.specs.Inner.Draw.{has_place, StopsWithin}
use Rattle.ratatui_ansi.specs.Inner.Tracker.{IsOfCall}
use Rattle.ratatui_ansi.specs.Refusals.{Answers, AnswersSet, StopsSending}
use Rattle.ratatui_ansi.specs.{declared.settings.Settings.Settings, Settings.either, Settings.noted}
use Rattle.ratatui_ansi.specs.Inner.Draw.{StopsDraw}
use Rattle.ratatui_ansi.proofs.{BackendLemmas.cursor-column, BackendLemmas.cursor-row, CoverLemmas.covered-continuation}
use Rattle.ratatui_ansi.proofs.{FrameLemmas.begins}

-- what a failed call leaves is what some error leaves
pub stops_sending : {W A : Type 0} (result : Result A AnsiError) (old new : BackendState W) → Answers result old new
    → OnErr result (StopsSending old new)
stops_sending (Ok x) old new state = tt
stops_sending (Err error) old new state = (error, state)

-- a call that was made, and then noted
pub answers_set : {W A : Type 0} (result : Result A AnsiError) (after : Settings) (old mid new : BackendState W)
    → Answers result old mid → new ≡ record mid { settings = noted result after mid.settings } → AnswersSet result after old new
answers_set (Ok x) after old mid new is e = rw e (record {
  start = is.start;
  before = is.before;
  after = is.after;
  size = is.size;
  colors = is.colors;
  ambiguous = is.ambiguous;
  synchronized = is.synchronized;
  alternate = is.alternate;
  settings = refl;
})
answers_set (Err (Write error)) after old mid new is e = rw e (record {
  start = is.start;
  before = is.before;
  after = is.after;
  size = is.size;
  colors = is.colors;
  ambiguous = is.ambiguous;
  synchronized = is.synchronized;
  alternate = is.alternate;
  settings = ap (λ s. either s after) is.settings;
})
answers_set (Err Memory) after old mid new is e = rw e is
answers_set (Err (Symbol p)) after old mid new is e = rw e is
answers_set (Err (Style p)) after old mid new is e = rw e is
answers_set (Err (Cut p)) after old mid new is e = rw e is
answers_set (Err Size) after old mid new is e = absurd is
answers_set (Err Broken) after old mid new is e = rw e is

-- ---- where a draw stops

refused-on : (d : Draw) (t : Emulator) (u : Update) (refusal : CellError) → IsDrawing d t → RefusesUpdate d u refusal
    → IsRefusedOn d.target.has_underline_colors (screen_shown d.state.written (rested t)) u refusal
refused-on d t u Refused.Memory is because = tt
refused-on d t u (Refused.Symbol p) is because = (
  rw (is.ready.rest.width, is.ready.rest.height) because.0,
  rw is.ready.rest.width because.2,
)
refused-on d t u (Refused.Style p) is because = (
  rw (is.ready.rest.width, is.ready.rest.height) because.0,
  because.2,
)
refused-on d t u (Refused.Cut p) is because = (
  rw (is.ready.rest.width, is.ready.rest.height) because.0,
  covered-continuation (rested t).columns is.ready.tidy.sized is.ready.tidy.whole u.x u.y
      (sym (is.continuations.each u.x u.y because.0.column because.0.row) ∙ because.1),
  because.2,
)

pub stops-draw : {S A : Type 0} (steps : S → Option A → S → Type 0) (content : S) (update : A → Update) (d : Draw)
    (refusal : CellError) → BeginsDraw d → StopsWithin steps content update d refusal
    → StopsDraw steps content update d.target.width d.target.height d.target.has_underline_colors d.state.cursor d.state.written
    d.continuations.now refusal
stops-draw steps content update d refusal start stops = record {
  stops = λ t is.
      let u = feed stops.sends.bytes t in
      let did = stops.sends.read t (begins d t start is) in
      record {
        front = stops.front;
        item = stops.item;
        rest = stops.rest;
        gives = stops.gives;
        between = screen_shown stops.between.state.written (rested u);
        draws = did.1;
        refused = rw stops.keeps.target at (refused-on stops.between u (update stops.item) refusal did.0 stops.refused);
      };
}

-- an error that names a cell comes from a refusal that has a place
pub named-place : (refusal : CellError) → IsTrue (names_cell (error_of refusal)) → IsTrue (has_place refusal)
named-place Refused.Memory named = named
named-place (Refused.Symbol p) named = named
named-place (Refused.Style p) named = named
named-place (Refused.Cut p) named = named

-- a clear that would cut a symbol has its cursor on a column that the symbol covers
pub cut-is-covered : {w h : ℕ} {place : Position} {flags : List Bool} {t : Emulator} (written : ℕ) (kind : ClearType) → 0 < w
    → IsAwaiting w h place flags t
    → is_clear_cut kind w place.x place.y flags ≡ true → IsOfClearing (screen_shown written (rested t)) (Cut place)
cut-is-covered {w} {h} {place} {flags} {t} written kind wide is cut =
    let set : flag flags (place.y * w + place.x) ≡ true = by_kind kind cut in
    let x_in : place.x < w = cursor-column wide is in
    let y_in : place.y < h = cursor-row is in (
      sym is.placed,
      covered-continuation (rested t).columns is.ready.tidy.sized is.ready.tidy.whole place.x place.y
          (sym (is.continuations.each place.x place.y x_in y_in) ∙ set),
    )
  where
    by_kind : (k : ClearType) → is_clear_cut k w place.x place.y flags ≡ true → flag flags (place.y * w + place.x) ≡ true
    by_kind All e = absurd (false≢true e)
    by_kind AfterCursor e = e
    by_kind BeforeCursor e = absurd (false≢true e)
    by_kind CurrentLine e = absurd (false≢true e)
    by_kind UntilNewLine e = e

-- ---- what refused calls leave

-- a result that is this error
abbrev pub Refuses : {A F : Type 0} → Result A F → F → Type 0
Refuses answer error = IsErr answer × IsErrAnd answer (λ f. f ≡ error)

pub if-error : {A F : Type 0} (P : F → Type 0) (answer : Result A F) (error : F) → Refuses answer error → P error → IfErr answer P
if-error P (Ok x) error is holds = tt
if-error P (Err f) error is holds = subst P (sym is.1) holds

-- a backend that takes its own size again keeps it
pub size-stays : {W A : Type 0} (answer : Result A AnsiError) (size : layout.Size) (old new : BackendState W)
    → OnOk answer (new.size ≡ size) → IfErr answer (FailsToResize size old new) → old.size ≡ size → new.size ≡ size
size-stays (Ok x) size old new same fails own = same
size-stays (Err Memory) size old new same fails own = fails.size ∙ own
size-stays (Err (Symbol p)) size old new same fails own = absurd fails
size-stays (Err (Style p)) size old new same fails own = absurd fails
size-stays (Err (Cut p)) size old new same fails own = absurd fails
size-stays (Err Size) size old new same fails own = fails.1.size ∙ own
size-stays (Err Broken) size old new same fails own = absurd fails
size-stays (Err (Write error)) size old new same fails own = fails.1 ∙ own

-- why a call wasn't sent
pub uncollected-why : (k : Tracker) (t : Emulator) (call : Call) (written : ℕ) (refusal : CellError) → 0 < k.size.width
    → IsTracked k t → IsUncollected call k refusal → IsOfCall call (screen_shown written (rested t)) (error_of refusal)
uncollected-why k t (Called.Move p) written Refused.Memory wide is why = tt
uncollected-why k t (Called.Show visible) written Refused.Memory wide is why = tt
uncollected-why k t (Called.Command command) written Refused.Memory wide is why = tt
uncollected-why k t (Called.PushKeyboardFlags flags) written Refused.Memory wide is why = tt
uncollected-why k t Called.AskSize written Refused.Memory wide is why = tt
uncollected-why k t (Called.Append n) written Refused.Memory wide is why = tt
uncollected-why k t (Called.ScrollUp region n) written Refused.Memory wide is why = tt
uncollected-why k t (Called.ScrollDown region n) written Refused.Memory wide is why = tt
uncollected-why k t (Called.Clear kind) written Refused.Memory wide is why = tt
uncollected-why k t call written (Refused.Symbol p) wide is why = absurd why
uncollected-why k t call written (Refused.Style p) wide is why = absurd why
uncollected-why k t (Called.Move q) written (Refused.Cut p) wide is why = absurd why.1
uncollected-why k t (Called.Show visible) written (Refused.Cut p) wide is why = absurd why.1
uncollected-why k t (Called.Command command) written (Refused.Cut p) wide is why = absurd why.1
uncollected-why k t (Called.PushKeyboardFlags flags) written (Refused.Cut p) wide is why = absurd why.1
uncollected-why k t Called.AskSize written (Refused.Cut p) wide is why = absurd why.1
uncollected-why k t (Called.Append n) written (Refused.Cut p) wide is why = absurd why.1
uncollected-why k t (Called.ScrollUp region n) written (Refused.Cut p) wide is why = absurd why.1
uncollected-why k t (Called.ScrollDown region n) written (Refused.Cut p) wide is why = absurd why.1
uncollected-why k t (Called.Clear kind) written (Refused.Cut p) wide is why =
    subst (λ q. IsOfClearing (screen_shown written (rested t)) (Cut q)) (sym why.0)
    (cut-is-covered written kind wide is.awaiting why.1)
