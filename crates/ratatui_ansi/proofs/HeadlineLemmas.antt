-- From the screen that a backend stands for to the terminal that has read its bytes.
use Rattle.std.proofs.Common.{◌≡◌, ℕ, ◌<◌, ◌≤◌, Option, List, [], ◌∷◌, inl, refl, sym, ap, ◌∙◌, true, false, subst}
use Rattle.ratatui_core.specs.{Layout.Size, Backend.Screen, Buffer.Grid, Buffer.Look, Buffer.ShowsBuffer, Buffer.IsSettledBuffer}
use Rattle.ratatui_core.specs.Terminal.{TerminalData, IsInStep, DrawsFrame}
use Rattle.ratatui_core.specs.Headline.{Event, Along, last_state, IsFaithful, Draw}
use Rattle.std.specs.Io.KnownBytes.{Appends}
use Rattle.ratatui_ansi.specs.Backend.{BackendState, reader, shown_by, IsReadAlike, LeavesTerminal}
use Rattle.ratatui_ansi.specs.Settings.{UndoesFirst}
use Rattle.ansi_model.specs.{Sends.Performs, Endings.left_below, Endings.IsLeftBelow}
use Rattle.ansi_model.specs.{Beginnings.IsAsFound, Beginnings.anew, Beginnings.with_rows_above, Columns.look_in}
use Rattle.ansi_model.specs.{Emulator.Emulator, Emulator.rested, Emulator.Phase.Ground}
use Rattle.ansi_model.specs.{Glass.IsStraight, Modes.Modes, Modes.no_modes, Screens.screen_shown, Screens.IsIdle, Sequences.feed}
use Rattle.ratatui_ansi.specs.Headline.{IsReadBy, IsReadByAll, below_rows, IsShownToReader, IsShownToAll, IsHeadlineOfBytes}
use Rattle.ansi_model.proofs.{HistoryLemmas.rested-above, ReadLemmas.feed-append, EndLemmas.left-in-order}

-- faithful calls leave a terminal in step
pub last-in-step : {B : Type 0} (screen : B → Screen) (s : TerminalData B) (events : List (Event B)) → IsInStep screen s
    → Along (IsFaithful screen) s events → IsInStep screen (last_state s events)
last-in-step screen s [] step all = step
last-in-step screen s (e ∷ es) step all = last-in-step screen e.after es all.0.in_step all.1

pub rested-alike : (size : Size) (sent : List ℕ) → IsReadAlike size sent → (t : Emulator) → IsAsFound size.width size.height t
    → rested (feed sent (anew t)) ≡ with_rows_above t.history (rested (reader size sent))
rested-alike size sent alike t left = ap rested (alike t left) ∙ rested-above t.history (reader size sent)

-- rows above change nothing of what a terminal is ready for
pub idle-above : (w h : ℕ) (rows : List (List Look)) (t : Emulator) → IsIdle w h t → IsIdle w h (with_rows_above rows t)
idle-above w h rows t ready = record { rest = ready.rest; row = ready.row; tidy = ready.tidy }

pub read-by-all : {W : Type 0} (b : BackendState W) → IsReadAlike b.size b.sent → (reader b.size b.sent).phase ≡ Ground
    → IsIdle b.size.width b.size.height (rested (reader b.size b.sent)) → IsReadByAll b
read-by-all b alike phase ready t left =
    let sure : (rested (reader b.size b.sent)).sure ≡ true = ready.rest.sure in
    let modes : (rested (reader b.size b.sent)).modes ≡ no_modes = ready.rest.modes in
    let e = rested-alike b.size b.sent alike t left in
    let screen : screen_shown b.written (rested (feed b.sent (anew t))) ≡ below_rows t.history (shown_by b) =
    ap (screen_shown b.written) e in
    record {
      phase = ap (λ (u : Emulator). u.phase) (alike t left) ∙ phase;
      sure = ap (λ (u : Emulator). u.sure) e ∙ sure;
      ready = subst (IsIdle b.size.width b.size.height) (sym e)
          (idle-above b.size.width b.size.height t.history (rested (reader b.size b.sent)) ready);
      screen = screen;
      glass = λ g may x y straight x_in.
          let held : (rested (feed b.sent (anew t))).modes.held ≡ false = ap (λ (u : Emulator). u.modes.held) e
          ∙ ap (λ (m : Modes). m.held) modes in
          let same : (λ i j. look_in ((rested (feed b.sent (anew t))).columns i j)) ≡ (shown_by b).grid =
          ap (λ (s : Screen). s.grid) screen in
          may.straight held x y (subst (λ grid. IsStraight b.size.width grid y) (sym same) straight) x_in
          ∙ ap (λ (grid : Grid). grid x y) same;
    }

pub shown-to-reader : {W : Type 0} (t : TerminalData (BackendState W)) (u : Emulator) → IsInStep shown_by t → IsReadBy t.backend u
    → IsShownToReader t.previous t.backend u
shown-to-reader t u step read = record {
  read = read;
  shown = subst (λ (s : Screen). ShowsBuffer t.previous s.grid) (sym read.screen) step.shown;
}

-- the headline of the bytes, for a list of one draw
pub one-draw-shown : {W : Type 0} (s t : TerminalData (BackendState W)) → IsHeadlineOfBytes t → IsInStep shown_by s
    → DrawsFrame shown_by s t → IsSettledBuffer t.previous → t.backend.is_broken ≡ false
    → IsShownToAll t.previous t.backend
one-draw-shown s t law step draw settled whole =
    law s (record { call = Draw t.previous; after = t } ∷ []) step (
      (refl, record { before = s; taken = inl refl; then = draw }),
      tt,
    ) (settled, tt) refl whole

-- what leaves a terminal leaves each that has read what was sent before
pub leaves-terminal : {W : Type 0} (b : BackendState W) (contents : Option (List ℕ)) (sent : List ℕ)
    → UndoesFirst b.settings b.sent sent → Performs b.sent sent (left_below b.size.height) → IsReadByAll b → 0 < b.size.width
    → 0 < b.size.height → Appends b.before contents sent → LeavesTerminal b contents
leaves-terminal b contents sent undoes leaves read wide high tied = record {
  sent = sent;
  undoes = undoes;
  leaves = leaves;
  left = λ t found.
      let u : Emulator = feed b.sent (anew t) in
      let e : feed sent (anew t) ≡ left_below b.size.height (rested u) = ap (λ bytes. feed bytes (anew t)) leaves.appended
      ∙ feed-append b.sent leaves.bytes (anew t) ∙ leaves.read u (read t found).phase in
      subst (IsLeftBelow b.size.width b.size.height (rested u)) (sym e)
      (left-in-order b.size.width b.size.height wide high (rested u) (read t found).ready);
  tied = tied;
}
