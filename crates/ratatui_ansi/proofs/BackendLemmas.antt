-- What a backend keeps of its terminal once a call was sent.
use Rattle.std.proofs.Common.{◌≡◌, ℕ, Bool, false, ◌-◌, ◌<◌, min, arith, List, [], ◌++◌, refl, sym, ap, ◌∙◌, subst, append-nil}
use Rattle.std.proofs.Common.{string_bytes, Option, Some}
use Rattle.ratatui_core.specs.{Layout.Position, Layout.Size, Backend.Screen, Backend.IsBlankScreen}
use Rattle.ratatui_ansi.specs.{declared.tracker.Tracker.Tracker, Backend.BackendState, Backend.reader, Backend.IsReadAlike}
use Rattle.ratatui_ansi.specs.{Backend.IsInOrder, Backend.BringsBack, Settings.UndoesFirst}
use Rattle.std.specs.Io.KnownBytes.{Appends}
use Rattle.ansi_model.specs.{Endings.ClosesAlternate, Windows.Window, Windows.feed_window, Emulator.Phase.Ground}
use Rattle.ansi_model.specs.{Emulator.Emulator, Emulator.rested, Emulator.blank_terminal, Sequences.feed, Screens.screen_shown}
use Rattle.ansi_model.specs.{Beginnings.MakesBlank, Beginnings.anew, Beginnings.with_rows_above, Columns.blank_column}
use Rattle.ansi_model.specs.{Flags.AreContinuations}
use Rattle.ansi_model.proofs.{ScrollLemmas.blank-idle, ReadLemmas.feed-append, CallLemmas.fresh-left, HistoryLemmas.feed-above}
use Rattle.ansi_model.proofs.{WindowLemmas.window-read, WindowLemmas.window-append}
use Rattle.ansi_model.specs.Commands.{command_bytes, keyboard_bytes, size_question}
use Rattle.ratatui_ansi.specs.declared.tracker.Call.{Call}
use Rattle.ratatui_ansi.specs.declared.tracker.Call.TheVariants as Called
use Rattle.ratatui_ansi.specs.Tracker.{IsAwaiting, FitsScreen}
use Rattle.ratatui_ansi.specs.Inner.Tracker.{IsTracked, Collects, IsCommanded, BeginsBlank}

read-on : (size : Size) (sent more new : List ℕ) → new ≡ sent ++ more → reader size new ≡ feed more (reader size sent)
read-on size sent more new e = ap (reader size) e ∙ feed-append sent more (blank_terminal size.width size.height)

-- what reads alike does so once more was sent
pub alike-on : (size : Size) (sent out new : List ℕ) → new ≡ sent ++ out → IsReadAlike size sent → IsReadAlike size new
alike-on size sent out new e alike t left =
    ap (λ bytes. feed bytes (anew t)) e ∙ feed-append sent out (anew t) ∙ ap (feed out) (alike t left)
    ∙ feed-above out t.history (reader size sent)
    ∙ ap (with_rows_above t.history) (sym (ap (reader size) e ∙ feed-append sent out (blank_terminal size.width size.height)))

-- what a call's bytes are, once they were sent
pub commanded-on : (call : Call) (cursor : Position) (sent out new after : List ℕ) → IsCommanded call cursor out new → out ≡ []
    → after ≡ sent ++ new → IsCommanded call cursor sent after
commanded-on (Called.Command command) cursor sent out new after is none e = e ∙ ap (λ xs. sent ++ xs)
    (is ∙ ap (λ xs. xs ++ command_bytes command) none)
commanded-on (Called.PushKeyboardFlags flags) cursor sent out new after is none e = e ∙ ap (λ xs. sent ++ xs)
    (is ∙ ap (λ xs. xs ++ keyboard_bytes flags) none)
commanded-on Called.AskSize cursor sent out new after is none e = e ∙ ap (λ xs. sent ++ xs)
    (is ∙ ap (λ xs. xs ++ size_question cursor) none)
commanded-on (Called.Move p) cursor sent out new after is none e = tt
commanded-on (Called.Show visible) cursor sent out new after is none e = tt
commanded-on (Called.Append n) cursor sent out new after is none e = tt
commanded-on (Called.ScrollUp region n) cursor sent out new after is none e = tt
commanded-on (Called.ScrollDown region n) cursor sent out new after is none e = tt
commanded-on (Called.Clear kind) cursor sent out new after is none e = tt

-- where the cursor is
pub commanded-at : (call : Call) (cursor there : Position) (old new : List ℕ) → there ≡ cursor → IsCommanded call cursor old new
    → IsCommanded call there old new
commanded-at call cursor there old new e is = subst (λ (p : Position). IsCommanded call p old new) (sym e) is

-- what is tracked of the terminal that has read all
pub tracked-from : (k : Tracker) {broken : Bool} {failures : ℕ} {sent : List ℕ}
    → IsInOrder k.size k.cursor k.continuations.items k.draft.items k.is_visible broken failures sent → broken ≡ false
    → IsTracked k (reader k.size sent)
tracked-from k kept whole = record { awaiting = kept.awaiting whole; visible = kept.seen whole }

-- ---- a call was collected, and then sent

module _ {old new : Tracker} {related : Screen → Screen → Type 0} (sent : List ℕ) {after : List ℕ}
    (call : Collects old related new) (none : string_bytes old.out ≡ []) (e : after ≡ sent ++ string_bytes new.out) where
  read : reader old.size after ≡ feed call.leads.bytes (reader old.size sent)
  read = read-on old.size sent call.leads.bytes after (e ∙ ap (λ xs. sent ++ xs) (call.leads.appended
      ∙ ap (λ xs. xs ++ call.leads.bytes) none))

  -- the screen is related so to the former
  pub shown-on : IsTracked old (reader old.size sent) → related (screen_shown old.written (rested (reader old.size sent)))
      (screen_shown new.written (rested (reader new.size after)))
  shown-on awaits = subst (λ size. related (screen_shown old.written (rested (reader old.size sent)))
      (screen_shown new.written (rested (reader size after)))) (sym call.size)
      (subst (λ t. related (screen_shown old.written (rested (reader old.size sent))) (screen_shown new.written (rested t)))
      (sym read) (call.leads.read (reader old.size sent) awaits).1)

  -- the backend is in order
  pub in-order-on : {broken broken_after : Bool} {failures failures_after : ℕ}
      → IsInOrder old.size old.cursor old.continuations.items old.draft.items old.is_visible broken failures sent → broken ≡ false
      → broken_after ≡ false → IsInOrder new.size new.cursor new.continuations.items new.draft.items new.is_visible broken_after
      failures_after after
  in-order-on kept whole works = record {
    tracker = call.fits;
    unfailed = λ _. works;
    awaiting = λ _. tracked.awaiting;
    seen = λ _. tracked.visible;
    alike = λ _. subst (λ size. IsReadAlike size after) (sym call.size)
        (alike-on old.size sent (string_bytes new.out) after e (kept.alike whole));
  }
    where
      tracked : IsTracked new (reader new.size after)
      tracked = subst (λ size. IsTracked new (reader size after)) (sym call.size)
          (subst (IsTracked new) (sym read) (call.leads.read (reader old.size sent) (tracked-from old kept whole)).0)

-- and so it is if the writer was sent nothing more
pub in-order-still : {size : Size} {place : Position} {flags draft : List Bool} {visible broken broken_after : Bool}
    {failures failures_after : ℕ} {sent new : List ℕ} → IsInOrder size place flags draft visible broken failures sent
    → broken ≡ false → broken_after ≡ false → new ≡ sent
    → IsInOrder size place flags draft visible broken_after failures_after new
in-order-still {size} {place} {flags} {visible = visible} kept whole works same = record {
  tracker = kept.tracker;
  unfailed = λ _. works;
  awaiting = λ _. subst (λ bytes. IsAwaiting size.width size.height place flags (reader size bytes)) (sym same)
      (kept.awaiting whole);
  seen = λ _. subst (λ bytes. (rested (reader size bytes)).visible ≡ visible) (sym same) (kept.seen whole);
  alike = λ _. subst (IsReadAlike size) (sym same) (kept.alike whole);
}

-- the cursor stands on the screen
pub cursor-column : {w h : ℕ} {place : Position} {flags : List Bool} {t : Emulator} → 0 < w → IsAwaiting w h place flags t
    → place.x < w
cursor-column {w} {place = place} {t = t} some awaits =
    let x : min (rested t).x ((rested t).width - 1) ≡ place.x = ap (λ (p : Position). p.x) awaits.placed in
    let width : (rested t).width ≡ w = awaits.ready.rest.width in
    omega arith

pub cursor-row : {w h : ℕ} {place : Position} {flags : List Bool} {t : Emulator} → IsAwaiting w h place flags t → place.y < h
cursor-row {h = h} {place = place} {t = t} awaits =
    let y : (rested t).y ≡ place.y = ap (λ (p : Position). p.y) awaits.placed in
    let row : (rested t).y < h = awaits.ready.row in
    omega arith

-- ---- the beginning

pub blank-read : (size : Size) (sent : List ℕ) → MakesBlank size.width size.height [] sent
    → reader size sent ≡ blank_terminal size.width size.height
blank-read size sent blank = ap (reader size) blank.appended ∙ blank.read (blank_terminal size.width size.height)
    (fresh-left size.width size.height)

-- what makes a terminal blank was all that was sent
pub blank-sent : {w h : ℕ} {out first made text sent : List ℕ} → MakesBlank w h out made → out ≡ [] → first ≡ [] → text ≡ made
    → sent ≡ first ++ text → MakesBlank w h [] sent
blank-sent {w} {h} blank none nothing same e = rw (e, nothing, same) (rw none at blank)

blank-alike : (size : Size) (sent : List ℕ) → MakesBlank size.width size.height [] sent → IsReadAlike size sent
blank-alike size sent blank t left =
    ap (λ bytes. feed bytes (anew t)) blank.appended ∙ blank.read t left
    ∙ ap (λ rows. record (blank_terminal size.width size.height) { history = rows }) (sym (append-nil t.history))
    ∙ ap (with_rows_above t.history) (sym (blank-read size sent blank))

blank-awaits : (w h : ℕ) (flags : List Bool) → 0 < h → AreContinuations w h flags (λ a b. blank_column)
    → IsAwaiting w h (record { x = 0; y = 0 }) flags (blank_terminal w h)
blank-awaits w h flags some continuations =
    let column : min 0 (w - 1) ≡ 0 = omega arith in
    record {
      phase = refl;
      ready = blank-idle w h some;
      continuations = continuations;
      placed = ap (λ k. record { x = k; y = 0 }) column;
    }

pub begun : {size : Size} {k : Tracker} {sent : List ℕ} {broken : Bool} {failures : ℕ} → BeginsBlank size k
    → MakesBlank size.width size.height [] sent → broken ≡ false
    → IsInOrder k.size k.cursor k.continuations.items k.draft.items k.is_visible broken failures sent
begun {size} {k} {sent} {broken} {failures} begins blank works =
    let fits : FitsScreen size k.continuations.items k.draft.items =
    subst (λ s. FitsScreen s k.continuations.items k.draft.items) begins.size begins.fits in
    let high : 0 < size.height = fits.rows in
    let place : Position = record { x = 0; y = 0 } in
    let order : IsInOrder size place k.continuations.items k.draft.items k.is_visible broken failures sent = record {
      tracker = fits;
      unfailed = λ _. works;
      awaiting = λ _. subst (IsAwaiting size.width size.height place k.continuations.items) (sym (blank-read size sent blank))
          (blank-awaits size.width size.height k.continuations.items high begins.continuations);
      seen = λ _. ap (λ (t : Emulator). (rested t).visible) (blank-read size sent blank) ∙ sym begins.visible;
      alike = λ _. blank-alike size sent blank;
    } in
    subst (λ s. IsInOrder s k.cursor k.continuations.items k.draft.items k.is_visible broken failures sent) (sym begins.size)
    (subst (λ p. IsInOrder size p k.continuations.items k.draft.items k.is_visible broken failures sent)
    (sym begins.cursor) order)

blank-shown : (size : Size) (sent : List ℕ) → MakesBlank size.width size.height [] sent
    → IsBlankScreen size.width size.height (screen_shown 0 (rested (reader size sent)))
blank-shown size sent blank =
    let column : min 0 (size.width - 1) ≡ 0 = omega arith in
    subst (λ t. IsBlankScreen size.width size.height (screen_shown 0 (rested t))) (sym (blank-read size sent blank)) (record {
      history = refl;
      width = refl;
      height = refl;
      grid = λ a b. refl;
      cursor = ap (λ k. record { x = k; y = 0 }) column;
      visible = refl;
      written = refl;
    })

pub blank-shown-by : {size : Size} {k : Tracker} {sent : List ℕ} → BeginsBlank size k → MakesBlank size.width size.height [] sent
    → IsBlankScreen size.width size.height (screen_shown k.written (rested (reader k.size sent)))
blank-shown-by {size} {k} {sent} begins blank =
    subst (λ n. IsBlankScreen size.width size.height (screen_shown n (rested (reader k.size sent)))) (sym begins.written)
    (subst (λ s. IsBlankScreen size.width size.height (screen_shown 0 (rested (reader s sent)))) (sym begins.size)
    (blank-shown size sent blank))

-- ---- the end

-- what was sent and what closes the alternate screen bring the main one back
pub brings-back : {W : Type 0} (b : BackendState W) (contents : Option (List ℕ)) (sent : List ℕ) → ClosesAlternate b.sent sent
    → UndoesFirst b.settings b.sent sent → IsReadAlike b.size b.sent → (reader b.size b.sent).phase ≡ Ground
    → Appends b.before contents sent → BringsBack b contents
brings-back b contents sent closes undoes alike ground tied = record {
  sent = sent;
  undoes = undoes;
  closes = closes;
  back = λ t main left.
      let w : Window = record { shown = anew t; aside = Some main } in
      let phase : (feed b.sent (anew t)).phase ≡ Ground = ap (λ (u : Emulator). u.phase) (alike t left) ∙ ground in
      ap (λ bytes. feed_window bytes w) closes.appended ∙ window-append b.sent closes.bytes w
      ∙ ap (feed_window closes.bytes) (window-read b.sent (anew t) (Some main) phase)
      ∙ closes.read (record { shown = feed b.sent (anew t); aside = Some main }) phase;
  tied = tied;
}
