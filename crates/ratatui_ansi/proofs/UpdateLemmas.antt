-- Draws within a synchronized update.
use Rattle.std.proofs.Common.{◌≡◌, ℕ, Bool, true, false, List, [], ◌++◌, refl, sym, ap, ◌∙◌, subst, append_assoc, append-nil}
use Rattle.ratatui_core.specs.{Layout.Position, Buffer.Update, Backend.Draws, Backend.cursor_of}
use Rattle.ansi_model.specs.Emulator.{Emulator, rested, holding}
use Rattle.ansi_model.specs.{Modes.no_modes, Sequences.feed, Sends.Performs, Sends.IsWithinUpdate, Screens.screen_shown}
use Rattle.ansi_model.specs.{Screens.IsIdle, Flags.AreContinuations}
use Rattle.ansi_model.proofs.{ReadLemmas.feed-append, ReadLemmas.after-those, ReadLemmas.Leads-later}
use Rattle.ansi_model.proofs.{ScrollLemmas.rested-ready, HistoryLemmas.feed-held, HistoryLemmas.rested-held}
use Rattle.ratatui_ansi.specs.{Tracker.IsAwaiting}
use Rattle.ratatui_ansi.specs.Inner.Draw.{SendsDraw}

-- an awaiting terminal rests
rests : {w h : ℕ} {place : Position} {flags : List Bool} {t : Emulator} → IsAwaiting w h place flags t
    → rested (rested t) ≡ rested t
rests {w} {h} {t = t} awaits = rested-ready w h (rested t) awaits.ready

rests-awaiting : {w h : ℕ} {place : Position} {flags : List Bool} {t : Emulator} → IsAwaiting w h place flags t
    → IsAwaiting w h place flags (rested t)
rests-awaiting {w} {h} {place} {flags} {t} awaits =
    let e : rested (rested t) ≡ rested t = rests awaits in
    record {
      phase = refl;
      ready = subst (IsIdle w h) (sym e) awaits.ready;
      continuations = subst (λ (u : Emulator). AreContinuations w h flags u.columns) (sym e) awaits.continuations;
      placed = ap (λ u. cursor_of (screen_shown 0 u)) e ∙ awaits.placed;
    }

-- no update is held
holding-none : (t : Emulator) → t.modes ≡ no_modes → holding false t ≡ t
holding-none t none = ap (λ m. record t { modes = record m { held = false } }) none ∙ ap (λ m. record t { modes = m }) (sym none)

module _ {w h : ℕ} {old opened drawn new : List ℕ} {cursor after : Position} {written count : ℕ} {flags flags_after : List Bool}
    {us : List Update}
    (opens : Performs old opened (holding true))
    (sends : SendsDraw w h opened cursor written flags us drawn after count flags_after)
    (closes : Performs drawn new (holding false)) where
  bytes : List ℕ
  bytes = opens.bytes ++ (sends.bytes ++ closes.bytes)

  -- the update ends, and leaves what the draw would without one
  update-read : (t : Emulator) → IsAwaiting w h cursor flags t → feed bytes t ≡ rested (feed sends.bytes (rested t))
  unfolding bytes
  update-read t awaits =
      let s : Emulator = rested t in
      let u : Emulator = feed sends.bytes s in
      let held = feed-held sends.bytes true s in
      let drew = (sends.read s (rests-awaiting awaits)).0 in
      feed-append opens.bytes (sends.bytes ++ closes.bytes) t ∙ ap (feed (sends.bytes ++ closes.bytes))
      (opens.read t awaits.phase)
      ∙ feed-append sends.bytes closes.bytes (holding true s) ∙ ap (feed closes.bytes) held.1
      ∙ closes.read (holding held.0 u) drew.phase ∙ ap (holding false) (rested-held held.0 u)
      ∙ holding-none (rested u) drew.ready.rest.modes

  pub update-drawn : SendsDraw w h old cursor written flags us new after count flags_after
  unfolding bytes
  update-drawn = record {
    bytes = bytes;
    appended = after-those old opened new opens.bytes (sends.bytes ++ closes.bytes) opens.appended
        (after-those opened drawn new sends.bytes closes.bytes sends.appended closes.appended);
    read = λ t awaits.
        let u : Emulator = feed sends.bytes (rested t) in
        let did = sends.read (rested t) (rests-awaiting awaits) in
        let there : rested (feed bytes t) ≡ rested u = ap rested (update-read t awaits) ∙ rests did.0 in (
          subst (IsAwaiting w h after flags_after) (sym (update-read t awaits)) (rests-awaiting did.0),
          subst (λ x. Draws (screen_shown written (rested t)) us (screen_shown count x)) (sym there)
              (subst (λ x. Draws (screen_shown written x) us (screen_shown count (rested u))) (rests awaits) did.1),
        );
  }

  pub update-within : IsWithinUpdate old new
  update-within = record {
    opened = opened;
    opens = opens;
    bytes = sends.bytes;
    closes = subst (λ xs. Performs xs new (holding false)) sends.appended closes;
  }

-- the same after bytes that were sent before
pub within-sent : (before out more after : List ℕ) → IsWithinUpdate out more → out ≡ [] → after ≡ before ++ more
    → IsWithinUpdate before after
within-sent before out more after within none e = record {
  opened = before ++ within.opened;
  opens = subst (λ xs. Performs xs (before ++ within.opened) (holding true))
      (ap (λ xs. before ++ xs) none ∙ append-nil before) (Leads-later before within.opens);
  bytes = within.bytes;
  closes = subst (λ xs. Performs xs after (holding false)) (sym (append_assoc before within.opened within.bytes))
      (subst (λ xs. Performs (before ++ (within.opened ++ within.bytes)) xs (holding false)) (sym e)
      (Leads-later before within.closes));
}
