-- A frame of an application that takes no memory is refused none, where the screen keeps its size.
use Rattle.std.proofs.Common.{rules, ◌≡◌, ◌⊎◌, inl, inr, ℕ, true, false, List, Option, Some, None, ap, sym, subst, ◌∙◌}
use Rattle.std.specs.declared.time.Duration.{Duration}
use Rattle.ratatui_core.specs.Backend.{size_of, screen_area}
use Rattle.ratatui_core.specs.{Layout.Size, Layout.Rect, Layout.Position, Buffer.BufferData, Buffer.IsEmptied}
use Rattle.ratatui_core.specs.Terminal.{TerminalData, Memory, IsFixed, IsSized}
use Rattle.ratatui_ansi.specs.Backend.{BackendState, shown_by}
use Rattle.ratatui_ansi.specs.{declared.error.AnsiError.AnsiError}
use Rattle.ratatui_acts.specs.declared.told.Told.{Told}
use Rattle.ratatui_acts.specs.declared.fault.Fault.TheVariants as fault
use Rattle.ratatui_acts.specs.Turns.{ActingRules, first_told}
use Rattle.ratatui_acts.specs.Runs.{Now, StopsTurning}
use Rattle.ratatui_app.specs.declared.on_glass.OnGlass.{OnGlass}
use Rattle.ratatui_app.specs.Showing.{Device, RestsUnfixed, KeepsSize, TakesOrKeepsSize, MayDraw}
use Rattle.ratatui_app.specs.Moving.{Readies, RefusesSized, FailsToDraw, StopsShowing}
use Rattle.ratatui_app.specs.Glass.{CanShow, StopsOnGlass, sender}
use Rattle.ratatui_app.specs.Runs.{on_glass}
use Rattle.ratatui_app.specs.Light.{TakesNoMemory, TellsOtherSize, StopsAtOtherSize}
use Rattle.ratatui_app.proofs.FrameLemmas.{RestsResized, sized-rest}

false-true : false ≡ true → ⊥
false-true e = search rules

module _ {B X : Type 0} (device : Device B X) where
  -- what readies a terminal keeps the size that it knows
  readied-known : (s t : TerminalData B) → Readies device s t → (t.viewport ≡ s.viewport) × (t.last_known_area ≡ s.last_known_area)
  readied-known s t (inl (inl same)) =
      (ap (λ (x : TerminalData B). x.viewport) same, ap (λ (x : TerminalData B). x.last_known_area) same)
  readied-known s t (inl (inr taken)) =
      (ap (λ (x : TerminalData B). x.viewport) taken.0, ap (λ (x : TerminalData B). x.last_known_area) taken.0)
  readied-known s t (inr clears) =
      (ap (λ (x : TerminalData B). x.viewport) clears.rest, ap (λ (x : TerminalData B). x.last_known_area) clears.rest)

  -- where the screen kept its size, the terminal knows it
  ready-sized : (s t : TerminalData B) → RestsUnfixed device.screen s → Readies device s t → KeepsSize device s t
      → IsSized device.screen t
  ready-sized s t rests readies same = by-known rests.rest.sized
    where
      by-known : IsFixed s.viewport ⊎ (screen_area (device.screen s.backend) ≡ s.last_known_area) → IsSized device.screen t
      by-known (inl fixed) = absurd (rests.free fixed)
      by-known (inr known) =
          inr (ap (λ (z : Size). record { x = 0; y = 0; width = z.width; height = z.height }) same ∙ known
          ∙ sym (readied-known s t readies).1)

  -- and is at rest
  ready-rests : (s t : TerminalData B) → RestsUnfixed device.screen s → Readies device s t → KeepsSize device s t
      → MayDraw device t → RestsUnfixed device.screen t
  ready-rests s t rests readies same (inl still) = still
  ready-rests s t rests readies same (inr new) = absurd (new.unknown (ready-sized s t rests readies same))

  -- no size is told, or the one that the screen has
  abbrev IsKnown : Option (ℕ × ℕ) → TerminalData B → Type 0
  IsKnown None s = Unit {0}
  IsKnown (Some size) s = size_of (device.screen s.backend) ≡ record { width = size.0; height = size.1 }

  -- then the screen keeps its size
  keeps-size : (told : Option (ℕ × ℕ)) (s t : TerminalData B) → TakesOrKeepsSize device told s t → IsKnown told s
      → KeepsSize device s t
  keeps-size None s t keeps known = keeps
  keeps-size (Some size) s t (inl has) known = has ∙ sym known
  keeps-size (Some size) s t (inr kept) known = kept.1

module _ {B X : Type 0} (E : Type 0) (device : Device B X) (paints : Rect → BufferData → BufferData → Type 0)
    (is_short : Rect → BufferData → Type 0) (cursor : Rect → Option Position)
    (resized : RestsResized device.screen) (short : (r : Rect) (blank : BufferData) → IsEmptied r blank → is_short r blank)
  where
    -- a draw at the known size
    frame-refused : (t t' : TerminalData B) → RestsUnfixed device.screen t
        → RefusesSized device paints is_short cursor {E = E} t t' Memory → ⊥
    frame-refused t t' rests (inl unknown) = unknown.0 rests.rest.sized
    frame-refused t t' rests (inr closure) =
        let sized = sized-rest device resized t closure.refuses.sized (inl rests) closure.refuses.autoresized in
        false-true (closure.closure.short (short _ _ sized.rest.current))

    -- and one that asks for it first
    draw-refused : (t t' : TerminalData B) → RestsUnfixed device.screen t
        → FailsToDraw device paints is_short cursor {E = E} t t' Memory → ⊥
    draw-refused t t' rests (inl unknown) = unknown.0 rests.rest.sized
    draw-refused t t' rests (inr (sized, sizes, refused)) =
        frame-refused sized t' (sized-rest device resized t sized (inl rests) sizes) refused

    -- the frame of a turn
    pub turn-refused : (told : Told) (s t : TerminalData B) → RestsUnfixed device.screen s
        → IsKnown device told.size s → StopsShowing device paints is_short cursor {E = E} told s t Memory → ⊥
    turn-refused told s t rests known (inl stops) = stops.0
    turn-refused told s t rests known (inr refuses) =
        draw-refused refuses.ready t
        (ready-rests device s refuses.ready rests refuses.readied.readied
        (keeps-size device told.size s refuses.ready refuses.readied.has known) refuses.readied.may)
        refuses.fails

-- a frame that was refused memory was that of another size
other-size : {W : Type 0} (told : Option (ℕ × ℕ)) (t : TerminalData (BackendState W)) → (IsKnown sender told t → ⊥)
    → TellsOtherSize told t
other-size None t refused = refused tt
other-size (Some z) t refused = refused

module _ {W S C R H O : Type 0} (rules : ActingRules S C R) (paints : S → Rect → BufferData → BufferData → Type 0)
    (is_short : S → Rect → BufferData → Type 0) (cursor : S → Rect → Option Position)
    (gives : H → ℕ → List ℕ → Duration → H → Type 0) (fails : H → H → Type 0) (answers : O → C → R → O → Type 0)
    (resized : RestsResized {B = BackendState W} shown_by) (none : TakesNoMemory rules is_short) where
  -- what a turn shows isn't refused memory, where it tells no other size
  glass-refused : (told : Told) (s : S) (t t' : TerminalData (BackendState W)) → RestsUnfixed shown_by t
      → IsKnown sender told.size t → StopsOnGlass (paints s) (is_short s) (cursor s) told t t' Memory → ⊥
  glass-refused told s t t' rests known (inl stops) =
      turn-refused AnsiError sender (paints s) (is_short s) (cursor s) resized (none.short s) told t t' rests known stops
  glass-refused told s t t' rests known (inr asking) = asking.fault

  pub other-refused : (before after : Now S (OnGlass W) H O) → CanShow before.glass.terminal
      → StopsTurning (on_glass rules paints is_short cursor gives fails answers) before after (fault.Show Memory)
      → StopsAtOtherSize (on_glass rules paints is_short cursor gives fails answers) before after
  other-refused before after ready (inl first) =
      absurd (glass-refused first_told before.standing.state before.glass.terminal after.glass.terminal ready.rest tt first.1)
  other-refused before after ready (inr at) = record {
    now = at.now;
    runs = at.runs;
    turn = at.stops.turn;
    wanted = at.stops.wanted;
    given = at.stops.given;
    made = at.stops.made;
    other = subst (λ (z : Option (ℕ × ℕ)). TellsOtherSize z at.now.glass.terminal) at.stops.tells.size
        (other-size at.stops.told.size at.now.glass.terminal (λ known.
        glass-refused at.stops.told after.standing.state at.now.glass.terminal after.glass.terminal at.runs.shown.ready.rest known
        at.stops.lacks));
  }
