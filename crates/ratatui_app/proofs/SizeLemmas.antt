-- The screen has each size that is told.
use Rattle.std.proofs.Common.{rules, arith, ◌≡◌, inl, inr, ◌<◌, ℕ, List, Option, Some, None, refl, subst, ap, ◌∙◌}
use Rattle.std.specs.declared.time.Duration.{Duration}
use Rattle.ratatui_core.specs.{Layout.Rect, Layout.Position, Buffer.BufferData}
use Rattle.ratatui_core.specs.Backend.{size_of, HasNoCells}
use Rattle.ratatui_core.specs.Terminal.{TerminalData}
use Rattle.ratatui_ansi.specs.Backend.{BackendState, shown_by}
use Rattle.ratatui_input.specs.declared.decoder.Decoder.{Decoder}
use Rattle.ratatui_reads.specs.Reads.{size_told}
use Rattle.ratatui_acts.specs.Turns.{Turn, Came, Done, Standing, ActingRules, turn_size}
use Rattle.ratatui_acts.specs.Runs.{Now, IsTurn}
use Rattle.ratatui_app.specs.declared.on_glass.OnGlass.{OnGlass}
use Rattle.ratatui_app.specs.Showing.{TakesOrKeepsSize}
use Rattle.ratatui_app.specs.Glass.{sender, HasSizeTold, MovesAndAsks}
use Rattle.ratatui_app.specs.Runs.{on_glass}

-- columns and rows of one cell at least
abbrev AreCells : Option (ℕ × ℕ) → Type 0
AreCells told = (columns rows : ℕ) → told ≡ Some (columns, rows) → (0 < columns) × (0 < rows)

no-cells : (w h : ℕ) → (0 < w) × (0 < h) → HasNoCells (record { width = w; height = h }) → ⊥
no-cells w h cells (inl none) = omega (arith, cells.0, none)
no-cells w h cells (inr none) = omega (arith, cells.1, none)

by-told : {W : Type 0} (told : Option (ℕ × ℕ)) (s u t : TerminalData (BackendState W)) → AreCells told
    → TakesOrKeepsSize sender told s u → size_of (shown_by t.backend) ≡ size_of (shown_by u.backend)
    → HasSizeTold told s t
by-told None s u t cells keeps same = same ∙ keeps
by-told (Some z) s u t cells (inl has) same = same ∙ has
by-told (Some z) s u t cells (inr none) same = absurd (no-cells z.0 z.1 (cells z.0 z.1 refl) none.0)

turn-cells : {S C R : Type 0} → ((d : Decoder) (bytes : List ℕ) → AreCells (size_told d bytes))
    → (before : Standing S) (turn : Turn C R) → AreCells (turn_size before turn)
turn-cells cells before (Came bytes passed) = cells before.decoder bytes
turn-cells cells before (Done command answer) = λ columns rows is. absurd (cc)

pub turn-size : {W S C R H O : Type 0} → ((d : Decoder) (bytes : List ℕ) → AreCells (size_told d bytes))
    → (rules : ActingRules S C R) (paints : S → Rect → BufferData → BufferData → Type 0)
    (is_short : S → Rect → BufferData → Type 0) (cursor : S → Rect → Option Position) (gives : H → ℕ → List ℕ → Duration → H → Type 0) (fails : H → H → Type 0)
    (answers : O → C → R → O → Type 0) (before after : Now S (OnGlass W) H O) (turn : Turn C R)
    → IsTurn (on_glass rules paints is_short cursor gives fails answers) before turn after
    → HasSizeTold (turn_size before.standing turn) before.glass.terminal after.glass.terminal
turn-size cells rules paints is_short cursor gives fails answers before after turn is =
    let moves : MovesAndAsks is.told before.glass.terminal after.glass.terminal = is.moved in
    by-told (turn_size before.standing turn) before.glass.terminal moves.shown after.glass.terminal
    (turn-cells cells before.standing turn)
    (subst (λ (z : Option (ℕ × ℕ)). TakesOrKeepsSize sender z before.glass.terminal moves.shown) is.tells.size moves.moved.has)
    (ap size_of moves.asked.screen_stays)
