-- What is asked for is what is shown.
use Rattle.std.specs.declared.time.Duration.{Duration}
use Rattle.std.proofs.Common.{rules, ◌≡◌, ℕ, Bool, List, [], ◌∷◌, Option, Some, None, ap, subst}
use Rattle.std.specs.Prelude.{unwrap_or}
use Rattle.ratatui_acts.specs.Turns.{Turn, Came, Done}
use Rattle.ratatui_acts.specs.Runs.{Now, Past, Ground, IsTurn, HasRun}
use Rattle.ratatui_app.specs.declared.on_glass.OnGlass.{OnGlass}
use Rattle.remover.specs.Laws.{on_terminal, NamesWhatIsRemoved, AreNamed}
use Rattle.ratatui_core.specs.Terminal.{TerminalData, TerminalError}
use Rattle.ratatui_ansi.specs.{declared.error.AnsiError.AnsiError}
use Rattle.ratatui_ansi.specs.Backend.{BackendState}
use Rattle.remover.specs.declared.remover.Phase.{Phase}
use Rattle.remover.specs.declared.remover.Phase.TheVariants.{Looking, Asking, Removing, Over}
use Rattle.remover.specs.declared.remover.Remover.{Remover}
use Rattle.ratatui_app.specs.Lines.{PaintsFirstLine}
use Rattle.remover.specs.Removing.{asked_in, asked_by, shown_in, line_shown, question, selected_name}
use Rattle.ratatui_app.specs.Glass.{StandsOnGlass, no_cursor}

none-some : (name : List ℕ) → None ≡ Some name → ⊥
none-some name e = search rules

by-phase : (p : Phase) (s : Remover) (name : List ℕ) → asked_in p s ≡ Some name
    → shown_in p (unwrap_or (selected_name s) []) ≡ question name
by-phase Looking s name is = absurd (none-some name is)
by-phase Asking s name is = absurd (none-some name is)
by-phase Removing s name is = ap (λ (o : Option (List ℕ)). question (unwrap_or o [])) is
by-phase Over s name is = absurd (none-some name is)

-- a state that asks for a removal is shown as the question that names what is to be removed
pub asked-line : (s : Remover) (name : List ℕ) → asked_by s ≡ Some name → line_shown s ≡ question name
asked-line s name is = by-phase s.phase s name is

pub asked-on-glass : {W : Type 0} (s : Remover) (name : List ℕ) (t : TerminalData (BackendState W))
    → StandsOnGlass (PaintsFirstLine (line_shown s)) no_cursor t → asked_by s ≡ Some name → StandsOnGlass (PaintsFirstLine (question name)) no_cursor t
asked-on-glass s name t shows is =
    subst (λ (text : List ℕ). StandsOnGlass (PaintsFirstLine text) no_cursor t) (asked-line s name is) shows

module _ {W H O : Type 0} (gives : H → ℕ → List ℕ → Duration → H → Type 0) (fails : H → H → Type 0)
    (answers : O → List ℕ → Bool → O → Type 0) where
  abbrev at_glass : Ground Remover (List ℕ) Bool (OnGlass W) (TerminalError AnsiError) H O
  at_glass = on_terminal gives fails answers

  turn-named : (before after : Now Remover (OnGlass W) H O) (turn : Turn (List ℕ) Bool)
      → IsTurn at_glass before turn after → NamesWhatIsRemoved before.glass turn
  turn-named before after (Came bytes passed) is = tt
  turn-named before after (Done name is_removed) is =
      asked-on-glass before.standing.state name before.glass.terminal is.shown is.wanted

  pub run-named : (begun now : Now Remover (OnGlass W) H O) (past : List (Past Remover (List ℕ) Bool (OnGlass W) H O))
      → HasRun at_glass begun past now → AreNamed past
  run-named begun now [] has = tt
  run-named begun now (p ∷ earlier) has = (turn-named p.before now p.turn has.1, run-named begun p.before earlier has.0)
