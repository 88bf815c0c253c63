-- What was done in a run was on the glass.
use Rattle.std.proofs.Common.{ℕ, List, [], ◌∷◌, sym, subst}
use Rattle.std.specs.declared.time.Duration.{Duration}
use Rattle.ratatui_core.specs.Terminal.{TerminalError}
use Rattle.ratatui_ansi.specs.{declared.error.AnsiError.AnsiError}
use Rattle.ratatui_acts.specs.Turns.{Turn, Came, Done, Standing}
use Rattle.ratatui_acts.specs.Runs.{Now, Past, Ground, IsTurn, HasRun}
use Rattle.ratatui_app.specs.declared.on_glass.OnGlass.{OnGlass}
use Rattle.files.specs.declared.browser.Browser.{Browser}
use Rattle.files.specs.declared.list.Outcome.{Outcome}
use Rattle.files.specs.Laws.{IsSound}
use Rattle.files.specs.RunLaws.{NamesWhatIsDone, NamesTurn, browsing_on, WereOnTheGlass}
use Rattle.files.proofs.SoundLemmas.{turn-sound, asked-self, asked-whole}

module _ {W H O : Type 0} (gives : H → ℕ → List ℕ → Duration → H → Type 0) (fails : H → H → Type 0)
    (answers : O → Browser → Outcome → O → Type 0) where
  abbrev at_glass : Ground Browser Browser Outcome (OnGlass W) (TerminalError AnsiError) H O
  at_glass = browsing_on gives fails answers

  turn-named : (before after : Now Browser (OnGlass W) H O) (turn : Turn Browser Outcome) → IsSound before.standing.state
      → IsTurn at_glass before turn after → NamesTurn before.glass turn
  turn-named before after (Came bytes passed) sound is = tt
  turn-named before after (Done b o) sound is =
      subst (λ (c : Browser). NamesWhatIsDone before.glass c) (asked-self before.standing.state b is.wanted)
      (record { shown = is.shown; whole = asked-whole before.standing.state b sound is.wanted })

  -- and the browser stays sound
  pub record IsNamed (now : Now Browser (OnGlass W) H O) (past : List (Past Browser Browser Outcome (OnGlass W) H O)) : Type 0 where
    pub sound : IsSound now.standing.state
    pub named : WereOnTheGlass past

  pub run-named : (begun now : Now Browser (OnGlass W) H O) (past : List (Past Browser Browser Outcome (OnGlass W) H O))
      → IsSound begun.standing.state → HasRun at_glass begun past now → IsNamed now past
  run-named begun now [] sound has = record {
    sound = subst (λ (n : Now Browser (OnGlass W) H O). IsSound n.standing.state) (sym has) sound;
    named = tt;
  }
  run-named begun now (p ∷ earlier) sound has =
      let before = run-named begun p.before earlier sound has.0 in record {
        sound = subst (λ (b : Standing Browser). IsSound b.state) (sym has.1.made)
            (turn-sound p.before.standing p.turn before.sound);
        named = (turn-named p.before now p.turn before.sound has.1, before.named);
      }
