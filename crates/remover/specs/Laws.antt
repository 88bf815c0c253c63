-- What is known of each removal of a run.
use Rattle.std.specs.Prelude.{◌≡◌, ℕ, Bool, false, List, [], ◌∷◌}
use Rattle.ratatui_input.specs.Encodings.{fresh_decoder}
use Rattle.std.specs.declared.time.Duration.{Duration}
use Rattle.ratatui_reads.specs.Sources.{Coming}
use Rattle.ratatui_acts.specs.Hearing.{GivesUntimed, FailsToGive}
use Rattle.ratatui_acts.specs.Turns.{Turn, Came, Done, ActingRules, Standing}
use Rattle.ratatui_acts.specs.Runs.{Past, Ground, RunsToEnd}
use Rattle.ratatui_core.specs.Terminal.{TerminalError}
use Rattle.ratatui_ansi.specs.{declared.error.AnsiError.AnsiError}
use Rattle.ratatui_app.specs.Runs.{on_glass}
use Rattle.remover.specs.declared.folder.Folder.{Folder}
use Rattle.remover.specs.declared.remover.Remover.{Remover}
use Rattle.ratatui_app.specs.declared.on_glass.OnGlass.{OnGlass}
use Rattle.ratatui_app.specs.Glass.{StandsOnGlass, no_cursor, never_short}
use Rattle.ratatui_app.specs.Lines.{PaintsFirstLine}
use Rattle.remover.specs.Removing.{question, line_shown, after_message, asked_by, ends_in}

-- the names that can be removed, as a state that acts
abbrev pub removing : ActingRules Remover (List ℕ) Bool
removing = record {
  updated = after_message;
  asked = asked_by;
  is_over = λ s. ends_in s.phase;
  is_light = λ _ _. ⊥;
}

-- a turn at a glass: if it was a removal, each terminal that had read what was sent until then showed the
-- question that names what was removed
abbrev pub NamesWhatIsRemoved : {W : Type 0} → OnGlass W → Turn (List ℕ) Bool → Type 0
NamesWhatIsRemoved glass (Came bytes passed) = Unit {0}
NamesWhatIsRemoved glass (Done name is_removed) = StandsOnGlass (PaintsFirstLine (question name)) no_cursor glass.terminal

module _ {W H O : Type 0} where
  -- what a run of them stands on, on a terminal that is sent bytes
  abbrev pub on_terminal : (H → ℕ → List ℕ → Duration → H → Type 0) → (H → H → Type 0) → (O → List ℕ → Bool → O → Type 0)
      → Ground Remover (List ℕ) Bool (OnGlass W) (TerminalError AnsiError) H O
  on_terminal = on_glass removing (λ s. PaintsFirstLine (line_shown s)) never_short (λ _. no_cursor)

  -- so it was at each turn
  abbrev pub AreNamed : List (Past Remover (List ℕ) Bool (OnGlass W) H O) → Type 0
  AreNamed [] = Unit {0}
  AreNamed (p ∷ earlier) = NamesWhatIsRemoved p.before.glass p.turn × AreNamed earlier

-- a folder's next answer
abbrev pub gave_answer : Folder → List ℕ → Bool → Folder → Type 0
gave_answer folder name is_removed left = folder.answers.now ≡ is_removed ∷ left.answers.now

-- a run from nothing: each turn of it, of which each removal was named on the glass
pub record RemovesFromBlank {W H : Type 0} (coming : H → Coming) (first : Remover) (ears : H) (folder : Folder)
    (ears' : H) (folder' : Folder) (glass : OnGlass W) : Type 0 where
  pub begun : OnGlass W
  pub after : Standing Remover
  pub runs : RunsToEnd (on_terminal (GivesUntimed coming) (FailsToGive coming) gave_answer) false (record {
    standing = record { decoder = fresh_decoder; left = []; state = first };
    glass = begun;
    ears = ears;
    outside = folder;
  }) (record { standing = after; glass = glass; ears = ears'; outside = folder' })
  pub named : AreNamed runs.runs.past
