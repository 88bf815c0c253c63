-- What is known of a run in which a planet is chosen.
use Rattle.std.specs.Prelude.{◌≡◌, false, List, [], ◌∷◌, None}
use Rattle.ratatui_core.specs.Terminal.{TerminalError}
use Rattle.ratatui_ansi.specs.{declared.error.AnsiError.AnsiError}
use Rattle.ratatui_input.specs.Encodings.{fresh_decoder}
use Rattle.ratatui_reads.specs.Sources.{Coming, GivesReads}
use Rattle.ratatui_reads.specs.Reads.{after_reads}
use Rattle.ratatui_acts.specs.Hearing.{GivesUntimed, FailsToGive}
use Rattle.ratatui_acts.specs.declared.nothing.{Never.Never, Nothing.Nothing}
use Rattle.ratatui_acts.specs.Turns.{ActingRules, Standing}
use Rattle.ratatui_acts.specs.Runs.{Ground, Past, RunsToEnd, turns_of}
use Rattle.ratatui_acts.specs.Reading.{seat_between, event_rules, turn_reads}
use Rattle.ratatui_app.specs.declared.on_glass.OnGlass.{OnGlass}
use Rattle.ratatui_app.specs.{Glass.no_cursor, Glass.never_short, Runs.on_glass}
use Rattle.chooser.specs.declared.chooser.Chooser.{Chooser}
use Rattle.chooser.specs.Choosing.{chooser_after, settled_chooser, PaintsPlanets}

-- choosing, as a state that asks for nothing
abbrev pub chooser_rules : ActingRules Chooser Never Never
chooser_rules = record {
  updated = chooser_after;
  asked = λ _. None;
  is_over = λ c. c.is_over;
  is_light = λ _ _. ⊥;
}

-- the state is settled
abbrev pub IsSettledChooser : Chooser → Type 0
IsSettledChooser c = settled_chooser c ≡ c

module _ {W H : Type 0} where
  -- what a run of it stands on: what a source gives, and how it fails; and nothing is asked for
  abbrev pub choosing_on : (H → Coming) → Ground Chooser Never Never (OnGlass W) (TerminalError AnsiError) H Nothing
  choosing_on coming = on_glass chooser_rules PaintsPlanets never_short (λ _. no_cursor)
      (GivesUntimed coming) (FailsToGive coming) (λ _ _ _ _. ⊥)

  -- each state of a run was settled
  abbrev pub WereSettled : List (Past Chooser Never Never (OnGlass W) H Nothing) → Type 0
  WereSettled [] = Unit {0}
  WereSettled (p ∷ earlier) = IsSettledChooser p.before.standing.state × WereSettled earlier

  -- a run from nothing to its end: the state is what its reads make of the first one, and these are what the
  -- source gave; and each state that was shown was settled
  pub record ChoosesFromBlank (coming : H → Coming) (first : Chooser) (ears ears' : H) (glass : OnGlass W) : Type 0 where
    pub begun : OnGlass W
    pub after : Standing Chooser
    pub outside : Nothing
    pub outside' : Nothing
    pub runs : RunsToEnd (choosing_on coming) false (record {
      standing = record { decoder = fresh_decoder; left = []; state = first };
      glass = begun;
      ears = ears;
      outside = outside;
    }) (record { standing = after; glass = glass; ears = ears'; outside = outside' })
    pub chosen : seat_between after ≡ after_reads (event_rules chooser_rules) (record {
      decoder = fresh_decoder;
      state = first;
    }) (turn_reads (turns_of (choosing_on coming) runs.runs.past))
    pub given : GivesReads (coming ears) (coming ears') (turn_reads (turns_of (choosing_on coming) runs.runs.past))
    pub were_settled : WereSettled runs.runs.past
    pub is_settled : IsSettledChooser after.state
