-- A counter from nothing on.
use Rattle.std.specs.Prelude.{⊤, ◌≡◌, false, [], None}
use Rattle.ratatui_core.specs.Terminal.{TerminalError, Memory}
use Rattle.ratatui_ansi.specs.{declared.error.AnsiError.AnsiError}
use Rattle.ratatui_input.specs.Encodings.{fresh_decoder}
use Rattle.ratatui_reads.specs.Sources.{Coming, GivesReads}
use Rattle.ratatui_acts.specs.Hearing.{GivesUntimed, FailsToGive}
use Rattle.ratatui_acts.specs.declared.nothing.{Never.Never, Nothing.Nothing}
use Rattle.ratatui_acts.specs.Turns.{ActingRules, Standing}
use Rattle.ratatui_acts.specs.Runs.{Now, Ground, RunsToEnd, StopsTurning, turns_of}
use Rattle.ratatui_acts.specs.declared.fault.Fault.TheVariants as fault
use Rattle.ratatui_acts.specs.Reading.{seat_between, event_rules, turn_reads}
use Rattle.ratatui_reads.specs.Reads.{after_reads}
use Rattle.ratatui_app.specs.declared.on_glass.OnGlass.{OnGlass}
use Rattle.ratatui_app.specs.declared.counter.Counter.{Counter}
use Rattle.ratatui_app.specs.Counting.{counter_after, PaintsCounter}
use Rattle.ratatui_app.specs.{Glass.no_cursor, Glass.CanShow, Runs.on_glass, Light.StopsAtOtherSize}

-- a number, as a state that asks for nothing
abbrev pub counter_rules : ActingRules Counter Never Never
counter_rules = record {
  updated = counter_after;
  asked = λ _. None;
  is_over = λ c. c.is_over;
  is_light = λ _ _. ⊤;
}

module _ {W H : Type 0} where
  -- what a run of it stands on: what a source gives, and how it fails; and nothing is asked for
  abbrev pub counting_on : (H → Coming) → Ground Counter Never Never (OnGlass W) (TerminalError AnsiError) H Nothing
  counting_on coming = on_glass counter_rules PaintsCounter (λ _ _ _. ⊤) (λ _. no_cursor)
      (GivesUntimed coming) (FailsToGive coming) (λ _ _ _ _. ⊥)

  -- a run from nothing to its end: the number is what its reads make of 0, and these are what the source gave
  pub record CountsFromBlank (coming : H → Coming) (ears ears' : H) (glass : OnGlass W) : Type 0 where
    pub begun : OnGlass W
    pub after : Standing Counter
    pub outside : Nothing
    pub outside' : Nothing
    pub runs : RunsToEnd (counting_on coming) false (record {
      standing = record {
        decoder = fresh_decoder;
        left = [];
        state = record { count = 0; is_over = false };
      };
      glass = begun;
      ears = ears;
      outside = outside;
    }) (record { standing = after; glass = glass; ears = ears'; outside = outside' })
    pub counted : seat_between after ≡ after_reads (event_rules counter_rules) (record {
      decoder = fresh_decoder;
      state = record { count = 0; is_over = false };
    }) (turn_reads (turns_of (counting_on coming) runs.runs.past))
    pub given : GivesReads (coming ears) (coming ears') (turn_reads (turns_of (counting_on coming) runs.runs.past))

-- a run of it on a terminal over a writer of this type never stops for want of memory, but at the frame of a
-- turn that told another size
pub record NeedsMemoryForSizes (W : Type 0) {H : Type 0} (coming : H → Coming) : Type 0 where
  pub messages : (before after : Now Counter (OnGlass W) H Nothing) → before.standing.left ≡ []
      → StopsTurning (counting_on coming) before after fault.Memory → ⊥
  pub frames : (before after : Now Counter (OnGlass W) H Nothing) → CanShow before.glass.terminal
      → StopsTurning (counting_on coming) before after (fault.Show Memory)
      → StopsAtOtherSize (counting_on coming) before after
