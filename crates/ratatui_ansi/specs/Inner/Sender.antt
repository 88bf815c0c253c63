-- Words that only private contracts use: what a sender writes.
use Rattle.std.specs.Prelude.{◌≡◌, ℕ, true, false, List, ◌++◌, Option}
use Rattle.std.specs.Io.KnownBytes.{Appends}
use Rattle.ratatui_ansi.specs.{declared.sender.Sender.Sender, Backend.IsTied}

-- a text was written whole, which counts as sent and as held; and as many calls have failed as before its own
pub record WritesWhole {W : Type 0} (contents : W → Option (List ℕ)) (text : List ℕ) (failures : ℕ)
    (old new : Sender W) : Type 0 where
  pub sent : new.sent.bytes ≡ old.sent.bytes ++ text
  pub held : new.held.bytes ≡ old.held.bytes ++ text
  pub writes : Appends (contents old.writer) (contents new.writer) text
  pub tied : IsTied contents old.sent.before old.writer old.sent.bytes
      → IsTied contents new.sent.before new.writer new.sent.bytes
  pub works : new.is_broken ≡ false
  pub finished : new.failures ≡ failures

-- a write failed: nothing is known of the terminal since, and the call still counts as failed
pub record BreaksAt {W : Type 0} (old new : Sender W) : Type 0 where
  pub broken : new.is_broken ≡ true
  pub failed : new.failures ≡ old.failures
