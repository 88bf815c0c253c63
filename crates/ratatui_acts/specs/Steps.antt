-- One turn and its frame.
use Rattle.std.specs.Prelude.{◌≡◌, ◌||◌, ◌&&◌, Bool, not}
use Rattle.ratatui_acts.specs.declared.seat.Seat.{Seat}
use Rattle.ratatui_acts.specs.{Turns.Turn, Seats.seated}
use Rattle.ratatui_acts.specs.Runs.{Now, Ground, IsTurn, IsShown}

-- where all stands, with the state in its seat
abbrev pub now_of : {S G H O : Type 0} → Seat S → G → H → O → Now S G H O
now_of seat glass ears outside =
    record { standing = seated seat; glass = glass; ears = ears; outside = outside }

-- a turn, and whether something came at it; the glass shows what came of it
pub record ShowsTurn {S C R G E H O : Type 0} (ground : Ground S C R G E H O) (before after : Now S G H O)
    (came : Bool) : Type 0 where
  pub turn : Turn C R
  pub is : IsTurn ground before turn after
  pub shown : IsShown ground after
  pub came_is : came ≡ is.told.came

-- nothing more comes: so it was before, or nothing came where that is no tick
abbrev pub ends_by : Bool → Bool → Bool → Bool
ends_by before came has_ticks = before || (not came && not has_ticks)
