-- What the mouse did.
use Rattle.std.specs.Prelude.{ℕ, ◌+◌, ◌-◌, ◌*◌, ◌/◌, ◌==◌, ◌&&◌, Bool, Option, Some, None, nat_le}
use Rattle.std.specs.Prelude.{if◌then◌else◌}
use Rattle.std.specs.Int.RustNames.{bit_and}
use Rattle.ratatui_events.specs.Key.{held}
use Rattle.ratatui_events.specs.declared.event.Event.{Event}
use Rattle.ratatui_events.specs.declared.event.Event.TheVariants.{Unknown, Mouse}
use Rattle.ratatui_events.specs.declared.mouse.MouseButton.{MouseButton}
use Rattle.ratatui_events.specs.declared.mouse.MouseButton.TheVariants.{Left, Right, Middle}
use Rattle.ratatui_events.specs.declared.mouse.MouseEventKind.{MouseEventKind}
use Rattle.ratatui_events.specs.declared.mouse.MouseEventKind.TheVariants.{Down, Up, Drag, Moved, ScrollDown}
use Rattle.ratatui_events.specs.declared.mouse.MouseEventKind.TheVariants.{ScrollUp, ScrollLeft, ScrollRight}

abbrev pub down_or_up : MouseButton → Bool → MouseEventKind
down_or_up button is_up = if is_up then Up button else Down button

-- what a button does that isn't held while the mouse moves
abbrev pub still_kind : ℕ → Bool → Option MouseEventKind
still_kind button is_up =
    if button == 0 then Some (down_or_up Left is_up)
    else (if button == 1 then Some (down_or_up Middle is_up)
    else (if button == 2 then Some (down_or_up Right is_up)
    else (if button == 3 then Some (Up Left)
    else (if button == 4 then Some ScrollUp
    else (if button == 5 then Some ScrollDown
    else (if button == 6 then Some ScrollLeft
    else (if button == 7 then Some ScrollRight
    else None)))))))

abbrev pub moving_kind : ℕ → Option MouseEventKind
moving_kind button =
    if button == 0 then Some (Drag Left)
    else (if button == 1 then Some (Drag Middle)
    else (if button == 2 then Some (Drag Right)
    else (if nat_le 3 button && nat_le button 5 then Some Moved
    else None)))

-- what a number says that the mouse did: its bits 1 and 2, and its bits from 64 on, are the button, and its
-- bit 32 says that the mouse moves
unfoldable pub mouse_kind : ℕ → Bool → Option MouseEventKind
mouse_kind number is_up =
    let button = bit_and number 3 + number / 64 * 4 in
    if bit_and number 32 == 0 then still_kind button is_up else moving_kind button

abbrev pub kind_told : Option MouseEventKind → ℕ → ℕ → ℕ → Event
kind_told None number column row = Unknown
kind_told (Some kind) number column row = Mouse (record {
  kind = kind;
  column = column - 1;
  row = row - 1;
  modifiers = held (bit_and (number / 4) 7);
})

-- the event of a number, a column and a row, which are counted from 1
unfoldable pub mouse_event : ℕ → ℕ → ℕ → Bool → Event
mouse_event number column row is_up =
    if nat_le number 255 && (nat_le column 65535 && nat_le row 65535)
    then kind_told (mouse_kind number is_up) number column row else Unknown
