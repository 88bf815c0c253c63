-- What an event is of.
use Rattle.std.specs.Prelude.{◌≡◌, Option, Some, None}
use Rattle.ratatui_events.specs.declared.event.Event.{Event}
use Rattle.ratatui_events.specs.declared.event.Event.TheVariants.{Key, Mouse}
use Rattle.ratatui_events.specs.declared.key.KeyEvent.{KeyEvent}
use Rattle.ratatui_events.specs.declared.key.KeyEventKind.{KeyEventKind}
use Rattle.ratatui_events.specs.declared.key.KeyEventKind.TheVariants.{Press, Repeat, Release}
use Rattle.ratatui_events.specs.declared.mouse.MouseEvent.{MouseEvent}

-- a key of this kind
abbrev pub IsKeyOfKind : Event → KeyEventKind → Type 0
IsKeyOfKind (Key key) kind = key.kind ≡ kind
IsKeyOfKind _ kind = ⊥

-- the key of an event
abbrev pub key_of : Event → Option KeyEvent
key_of (Key key) = Some key
key_of _ = None

-- a key, if it was pressed
abbrev pub if_pressed : KeyEventKind → KeyEvent → Option KeyEvent
if_pressed Press key = Some key
if_pressed Repeat key = None
if_pressed Release key = None

-- the key of an event, if it was pressed
abbrev pub pressed_key_of : Event → Option KeyEvent
pressed_key_of (Key key) = if_pressed key.kind key
pressed_key_of _ = None

-- the mouse of an event
abbrev pub mouse_of : Event → Option MouseEvent
mouse_of (Mouse mouse) = Some mouse
mouse_of _ = None
