-- What the mouse did, and keys with all that is told of them, as text.
use Rattle.std.specs.Prelude.{ℕ, ◌==◌, List, [], ◌++◌, codes, if◌then◌else◌}
use Rattle.std.specs.Int.RustNames.{bit_and}
use Rattle.std.specs.Fmt.{decimal}
use Rattle.ratatui_events.specs.declared.key.KeyEventKind.{KeyEventKind}
use Rattle.ratatui_events.specs.declared.key.KeyEventKind.TheVariants.{Press, Repeat, Release}
use Rattle.ratatui_events.specs.declared.key.KeyEventState.{KeyEventState}
use Rattle.ratatui_events.specs.declared.mouse.MouseButton.TheVariants.{Left, Right, Middle}
use Rattle.ratatui_events.specs.declared.mouse.MouseEventKind.{MouseEventKind}
use Rattle.ratatui_events.specs.declared.mouse.MouseEventKind.TheVariants.{Down, Up, Drag, Moved, ScrollDown}
use Rattle.ratatui_events.specs.declared.mouse.MouseEventKind.TheVariants.{ScrollUp, ScrollLeft, ScrollRight}
use Rattle.ratatui_events.specs.declared.mouse.MouseEvent.{MouseEvent}
use Rattle.ratatui_events.specs.declared.key.KeyEvent.{KeyEvent}
use Rattle.ratatui_events.specs.declared.key.KeyCode.TheVariants.{Char}
use Rattle.ratatui_events.specs.declared.event.Event.{Event}
use Rattle.ratatui_events.specs.declared.event.Event.TheVariants.{FocusGained, FocusLost, Key, Mouse}
use Rattle.ratatui_events.specs.declared.event.Event.TheVariants.{PasteBegun, Pasted}
use Rattle.ratatui_events.specs.declared.event.Event.TheVariants.{PasteEnded, Size, Position, Unknown}
use Rattle.ratatui_events.specs.Names.{modifiers_text, code_text, key_text}

-- what the mouse did, in a word
abbrev pub mouse_name : MouseEventKind → List ℕ
mouse_name (Down Left) = codes "DownLeft"
mouse_name (Down Right) = codes "DownRight"
mouse_name (Down Middle) = codes "DownMiddle"
mouse_name (Up Left) = codes "UpLeft"
mouse_name (Up Right) = codes "UpRight"
mouse_name (Up Middle) = codes "UpMiddle"
mouse_name (Drag Left) = codes "DragLeft"
mouse_name (Drag Right) = codes "DragRight"
mouse_name (Drag Middle) = codes "DragMiddle"
mouse_name Moved = codes "Moved"
mouse_name ScrollDown = codes "ScrollDown"
mouse_name ScrollUp = codes "ScrollUp"
mouse_name ScrollLeft = codes "ScrollLeft"
mouse_name ScrollRight = codes "ScrollRight"

-- what is held, what the mouse did, and where
abbrev pub mouse_text : MouseEvent → List ℕ
mouse_text mouse =
    modifiers_text mouse.modifiers ++ mouse_name mouse.kind ++ codes " " ++ decimal mouse.column
    ++ codes "," ++ decimal mouse.row

-- a word for a key that isn't pressed
abbrev pub kind_text : KeyEventKind → List ℕ
kind_text Press = []
kind_text Repeat = codes " repeated"
kind_text Release = codes " released"

-- a word where the state has these bits
abbrev pub if_on : KeyEventState → ℕ → List ℕ → List ℕ
if_on state bits name = if bit_and state.0 bits == bits then name else []

-- a key, and all that is told of it
abbrev pub told_key_text : KeyEvent → List ℕ
told_key_text key =
    key_text key ++ kind_text key.kind ++ if_on key.state 1 (codes " caps")
    ++ if_on key.state 2 (codes " num")
    ++ if_on key.state 4 (codes " keypad")

-- a character that was pasted; one that ends a line, or a tab, by its name
abbrev pub pasted_text : ℕ → List ℕ
pasted_text c =
    if c == 13 then codes "Pasted CR"
    else (if c == 10 then codes "Pasted LF"
    else (if c == 9 then codes "Pasted TAB"
    else codes "Pasted " ++ code_text (Char c)))

-- one event in a few words
abbrev pub event_text : Event → List ℕ
event_text FocusGained = codes "FocusGained"
event_text FocusLost = codes "FocusLost"
event_text (Key key) = told_key_text key
event_text (Mouse mouse) = mouse_text mouse
event_text PasteBegun = codes "PasteBegun"
event_text (Pasted character) = pasted_text character
event_text PasteEnded = codes "PasteEnded"
event_text (Size columns rows) = codes "Size " ++ decimal columns ++ codes "x" ++ decimal rows
event_text (Position column row) = codes "Position " ++ decimal column ++ codes "," ++ decimal row
event_text Unknown = codes "Unknown"
