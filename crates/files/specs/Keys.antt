-- The tables of the keys: what each asks for while an entry is selected, and while a name is typed.
use Rattle.std.specs.Prelude.{ℕ, Bool, true, false, not, ◌==◌, ◌&&◌, if◌then◌else◌, Option, Some, None}
use Rattle.std.specs.Str.{byte}
use Rattle.ratatui_events.specs.declared.event.Event.{Event}
use Rattle.ratatui_events.specs.declared.event.Event.TheVariants.{Key, Pasted, Mouse}
use Rattle.ratatui_events.specs.declared.mouse.MouseButton.{MouseButton}
use Rattle.ratatui_events.specs.declared.mouse.MouseButton.TheVariants as button
use Rattle.ratatui_events.specs.declared.mouse.MouseEventKind.{MouseEventKind}
use Rattle.ratatui_events.specs.declared.mouse.MouseEventKind.TheVariants as mouse
use Rattle.ratatui_events.specs.declared.key.KeyEvent.{KeyEvent}
use Rattle.ratatui_events.specs.declared.key.KeyEventKind.{KeyEventKind}
use Rattle.ratatui_events.specs.declared.key.KeyEventKind.TheVariants.{Release}
use Rattle.ratatui_events.specs.declared.key.KeyCode.{KeyCode}
use Rattle.ratatui_events.specs.declared.key.KeyCode.TheVariants as key
use Rattle.ratatui_events.specs.Key.{modifier_bits}
use Rattle.files.specs.declared.keys.Wish.{Wish}
use Rattle.files.specs.declared.keys.Wish.TheVariants.{Nothing, Down, Up, PageDown, PageUp, HalfDown, HalfUp}
use Rattle.files.specs.declared.keys.Wish.TheVariants.{ToFirst, ToLast, Enter, Leave, Hidden, Rename, Make}
use Rattle.files.specs.declared.keys.Wish.TheVariants.{Trash, Remove, Quit, Sort, Seek, SeekOn, SeekBack}
use Rattle.files.specs.declared.keys.Wish.TheVariants.{NoteCopy, NoteMove, Paste, WheelDown, WheelUp, Click}
use Rattle.files.specs.declared.keys.Wish.TheVariants.{Base, Go, Undo, Help, Choose, Mark, Unmark}
use Rattle.files.specs.declared.order.Order.{Order}
use Rattle.files.specs.declared.order.SortBy.{SortBy}
use Rattle.files.specs.declared.order.SortBy.TheVariants.{Name, Size, Date}
use Rattle.files.specs.declared.typing.Typing.{Typing}
use Rattle.files.specs.declared.typing.Typing.TheVariants.{Change, Accept, Cancel, Ignore}
use Rattle.text_field.specs.declared.keys.Edit.{Edit}
use Rattle.text_field.specs.Keys.{edit_of}

-- characters: j, k, g, G move; l enters a folder, h leaves it, and the tilde leads to the one that all is
-- in, the colon to a typed path; the dot shows hidden entries; r and a rename and make a folder; D puts into
-- the trash, and X removes for good; s sorts; a slash seeks a text in names, and n and N go on; a blank marks;
-- y and d note what is to be copied and moved, and p does it; z takes back what was renamed or moved last; a
-- question mark shows the keys; q ends, and Q tells the folder
abbrev pub character_wish : ℕ → Wish
character_wish c =
    if c == byte "j" then Down
    else if c == byte "k" then Up
    else if c == byte "g" then ToFirst
    else if c == byte "G" then ToLast
    else if c == byte "l" then Enter
    else if c == byte "h" then Leave
    else if c == byte "~" then Base
    else if c == byte ":" then Go
    else if c == byte "." then Hidden
    else if c == byte "s" then Sort
    else if c == byte "/" then Seek
    else if c == byte "n" then SeekOn
    else if c == byte "N" then SeekBack
    else if c == byte " " then Mark
    else if c == byte "y" then NoteCopy
    else if c == byte "d" then NoteMove
    else if c == byte "p" then Paste
    else if c == byte "r" then Rename
    else if c == byte "a" then Make
    else if c == byte "D" then Trash
    else if c == byte "X" then Remove
    else if c == byte "z" then Undo
    else if c == byte "?" then Help
    else if c == byte "q" then Quit
    else if c == byte "Q" then Choose
    else Nothing

-- a character with Control: d, u, c
abbrev pub control_character_wish : ℕ → Wish
control_character_wish c =
    if c == byte "d" then HalfDown
    else if c == byte "u" then HalfUp
    else if c == byte "c" then Quit
    else Nothing

abbrev pub control_wish : KeyCode → Wish
control_wish (key.Char c) = control_character_wish c
control_wish _ = Nothing

-- F1 shows the keys, too
abbrev pub function_wish : ℕ → Wish
function_wish n = if n == 1 then Help else Nothing

-- a key without Control
abbrev pub code_wish : KeyCode → Wish
code_wish (key.Char c) = character_wish c
code_wish (key.F n) = function_wish n
code_wish key.Enter = Enter
code_wish key.Right = Enter
code_wish key.Backspace = Leave
code_wish key.Left = Leave
code_wish key.Down = Down
code_wish key.Up = Up
code_wish key.PageDown = PageDown
code_wish key.PageUp = PageUp
code_wish key.Home = ToFirst
code_wish key.End = ToLast
code_wish key.Esc = Unmark
code_wish _ = Nothing

-- Control is held, and nothing else
abbrev pub holds_control : KeyEvent → Bool
holds_control k = modifier_bits k.modifiers == 4

-- a key with what is held beside it; let go it asks for nothing
abbrev pub kind_wish : KeyEventKind → KeyEvent → Wish
kind_wish Release k = Nothing
kind_wish _ k = if holds_control k then control_wish k.code else code_wish k.code

-- the mouse: a press of the left button in a row, and the wheel
abbrev pub press_wish : MouseButton → ℕ → Wish
press_wish button.Left row = Click row
press_wish _ row = Nothing

abbrev pub mouse_wish : MouseEventKind → ℕ → Wish
mouse_wish (mouse.Down b) row = press_wish b row
mouse_wish mouse.ScrollDown row = WheelDown
mouse_wish mouse.ScrollUp row = WheelUp
mouse_wish _ row = Nothing

-- what an event asks for while an entry is selected
abbrev pub event_wish : Event → Wish
event_wish (Key k) = kind_wish k.kind k
event_wish (Mouse m) = mouse_wish m.kind m.row
event_wish _ = Nothing

-- an event that a person typed or pasted, or a press of the left button, or a turn of the wheel
abbrev pub is_left : MouseButton → Bool
is_left button.Left = true
is_left _ = false

abbrev pub is_press_or_turn : MouseEventKind → Bool
is_press_or_turn (mouse.Down b) = is_left b
is_press_or_turn mouse.ScrollDown = true
is_press_or_turn mouse.ScrollUp = true
is_press_or_turn _ = false

abbrev pub is_down_kind : KeyEventKind → Bool
is_down_kind Release = false
is_down_kind _ = true

abbrev pub is_input : Event → Bool
is_input (Key k) = is_down_kind k.kind
is_input (Pasted c) = true
is_input (Mouse m) = is_press_or_turn m.kind
is_input _ = false

-- the orders by letters: n by name, s by size, d by date; a capital letter turns it round
abbrev pub order_by : SortBy → Bool → Option Order
order_by by is_reversed = Some (record { by = by; is_reversed = is_reversed })

abbrev pub order_of_char : ℕ → Option Order
order_of_char c =
    if c == byte "n" then order_by Name false
    else if c == byte "N" then order_by Name true
    else if c == byte "s" then order_by Size false
    else if c == byte "S" then order_by Size true
    else if c == byte "d" then order_by Date false
    else if c == byte "D" then order_by Date true
    else None

abbrev pub code_order : KeyCode → Option Order
code_order (key.Char c) = order_of_char c
code_order _ = None

abbrev pub event_order : Event → Option Order
event_order (Key k) = if holds_control k then None else code_order k.code
event_order _ = None

-- yes to a question: the letter y
abbrev pub is_yes_code : KeyCode → Bool
is_yes_code (key.Char c) = c == byte "y"
is_yes_code _ = false

abbrev pub says_yes : Event → Bool
says_yes (Key k) = not (holds_control k) && is_yes_code k.code
says_yes _ = false

-- what a field of text makes of an event, if it is for one
abbrev pub edit_typing : Option Edit → Typing
edit_typing None = Ignore
edit_typing (Some edit) = Change edit

-- while a name is typed: Enter, Esc, and Ctrl+C; the other events are for the field
abbrev pub code_typing : KeyCode → Event → Typing
code_typing key.Enter event = Accept
code_typing key.Esc event = Cancel
code_typing _ event = edit_typing (edit_of event)

abbrev pub control_typing : KeyCode → Event → Typing
control_typing (key.Char c) event = if c == byte "c" then Cancel else edit_typing (edit_of event)
control_typing _ event = edit_typing (edit_of event)

abbrev pub event_typing : Event → Typing
event_typing (Key k) = if holds_control k then control_typing k.code (Key k) else code_typing k.code (Key k)
event_typing event = edit_typing (edit_of event)

-- while a path is typed: Tab completes it
abbrev pub is_tab_code : KeyCode → Bool
is_tab_code key.Tab = true
is_tab_code _ = false

abbrev pub is_tab_key : Event → Bool
is_tab_key (Key k) = is_tab_code k.code
is_tab_key _ = false
