-- The tables of the keys: what each asks for while a text is read, and while a search is typed.
use Rattle.std.specs.Prelude.{◌≡◌, ℕ, Bool, true, false, ◌-◌, ◌==◌, ◌||◌, ◌&&◌, nat_le, if◌then◌else◌}
use Rattle.std.specs.Prelude.{Option, Some, None}
use Rattle.std.specs.Str.{byte}
use Rattle.ratatui_events.specs.declared.event.Event.{Event}
use Rattle.ratatui_events.specs.declared.event.Event.TheVariants.{Key, Mouse, Pasted}
use Rattle.ratatui_events.specs.declared.key.KeyEvent.{KeyEvent}
use Rattle.ratatui_events.specs.declared.key.KeyEventKind.{KeyEventKind}
use Rattle.ratatui_events.specs.declared.key.KeyEventKind.TheVariants.{Release}
use Rattle.ratatui_events.specs.declared.key.KeyCode.{KeyCode}
use Rattle.ratatui_events.specs.declared.key.KeyCode.TheVariants as key
use Rattle.ratatui_events.specs.declared.mouse.MouseEventKind.{MouseEventKind}
use Rattle.ratatui_events.specs.declared.mouse.MouseEventKind.TheVariants.{ScrollDown, ScrollUp}
use Rattle.ratatui_events.specs.Key.{modifier_bits}
use Rattle.pager.specs.declared.command.Command.{Command}
use Rattle.pager.specs.declared.command.Command.TheVariants.{Nothing, Digit, Down, Up, PageDown, PageUp}
use Rattle.pager.specs.declared.command.Command.TheVariants.{HalfDown, HalfUp, WheelDown, WheelUp}
use Rattle.pager.specs.declared.command.Command.TheVariants.{ToStart, ToEnd, ToLeft, ToRight, Ask, Next}
use Rattle.pager.specs.declared.command.Command.TheVariants.{Previous, Numbers, Wrap, Help, Quit, ToPart}
use Rattle.pager.specs.declared.command.Command.TheVariants.{Details, Mark, ToMark, Turn, Filter, Follow}
use Rattle.pager.specs.declared.pager.Ending.{Ending}
use Rattle.pager.specs.declared.pager.Ending.TheVariants as ending
use Rattle.pager.specs.declared.answer.Answer.{Answer}
use Rattle.pager.specs.declared.answer.Answer.TheVariants.{Change, Search, Cancel, Ignore}
use Rattle.text_field.specs.declared.keys.Edit.{Edit}
use Rattle.text_field.specs.Keys.{edit_of}

-- characters of moves: j, k, the blank and f, b, d, u, g, G, and p and the sign of per cent
abbrev pub move_command : ℕ → Command
move_command c =
    if c == byte "j" then Down
    else if c == byte "k" then Up
    else if (c == byte " ") || (c == byte "f") then PageDown
    else if c == byte "b" then PageUp
    else if c == byte "d" then HalfDown
    else if c == byte "u" then HalfUp
    else if c == byte "g" then ToStart
    else if c == byte "G" then ToEnd
    else if (c == byte "p") || (c == byte "%") then ToPart
    else Nothing

-- a character: q, a slash, a question mark, n, N, the ampersand, l, w, h, the equals sign, m, an apostrophe,
-- a colon, F, a digit, or a move
abbrev pub character_command : ℕ → Command
character_command c =
    if c == byte "q" then Quit
    else if c == byte "/" then Ask false
    else if c == byte "?" then Ask true
    else if c == byte "n" then Next
    else if c == byte "N" then Previous
    else if c == byte "&" then Filter
    else if c == byte "l" then Numbers
    else if c == byte "w" then Wrap
    else if c == byte "h" then Help
    else if c == byte "=" then Details
    else if c == byte "m" then Mark
    else if c == byte "'" then ToMark
    else if c == byte ":" then Turn
    else if c == byte "F" then Follow
    else if nat_le (byte "0") c && nat_le c (byte "9") then Digit (c - byte "0")
    else move_command c

-- a character with Control: c, d, u, f, b, e, y
abbrev pub control_character_command : ℕ → Command
control_character_command c =
    if c == byte "c" then Quit
    else if c == byte "d" then HalfDown
    else if c == byte "u" then HalfUp
    else if c == byte "f" then PageDown
    else if c == byte "b" then PageUp
    else if c == byte "e" then Down
    else if c == byte "y" then Up
    else Nothing

abbrev pub control_command : KeyCode → Command
control_command (key.Char c) = control_character_command c
control_command key.Home = ToStart
control_command key.End = ToEnd
control_command _ = Nothing

-- a key without Control
abbrev pub code_command : KeyCode → Command
code_command (key.Char c) = character_command c
code_command key.Enter = Down
code_command key.Down = Down
code_command key.Up = Up
code_command key.PageDown = PageDown
code_command key.PageUp = PageUp
code_command key.Home = ToStart
code_command key.End = ToEnd
code_command key.Left = ToLeft
code_command key.Right = ToRight
code_command _ = Nothing

-- Control is held, and nothing else
abbrev pub has_control_key : KeyEvent → Bool
has_control_key k = modifier_bits k.modifiers == 4

-- a key with what is held beside it; let go it asks for nothing
abbrev pub kind_command : KeyEventKind → KeyEvent → Command
kind_command Release k = Nothing
kind_command _ k = if has_control_key k then control_command k.code else code_command k.code

-- the wheel of the mouse
abbrev pub mouse_command : MouseEventKind → Command
mouse_command ScrollDown = WheelDown
mouse_command ScrollUp = WheelUp
mouse_command _ = Nothing

-- what an event asks for while a text is read
abbrev pub event_command : Event → Command
event_command (Key k) = kind_command k.kind k
event_command (Mouse m) = mouse_command m.kind
event_command _ = Nothing

-- what a field of text makes of an event, if it is for one
abbrev pub edit_answer : Option Edit → Answer
edit_answer None = Ignore
edit_answer (Some edit) = Change edit

-- while a search is typed: Enter, Esc, and Ctrl+C; the other events are for the field
abbrev pub code_answer : KeyCode → Event → Answer
code_answer key.Enter event = Search
code_answer key.Esc event = Cancel
code_answer _ event = edit_answer (edit_of event)

abbrev pub control_answer : KeyCode → Event → Answer
control_answer (key.Char c) event = if c == byte "c" then Cancel else edit_answer (edit_of event)
control_answer _ event = edit_answer (edit_of event)

abbrev pub key_answer : KeyEvent → Event → Answer
key_answer k event = if has_control_key k then control_answer k.code event else code_answer k.code event

abbrev pub kind_answer : KeyEventKind → KeyEvent → Answer
kind_answer Release k = Ignore
kind_answer _ k = key_answer k (Key k)

-- what an event asks for while a search is typed; a key that is let go asks for nothing
abbrev pub event_answer : Event → Answer
event_answer (Key k) = kind_answer k.kind k
event_answer event = edit_answer (edit_of event)

abbrev pub is_press_kind : KeyEventKind → Bool
is_press_kind Release = false
is_press_kind _ = true

-- an event that leaves the help, or ends following: a key
abbrev pub is_press : Event → Bool
is_press (Key k) = is_press_kind k.kind
is_press _ = false

-- Ctrl+C, pressed or held
pub record IsControlC (k : KeyEvent) : Type 0 where
  pub code : k.code ≡ key.Char 99
  pub control : modifier_bits k.modifiers ≡ 4
  pub pressed : is_press (Key k) ≡ true

-- where a character's mark is kept: the apostrophe's, then those of a to z, then those of A to Z
abbrev pub mark_index : ℕ → Option ℕ
mark_index c =
    if c == byte "'" then Some 0
    else if nat_le (byte "a") c && nat_le c (byte "z") then Some (c - 96)
    else if nat_le (byte "A") c && nat_le c (byte "Z") then Some (c - 38)
    else None

abbrev pub code_mark : KeyCode → Option ℕ
code_mark (key.Char c) = mark_index c
code_mark _ = None

-- the mark that a key names
abbrev pub event_mark : Event → Option ℕ
event_mark (Key k) = if has_control_key k then None else code_mark k.code
event_mark _ = None

-- the text that a key turns to after a colon, or the end
abbrev pub code_ending : KeyCode → Option Ending
code_ending (key.Char c) =
    if c == byte "n" then Some ending.Next
    else if c == byte "p" then Some ending.Previous
    else if c == byte "q" then Some ending.Quit
    else None
code_ending _ = None

abbrev pub event_ending : Event → Option Ending
event_ending (Key k) = if has_control_key k then None else code_ending k.code
event_ending _ = None
