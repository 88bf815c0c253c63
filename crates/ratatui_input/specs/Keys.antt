-- Which key a byte, a letter or a number stands for. The tables are the code's own: they are the protocols'
-- data.
use Rattle.std.specs.Prelude.{ℕ, ◌+◌, ◌-◌, ◌%◌, ◌==◌, ◌&&◌, ◌||◌, Bool, true, false, Option, Some, None, List}
use Rattle.std.specs.Prelude.{nat_le, nat_lt, if◌then◌else◌, find}
use Rattle.std.specs.Char.{is_control}
use Rattle.std.specs.Str.{byte}
use Rattle.std.specs.Option.{option_map}
use Rattle.std.specs.Int.RustNames.{bit_or}
use Rattle.std.specs.Char.Unicode.Uppercase.{is_uppercase}
use Rattle.ratatui_events.specs.declared.event.Event.{Event}
use Rattle.ratatui_events.specs.declared.event.Event.TheVariants.{Key}
use Rattle.ratatui_events.specs.declared.key.KeyCode.{KeyCode}
use Rattle.ratatui_events.specs.declared.key.KeyCode.TheVariants.{Char, Tab, BackTab, Enter, Esc, Backspace}
use Rattle.ratatui_events.specs.Key.{held, pressed}
use Rattle.ratatui_events.specs.declared.key.KeyEvent.{KeyEvent}
use Rattle.ratatui_input.specs.declared.keys.TheConstants.{LETTERS, NUMBERS, CODES, KEYPAD}

-- ESC
abbrev pub escape : ℕ
escape = 27

-- whether a number is a character's
abbrev pub is_scalar : ℕ → Bool
is_scalar code = nat_lt code 55296 || (nat_le 57344 code && nat_lt code 1114112)

-- a character that was typed: a capital letter with Shift
abbrev pub typed_key : ℕ → KeyEvent
typed_key c = pressed (Char c) (held (if is_uppercase c then 1 else 0))

-- the key of a control character
unfoldable pub control_key : ℕ → KeyEvent
control_key b =
    if b == 0 then pressed (Char (byte " ")) (held 4)
    else (if b == 9 then pressed Tab (held 0)
    else (if b == 13 then pressed Enter (held 0)
    else (if b == escape then pressed Esc (held 0)
    else (if nat_le 1 b && nat_le b 26 then pressed (Char (b + 96)) (held 4)
    else (if nat_le 28 b && nat_le b 31 then pressed (Char (b + 24)) (held 4)
    else pressed Backspace (held 0))))))

-- the event of a key, with Alt where it is held
abbrev pub with_alt : KeyEvent → Bool → Event
with_alt key is_alt = Key (if is_alt then record key { modifiers = held (bit_or key.modifiers.0 2) } else key)

-- the key at a number of a table
unfoldable pub key_at : List (ℕ × KeyCode) → ℕ → Option KeyCode
key_at table number = option_map (λ (e : ℕ × KeyCode). e.1) (find (λ (e : ℕ × KeyCode). e.0 == number) table)

-- the key of a letter at a sequence's end, and of a number before a tilde
abbrev pub letter_key : ℕ → Option KeyCode
letter_key letter = key_at LETTERS letter

abbrev pub number_key : ℕ → Option KeyCode
number_key number = key_at NUMBERS number

-- the character of a code point
abbrev pub scalar_at : ℕ → Option ℕ
scalar_at code = if is_scalar code then Some code else None

-- the character, if it is no control character
abbrev pub plain_character : Option ℕ → Option ℕ
plain_character None = None
plain_character (Some c) = if is_control c then None else Some c

-- the key of a character
abbrev pub character_key : Option ℕ → Option (KeyCode × Bool)
character_key None = None
character_key (Some c) = if is_control c then None else Some (Char c, false)

-- the key of the keypad of a code point, and the key with a name
unfoldable pub keypad_key : ℕ → Option KeyCode
keypad_key code = key_at KEYPAD code

unfoldable pub name_key : ℕ → Option KeyCode
name_key code = key_at CODES code

-- the key of a code point that isn't one of the keypad
abbrev pub named_key : Option KeyCode → ℕ → Option (KeyCode × Bool)
named_key (Some key) code = Some (key, false)
named_key None code = character_key (scalar_at code)

abbrev pub pad_key : Option KeyCode → Option (KeyCode × Bool) → Option (KeyCode × Bool)
pad_key (Some key) other = Some (key, true)
pad_key None other = other

-- the key of a code point, and whether it is one of the keypad
unfoldable pub code_key : ℕ → Option (KeyCode × Bool)
code_key code = pad_key (keypad_key code) (named_key (name_key code) code)

-- the code of a key, where Tab with Shift has one of its own
abbrev pub tab_key : KeyCode → ℕ → KeyCode
tab_key Tab mask = if (mask - 1) % 2 == 1 then BackTab else Tab
tab_key code mask = code
