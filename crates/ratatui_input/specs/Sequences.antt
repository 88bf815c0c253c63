-- Sequences that begin with ESC [ or ESC O, and what they stand for.
use Rattle.std.specs.Prelude.{ℕ, ◌+◌, ◌-◌, ◌*◌, ◌/◌, ◌%◌, ◌^◌, ◌==◌, ◌&&◌, ◌||◌, min, Bool, true, false}
use Rattle.std.specs.Prelude.{Option, Some, None, nat_le, nat_lt, if◌then◌else◌}
use Rattle.std.specs.Int.RustNames.{bit_and}
use Rattle.ratatui_events.specs.Key.{held, locks, key_of_kind}
use Rattle.std.specs.Char.Unicode.Uppercase.{is_uppercase}
use Rattle.std.specs.Str.{byte}
use Rattle.ratatui_input.specs.Keys.{letter_key, number_key, code_key, tab_key, plain_character, scalar_at}
use Rattle.ratatui_input.specs.Mouse.{mouse_event}
use Rattle.ratatui_events.specs.declared.event.Event.{Event}
use Rattle.ratatui_events.specs.declared.event.Event.TheVariants.{Unknown, Key, FocusGained, FocusLost}
use Rattle.ratatui_events.specs.declared.event.Event.TheVariants.{PasteBegun, PasteEnded, Size, Position}
use Rattle.ratatui_events.specs.declared.key.KeyCode.{KeyCode}
use Rattle.ratatui_events.specs.declared.key.KeyCode.TheVariants.{BackTab, Char}
use Rattle.ratatui_events.specs.declared.key.KeyEventKind.{KeyEventKind}
use Rattle.ratatui_events.specs.declared.key.KeyEventKind.TheVariants.{Press, Repeat, Release}
use Rattle.ratatui_input.specs.declared.sequence.Sequence.{Sequence}
use Rattle.ratatui_input.specs.declared.sequence.Source.{Source}
use Rattle.ratatui_input.specs.declared.sequence.Source.TheVariants.{Keys, Mouse, Other}

abbrev pub no_numbers : Sequence
no_numbers = record { source = Keys; numbers = 0; parts = 0; first = 0; second = 0; third = 0; kind = 0 }

abbrev pub from_mouse : Sequence
from_mouse = record no_numbers { source = Mouse }

-- a number with a further digit; no number grows above 2 ^ 32 - 1
abbrev pub with_digit : ℕ → ℕ → ℕ
with_digit number b = min (number * 10 + bit_and b 15) (2 ^ 32 - 1)

-- the sequence with a further digit: of its first three numbers, and of what stands after the first colon of
-- the second; and before the third number begins, of what stands after the first colon of the first
unfoldable pub digit_pushed : Sequence → ℕ → Sequence
digit_pushed s b =
    if (s.numbers == 0) && (s.parts == 0) then record s { first = with_digit s.first b }
    else (if (s.numbers == 1) && (s.parts == 0) then record s { second = with_digit s.second b }
    else (if ((s.numbers == 0) && (s.parts == 1)) || ((s.numbers == 2) && (s.parts == 0))
    then record s { third = with_digit s.third b }
    else (if (s.numbers == 1) && (s.parts == 1) then record s { kind = with_digit s.kind b }
    else s)))

-- the sequence with a byte that doesn't end it; none where no such byte stands in a sequence
unfoldable pub pushed : Sequence → ℕ → Option Sequence
pushed s b =
    if nat_le (byte "0") b && nat_le b (byte "9") then Some (digit_pushed s b)
    else (if b == byte ";" then Some (record s {
      numbers = if nat_lt s.numbers 3 then s.numbers + 1
          else 3;
      parts = 0;
      third = if s.numbers == 1 then 0 else s.third;
    })
    else (if b == byte ":" then Some (record s { parts = if nat_lt s.parts 2 then s.parts + 1 else 2 })
    else (if (nat_le (byte " ") b && nat_le b (byte "/")) || (nat_le (byte "<") b && nat_le b (byte "?"))
    then Some (record s { source = Other })
    else None)))

abbrev pub kind_of : ℕ → KeyEventKind
kind_of n = if n == 2 then Repeat else (if n == 3 then Release else Press)

-- a key, with what the number after it says of the keys and locks held
unfoldable pub key_event : ℕ → KeyCode → Bool → ℕ → Event
key_event kind code is_keypad mask =
    if nat_lt 256 mask then Unknown
    else Key (key_of_kind code (held ((mask - 1) % 64)) (kind_of kind)
    (locks ((mask - 1) / 64 + (if is_keypad then 4 else 0))))

-- Shift with what the number says: BackTab has it
abbrev pub with_shift : ℕ → ℕ
with_shift mask = if nat_lt 256 mask then mask else (mask - 1) / 2 * 2 + 2

abbrev pub letter_code_event : Option KeyCode → ℕ → ℕ → Event
letter_code_event None kind mask = Unknown
letter_code_event (Some BackTab) kind mask = key_event kind BackTab false (with_shift mask)
letter_code_event (Some code) kind mask = key_event kind code false mask

-- a key that ends with a letter: a lone number says what is held, and else the second one does
unfoldable pub letter_event : Sequence → ℕ → Event
letter_event s b = letter_code_event (letter_key b) s.kind (if s.numbers == 0 then s.first else s.second)

abbrev pub code_key_event : Option (KeyCode × Bool) → ℕ → ℕ → Event
code_key_event None kind mask = Unknown
code_key_event (Some key) kind mask = key_event kind (tab_key key.0 mask) key.1 mask

-- what is held beside a character that a terminal tells as typed: Shift with a capital letter, and with no
-- other, as where it is typed without more being told
abbrev pub typed_mask : ℕ → ℕ → ℕ
typed_mask c mask = (mask - 1) / 2 * 2 + (if is_uppercase c then 2 else 1)

abbrev pub typed_event : ℕ → ℕ → Bool → ℕ → Event
typed_event kind c is_keypad mask = if nat_lt 256 mask then Unknown
    else key_event kind (Char c) is_keypad (typed_mask c mask)

-- a key by its code point, and the character that a terminal tells beside it: a character's key with Shift is
-- that character
abbrev pub told_key_event : Option ℕ → KeyCode → Bool → ℕ → ℕ → Event
told_key_event (Some c) (Char d) is_keypad kind mask = if (mask - 1) % 2 == 1
    then typed_event kind c is_keypad mask else key_event kind (Char d) is_keypad mask
told_key_event told code is_keypad kind mask = key_event kind (tab_key code mask) is_keypad mask

-- text that no key has typed is told with the number 0 for the key: one character
abbrev pub text_event : Option ℕ → Sequence → Event
text_event (Some c) s = if (s.first == 0) && ((s.numbers == 2) && (s.parts == 0))
    then typed_event s.kind c false s.second else Unknown
text_event None s = Unknown

abbrev pub told_code_event : Option (KeyCode × Bool) → Option ℕ → Sequence → Event
told_code_event (Some key) told s = told_key_event told key.0 key.1 s.kind s.second
told_code_event None told s = text_event told s

-- a key by its code point, or text without a key
unfoldable pub code_event : Sequence → Event
code_event s = told_code_event (code_key s.first) (plain_character (scalar_at s.third)) s

abbrev pub number_key_event : Option KeyCode → ℕ → ℕ → Event
number_key_event None kind mask = Unknown
number_key_event (Some code) kind mask = key_event kind code false mask

unfoldable pub tilde_event : Sequence → Event
tilde_event s =
    if s.first == 200 then PasteBegun
    else (if s.first == 201 then PasteEnded
    else (if (s.first == 27) && nat_le 2 s.numbers then code_key_event (code_key s.third) s.kind s.second
    else number_key_event (number_key s.first) s.kind s.second))

-- the terminal's size: rows, then columns
unfoldable pub size_event : Sequence → Event
size_event s =
    if ((s.first == 48) || (s.first == 8)) && (nat_le 2 s.numbers && (nat_le s.second 65535
    && nat_le s.third 65535))
    then Size s.third s.second else Unknown

-- where the cursor stands: row, then column, from 1 on
unfoldable pub position_event : Sequence → Event
position_event s = if nat_le s.first 65535 && nat_le s.second 65535
    then Position (s.second - 1) (s.first - 1) else Unknown

unfoldable pub keys_event : Sequence → ℕ → Event
keys_event s b =
    if b == byte "~" then tilde_event s
    else (if b == byte "u" then code_event s
    else (if b == byte "t" then size_event s
    else (if (b == byte "R") && ((s.numbers == 1) && (if s.first == 1 then false else true)) then position_event s
    else (if b == byte "M" then (if nat_le 2 s.numbers && nat_le 32 s.first
    then mouse_event (s.first - 32) s.second s.third false else Unknown)
    else (if (b == byte "I") && (s.numbers == 0) then FocusGained
    else (if (b == byte "O") && (s.numbers == 0) then FocusLost
    else letter_event s b))))))

unfoldable pub pointer_event : Sequence → ℕ → Event
pointer_event s b =
    if s.numbers == 2 then (if b == byte "M" then mouse_event s.first s.second s.third false
    else (if b == byte "m" then mouse_event s.first s.second s.third true else Unknown))
    else Unknown

abbrev pub source_event : Source → Sequence → ℕ → Event
source_event Keys s b = keys_event s b
source_event Mouse s b = pointer_event s b
source_event Other s b = Unknown

-- what a sequence stands for that ends with this byte
unfoldable pub sequence_event : Sequence → ℕ → Event
sequence_event s b = source_event s.source s b

-- what ESC O, a number and this byte stand for
unfoldable pub single_event : ℕ → ℕ → Event
single_event number b = letter_event (record no_numbers { first = number }) b
