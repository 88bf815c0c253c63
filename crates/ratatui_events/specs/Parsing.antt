-- Keys as they are read from text.
use Rattle.std.specs.Prelude.{ℕ, ◌+◌, ◌-◌, ◌*◌, ◌==◌, ◌&&◌, Bool, List, [], ◌∷◌, ◌++◌, Option, Some, None}
use Rattle.std.specs.Prelude.{Result, Ok, Err, codes, find, drop, map, length, nat_eq, nat_le, if◌then◌else◌}
use Rattle.std.specs.Int.RustNames.{bit_or, bit_and}
use Rattle.std.specs.List.{starts_with}
use Rattle.std.specs.Char.{to_ascii_lowercase}
use Rattle.std.specs.Char.Unicode.Uppercase.{is_uppercase}
use Rattle.std.specs.Str.{chars}
use Rattle.std.specs.Cmp.Lexicographic.{pointwise}
use Rattle.std.specs.Option.{option_map}
use Rattle.std.specs.Str.{byte}
use Rattle.ratatui_events.specs.Key.{held, pressed}
use Rattle.ratatui_events.specs.Names.{code_name, key_text}
use Rattle.ratatui_events.specs.declared.key.KeyEvent.{KeyEvent}
use Rattle.ratatui_events.specs.declared.key.KeyCode.{KeyCode}
use Rattle.ratatui_events.specs.declared.key.KeyCode.TheVariants.{F, Char}
use Rattle.ratatui_events.specs.declared.parsing.ParseKeyError.{ParseKeyError}
use Rattle.ratatui_events.specs.declared.parsing.TheConstants.{NAMED}

-- whether two texts are the same
abbrev pub is_same_text : List ℕ → List ℕ → Bool
is_same_text a b = pointwise nat_eq a b

-- the key among these that has this name
abbrev pub code_among : List KeyCode → List ℕ → Option KeyCode
code_among keys text = find (λ code. is_same_text (code_name code) text) keys

-- the key that has this name
abbrev pub named_code : List ℕ → Option KeyCode
named_code text = code_among NAMED text

-- the digit that a byte writes, from a least one on
abbrev pub is_digit_from : ℕ → ℕ → Bool
is_digit_from least b = nat_le least b && nat_le b (byte "9")

-- the function key that F and one or two digits write, of which the first is no 0
abbrev pub function_code : List ℕ → Option KeyCode
function_code (f ∷ b ∷ []) = if (f == byte "F") && is_digit_from (byte "1") b then Some (F (b - byte "0")) else None
function_code (f ∷ a ∷ b ∷ []) =
    if (f == byte "F") && (is_digit_from (byte "1") a && is_digit_from (byte "0") b)
    then Some (F ((a - byte "0") * 10 + (b - byte "0"))) else None
function_code _ = None

-- the character of a list of one
abbrev pub one_of : List ℕ → Option ℕ
one_of (c ∷ []) = Some c
one_of _ = None

-- the character that a text is
abbrev pub only_character : List ℕ → Option ℕ
only_character text = one_of (chars text)

-- the first of these keys that is there
abbrev pub either_code : Option KeyCode → Option KeyCode → Option KeyCode
either_code (Some code) other = Some code
either_code None other = other

-- the key that a text names
abbrev pub code_of_text : List ℕ → Option KeyCode
code_of_text text =
    either_code (named_code text) (either_code (function_code text)
    (if is_same_text text (codes "Space") then Some (Char 32) else option_map Char (only_character text)))

-- a key, or the error if there is none
abbrev pub code_or_error : Option KeyCode → Result KeyCode ParseKeyError
code_or_error (Some code) = Ok code
code_or_error None = Err (record {})

-- the keys held so far, and the text after one more, if the text begins with its name
abbrev pub stripped : List ℕ → ℕ → ℕ × List ℕ → ℕ × List ℕ
stripped name bit held =
    if starts_with nat_eq held.1 name then (bit_or held.0 bit, drop (length name) held.1) else held

-- the keys held that a text begins with, and what is left of it
abbrev pub split_held : List ℕ → ℕ × List ℕ
split_held text =
    stripped (codes "Meta+") 32 (stripped (codes "Hyper+") 16 (stripped (codes "Super+") 8
    (stripped (codes "Shift+") 1 (stripped (codes "Alt+") 2 (stripped (codes "Ctrl+") 4 (0, text))))))

-- the key of a name beside what is held: a letter is a small one, unless Shift tells which it is; by itself a
-- capital one has Shift
abbrev pub key_beside : KeyCode → ℕ → KeyEvent
key_beside (Char c) bits =
    if bits == 0 then pressed (Char c) (held (if is_uppercase c then 1 else 0))
    else (if bit_and bits 1 == 1 then pressed (Char c) (held bits)
    else pressed (Char (to_ascii_lowercase c)) (held bits))
key_beside code bits = pressed code (held bits)

-- the key that a text names, with what is held
abbrev pub key_of_text : List ℕ → Option KeyEvent
key_of_text text = let parts = split_held text
    in option_map (λ code. key_beside code parts.0) (code_of_text parts.1)

-- a key, or the error if there is none
abbrev pub key_or_error : Option KeyEvent → Result KeyEvent ParseKeyError
key_or_error (Some key) = Ok key
key_or_error None = Err (record {})

-- numbers, and each of them with a bit more
abbrev pub with_bit : ℕ → List ℕ → List ℕ
with_bit bit numbers = numbers ++ map (λ n. n + bit) numbers

-- the numbers from 0 to 63: each set of keys held
abbrev pub all_held : List ℕ
all_held = with_bit 32 (with_bit 16 (with_bit 8 (with_bit 4 (with_bit 2 (with_bit 1 (0 ∷ []))))))

-- a key is read back from its text
abbrev pub reads_back : ℕ → KeyCode → Option KeyEvent
reads_back bits code = key_of_text (key_text (pressed code (held bits)))
