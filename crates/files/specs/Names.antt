-- Names as they are shown: each in its own way, so that none can be taken for another.
use Rattle.std.specs.Prelude.{ℕ, Bool, not, ◌==◌, ◌&&◌, ◌/◌, ◌%◌, nat_lt, if◌then◌else◌}
use Rattle.std.specs.Prelude.{List, [], ◌∷◌, ◌++◌, codes, chars, encode_utf8}
use Rattle.std.specs.{Str.byte, List.flat_map, Char.digit_char}
use Rattle.ansi_model.specs.Symbols.{is_shown, has_columns}

-- a character that is shown as itself: one that a terminal shows in columns of its own, but neither the backslash,
-- by which others begin, nor the quotation mark, between which names stand in questions
abbrev pub is_plain : ℕ → Bool
is_plain c = not (c == byte "\\") && not (c == byte "\"") && is_shown c && has_columns c

-- the last hexadecimal digit of a number
abbrev pub last_hex_digit : ℕ → List ℕ
last_hex_digit n = digit_char (n % 16) ∷ []

-- what stands for a character: a backslash, x, and two digits, if it is below 256, as `\x1b`; or u and six digits
abbrev pub escaped_low : ℕ → List ℕ
escaped_low c = codes "\\x" ++ last_hex_digit (c / 16) ++ last_hex_digit c

abbrev pub escaped_high : ℕ → List ℕ
escaped_high c =
    codes "\\u" ++ last_hex_digit (c / 1048576) ++ last_hex_digit (c / 65536) ++ last_hex_digit (c / 4096) ++ last_hex_digit (c / 256)
    ++ last_hex_digit (c / 16) ++ last_hex_digit c

abbrev pub shown_name_char : ℕ → List ℕ
shown_name_char c =
    if is_plain c then encode_utf8 c else if nat_lt c 256 then escaped_low c else escaped_high c

-- a name as it is shown
unfoldable pub shown_name : List ℕ → List ℕ
shown_name name = flat_map shown_name_char (chars name)

-- a character of a text: a tab leads four columns further, and what no terminal shows as itself is written as in a
-- name
abbrev pub shown_text_char : ℕ → List ℕ
shown_text_char c =
    if c == 9 then codes "    "
    else if is_shown c then encode_utf8 c
    else if nat_lt c 256 then escaped_low c
    else escaped_high c

-- a line of a text as it is shown
unfoldable pub text_shown : List ℕ → List ℕ
text_shown line = flat_map shown_text_char (chars line)
