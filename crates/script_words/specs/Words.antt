-- The words of a line.
use Rattle.std.specs.Prelude.{ℕ, ◌&&◌, ◌==◌, Bool, nat_lt, nat_le, List, length, Option, None, Some}
use Rattle.std.specs.Prelude.{if◌then◌else◌}
use Rattle.std.specs.{Char.is_ascii_digit, List.list_all, List.before_first, List.after_first}
use Rattle.std.specs.{Str.Parse.digits_value}
use Rattle.std.specs.Str.{byte}
use Rattle.rtui_geometry.specs.declared.size.Size.{Size}

-- the blank between two words
abbrev pub is_space : ℕ → Bool
is_space b = b == byte " "

-- the first word of a text
abbrev pub first_word : List ℕ → List ℕ
first_word text = before_first is_space text

-- what stands after the blank after it
abbrev pub after_word : List ℕ → List ℕ
after_word text = after_first is_space text

-- a number of decimal digits, at most 65535
abbrev pub parsed_number : List ℕ → Option ℕ
parsed_number text =
    if nat_lt 0 (length text) && list_all is_ascii_digit text && nat_le (digits_value 10 text) 65535 then Some
    (digits_value 10 text) else None

-- two numbers, both at least 1
abbrev pub size_by : Option ℕ → Option ℕ → Option Size
size_by (Some width) (Some height) = if nat_lt 0 width && nat_lt 0 height then Some (record {
  width = width;
  height = height;
}) else None
size_by a b = None

-- columns and rows, with a blank between them
unfoldable pub parsed_size : List ℕ → Option Size
parsed_size text = size_by (parsed_number (first_word text)) (parsed_number (after_word text))
