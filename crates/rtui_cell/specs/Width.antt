-- How many columns a text takes.
use Rattle.std.specs.Prelude.{ℕ, Bool, false, ◌-◌, ◌==◌, ◌&&◌, ◌||◌, nat_le, min, List, length, count_by}
use Rattle.std.specs.Prelude.{chars, unwrap_or, if◌then◌else◌}
use Rattle.unicode_width.specs.Width.{str_width, char_width}

-- how many columns a character takes by itself: none if it is a control character or joins what is before it
abbrev pub columns_of_char : ℕ → ℕ
columns_of_char c = unwrap_or (char_width false c) 0

-- a kana, an ideograph or a syllable of Hangul
abbrev pub is_wide_letter : ℕ → Bool
is_wide_letter c =
    (nat_le 0x3041 c && nat_le c 0x3096) || ((nat_le 0x309B c && nat_le c 0x30FF)
    || ((nat_le 0x3400 c && nat_le c 0x9FFF) || (nat_le 0xAC00 c && nat_le c 0xD7A3)))

-- the half-width katakana sound marks
abbrev pub is_sound_mark : ℕ → Bool
is_sound_mark c = (c == 0xFF9E) || (c == 0xFF9F)

-- the columns of a text in a line, in which sound marks count for nothing
unfoldable pub text_columns : List ℕ → ℕ
text_columns text = str_width false (chars text) - count_by is_sound_mark (chars text)

-- the columns of a text in a cell, in which each sound mark counts for one: the Unicode width, at most 65535,
-- and 1 for one byte
unfoldable pub text_width : List ℕ → ℕ
text_width text = if length text == 1 then 1 else min (str_width false (chars text)) 65535
