-- A share of a whole: how much of a number it is.
use Rattle.std.specs.Prelude.{ℕ, Bool, ◌+◌, ◌*◌, ◌/◌, ◌%◌, ◌==◌, ◌++◌, ◌&&◌, ◌||◌, nat_lt, nat_le}
use Rattle.std.specs.Prelude.{if◌then◌else◌, min, max, List, codes, decimal}
use Rattle.widget_meters.specs.declared.share.Share.{Share}

-- so many parts of a whole
abbrev pub share_of : ℕ → ℕ → Share
share_of parts whole = record { parts = parts; whole = whole }

-- the whole, but at least one
abbrev pub whole_of : Share → ℕ
whole_of s = max s.whole 1

-- the parts, but at most the whole
abbrev pub parts_of : Share → ℕ
parts_of s = min s.parts (max s.whole 1)

-- all of the whole
abbrev pub is_full : Share → Bool
is_full s = nat_le (max s.whole 1) s.parts

-- so much of a number, rounded down
abbrev pub filled_part : Share → ℕ → ℕ
filled_part s n = n * parts_of s / whole_of s

-- so much of a number, rounded to the nearest one
abbrev pub rounded_part : Share → ℕ → ℕ
rounded_part s n = (2 * n * parts_of s + whole_of s) / (2 * whole_of s)

-- how many eighths of one more are left over, rounded to the nearest one
abbrev pub eighths_of : Share → ℕ → ℕ
eighths_of s n = (16 * (n * parts_of s % whole_of s) + whole_of s) / (2 * whole_of s)

-- the same, and rounded to the even one if two are as near
unfoldable pub evenly_rounded_part : Share → ℕ → ℕ
evenly_rounded_part s n =
    let rest = n * parts_of s % whole_of s in
    let down = filled_part s n in
    if nat_lt (whole_of s) (2 * rest) || ((whole_of s == 2 * rest) && (down % 2 == 1)) then down + 1 else down

-- hundredths, and a percent sign
abbrev pub percent_of : ℕ → List ℕ
percent_of n = decimal n ++ codes "%"

-- the share in percent, rounded, or rounded evenly
abbrev pub percent_text : Share → List ℕ
percent_text s = percent_of (rounded_part s 100)

abbrev pub even_percent_text : Share → List ℕ
even_percent_text s = percent_of (evenly_rounded_part s 100)
