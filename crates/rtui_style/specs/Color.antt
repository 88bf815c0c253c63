-- The text of a colour, as it is printed and as it is read.
use Rattle.std.specs.Prelude.{ℕ, ◌+◌, ◌*◌, ◌/◌, ◌%◌, ◌^◌, Bool, true, ◌&&◌, ◌||◌, not, nat_eq, nat_lt, ◌==◌}
use Rattle.std.specs.Prelude.{if◌then◌else◌, List, [], ◌∷◌, ◌++◌, codes, map, filter, find, length, Option}
use Rattle.std.specs.Prelude.{Some, None, option_map, Result, Ok, Err}
use Rattle.std.specs.{Char.digit_value, Char.to_ascii_lowercase, Cmp.Lexicographic.pointwise, Fmt.decimal}
use Rattle.std.specs.{Fmt.digit_glyph, List.list_all, Str.chars}
use Rattle.std.specs.Str.Parse.{digits_value, without_leading_plus}
use Rattle.rtui_style.specs.{declared.color.Color.Color, declared.color.ParseColorError.ParseColorError}
use Rattle.rtui_style.specs.declared.color.Color.TheVariants.{Reset, Black, Red, Green, Yellow, Blue, Magenta}
use Rattle.rtui_style.specs.declared.color.Color.TheVariants.{Cyan, Gray, DarkGray, LightRed, LightGreen}
use Rattle.rtui_style.specs.declared.color.Color.TheVariants.{LightYellow, LightBlue, LightMagenta, LightCyan}
use Rattle.rtui_style.specs.declared.color.Color.TheVariants.{White, Rgb, Indexed}

-- a byte as two hexadecimal digits in upper case
abbrev pub hex_byte : ℕ → List ℕ
hex_byte n = digit_glyph true (n / 16) ∷ digit_glyph true (n % 16) ∷ []

-- the text that a colour prints
abbrev pub color_text : Color → List ℕ
color_text Reset = codes "Reset"
color_text Black = codes "Black"
color_text Red = codes "Red"
color_text Green = codes "Green"
color_text Yellow = codes "Yellow"
color_text Blue = codes "Blue"
color_text Magenta = codes "Magenta"
color_text Cyan = codes "Cyan"
color_text Gray = codes "Gray"
color_text DarkGray = codes "DarkGray"
color_text LightRed = codes "LightRed"
color_text LightGreen = codes "LightGreen"
color_text LightYellow = codes "LightYellow"
color_text LightBlue = codes "LightBlue"
color_text LightMagenta = codes "LightMagenta"
color_text LightCyan = codes "LightCyan"
color_text White = codes "White"
color_text (Rgb r g b) = codes "#" ++ (hex_byte r ++ (hex_byte g ++ hex_byte b))
color_text (Indexed i) = decimal i

-- blanks, dashes and underscores don't count in a colour's name
abbrev pub is_kept : ℕ → Bool
is_kept c = not (c == 0x20 || c == 0x2d || c == 0x5f)

-- nor does the case of ASCII letters, and the Kelvin sign is read as a k
abbrev pub lowered : ℕ → ℕ
lowered c = if c == 0x212a then 0x6b else to_ascii_lowercase c

-- the characters of a text that count in a colour's name
abbrev pub cleaned : List ℕ → List ℕ
cleaned text = map lowered (filter is_kept (chars text))

-- the names of the colours
abbrev pub color_names : List (List ℕ × Color)
color_names =
    (codes "reset", Reset)
    ∷ (codes "black", Black)
    ∷ (codes "red", Red)
    ∷ (codes "green", Green)
    ∷ (codes "yellow", Yellow)
    ∷ (codes "blue", Blue)
    ∷ (codes "magenta", Magenta)
    ∷ (codes "cyan", Cyan)
    ∷ (codes "gray", Gray)
    ∷ (codes "grey", Gray)
    ∷ (codes "silver", Gray)
    ∷ (codes "darkgray", DarkGray)
    ∷ (codes "darkgrey", DarkGray)
    ∷ (codes "darksilver", DarkGray)
    ∷ (codes "lightblack", DarkGray)
    ∷ (codes "brightblack", DarkGray)
    ∷ (codes "lightred", LightRed)
    ∷ (codes "brightred", LightRed)
    ∷ (codes "lightgreen", LightGreen)
    ∷ (codes "brightgreen", LightGreen)
    ∷ (codes "lightyellow", LightYellow)
    ∷ (codes "brightyellow", LightYellow)
    ∷ (codes "lightblue", LightBlue)
    ∷ (codes "brightblue", LightBlue)
    ∷ (codes "lightmagenta", LightMagenta)
    ∷ (codes "brightmagenta", LightMagenta)
    ∷ (codes "lightcyan", LightCyan)
    ∷ (codes "brightcyan", LightCyan)
    ∷ (codes "white", White)
    ∷ (codes "lightwhite", White)
    ∷ (codes "brightwhite", White)
    ∷ (codes "lightgray", White)
    ∷ (codes "brightgray", White)
    ∷ (codes "lightgrey", White)
    ∷ (codes "brightgrey", White)
    ∷ (codes "lightsilver", White)
    ∷ (codes "brightsilver", White)
    ∷ []

-- the colour whose name among these a text is
abbrev pub color_among : List (List ℕ × Color) → List ℕ → Option Color
color_among names text = option_map (λ row. row.1) (find (λ row. pointwise nat_eq row.0 (cleaned text)) names)

-- the colour whose name a text is
abbrev pub named_color : List ℕ → Option Color
named_color text = color_among color_names text

-- the number from 0 to 255 that a text writes in decimal digits, and a plus may stand first
abbrev pub color_index : List ℕ → Option ℕ
color_index text =
    let digits = without_leading_plus text in
    if nat_lt 0 (length digits) && list_all (λ c. nat_lt (digit_value c) 10) digits && nat_lt
    (digits_value 10 digits) 256
    then Some (digits_value 10 digits) else None

-- the byte that two characters write: two hexadecimal digits, or a plus and one
abbrev pub pair_value : ℕ → ℕ → Option ℕ
pair_value high low =
    if nat_lt (digit_value low) 16 && (nat_lt (digit_value high) 16 || high == 0x2b)
    then Some ((if high == 0x2b then 0 else 16 * digit_value high) + digit_value low) else None

-- the colour of three bytes, if all are there
abbrev pub rgb_of : Option ℕ → Option ℕ → Option ℕ → Option Color
rgb_of (Some r) (Some g) (Some b) = Some (Rgb r g b)
rgb_of _ _ _ = None

-- the colour that `#` and three pairs write
abbrev pub hex_color : List ℕ → Option Color
hex_color (mark ∷ r1 ∷ r0 ∷ g1 ∷ g0 ∷ b1 ∷ b0 ∷ []) =
    if mark == 0x23 then rgb_of (pair_value r1 r0) (pair_value g1 g0) (pair_value b1 b0) else None
hex_color _ = None

-- the first value if there is one, else the second
abbrev pub first_of : Option Color → Option Color → Option Color
first_of (Some c) other = Some c
first_of None other = other

-- the colour that a text is read as: its name, its index, or its three bytes
abbrev pub color_of : List ℕ → Option Color
color_of text = first_of (named_color text) (first_of (option_map Indexed (color_index text))
    (hex_color text))

-- a colour, or the error if there is none
abbrev pub color_or_error : Option Color → Result Color ParseColorError
color_or_error (Some c) = Ok c
color_or_error None = Err (record {})

-- the colour of 0x00RRGGBB, whatever stands above
abbrev pub color_of_number : ℕ → Color
color_of_number n = Rgb (n / 2 ^ 16 % 256) (n / 2 ^ 8 % 256) (n % 256)
