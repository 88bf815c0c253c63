-- What terminals print a text as: characters, and the columns that they take.
use Rattle.std.specs.Prelude.{◌≡◌, ℕ, ◌==◌, ◌&&◌, ◌||◌, not, nat_lt, nat_le, Bool, true, false, if◌then◌else◌}
use Rattle.std.specs.Prelude.{List, [], ◌∷◌, length, drop, chars, encode_utf8, Option, Some, None}
use Rattle.std.specs.{List.list_all, List.list_any, Str.is_utf8}
use Rattle.unicode_segmentation.specs.Grapheme.{graphemes}
use Rattle.ratatui_core.specs.Buffer.{text_width, columns_of_char}
use Rattle.ansi_model.specs.{declared.glyph.Glyph.Glyph, declared.glyph.Glyph.TheVariants.Plain}
use Rattle.ansi_model.specs.{declared.glyph.Glyph.TheVariants.Whole}
use Rattle.ansi_model.specs.{declared.glyph.Glyph.TheVariants.Disputed}

-- control characters, which terminals obey in place of showing them
abbrev pub is_control : ℕ → Bool
is_control c = nat_lt c 32 || (nat_le 127 c && nat_lt c 160)

-- characters that turn the direction of what is after them
abbrev pub is_directional : ℕ → Bool
is_directional c = (c == 0x61C) || (nat_le 0x200E c && nat_le c 0x200F) ||
    (nat_le 0x202A c && nat_le c 0x202E) || (nat_le 0x2066 c && nat_le c 0x2069)

-- characters that are shown, or join one that is
abbrev pub is_shown : ℕ → Bool
is_shown c = not (is_control c) && not (is_directional c)

-- a character of one column that never joins its neighbours: printable ASCII, Latin letters, lines and blocks
abbrev pub is_plain_char : ℕ → Bool
is_plain_char c = (nat_le 32 c && nat_le c 126) || (nat_le 0xC0 c && nat_le c 0x17F) ||
    (nat_le 0x2500 c && nat_le c 0x259F)

-- whether a character has columns of its own
abbrev pub has_columns : ℕ → Bool
has_columns c = is_plain_char c || nat_lt 0 (columns_of_char c)

-- whether a text begins with such a character, and so doesn't join what is before it
abbrev pub begins_anew : List ℕ → Bool
begins_anew [] = false
begins_anew (c ∷ cs) = has_columns c

abbrev pub is_columnless : List ℕ → Bool
is_columnless grapheme = text_width grapheme == 0

-- whether of these graphemes the first alone has columns: terminals print each that has some by itself
abbrev pub is_single : List (List ℕ) → Bool
is_single [] = true
is_single (g ∷ gs) = list_all is_columnless gs

-- a text that terminals show as one symbol
abbrev pub is_symbol : List ℕ → Bool
is_symbol text = is_utf8 text && list_all is_shown (chars text) && begins_anew (chars text) && is_single
    (graphemes true text)

-- whether terminals differ on a symbol's columns: with U+FE0F after its first character, some give it one
-- column
abbrev pub is_disputed : List ℕ → Bool
is_disputed text = list_any (λ c. c == 0xFE0F) (drop 1 (chars text))

-- the character of a list that has only one
abbrev pub only_of : List ℕ → Option ℕ
only_of [] = None
only_of (c ∷ []) = Some c
only_of (c ∷ d ∷ cs) = None

-- whether these are one plain character
abbrev pub is_one_plain : List ℕ → Bool
is_one_plain cs = (length cs == 1) && list_all is_plain_char cs

-- a symbol that is printed as one: a plain character, or a text that isn't plain throughout
abbrev pub is_printed : List ℕ → Bool
is_printed text = is_symbol text && (is_one_plain (chars text) || not (list_all is_plain_char (chars text)))

-- in how many columns such a symbol is printed
abbrev pub printed_columns : List ℕ → ℕ
printed_columns text = if is_one_plain (chars text) then 1 else text_width text

-- the columns of a glyph
abbrev pub glyph_columns : Glyph → ℕ
glyph_columns (Plain c) = 1
glyph_columns (Whole n) = n
glyph_columns (Disputed n) = n

-- whether terminals differ on the columns of what is printed as a glyph
abbrev pub is_disputed_glyph : Glyph → Bool
is_disputed_glyph (Plain c) = false
is_disputed_glyph (Whole n) = false
is_disputed_glyph (Disputed n) = true

-- a plain glyph's character is all of a text
abbrev pub IsPlainIn : List ℕ → Glyph → Type 0
IsPlainIn text (Plain c) = (is_plain_char c ≡ true) × (text ≡ encode_utf8 c)
IsPlainIn text _ = Unit {0}

-- a text is printed as one symbol, and as this glyph
pub record IsGlyphOf (text : List ℕ) (glyph : Glyph) : Type 0 where
  pub printed : is_printed text ≡ true
  pub columns : glyph_columns glyph ≡ printed_columns text
  pub disputed : is_disputed_glyph glyph ≡ is_disputed text
  pub plain : IsPlainIn text glyph
