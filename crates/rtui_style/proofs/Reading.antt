-- Reading a colour: a name, an index, or three bytes.
use Rattle.std.proofs.Common.{◌≡◌, ℕ, ◌<◌, ◌^◌, Bool, true, false, ◌&&◌, nat_lt, List, [], ◌∷◌, length, Option, Some, None}
use Rattle.std.proofs.Common.{option_map, Result, Ok, refl, ap, sym, ◌∙◌, arith, if◌then◌else◌}
use Rattle.std.specs.{Char.digit_value, List.list_all}
use Rattle.std.specs.Str.Parse.{AllDigits, IsNumeral, digits_value, without_leading_plus}
use Rattle.std.proofs.lemmas.{Bool.Decides.nat_tests, Bool.and_parts, Bool.and_from}
use Rattle.rtui_style.specs.{declared.color.Color.Color, declared.color.Color.TheVariants.Indexed}
use Rattle.rtui_style.specs.{declared.color.ParseColorError.ParseColorError}
use Rattle.rtui_style.specs.Color.{named_color, color_index, hex_color, color_of, color_or_error, first_of}

abbrev is_digit : ℕ → Bool
is_digit c = nat_lt (digit_value c) 10

true_from_lt : (a b : ℕ) → a < b → nat_lt a b ≡ true
true_from_lt a b h = grind (arith, nat_tests)

lt_from_true : (a b : ℕ) → nat_lt a b ≡ true → a < b
lt_from_true a b h = grind (arith, nat_tests)

all_pass : (ds : List ℕ) → AllDigits 10 ds → list_all is_digit ds ≡ true
all_pass [] h = refl
all_pass (d ∷ ds) h = and_from (is_digit d) (list_all is_digit ds) (true_from_lt (digit_value d) 10 h.0) (all_pass ds h.1)

all_digits : (ds : List ℕ) → list_all is_digit ds ≡ true → AllDigits 10 ds
all_digits [] h = tt
all_digits (d ∷ ds) h =
    let parts = and_parts (is_digit d) (list_all is_digit ds) h in
    (lt_from_true (digit_value d) 10 parts.0, all_digits ds parts.1)

-- whether these digits are a number of at most 255
abbrev is_small : List ℕ → Bool
is_small ds = nat_lt 0 (length ds) && list_all is_digit ds && nat_lt (digits_value 10 ds) 256

small : (ds : List ℕ) → IsNumeral 10 ds → digits_value 10 ds < 256 → is_small ds ≡ true
small ds numeral below =
    and_from (nat_lt 0 (length ds) && list_all is_digit ds) (nat_lt (digits_value 10 ds) 256)
    (and_from (nat_lt 0 (length ds)) (list_all is_digit ds) (true_from_lt 0 (length ds) numeral.0) (all_pass ds numeral.1))
    (true_from_lt (digits_value 10 ds) 256 below)

from_small : (ds : List ℕ) → is_small ds ≡ true → IsNumeral 10 ds × (digits_value 10 ds < 256)
from_small ds h =
    let parts = and_parts (nat_lt 0 (length ds) && list_all is_digit ds) (nat_lt (digits_value 10 ds) 256) h in
    let digits = and_parts (nat_lt 0 (length ds)) (list_all is_digit ds) parts.0 in
    ((lt_from_true 0 (length ds) digits.0, all_digits ds digits.1), lt_from_true (digits_value 10 ds) 256 parts.1)

some_if : ℕ → Bool → Option ℕ
some_if n b = if b then Some n else None

none_unless : (n : ℕ) (b : Bool) → (b ≡ true → ⊥) → some_if n b ≡ None
unfolding some_if
none_unless n true h = absurd (h refl)
none_unless n false h = refl

-- a decimal number of at most 255 is the index
pub index_is_parsed : (text : List ℕ) (n : ℕ)
    → (IsNumeral 10 (without_leading_plus text) × (digits_value 10 (without_leading_plus text) < 2 ^ 8))
    × (n ≡ digits_value 10 (without_leading_plus text)) → color_index text ≡ Some n
unfolding some_if
index_is_parsed text n h =
    let ds = without_leading_plus text in
    ap (some_if (digits_value 10 ds)) (small ds h.0.0 h.0.1) ∙ ap Some (sym h.1)

pub no_index : (text : List ℕ)
    → ¬ (IsNumeral 10 (without_leading_plus text) × (digits_value 10 (without_leading_plus text) < 2 ^ 8))
    → color_index text ≡ None
unfolding some_if
no_index text h =
    let ds = without_leading_plus text in
    none_unless (digits_value 10 ds) (is_small ds) (λ t. h (from_small ds t))

abbrev answer_of : Option Color → Option ℕ → Option Color → Result Color ParseColorError
answer_of named index hex = color_or_error (first_of named (first_of (option_map Indexed index) hex))

pub read_index : (text : List ℕ) (n : ℕ) → named_color text ≡ None → color_index text ≡ Some n
    → Ok (Indexed n) ≡ color_or_error (color_of text)
read_index text n named index =
    sym (ap (λ x. answer_of x (color_index text) (hex_color text)) named ∙ ap (λ y. answer_of None y (hex_color text)) index)

pub read_hex : (text : List ℕ) (z : Option Color) → named_color text ≡ None → color_index text ≡ None → hex_color text ≡ z
    → color_or_error z ≡ color_or_error (color_of text)
read_hex text z named index hex =
    sym (ap (λ x. answer_of x (color_index text) (hex_color text)) named ∙ ap (λ y. answer_of None y (hex_color text)) index
    ∙ ap (answer_of None None) hex)
