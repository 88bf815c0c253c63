-- A printed colour is read as itself.
use Rattle.std.proofs.Common.{◌≡◌, ℕ, ◌/◌, ◌%◌, ◌<◌, Bool, true, false, eqb, Option, Some, None, refl, ap, ap₂, ◌∙◌}
use Rattle.std.specs.{Fmt.decimal, Fmt.digit_glyph, Fmt.digits, Str.chars}
use Rattle.std.proofs.lemmas.Bool.{agree_below, agree_below_at, eqb-true}
use Rattle.rtui_style.specs.declared.color.Color.{Color}
use Rattle.rtui_style.specs.declared.color.Color.TheVariants.{Reset, Black, Red, Green, Yellow, Blue, Magenta, Cyan, Gray}
use Rattle.rtui_style.specs.declared.color.Color.TheVariants.{DarkGray, LightRed, LightGreen, LightYellow, LightBlue}
use Rattle.rtui_style.specs.declared.color.Color.TheVariants.{LightMagenta, LightCyan, White, Rgb, Indexed}
use Rattle.rtui_style.specs.Color.{color_of, color_text, pair_value, rgb_of}

-- the seventeen names
pub name_is_read : (color : Color) → ((r g b : ℕ) → color ≡ Rgb r g b → ⊥) → ((i : ℕ) → color ≡ Indexed i → ⊥)
    → color_of (color_text color) ≡ Some color
unfolding chars
name_is_read Reset rgb indexed = refl
name_is_read Black rgb indexed = refl
name_is_read Red rgb indexed = refl
name_is_read Green rgb indexed = refl
name_is_read Yellow rgb indexed = refl
name_is_read Blue rgb indexed = refl
name_is_read Magenta rgb indexed = refl
name_is_read Cyan rgb indexed = refl
name_is_read Gray rgb indexed = refl
name_is_read DarkGray rgb indexed = refl
name_is_read LightRed rgb indexed = refl
name_is_read LightGreen rgb indexed = refl
name_is_read LightYellow rgb indexed = refl
name_is_read LightBlue rgb indexed = refl
name_is_read LightMagenta rgb indexed = refl
name_is_read LightCyan rgb indexed = refl
name_is_read White rgb indexed = refl
name_is_read (Rgb r g b) rgb indexed = absurd (rgb r g b refl)
name_is_read (Indexed i) rgb indexed = absurd (indexed i refl)

is_value : ℕ → Option ℕ → Bool
is_value n (Some m) = eqb m n
is_value n None = false

from_is_value : (n : ℕ) (o : Option ℕ) → is_value n o ≡ true → o ≡ Some n
unfolding is_value
from_is_value n (Some m) h = ap Some (eqb-true m n h)
from_is_value n None h = absurd (cc)

pair_reads : ℕ → Bool
pair_reads n = is_value n (pair_value (digit_glyph true (n / 16)) (digit_glyph true (n % 16)))

every_pair_reads : agree_below pair_reads (λ _. true) 256 ≡ true
unfolding pair_reads is_value
every_pair_reads = refl

-- the two hexadecimal digits of a byte are read as it
pair_is_byte : (n : ℕ) → n < 256 → pair_value (digit_glyph true (n / 16)) (digit_glyph true (n % 16)) ≡ Some n
unfolding pair_reads
pair_is_byte n h = from_is_value n _ (agree_below_at pair_reads (λ _. true) 256 n every_pair_reads h)

pub rgb_is_read : (r g b : ℕ) → r < 256 → g < 256 → b < 256 → color_of (color_text (Rgb r g b)) ≡ Some (Rgb r g b)
unfolding chars
rgb_is_read r g b hr hg hb =
    ap (λ x. rgb_of x (pair_value (digit_glyph true (g / 16)) (digit_glyph true (g % 16)))
    (pair_value (digit_glyph true (b / 16)) (digit_glyph true (b % 16)))) (pair_is_byte r hr)
    ∙ ap₂ (λ x y. rgb_of (Some r) x y) (pair_is_byte g hg) (pair_is_byte b hb)

is_index : ℕ → Option Color → Bool
is_index i (Some (Indexed j)) = eqb j i
is_index i _ = false

from_is_index : (i : ℕ) (o : Option Color) → is_index i o ≡ true → o ≡ Some (Indexed i)
unfolding is_index
from_is_index i (Some (Indexed j)) h = ap (λ k. Some (Indexed k)) (eqb-true j i h)
from_is_index i o h = absurd (cc)

index_reads : ℕ → Bool
index_reads i = is_index i (color_of (decimal i))

every_index_reads : agree_below index_reads (λ _. true) 256 ≡ true
unfolding chars digits index_reads is_index
every_index_reads = refl

pub index_is_read : (i : ℕ) → i < 256 → color_of (color_text (Indexed i)) ≡ Some (Indexed i)
unfolding index_reads
index_is_read i h = from_is_index i _ (agree_below_at index_reads (λ _. true) 256 i every_index_reads h)
