-- Masked texts.
use Rattle.std.specs.Prelude.{ℕ, List, chars, encode_utf8}
use Rattle.std.specs.List.{flat_map}

-- a text, and the character that stands for each of its characters
pub record MaskedData : Type 0 where
  pub content : List ℕ
  pub mask_char : ℕ

-- the mask character once for each character
abbrev pub mask_value : MaskedData → List ℕ
mask_value masked = flat_map (λ _. encode_utf8 masked.mask_char) (chars masked.content)
