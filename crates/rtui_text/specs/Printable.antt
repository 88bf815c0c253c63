-- Printable characters of ASCII at the start of a text.
use Rattle.std.specs.Prelude.{ℕ, ◌<◌, ◌≤◌, List, [], ◌∷◌, map, length, slice_index}

-- a printable character of ASCII
pub record IsPrintable (b : ℕ) : Type 0 where
  pub low : 0x20 ≤ b
  pub high : b < 0x7F

-- each byte is a printable character of ASCII
abbrev pub ArePrintable : List ℕ → Type 0
ArePrintable bytes = (k : ℕ) → k < length bytes → IsPrintable (slice_index bytes k)

-- the first n bytes of a text are printable characters of ASCII, and a character of ASCII, or none, stands
-- after them
pub record IsPrintableFront (text : List ℕ) (n : ℕ) : Type 0 where
  pub within : n ≤ length text
  pub printable : (k : ℕ) → k < n → IsPrintable (slice_index text k)
  pub followed : 0 < n → n < length text → slice_index text n < 0x80

-- each byte as a text of its own
abbrev pub singles : List ℕ → List (List ℕ)
singles bytes = map (λ b. b ∷ []) bytes
