-- What a terminal shows on its glass of what stands in its columns: some reorder the rows that have letters
-- written from the right.
use Rattle.std.specs.Prelude.{◌≡◌, ℕ, ◌<◌, ◌||◌, Bool, false, chars}
use Rattle.std.specs.List.{list_any}
use Rattle.ucd_bidi.specs.BidiClass.{bidi_class, bidi_class_eq}
use Rattle.ucd_bidi.specs.declared.BidiClass.TheVariants.{ArabicLetter, RightToLeft}
use Rattle.ratatui_core.specs.Buffer.{Look, Grid}
use Rattle.ansi_model.specs.Columns.{Columns, look_in}

-- a letter that is written from the right: one of the bidirectional classes R and AL
abbrev pub is_from_right : ℕ → Bool
is_from_right c = bidi_class_eq (bidi_class c) RightToLeft || bidi_class_eq (bidi_class c) ArabicLetter

abbrev pub has_from_right : Look → Bool
has_from_right look = list_any is_from_right (chars look.symbol)

-- no column of a row of so many columns has such a letter
abbrev pub IsStraight : ℕ → Grid → ℕ → Type 0
IsStraight w grid y = (x : ℕ) → x < w → has_from_right (grid x y) ≡ false

-- a terminal of so many columns may show this on its glass: each row without such letters as it stands. Of
-- the others nothing is said, and of none while a synchronized update is held
pub record MayShow (held : Bool) (w : ℕ) (columns : Columns) (glass : Grid) : Type 0 where
  pub straight : held ≡ false → (x y : ℕ) → IsStraight w (λ a b. look_in (columns a b)) y → x < w
      → glass x y ≡ look_in (columns x y)
