-- Texts that take at most one column, and no memory in a cell.
use Rattle.std.specs.Prelude.{◌≡◌, ℕ, ◌≤◌, Bool, true, ◌&&◌, nat_le, List, length}
use Rattle.std.specs.List.{list_all}
use Rattle.rtui_cell.specs.Width.{text_width}

-- a text of at most one column that a cell holds without memory
pub record IsNarrow (text : List ℕ) : Type 0 where
  pub columns : text_width text ≤ 1
  pub memory : length text ≤ 22

-- the same as a test
abbrev pub is_narrow : List ℕ → Bool
is_narrow text = nat_le (text_width text) 1 && nat_le (length text) 22

-- each of these texts is one
abbrev pub AreNarrowTexts : List (List ℕ) → Type 0
AreNarrowTexts texts = list_all is_narrow texts ≡ true
