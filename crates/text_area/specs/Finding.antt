-- Where a pattern occurs in a text, and what is selected there.
use Rattle.std.specs.Prelude.{ℕ, ◌+◌, ◌<◌, ◌≤◌, List, length, Some, None}
use Rattle.std.specs.Str.{IsCharBoundary}
use Rattle.std.specs.Str.Pattern.{HasTextAt, LacksTextAt}
use Rattle.text_area.specs.Journals.{moved_cursor}
use Rattle.text_area.specs.Areas.{AreaData, area_of}

-- where it occurs first from a byte on
pub record IsFirstFrom (pattern text : List ℕ) (from at : ℕ) : Type 0 where
  pub after : from ≤ at
  pub start : IsCharBoundary text at
  pub occurs : HasTextAt pattern text at (at + length pattern)
  pub first : (k : ℕ) → from ≤ k → k < at → LacksTextAt pattern text k

-- it doesn't occur from there on
abbrev pub IsNowhereFrom : List ℕ → List ℕ → ℕ → Type 0
IsNowhereFrom pattern text from = (k : ℕ) → from ≤ k → k ≤ length text → LacksTextAt pattern text k

-- where it occurs last before a byte, and ends before it
pub record IsLastBefore (pattern text : List ℕ) (to at : ℕ) : Type 0 where
  pub before : at + length pattern ≤ to
  pub start : IsCharBoundary text at
  pub occurs : HasTextAt pattern text at (at + length pattern)
  pub last : (k : ℕ) → at < k → k + length pattern ≤ to → LacksTextAt pattern text k

-- it doesn't occur before that
abbrev pub IsNowhereBefore : List ℕ → List ℕ → ℕ → Type 0
IsNowhereBefore pattern text to = (k : ℕ) → k + length pattern ≤ to → LacksTextAt pattern text k

-- a part of the text is selected, with the cursor at its end
abbrev pub part_selected : ℕ → ℕ → AreaData → AreaData
part_selected from to a = area_of (moved_cursor to a.journal) (Some from) None a.killed a.page
