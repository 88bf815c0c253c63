-- What private functions promise one another.
use Rattle.std.specs.Prelude.{◌≡◌, ◌≢◌, ℕ, ◌-◌, ◌<◌, ◌≤◌, Bool, true, ◌&&◌, nat_le, nat_lt}
use Rattle.std.specs.Prelude.{List, length, slice_index}
use Rattle.std.specs.Str.{IsCharBoundary}
use Rattle.rtui_text.specs.Printable.{IsPrintable}
use Rattle.text_area.specs.Extents.{is_gap}
use Rattle.text_area.specs.declared.runs.Run.{Run}
use Rattle.text_area.specs.declared.runs.Run.TheVariants as run
use Rattle.text_area.specs.declared.kept.KeptLine.{KeptLine}

-- a byte of a run
abbrev pub in_run : Run → ℕ → Bool
in_run run.Gap b = is_gap b
in_run run.Printable b = nat_le 0x20 b && nat_lt b 0x7F

-- a line begins at a place
pub record BeginsLine (text : List ℕ) (start : ℕ) : Type 0 where
  pub boundary : IsCharBoundary text start
  pub feed : 0 < start → slice_index text (start - 1) ≡ 10

-- a line of a text that is kept: it begins and ends there, and if it is said to be plain, it has nothing but
-- printable characters of ASCII
pub record IsKept (text : List ℕ) (line : KeptLine) : Type 0 where
  pub begins : BeginsLine text line.start
  pub order : line.start ≤ line.end
  pub boundary : IsCharBoundary text line.end
  pub feed : line.end < length text → slice_index text line.end ≡ 10
  pub none : (k : ℕ) → line.start ≤ k → k < line.end → slice_index text k ≢ 10
  pub plain : line.is_plain ≡ true → (k : ℕ) → line.start ≤ k → k < line.end → IsPrintable (slice_index text k)
