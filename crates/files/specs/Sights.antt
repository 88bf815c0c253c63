-- What is seen of something, by what is answered of it.
use Rattle.std.specs.Prelude.{◌≡◌, ◌≤◌, ◌⊎◌, ◌+◌, ◌==◌, ℕ, Bool, true, false, List, map, length, take}
use Rattle.std.specs.Prelude.{Option, Some, None, IsUtf8}
use Rattle.std.specs.{List.list_any, Str.Lines.lines}
use Rattle.ratatui_files.specs.declared.answer.Answer.{Answer}
use Rattle.ratatui_files.specs.declared.answer.Answer.TheVariants as answer
use Rattle.ratatui_files.specs.declared.answer.Failure.TheVariants.{Other}
use Rattle.files.specs.declared.order.Order.{Order}
use Rattle.files.specs.declared.glance.Sight.{Sight}
use Rattle.files.specs.declared.glance.Sight.TheVariants as sight
use Rattle.files.specs.Names.{text_shown}
use Rattle.files.specs.Sorting.{IsListOf, IsPlaceOf}

-- the lines of a text, each as it is shown
abbrev pub shown_lines : List ℕ → List (List ℕ)
shown_lines text = map text_shown (lines text)

abbrev pub has_nul : List ℕ → Bool
has_nul bytes = list_any (λ b. b == 0) bytes

-- a text is all of some bytes, but for at most three at their end: a character that is cut off
pub record IsTextOf (bytes text : List ℕ) : Type 0 where
  pub front : text ≡ take (length text) bytes
  pub most : length bytes ≤ length text + 3

-- bytes are a text, or no UTF-8
abbrev pub IsTextIn : List ℕ → Option (List ℕ) → Type 0
IsTextIn bytes (Some text) = IsTextOf bytes text
IsTextIn bytes None = IsUtf8 bytes → ⊥

-- the lines of a text
pub record AreShownLinesOf (bytes : List ℕ) (lines : List (List ℕ)) : Type 0 where
  pub text : List ℕ
  pub of_bytes : IsTextOf bytes text
  pub shown : lines ≡ shown_lines text

-- what is seen of a file of so many bytes that begins with these: its lines, if they are text and none is zero;
-- and else how many they are
abbrev pub IsSightOfBytes : ℕ → List ℕ → Sight → Type 0
IsSightOfBytes size bytes (sight.Lines lines) = (has_nul bytes ≡ false) × AreShownLinesOf bytes lines
IsSightOfBytes size bytes (sight.Size n) = (n ≡ size) × ((has_nul bytes ≡ true) ⊎ (IsUtf8 bytes → ⊥))
IsSightOfBytes size bytes s = ⊥

-- what is seen: the entries of a folder, in order, what a file holds, or why nothing is seen
abbrev pub IsSightOf : Order → Bool → ℕ → Answer → Sight → Type 0
IsSightOf order hidden size (answer.Listed entries unnamed) (sight.Entries rows) = IsListOf order hidden entries rows
IsSightOf order hidden size (answer.Read bytes) s = IsSightOfBytes size bytes s
IsSightOf order hidden size (answer.Failed why) s = s ≡ sight.Failed why
IsSightOf order hidden size answer.Done s = s ≡ sight.Failed Other
IsSightOf order hidden size (answer.Time time) s = s ≡ sight.Failed Other
IsSightOf order hidden size a s = ⊥

-- the row of a name in what is seen, or else the first one
abbrev pub IsPlaceIn : List ℕ → Sight → ℕ → Type 0
IsPlaceIn name (sight.Entries rows) place = IsPlaceOf name 0 rows place
IsPlaceIn name s place = place ≡ 0
