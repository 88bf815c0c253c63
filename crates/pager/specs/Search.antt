-- Which lines have what is sought.
use Rattle.std.specs.Prelude.{◌≡◌, ◌<◌, ◌≤◌, ℕ, zero, suc, Bool, true, false, ◌&&◌, ◌||◌, ◌==◌, nat_lt, if◌then◌else◌, List, []}
use Rattle.std.specs.Prelude.{◌∷◌, ◌++◌, map, length, take, drop, slice_index_or, Option, Some, None, option_map}
use Rattle.std.specs.{List.starts_with, List.position_from}
use Rattle.std.specs.Str.{str_eq_ignore_ascii_case}
use Rattle.pager.specs.Patterns.{is_literal, pattern_of, has_found}
pub use Rattle.pager.specs.Patterns.{has_capital}
use Rattle.pager.specs.declared.sought.Sought.{Sought}
use Rattle.pager.specs.declared.sought.Sought.TheVariants.{Plain, Pattern}

-- a text begins with another; a capital counts as a small letter, unless a capital is sought
abbrev pub begins_with : List ℕ → List ℕ → Bool
begins_with pattern text =
    if has_capital pattern then starts_with ◌==◌ text pattern
    else str_eq_ignore_ascii_case pattern (take (length pattern) text)

-- a text stands somewhere in another
unfoldable pub occurs : List ℕ → List ℕ → Bool
occurs pattern [] = begins_with pattern []
occurs pattern (b ∷ bs) = begins_with pattern (b ∷ bs) || occurs pattern bs

-- what a text seeks: itself, if no character of it means anything else, and else the matches of the regular
-- expression that it is, if it is one
abbrev pub sought_by : List ℕ → Option Sought
sought_by text = if is_literal text then Some (Plain text) else option_map (λ re. Pattern text) (pattern_of text)

-- the text is sought as a regular expression, if there is what finds its matches
abbrev pub sought_if : {M : Type 0} → Option M → List ℕ → Sought
sought_if None text = Plain text
sought_if (Some m) text = Pattern text

-- the text of what is sought
abbrev pub text_of_sought : Sought → List ℕ
text_of_sought (Plain text) = text
text_of_sought (Pattern text) = text

-- a line has what is sought; if nothing is sought none has it
abbrev pub has_match : Sought → List ℕ → Bool
has_match (Plain text) line = nat_lt 0 (length text) && occurs text line
has_match (Pattern text) line = has_found (pattern_of text) line

-- a line by its number, and after the end an empty one
abbrev pub numbered_line : List (List ℕ) → ℕ → List ℕ
numbered_line lines k = slice_index_or lines k []

-- the first line from one on that has what is sought
abbrev pub next_match : Sought → List (List ℕ) → ℕ → Option ℕ
next_match sought lines from = position_from (has_match sought) from (drop from lines)

-- the last line before one that has it
unfoldable pub last_match : Sought → List (List ℕ) → ℕ → Option ℕ
last_match sought lines zero = None
last_match sought lines (suc k) =
    if has_match sought (numbered_line lines k) then Some k else last_match sought lines k

-- line k has what is sought, and from a line on none before it has
pub record IsFirstMatch (sought : Sought) (lines : List (List ℕ)) (from k : ℕ) : Type 0 where
  pub reached : from ≤ k
  pub has : has_match sought (numbered_line lines k) ≡ true
  pub none : (j : ℕ) → from ≤ j → j < k → has_match sought (numbered_line lines j) ≡ false

-- line k has what is sought, and before a line none after it has
pub record IsLastMatch (sought : Sought) (lines : List (List ℕ)) (before k : ℕ) : Type 0 where
  pub reached : k < before
  pub has : has_match sought (numbered_line lines k) ≡ true
  pub none : (j : ℕ) → k < j → j < before → has_match sought (numbered_line lines j) ≡ false

-- the numbers of those of the first lines that have what is sought
unfoldable pub matching : Sought → List (List ℕ) → ℕ → List ℕ
matching sought lines zero = []
matching sought lines (suc k) =
    if has_match sought (numbered_line lines k) then matching sought lines k ++ k ∷ []
    else matching sought lines k

-- the lines of these numbers
abbrev pub picked : List (List ℕ) → List ℕ → List (List ℕ)
picked lines numbers = map (numbered_line lines) numbers
