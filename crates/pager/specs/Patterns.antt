-- Regular expressions that are typed: which texts are some, and what they match.
use Rattle.std.specs.Prelude.{ℕ, Bool, not, ◌||◌, ◌==◌, nat_lt, nat_le, ◌-◌, if◌then◌else◌, List, chars, IsSomeAnd}
use Rattle.std.specs.Prelude.{Option, Some, None, is_some, false, option_map}
use Rattle.std.specs.{Char.is_ascii_uppercase, List.list_any}
use Rattle.std.specs.Str.{byte}
use Rattle.regex.specs.Patterns.{Re, Config, SameCaptures, default_config, find_str, span}
use Rattle.regex_syntax.specs.Brackets.{Nested}
use Rattle.regex_syntax.specs.Grammar.{Names, read}

-- one of the letters A to Z stands in a text
abbrev pub has_capital : List ℕ → Bool
has_capital text = list_any is_ascii_uppercase (chars text)

-- a character that means something in a regular expression, there where any character may stand
abbrev pub is_operator : ℕ → Bool
is_operator c =
    (c == byte "\\") || (c == byte ".") || (c == byte "+") || (c == byte "*") || (c == byte "?") || (c == byte "(")
    || (c == byte ")") || (c == byte "[") || (c == byte "{") || (c == byte "|") || (c == byte "^") || (c == byte "$")

abbrev pub has_operator : List ℕ → Bool
has_operator text = list_any is_operator (chars text)

-- a text in which no character means anything but itself
abbrev pub is_literal : List ℕ → Bool
is_literal text = not (has_operator text)

-- how a text is read as a regular expression: the case of letters counts only if a capital stands in it
abbrev pub typed_config : List ℕ → Config
typed_config text = record default_config {
  flags = record default_config.flags { case_insensitive = not (has_capital text) };
}

-- what is read, if it isn't nested too deep
abbrev pub shallow : Option (Nested Re × Names) → Option Re
shallow None = None
shallow (Some (re, names)) = if nat_le re.depth default_config.nest_limit then Some re.value else None

-- the regular expression that a text is, if it is one
unfoldable pub pattern_of : List ℕ → Option Re
pattern_of text = shallow (read (typed_config text) (chars text))

-- a regular expression matches what a text does that is one
abbrev pub IsPatternOf : List ℕ → Re → Type 0
IsPatternOf text re = IsSomeAnd (pattern_of text) (SameCaptures re)

-- a regular expression has a match in a line; if there is none, no line has one
abbrev pub has_found : Option Re → List ℕ → Bool
has_found None line = false
has_found (Some re) line = is_some (find_str re line 0)

-- where the first match of a line begins and ends, from a byte on
abbrev pub span_from : Re → List ℕ → ℕ → Option (ℕ × ℕ)
span_from re line at = option_map span (find_str re line at)

-- how many bytes a match has that begins at a byte; 0 if it begins elsewhere
abbrev pub begun_at : ℕ → Option (ℕ × ℕ) → ℕ
begun_at at None = 0
begun_at at (Some (start, end)) = if start == at then end - at else 0

-- how many bytes the match has that begins at a byte of a line, if one does
abbrev pub match_at : Option Re → List ℕ → ℕ → ℕ
match_at None line at = 0
match_at (Some re) line at = begun_at at (span_from re line at)
