-- Words that only private contracts use: they follow the code.
use Rattle.std.specs.Prelude.{ℕ, Option, Some, None, ◌≡◌, ◌≤◌, nat_le, Bool, true, false, List, ⊤}
use Rattle.regex.specs.Patterns.{Re}
use Rattle.pager.specs.Patterns.{pattern_of, span_from}
use Rattle.pager.specs.declared.finder.Ahead.{Ahead}
use Rattle.pager.specs.declared.sought.Sought.{Sought}
use Rattle.pager.specs.declared.sought.Sought.TheVariants.{Plain, Pattern}
use Rattle.pager.specs.declared.pager.Pager.{Pager}
use Rattle.pager.specs.Moves.{at_size}
use Rattle.ratatui_core.specs.Buffer.{BufferData}
use Rattle.pager.specs.Symbols.{LineSymbol, is_in_view}
use Rattle.pager.specs.declared.view.View.{View}
use Rattle.pager.specs.Pages.{PaintsSymbol}

-- a pager at a size that was told, if one was
abbrev pub at_told_size : Option (ℕ × ℕ) → Pager → Pager
at_told_size (Some size) p = at_size size p
at_told_size None p = p

-- a symbol is painted, or nothing, if it isn't in view
abbrev pub PaintsIf : Bool → ℕ → ℕ → View → LineSymbol → BufferData → BufferData → Type 0
PaintsIf true x y v s old new = PaintsSymbol x y v s old new
PaintsIf false x y v s old new = new ≡ old

abbrev pub PaintsIfInView : ℕ → ℕ → View → LineSymbol → BufferData → BufferData → Type 0
PaintsIfInView x y v s old new = PaintsIf (is_in_view v s) x y v s old new

-- a match begins at a byte or after it, if there is one
abbrev pub reaches : ℕ → Option (ℕ × ℕ) → Bool
reaches at None = true
reaches at (Some (start, end)) = nat_le at start

-- a first match is known from a byte at or before one on, if something is known
abbrev pub IsAheadIn : Re → List ℕ → ℕ → Option Ahead → Type 0
IsAheadIn re line at None = ⊤
IsAheadIn re line at (Some a) = (a.from ≤ at) × (a.span ≡ span_from re line a.from)

abbrev pub IsAheadIf : Option Re → List ℕ → ℕ → Option Ahead → Type 0
IsAheadIf None line at ahead = ⊤
IsAheadIf (Some re) line at ahead = IsAheadIn re line at ahead

abbrev pub IsKnownAhead : Sought → List ℕ → ℕ → Option Ahead → Type 0
IsKnownAhead (Plain text) line at ahead = ⊤
IsKnownAhead (Pattern text) line at ahead = IsAheadIf (pattern_of text) line at ahead
