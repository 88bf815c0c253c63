-- How many rows each line of a text takes: one or more, and one after the last line.
use Rattle.std.proofs.Common.{◌≡◌, ◌<◌, ◌≤◌, ℕ, zero, suc, ◌+◌, ◌-◌, ◌/◌, ◌^◌, Bool, true, false, if◌then◌else◌, min, List, [], ◌∷◌}
use Rattle.std.proofs.Common.{length, refl, ap, ◌∙◌, arith}
use native.Mathlib.Nat.{zero-div}
use Rattle.unicode_segmentation.proofs.Computing.{unicode_segmentation}
use Rattle.pager.specs.declared.sought.Sought.TheVariants.{Plain}
use Rattle.pager.specs.declared.pager.Pager.{Pager}
use Rattle.pager.specs.Search.{numbered_line}
use Rattle.pager.specs.Symbols.{line_symbols, symbols_from}
use Rattle.pager.specs.Places.{breaking, last_start, rows_of_line, stride}

pub some-row : (p : Pager) (line : List ℕ) → 0 < rows_of_line p line
some-row p line = by p.wraps
  where
    by : (b : Bool) → 0 < (if b then min (last_start 0 (line_symbols (Plain []) [] line)) (2 ^ 32 - 1) / stride p + 1 else 1)
    by true = omega arith
    by false = omega arith

pub rows-some : (p : Pager) (line : ℕ) → 0 < breaking p line
rows-some p line = some-row p (numbered_line p.document line)

-- no line is there
line-past : (lines : List (List ℕ)) (k : ℕ) → length lines ≤ k → numbered_line lines k ≡ []
line-past [] k le = refl
line-past (l ∷ ls) zero le = absurd (omega (arith, le))
line-past (l ∷ ls) (suc k) le = line-past ls k (omega (arith, le))

-- and it takes one row
no-symbols : last_start 0 (line_symbols (Plain []) [] []) ≡ 0
unfolding unicode_segmentation symbols_from
no-symbols = refl

row-past : (p : Pager) → rows_of_line p [] ≡ 1
row-past p = by p.wraps
  where
    by : (b : Bool) → (if b then min (last_start 0 (line_symbols (Plain []) [] [])) (2 ^ 32 - 1) / stride p + 1 else 1) ≡ 1
    by true = ap (λ n. min n (2 ^ 32 - 1) / stride p + 1) no-symbols ∙ ap (λ n. n + 1) (zero-div (stride p))
    by false = refl

pub rows-past : (p : Pager) (line : ℕ) → length p.document ≤ line → breaking p line ≡ 1
rows-past p line le = ap (rows_of_line p) (line-past p.document line le) ∙ row-past p
