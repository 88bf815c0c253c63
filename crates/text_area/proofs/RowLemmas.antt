-- The line after a line.
use Rattle.std.proofs.Common.{ℕ, zero, suc, ◌≡◌, ◌+◌, ◌<◌, ◌≤◌, true, if◌then◌else◌}
use Rattle.std.proofs.Common.{Option, Some, None, IfSome, IfNone, is_some}
use Rattle.std.proofs.Common.{List, [], ◌∷◌, length, take, ap, ◌∙◌, sym, arith}
use Rattle.std.proofs.lemmas.{List.length-take-le}
use Rattle.text_area.specs.Extents.{is_feed}
use Rattle.text_area.specs.Lines.{feeds, nth_start}
use Rattle.text_area.specs.Inner.{BeginsLine}
use Rattle.text_area.proofs.{LineLemmas.start-of, LineLemmas.feeds-le, LineLemmas.count-within, LineLaws.row-of_start}

-- each line begins in the text, or at its end
pub start-le : (n : ℕ) (text : List ℕ) → nth_start n text ≤ length text
start-le zero text = omega arith
start-le (suc i) [] = omega arith
start-le (suc i) (b ∷ text) = let rest = start-le (if is_feed b then i else suc i) text in omega arith

-- the line of a number, if it begins there
pub start-row : (text : List ℕ) (number start : ℕ) → start ≡ nth_start number text → number ≤ feeds text
    → feeds (take start text) ≡ number
start-row text number start is within = ap (λ n. feeds (take n text)) is ∙ row-of_start text number within

module _ (text : List ℕ) (number at : ℕ) (row : feeds (take at text) ≡ number) where
  pub after-some : (o : Option ℕ)
      → IfSome o (λ next. BeginsLine text next × (feeds (take next text) ≡ feeds (take at text) + 1) × (at < next))
      → IfSome o (λ next. next ≡ nth_start (number + 1) text)
  after-some None some = tt
  after-some (Some next) some = start-of text next (number + 1) some.0 (omega (arith, some.1, row))

  pub after-order : (o : Option ℕ) → at ≤ length text
      → IfSome o (λ next. BeginsLine text next × (feeds (take next text) ≡ feeds (take at text) + 1) × (at < next))
      → IfSome o (λ next. number < next)
  after-order None le some = tt
  after-order (Some next) le some =
      omega (arith, some.2, row, count-within (take at text), length-take-le at text le)

  pub after-within : (o : Option ℕ)
      → IfSome o (λ next. BeginsLine text next × (feeds (take next text) ≡ feeds (take at text) + 1) × (at < next))
      → is_some o ≡ true → number < feeds text
  after-within None some is_some = absurd (cc)
  after-within (Some next) some is_some = omega (arith, some.1, row, feeds-le text next)

  pub after-none : (o : Option ℕ) → IfNone o (feeds (take at text) ≡ feeds text) → IfNone o (number ≡ feeds text)
  after-none None none = sym row ∙ none
  after-none (Some next) none = tt
