-- Numbers of lines that are kept.
use Rattle.std.proofs.Common.{ℕ, ◌≡◌, ◌+◌, ◌-◌, ◌≤◌, List, ◌++◌, length, take, drop, cond, min}
use Rattle.std.proofs.Common.{refl, ap, sym, ◌∙◌, arith, slice_range, length-append}
use Rattle.std.proofs.lemmas.{List.take_all, List.length-take-le, List.Sums.sum_by-append, List.take_at}
use Rattle.std.proofs.lemmas.{List.take-append-drop}
use Rattle.std.proofs.lemmas.{Str.IsCharBoundary-start}
use Rattle.std.specs.{List.replace_range, Str.IsUtf8}
use Rattle.unicode_segmentation.proofs.TextLemmas.{take_split}
use Rattle.text_area.specs.Extents.{is_feed}
use Rattle.text_area.specs.Lines.{feeds, nth_start}
use Rattle.text_area.specs.Inner.{BeginsLine}
use Rattle.text_area.proofs.LineLemmas.{feeds-le, count-within}

feeds-append : (xs ys : List ℕ) → feeds (xs ++ ys) ≡ feeds xs + feeds ys
feeds-append xs ys = sum_by-append (λ y. cond (is_feed y) 1 0) xs ys

-- the line feeds between two places
pub feeds-forth : (text : List ℕ) (from at row n : ℕ) → from ≤ at → row ≡ feeds (take from text)
    → n ≡ feeds (slice_range text from at) → row + n ≡ feeds (take at text)
feeds-forth text from at row n le is part =
    omega (
      arith,
      is,
      part,
      ap feeds (take_split text from at le),
      feeds-append (take from text) (slice_range text from at),
    )

pub feeds-back : (text : List ℕ) (from at row n : ℕ) → at ≤ from → row ≡ feeds (take from text)
    → n ≡ feeds (slice_range text at from) → row - n ≡ feeds (take at text)
feeds-back text from at row n le is part = omega (arith, feeds-forth text at from _ n le refl part, is)

pub back-le : (text : List ℕ) (from at row n : ℕ) → at ≤ from → row ≡ feeds (take from text)
    → n ≡ feeds (slice_range text at from) → n ≤ row
back-le text from at row n le is part = omega (arith, feeds-forth text at from _ n le refl part, is)

-- no more than the text has bytes
pub kept-le : (text : List ℕ) (at n : ℕ) → n ≡ feeds (take at text) → n ≤ length text
kept-le text at n is = omega (arith, is, feeds-le text at, count-within text)

pub ruleset kept_rules = (feeds-forth, feeds-back, back-le, kept-le)

-- the text begins with a line
pub begins-first : (text : List ℕ) → IsUtf8 text → BeginsLine text 0
begins-first text utf8 = record {
  boundary = IsCharBoundary-start text utf8;
  feed = λ some. absurd (omega (arith, some));
}

pub row-end : (text : List ℕ) (start last : ℕ) → feeds (take start text) ≡ feeds (take (length text) text)
    → last ≡ feeds text → feeds (take start text) ≡ last
row-end text start last is all = is ∙ ap feeds (take_all (length text) text (omega arith)) ∙ sym all

-- the line so many above another, or below
pub line-above : (text : List ℕ) (start row n line r : ℕ) → feeds (take start text) ≡ row → row ≡ line + n
    → r ≡ nth_start (feeds (take start text) - n) text → r ≡ nth_start line text
line-above text start row n line r here far is = is ∙ ap (λ m. nth_start m text) (omega (arith, here, far))

pub line-below : (text : List ℕ) (start row n line r : ℕ) → feeds (take start text) ≡ row → line ≡ row + n
    → line ≤ feeds text → r ≡ nth_start (min (feeds (take start text) + n) (feeds text)) text
    → r ≡ nth_start line text
line-below text start row n line r here far within is =
    is ∙ ap (λ m. nth_start m text) (omega (arith, here, far, within))

pub ruleset near_rules = (begins-first, row-end)

-- a part gives way to a piece
pub replaced-row : (text new piece : List ℕ) (from to row more : ℕ) → from ≤ length text
    → new ≡ replace_range text from to piece → row ≡ feeds (take from text) → more ≡ feeds piece
    → row + more ≡ feeds (take (from + length piece) new)
replaced-row text new piece from to row more le is front part =
    let size : length (take from text ++ piece) ≡ from + length piece =
    omega (arith, length-append (take from text) piece, length-take-le from text le) in
    omega (
      arith,
      front,
      part,
      ap feeds (ap (take (from + length piece)) is ∙ take_at (take from text ++ piece) (drop to text) _ size),
      feeds-append (take from text) piece,
    )

pub replaced-last : (text new piece : List ℕ) (from to last gone more : ℕ) → from ≤ to → to ≤ length text
    → new ≡ replace_range text from to piece → last ≡ feeds text → gone ≡ feeds (slice_range text from to)
    → more ≡ feeds piece → last - gone + more ≡ feeds new
replaced-last text new piece from to last gone more order le is all part piece-part =
    let whole : feeds text ≡ feeds (take to text) + feeds (drop to text) =
    ap feeds (sym (take-append-drop to text)) ∙ feeds-append (take to text) (drop to text) in
    let front : feeds (take from text) + gone ≡ feeds (take to text) =
    feeds-forth text from to _ gone order refl part in
    omega (
      arith,
      whole,
      front,
      all,
      piece-part,
      ap feeds is,
      feeds-append (take from text ++ piece) (drop to text),
      feeds-append (take from text) piece,
    )

pub gone-le : (text : List ℕ) (from to last gone : ℕ) → from ≤ to → last ≡ feeds text
    → gone ≡ feeds (slice_range text from to) → gone ≤ last
gone-le text from to last gone order all part =
    omega (arith, all, feeds-forth text from to _ gone order refl part, feeds-le text to)
