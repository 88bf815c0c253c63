-- Texts of printable characters of ASCII are narrow.
use Rattle.std.proofs.Common.{◌≡◌, true, ℕ, List, [], ◌∷◌, ◌++◌, length, take, drop, slice_index_or, All}
use Rattle.std.proofs.Common.{refl, sym, ap, subst, ◌∙◌, arith}
use Rattle.std.proofs.lemmas.List.{take_all, drop_all}
use Rattle.std.proofs.lemmas.List.Elements.{All-nil, All-cons}
use Rattle.unicode_segmentation.specs.Grapheme.{graphemes}
use Rattle.rtui_text.specs.{Printable.ArePrintable, Printable.singles, Text.LineData}
use Rattle.rtui_text.proofs.{PrintableLemmas.graphemes-front, GraphemeLemmas.graphemes-empty}
use Rattle.rtui_cell.proofs.WidthLemmas.{one_byte}
use Rattle.rtui_widgets.specs.Graphemes.{EachLineGrapheme}
use Rattle.rtui_text.specs.Graphemes.{EachGrapheme, TakesOneColumn}

narrow-singles : (bs : List ℕ) → All TakesOneColumn (singles bs)
narrow-singles [] = All-nil TakesOneColumn
narrow-singles (b ∷ bs) = All-cons TakesOneColumn (b ∷ []) (singles bs) (λ _. one_byte b) (narrow-singles bs)

-- each of them is a grapheme
pub graphemes-singles : (text : List ℕ) → ArePrintable text → graphemes true text ≡ singles text
graphemes-singles text all =
    let front = graphemes-front text (length text) (record {
      within = omega arith;
      printable = all;
      followed = λ some lt. absurd (omega arith);
    }) in
    let none : graphemes true (drop (length text) text) ≡ [] = rw (drop_all (length text) text (omega arith)) graphemes-empty in
    let whole : take (length text) text ≡ text = take_all (length text) text (omega arith) in
    front ∙ rw (none, whole) (no-more (singles text))
  where
    no-more : (xs : List (List ℕ)) → xs ++ [] ≡ xs
    no-more [] = refl
    no-more (x ∷ xs) = ap (λ ys. x ∷ ys) (no-more xs)

pub printable-narrow : (text : List ℕ) → ArePrintable text → EachGrapheme TakesOneColumn text
printable-narrow text all = subst (All TakesOneColumn) (sym (graphemes-singles text all)) (narrow-singles text)

pub line-narrow : (line : LineData) → All (λ span. ArePrintable span.content) line.spans → EachLineGrapheme TakesOneColumn line
line-narrow line all = λ k d lt wide. printable-narrow (slice_index_or line.spans k d).content (all k d lt)
