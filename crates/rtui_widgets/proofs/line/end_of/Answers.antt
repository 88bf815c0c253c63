use Rattle.std.proofs.Common.{ℕ, List, [], ◌≡◌, ◌∷◌, ◌++◌, ◌+◌, ◌≤◌, true, length, take, drop, length-append, sum_by, refl, rules}
use Rattle.std.proofs.Common.{arith, ap, sym, subst, ◌∙◌}
use Rattle.std.proofs.lemmas.{List.append-nil, List.drop_at, List.take_at, List.Sums.sum_by-cons, Str.IsCharBoundary-end}
use Rattle.std.proofs.lemmas.{Str.IsCharBoundary-from_take}
use Rattle.std.specs.{List.concat, Str.IsUtf8, Str.IsCharBoundary}
use Rattle.unicode_segmentation.specs.{Grapheme.graphemes, Iter.graphemes_left}
use Rattle.unicode_segmentation.proofs.SegmentsLemmas.{concat-segments}
use Rattle.rtui_cell.specs.Width.{text_columns}
use Rattle.rtui_widgets.specs.Line.{last_fitting}
use Rattle.rtui_widgets.proofs.LineLemmas.{last_fitting-fits, taken, kept_behind, split-text}
use Rattle.rtui_widgets.proofs.line.end_of.Goals as goal

pub loop-grapheme-init : goal.loop-grapheme-init
loop-grapheme-init c =
    let whole : concat (graphemes true c.args.text.now) ≡ c.args.text.now = concat-segments _ _ c.utf8.text in
    let count : length c.args.text.now ≡ length (concat (graphemes_left c.graphemes-left.result)) =
    sym (ap (λ gs. length (concat gs)) c.graphemes-left.ensures.left ∙ ap length whole) in
    ([], append-nil _ ∙ c.graphemes-left.ensures.left, refl, omega arith, count, IsCharBoundary-end c.args.text.now)

pub returns-then-columns-room : goal.returns-then-columns-room
returns-then-columns-room c =
    let i = c.loop-grapheme.invariant in
    let left : List (List ℕ) = graphemes_left c.loop-grapheme.left in
    let is : left ≡ graphemes_left c.next_back.new.self ++ c.in-Some.grapheme.now ∷ [] = search rules in
    let kept : last_fitting c.args.room (graphemes true c.args.text.now) ≡ i.0 =
    kept_behind c.args.room left _ c.in-Some.grapheme.now i.0 _ is i.1 (omega (arith, i.2, i.3))
    (omega (arith, i.2, i.3, c.if-columns-room.true, c.text_columns-columns.ensures.value)) in
    record {
      content = c.range_from.ensures.value ∙ ap (λ n. drop n c.args.text.now) i.4
          ∙ sym (ap (drop (length (concat left)))
          (split-text c.args.text.now left i.0 (ap concat i.1 ∙ concat-segments _ _ c.utf8.text)))
          ∙ drop_at (concat left) (concat i.0) _ refl ∙ ap concat (sym kept);
      width = i.2 ∙ ap (sum_by text_columns) (sym kept);
      fits = i.3;
    }

pub loop-grapheme-preserved : goal.loop-grapheme-preserved
loop-grapheme-preserved c =
    let i = c.loop-grapheme.invariant in
    let g : List ℕ = c.in-Some.grapheme.now in
    let front : List (List ℕ) = graphemes_left c.next_back.new.self in
    let is : graphemes_left c.loop-grapheme.left ≡ front ++ g ∷ [] = search rules in
    let all : front ++ g ∷ i.0 ≡ graphemes true c.args.text.now = taken front g i.0 _ is ∙ i.1 in
    let width : c.loop-grapheme.width + c.text_columns-columns.result ≡ sum_by text_columns (g ∷ i.0) =
    omega (arith, i.2, c.text_columns-columns.ensures.value, sum_by-cons text_columns g i.0) in
    let shown : c.as_str-start.result.now ≡ concat front = c.as_str-start.ensures in
    let split : concat front ++ concat (g ∷ i.0) ≡ c.args.text.now = split-text c.args.text.now front (g ∷ i.0)
    (ap concat all ∙ concat-segments _ _ c.utf8.text) in
    let front_is : take (length (concat front)) c.args.text.now ≡ concat front = ap (take (length (concat front))) (sym split)
    ∙ take_at (concat front) (concat (g ∷ i.0)) _ refl in
    let within : length (concat front) ≤ length c.args.text.now = omega (
      arith,
      ap length split,
      length-append (concat front)
          (concat (g ∷ i.0)),
    ) in
    let start : length c.as_str-start.result.now ≡ length (concat front) = ap length shown in
    let boundary : IsCharBoundary c.args.text.now (length (concat front)) =
    IsCharBoundary-from_take c.args.text.now (length (concat front)) c.utf8.text within
    (subst IsUtf8 (shown ∙ sym front_is) c.as_str-start.utf8) in (
      g ∷ i.0,
      all,
      width,
      omega (arith, i.3, c.if-columns-room.false),
      start,
      subst (IsCharBoundary c.args.text.now)
          (sym start) boundary,
    )

pub returns-clause-content : goal.returns-clause-content
returns-clause-content c =
    let i = c.loop-grapheme.invariant in
    let none : graphemes_left c.loop-grapheme.left ≡ [] = search rules in
    let all : i.0 ≡ graphemes true c.args.text.now = ap (λ gs. gs ++ i.0) (sym none) ∙ i.1 in
    sym (ap concat (ap (last_fitting c.args.room) (sym all) ∙ last_fitting-fits c.args.room i.0 (omega (arith, i.2, i.3)) ∙ all)
    ∙ concat-segments _ _ c.utf8.text)
