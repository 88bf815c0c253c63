use Rattle.std.proofs.Common.{ℕ, List, [], ◌≡◌, ◌∷◌, ◌++◌, ◌+◌, ◌≤◌, true, length, take, length-append, sum_by, refl, rules}
use Rattle.std.proofs.Common.{arith, ap, sym, subst, ◌∙◌, inl, inr}
use Rattle.std.proofs.lemmas.{List.append-nil, List.take_at, List.Sums.sum_by-cons, Str.IsCharBoundary-end, Str.IsCharBoundary-from_take}
use Rattle.std.proofs.lemmas.{List.Folds.concat-append}
use Rattle.std.specs.{List.concat, Str.IsUtf8, Str.IsCharBoundary}
use Rattle.unicode_segmentation.specs.{Grapheme.graphemes, Iter.graphemes_left}
use Rattle.unicode_segmentation.proofs.SegmentsLemmas.{concat-segments}
use Rattle.ratatui_core.specs.Buffer.{text_width}
use Rattle.widget_field.proofs.ViewLemmas.{view-stopped, view-whole, kept-more, stays-by, stays-next}
use Rattle.widget_field.proofs.view.start_beside.Goals as goal

pub walk-init : goal.walk-init
walk-init c =
    let whole : concat (graphemes true c.args.text.now) ≡ c.args.text.now = concat-segments _ _ c.utf8.text in
    let count : length c.args.text.now ≡ length (concat (graphemes_left c.graphemes-left.result)) =
    sym (ap (λ gs. length (concat gs)) c.graphemes-left.ensures.left ∙ ap length whole) in
    ([], append-nil _ ∙ c.graphemes-left.ensures.left, refl, omega arith, count, IsCharBoundary-end c.args.text.now, inr (inl refl))

pub returns-then-columns-room-clause-view : goal.returns-then-columns-room-clause-view
returns-then-columns-room-clause-view c =
    let i = c.walk.invariant in
    let is : graphemes_left c.walk.left ≡ graphemes_left c.next_back.new.self ++ c.in-Some.grapheme.now ∷ [] = search rules in
    view-stopped _ _ _ _ _ _ _ _ _ is i.1 i.4 (omega (arith, i.2, i.3)) (stays-by _ _ _ _ _ _ i.2 i.6)
    (inl (omega (arith, i.2, i.3, c.if-columns-room.true, c.cell_width-columns.ensures)))

pub returns-then-stays_hidden-clause-view : goal.returns-then-stays_hidden-clause-view
returns-then-stays_hidden-clause-view c =
    let i = c.walk.invariant in
    let is : graphemes_left c.walk.left ≡ graphemes_left c.next_back.new.self ++ c.in-Some.grapheme.now ∷ [] = search rules in
    let at : c.as_str-at.result.now ≡ concat (graphemes_left c.next_back.new.self) = c.as_str-at.ensures in
    let off = c.stays_hidden.ensures.hidden c.if-stays_hidden.true in
    view-stopped _ _ _ _ _ _ _ _ _ is i.1 i.4 (omega (arith, i.2, i.3)) (stays-by _ _ _ _ _ _ i.2 i.6)
    (inr (omega (arith, ap length at, off.0), omega (arith, i.2, i.3, c.if-columns-room.false, c.cell_width-columns.ensures, off.1)))

pub returns-clause-view : goal.returns-clause-view
returns-clause-view c =
    let i = c.walk.invariant in
    let none : graphemes_left c.walk.left ≡ [] = search rules in
    view-whole _ _ _ _ _ _ _ none i.1 i.4 (omega (arith, i.2, i.3)) (stays-by _ _ _ _ _ _ i.2 i.6)

pub walk-preserved : goal.walk-preserved
walk-preserved c =
    let i = c.walk.invariant in
    let g : List ℕ = c.in-Some.grapheme.now in
    let front : List (List ℕ) = graphemes_left c.next_back.new.self in
    let is : graphemes_left c.walk.left ≡ front ++ g ∷ [] = search rules in
    let all : front ++ (g ∷ i.0) ≡ graphemes true c.args.text.now = kept-more _ front i.0 _ g is i.1 in
    let width : c.walk.used + c.cell_width-columns.result ≡ sum_by text_width (g ∷ i.0) =
    omega (arith, i.2, c.cell_width-columns.ensures, sum_by-cons text_width g i.0) in
    let shown : c.as_str-at.result.now ≡ concat front = c.as_str-at.ensures in
    let split : concat front ++ concat (g ∷ i.0) ≡ c.args.text.now =
    sym (concat-append front (g ∷ i.0)) ∙ ap concat all ∙ concat-segments _ _ c.utf8.text in
    let front_is : take (length (concat front)) c.args.text.now ≡ concat front = ap (take (length (concat front))) (sym split)
    ∙ take_at (concat front) (concat (g ∷ i.0)) _ refl in
    let within : length (concat front) ≤ length c.args.text.now =
    omega (arith, ap length split, length-append (concat front) (concat (g ∷ i.0))) in
    let start : length c.as_str-at.result.now ≡ length (concat front) = ap length shown in
    let boundary : IsCharBoundary c.args.text.now (length (concat front)) =
    IsCharBoundary-from_take c.args.text.now (length (concat front)) c.utf8.text within
    (subst IsUtf8 (shown ∙ sym front_is) c.as_str-at.utf8) in (
      g ∷ i.0,
      all,
      width,
      omega (arith, i.3, c.if-columns-room.false),
      start,
      subst (IsCharBoundary c.args.text.now) (sym start) boundary,
      stays-next _ _ _ _ _ _ _ _ _ c.stays_hidden.ensures.shown c.if-stays_hidden.false
          (omega (arith, c.if-columns-room.false)) (omega (arith, i.3)),
    )
