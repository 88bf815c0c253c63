use Rattle.std.proofs.lemmas.{Bool.false≢true, Grind.common_steps, Bool.Decides.nat_tests}
use Rattle.std.proofs.Common.{◌≡◌, ◌∷◌, ◌<◌, ◌≤◌, true, false, length, rules, arith, ◌∙◌, take, drop}
use Rattle.unicode_segmentation.specs.{Grapheme.graphemes, Iter.graphemes_left}
use Rattle.rtui_cell.specs.Width.{text_width}
use Rattle.rtui_text.specs.{Printable.singles, Graphemes.has_control}
use Rattle.rtui_buffer.specs.Painting.{pieces}
use Rattle.rtui_buffer.specs.Painted.{painted}
use Rattle.rtui_buffer.proofs.PaintLemmas.{unmarked-refl}
use Rattle.rtui_widgets.proofs.{PrintableLemmas.shown-front, PrintableLemmas.unmarked-bytes, SpanLemmas.unmarked-next}
use Rattle.rtui_widgets.proofs.SpanLemmas.{shown-first, shown-end, shown-refused, shown-skip, shown-full, shown-turn, shown-short}
use Rattle.rtui_widgets.proofs.span.render_span.Goals as goal

pub loop-grapheme-init : goal.loop-grapheme-init
loop-grapheme-init c =
    let n = c.printable_front-front.result in
    let old = c.args.row.now in
    let some_ : 0 < length old = grind (arith, nat_tests, common_steps) in
    let fits : n ≤ length old = c.printable_front-front.ensures.max in
    let count : length c.paint_printable.new.cells ≡ length old = search rules in
    let tail : c.range_from.result.now ≡ drop n c.args.text.now = search rules in
    let left : graphemes_left c.into_iter-grapheme-iterator.result ≡ graphemes true c.range_from.result.now = cc in
    let is : c.paint_printable.new.cells ≡ painted 0 (pieces c.args.style (singles (take n c.args.text.now))) old =
    search rules in
    record {
      can = search rules;
      ends = search rules;
      some = omega arith;
      within = omega arith;
      shown = rw (left, tail, is) (shown-front c.args.style c.args.text.now n old c.printable_front-front.ensures.front fits);
      marks = rw is (unmarked-bytes c.args.style (take n c.args.text.now) 0 old old (unmarked-refl old));
    }

pub loop-grapheme-preserved-then-has_control : goal.loop-grapheme-preserved-then-has_control
loop-grapheme-preserved-then-has_control c =
    let i = c.loop-grapheme.invariant in
    let is : graphemes_left c.loop-grapheme.grapheme-iterator ≡ c.in-Some.grapheme.now ∷ graphemes_left c.next.new.self =
    search rules in
    record {
      can = search rules;
      ends = search rules;
      some = i.some;
      within = i.within;
      shown = shown-skip _ _ _ _ _ _ _ i.shown _ _ is (cc);
      marks = i.marks;
    }

pub put_next-requires-clause-first : goal.put_next-requires-clause-first
put_next-requires-clause-first c = shown-first _ _ _ _ _ _ _ c.loop-grapheme.invariant.shown

pub returns-then-width-row-clause-ok : goal.returns-then-width-row-clause-ok
returns-then-width-row-clause-ok c =
    let is : graphemes_left c.loop-grapheme.grapheme-iterator ≡ c.in-Some.grapheme.now ∷ graphemes_left c.next.new.self =
    search rules in
    let width : c.from-width.result ≡ text_width c.in-Some.grapheme.now = c.from-width.ensures ∙ c.cell_width.ensures in
    shown-full _ _ _ _ _ _ _ c.loop-grapheme.invariant.shown _ _ is (cc) (omega (arith, width, c.if-width-row.true))

pub returns-in_err-put_next-clause-short : goal.returns-in_err-put_next-clause-short
returns-in_err-put_next-clause-short c = λ short.
    let i = c.loop-grapheme.invariant in
    let is : graphemes_left c.loop-grapheme.grapheme-iterator ≡ c.in-Some.grapheme.now ∷ graphemes_left c.next.new.self =
    search rules in
    let width : c.from-width.result ≡ text_width c.in-Some.grapheme.now = c.from-width.ensures ∙ c.cell_width.ensures in
    absurd (false≢true (c.in_err-put_next.ensures.short (shown-short _ _ _ _ _ _ _ i.shown _ _ is (cc)
    (omega arith) i.within i.some short)))

pub loop-grapheme-preserved : goal.loop-grapheme-preserved
loop-grapheme-preserved c =
    let i = c.loop-grapheme.invariant in
    let is : graphemes_left c.loop-grapheme.grapheme-iterator ≡ c.in-Some.grapheme.now ∷ graphemes_left c.next.new.self =
    search rules in
    let control : has_control c.in-Some.grapheme.now ≡ false = cc in
    let width : c.from-width.result ≡ text_width c.in-Some.grapheme.now = c.from-width.ensures ∙ c.cell_width.ensures in
    let same : length c.put_next.new.row ≡ length c.loop-grapheme.row = search rules in
    record {
      can = search rules;
      ends = search rules;
      some = omega arith;
      within = omega arith;
      shown = rw (width, c.in_ok-put_next.ensures.ok)
          (shown-turn _ _ _ _ _ _ _ i.shown _ _ is control (omega arith) i.within i.some);
      marks = rw c.in_ok-put_next.ensures.ok (unmarked-next _ _ _ _ _ _ i.marks);
    }

pub returns-in_err-put_next-clause-err : goal.returns-in_err-put_next-clause-err
returns-in_err-put_next-clause-err c =
    let left = shown-refused _ _ _ _ _ _ _ c.loop-grapheme.invariant.shown in
    rw c.in_err-put_next.ensures.err (search (rules, left))

pub returns-clause-ok : goal.returns-clause-ok
returns-clause-ok c = shown-end _ _ _ _ _ _ _ c.loop-grapheme.invariant.shown (search rules)
