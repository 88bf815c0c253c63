use Rattle.std.proofs.Common.{◌≡◌, false, true, ◌+◌, ◌∙◌, sym, refl, drop, arith}
use Rattle.widget_boxes.specs.{Titles.from_left, Boxes.lines_placed}
use Rattle.widget_boxes.proofs.TitleLemmas.{lines-next, left-next, rest-inside, title-within}
use Rattle.widget_boxes.proofs.ShortLemmas.{short-at}
use Rattle.widget_boxes.proofs.block.Block.render_from_left.Goals as goal

pub loop-title-preserved : goal.loop-title-preserved
loop-title-preserved c =
    let lines = lines-next c.args.self.now c.args.position c.args.alignment c.as_slice-title-items.result.now
    c.loop-title.title-index c.title-item.result c.loop-title-test.true c.title-item.is
    (sym c.is_placed.ensures ∙ c.if-not-is_placed.false) in
    record {
      within = title-within c.args.row c.loop-title.left c.min.result c.args.buf.now c.loop-title.buf c.render_title.new.buf
          (omega (arith, c.min.ensures)) c.loop-title.invariant.inside c.loop-title.invariant.within
          c.render_title.ensures.within;
      inside = λ p h. c.loop-title.invariant.inside p (rest-inside (c.columns_of-columns.result + 1) c.loop-title.left p
          (rw c.after_title-left.ensures at h));
      rest = left-next c.args.self.now.titles_style c.loop-title.left c.after_title-left.result _ c.title-item.result.line
          (lines_placed c.args.self.now c.args.position c.args.alignment
          (drop c.loop-title.title-index c.as_slice-title-items.result.now))
          (lines_placed c.args.self.now c.args.position c.args.alignment
          (drop (c.loop-title.title-index + 1) c.as_slice-title-items.result.now))
          (from_left c.args.row (lines_placed c.args.self.now c.args.position c.args.alignment c.args.self.now.titles.items))
          c.args.buf.now c.loop-title.buf c.render_title.new.buf lines (omega arith)
          (rw (c.min.ensures, c.columns_of-columns.ensures) refl) (c.after_title-left.ensures
          ∙ rw c.columns_of-columns.ensures refl) c.loop-title.invariant.rest c.in_ok-render_title.ensures.ok;
    }

pub returns-in_err-render_title-clause-short : goal.returns-in_err-render_title-clause-short
returns-in_err-render_title-clause-short c = λ short.
    let no : false ≡ true = c.in_err-render_title.ensures.short
    (short-at c.args.self.now c.as_slice-title-items.result.now c.loop-title.title-index c.title-item.result
    c.as_slice-title-items.ensures.value c.loop-title-test.true c.title-item.is short) in
    absurd (cc)

pub returns-in_err-render_title-clause-within : goal.returns-in_err-render_title-clause-within
returns-in_err-render_title-clause-within c =
    title-within c.args.row c.loop-title.left c.min.result c.args.buf.now c.loop-title.buf c.render_title.new.buf
    (omega (arith, c.min.ensures)) c.loop-title.invariant.inside c.loop-title.invariant.within
    c.in_err-render_title.ensures.within
