use Rattle.std.proofs.Common.{◌≡◌, ◌+◌, ◌∙◌, sym, ap, refl, subst, drop, min, arith}
use Rattle.ratatui_core.specs.declared.layout.HorizontalAlignment.TheVariants.{Center}
use Rattle.widget_boxes.specs.Titles.{title_at, from_outside, aligned, side_of, shown_width, RendersTitle}
use Rattle.widget_boxes.specs.Boxes.{lines_placed}
use Rattle.widget_boxes.proofs.TitleLemmas.{lines-next, outside-next, rest-inside, title-within}
use Rattle.widget_boxes.proofs.block.Block.render_cut.Goals as goal

pub returns-in_err-render_title-clause-within : goal.returns-in_err-render_title-clause-within
returns-in_err-render_title-clause-within c =
    title-within c.args.row c.loop-title.left c.saturating_sub-width.result c.args.buf.now c.loop-title.buf c.render_title.new.buf
    (omega (arith, c.min.ensures, c.saturating_sub-width.ensures)) c.loop-title.invariant.inside
    c.loop-title.invariant.within c.in_err-render_title.ensures.within

pub loop-title-preserved : goal.loop-title-preserved
loop-title-preserved c =
    let lines = lines-next c.args.self.now c.args.position Center c.as_slice-title-items.result.now c.loop-title.title-index
    c.title-item.result c.loop-title-test.true c.title-item.is
    (sym c.is_placed.ensures ∙ c.if-not-is_placed.false) in
    let line : c.alignment-line.result ≡ aligned (side_of c.loop-title.offset) c.title-item.result.line = c.alignment-line.ensures
    ∙ rw (c.in_ok-clone.ensures.value, c.side_of.ensures) refl in
    record {
      within = title-within c.args.row c.loop-title.left c.saturating_sub-width.result c.args.buf.now c.loop-title.buf
          c.render_title.new.buf (omega (arith, c.min.ensures, c.saturating_sub-width.ensures)) c.loop-title.invariant.inside
          c.loop-title.invariant.within c.render_title.ensures.within;
      inside = λ p h. c.loop-title.invariant.inside p (rest-inside (c.saturating_sub-width.result + 1) c.loop-title.left p
          (rw c.after_title-left.ensures at h));
      rest = outside-next c.args.self.now.titles_style c.loop-title.left c.after_title-left.result
          (record c.loop-title.left { width = c.saturating_sub-width.result }) c.title-item.result.line
          (lines_placed c.args.self.now c.args.position Center (drop c.loop-title.title-index c.as_slice-title-items.result.now))
          (lines_placed c.args.self.now c.args.position Center
          (drop (c.loop-title.title-index + 1) c.as_slice-title-items.result.now))
          (from_outside c.args.excess c.args.row
          (lines_placed c.args.self.now c.args.position Center c.args.self.now.titles.items)) c.args.buf.now c.loop-title.buf
          c.render_title.new.buf lines (omega arith)
          c.loop-title.offset c.saturating_sub-offset.result
          (let n : c.saturating_sub-width.result ≡ min
          (shown_width c.loop-title.offset c.loop-title.left c.title-item.result.line) c.loop-title.left.width =
          omega (arith, c.min.ensures, c.saturating_sub-width.ensures, c.columns_of.ensures) in
          ap (λ w. record c.loop-title.left { width = w }) n) (c.after_title-left.ensures
          ∙ rw (c.saturating_sub-width.ensures, c.min.ensures, c.columns_of.ensures) refl)
          (rw (
            c.saturating_sub-offset.ensures,
            c.saturating_sub.ensures,
            c.saturating_sub-width.ensures,
            c.min.ensures,
            c.columns_of.ensures,
          ) refl) c.loop-title.invariant.rest
          (subst (λ q. RendersTitle c.args.self.now.titles_style
          (title_at q (record c.loop-title.left { width = c.saturating_sub-width.result })) c.loop-title.buf
          c.render_title.new.buf) line c.in_ok-render_title.ensures.ok);
    }
