use Rattle.std.proofs.Common.{◌≡◌, false, true, ◌+◌, ◌-◌, ◌∙◌, ◌∷◌, sym, ap, refl, subst, take, reverse, arith}
use Rattle.ratatui_core.specs.declared.layout.HorizontalAlignment.TheVariants.{Right}
use Rattle.ratatui_core.proofs.{BufferLemmas.within-wider, WidgetLemmas.within-then}
use Rattle.widget_boxes.specs.{Titles.title_width, Titles.from_right, Titles.last_columns, Boxes.lines_placed}
use Rattle.widget_boxes.proofs.TitleLemmas.{lines-before, right-next, last-inside, front-inside}
use Rattle.widget_boxes.proofs.ShortLemmas.{short-at}
use Rattle.widget_boxes.proofs.block.Block.render_right_titles.Goals as goal

pub loop-k-preserved : goal.loop-k-preserved
loop-k-preserved c =
    let before = lines-before c.args.self.now c.args.position Right c.as_slice-titles.result.now
    (c.loop-k.k - 1) c.index-titles-k.result (omega (arith, c.as_slice-titles.ensures.len)) c.index-titles-k.is
    (sym c.is_placed.ensures ∙ c.if-not-is_placed.false) in
    let next : c.loop-k.k - 1 + 1 ≡ c.loop-k.k = omega arith in
    let lines = subst (λ k. lines_placed c.args.self.now c.args.position Right
    (reverse (take k c.as_slice-titles.result.now)) ≡ c.index-titles-k.result.line ∷ lines_placed c.args.self.now
    c.args.position Right (reverse (take (c.loop-k.k - 1) c.as_slice-titles.result.now))) next before in
    let less : c.saturating_sub-in-loop-k.result ≡ c.loop-k.left.width - (title_width c.index-titles-k.result.line + 1) =
    omega (arith, c.saturating_sub.ensures, c.saturating_sub-in-loop-k.ensures, c.columns_of-columns.ensures) in
    let fewer : c.saturating_sub-in-loop-k.result ≡ c.loop-k.left.width - (c.columns_of-columns.result + 1) =
    omega (arith, c.saturating_sub.ensures, c.saturating_sub-in-loop-k.ensures) in
    record {
      within = within-then c.args.row c.args.buf.now c.loop-k.buf c.render_title.new.buf c.loop-k.invariant.within
          (within-wider (last_columns c.columns_of-columns.result c.loop-k.left) c.args.row c.loop-k.buf c.render_title.new.buf
          (λ p h. c.loop-k.invariant.inside p (last-inside c.columns_of-columns.result c.loop-k.left p h))
          (rw c.min-width.ensures at c.render_title.ensures.within));
      inside = λ p h. c.loop-k.invariant.inside p (front-inside (c.columns_of-columns.result + 1) c.loop-k.left p
          (rw fewer at h));
      fits = (let was = c.loop-k.invariant.fits in omega (arith, fewer));
      rest = right-next c.args.self.now.titles_style c.loop-k.left
          (record c.loop-k.left { width = c.saturating_sub-in-loop-k.result }) _ c.index-titles-k.result.line
          (lines_placed c.args.self.now c.args.position Right (reverse (take c.loop-k.k c.as_slice-titles.result.now)))
          (lines_placed c.args.self.now c.args.position Right (reverse (take (c.loop-k.k - 1) c.as_slice-titles.result.now)))
          (from_right c.args.row (lines_placed c.args.self.now c.args.position Right (reverse c.args.self.now.titles.items)))
          c.args.buf.now c.loop-k.buf c.render_title.new.buf lines (omega arith)
          (rw (c.min-width.ensures, c.columns_of-columns.ensures) refl)
          (ap (λ w. record c.loop-k.left { width = w }) less) c.loop-k.invariant.rest c.in_ok-render_title.ensures.ok;
    }

pub returns-in_err-render_title-clause-short : goal.returns-in_err-render_title-clause-short
returns-in_err-render_title-clause-short c = λ short.
    let no : false ≡ true = c.in_err-render_title.ensures.short
    (short-at c.args.self.now c.as_slice-titles.result.now (c.loop-k.k - 1) c.index-titles-k.result
    c.as_slice-titles.ensures.value (omega (arith, c.as_slice-titles.ensures.len)) c.index-titles-k.is short) in
    absurd (cc)

pub returns-in_err-render_title-clause-within : goal.returns-in_err-render_title-clause-within
returns-in_err-render_title-clause-within c =
    within-then c.args.row c.args.buf.now c.loop-k.buf c.render_title.new.buf c.loop-k.invariant.within
    (within-wider (last_columns c.columns_of-columns.result c.loop-k.left) c.args.row c.loop-k.buf c.render_title.new.buf
    (λ p h. c.loop-k.invariant.inside p (last-inside c.columns_of-columns.result c.loop-k.left p h))
    (rw c.min-width.ensures at c.in_err-render_title.ensures.within))
