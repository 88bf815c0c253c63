use Rattle.std.proofs.Common.{◌≡◌, ◌+◌, ◌-◌, ◌*◌, ℕ, length, take, drop, rules, arith, refl, ap, subst, ◌∙◌}
use Rattle.std.proofs.lemmas.{Bool.false≢true, List.length-take, List.length-drop}
use Rattle.rtui_widgets.specs.{Rendering.text_row, Rendering.IsShortRow, Refused.HasFrontOfRow}
use Rattle.rtui_widgets.proofs.{RowLemmas.made-none, RowLemmas.made-all, RowLemmas.made-more, RowLemmas.keeps-others}
use Rattle.rtui_widgets.proofs.{RowLemmas.leaves-row, SpanLemmas.unmarked-written}
use Rattle.rtui_buffer.proofs.PaintLemmas.{unmarked-refl, unmarked-then}
use Rattle.rtui_widgets.proofs.text.render_rows.Goals as goal

pub loop-k-init : goal.loop-k-init
loop-k-init c = (made-none _ _ _, unmarked-refl _)

pub loop-k-preserved : goal.loop-k-preserved
loop-k-preserved c =
    let at : ℕ = c.args.start + c.loop-k.k * c.args.stride in
    let n : ℕ = at + c.args.width - at in
    let width : n ≡ c.args.width = omega arith in
    let count : length c.render_row.new.row ≡ c.args.width = search rules in
    let is = c.in_ok-render_row.ensures.ok ∙ ap (λ w. text_row c.args.text.now c.loop-k.k (take w (drop at c.loop-k.cells))) width
    in (
      made-more _ c.requires.apart c.loop-k.k at n _ _ refl width c.loop-k-test.true
          (λ j lt. omega (arith, c.requires.inside j lt, c.loop-k.auto.cells)) count _ _ c.loop-k.invariant.0 is,
      unmarked-then _ _ _ c.loop-k.invariant.1
          (unmarked-written at n c.loop-k.cells c.render_row.new.row c.in_ok-render_row.ensures.marks c.render_row.auto.row),
    )

pub returns-in_err-render_row : goal.returns-in_err-render_row
returns-in_err-render_row c =
    let at : ℕ = c.args.start + c.loop-k.k * c.args.stride in
    let n : ℕ = at + c.args.width - at in
    let width : n ≡ c.args.width = omega arith in
    let count : length c.render_row.new.row ≡ c.args.width = search rules in
    let keeps = keeps-others _ c.requires.apart c.loop-k.k at n _ _ refl width c.loop-k-test.true
    (λ j lt. omega (arith, c.requires.inside j lt, c.loop-k.auto.cells)) count _ _ c.loop-k.invariant.0 in
    let left = leaves-row _ c.requires.apart c.loop-k.k at n _ _ refl width c.loop-k-test.true
    (λ j lt. omega (arith, c.requires.inside j lt, c.loop-k.auto.cells)) count _ _ c.loop-k.invariant.0
    (HasFrontOfRow c.args.text.now)
    (subst (λ w. HasFrontOfRow c.args.text.now c.loop-k.k (take w (drop at c.loop-k.cells)) c.render_row.new.row) width
    c.in_err-render_row.ensures.err) in
    let marks = unmarked-then _ _ _ c.loop-k.invariant.1
    (unmarked-written at n c.loop-k.cells c.render_row.new.row c.in_err-render_row.ensures.marks c.render_row.auto.row) in
    record {
      ok = search rules;
      err = search (rules, keeps);
      left = search (rules, left);
      short = λ short.
          let columns : c.args.width ≡ length (take n (drop at c.loop-k.cells)) = simp (length-take, length-drop)
          (omega (arith, c.requires.inside c.loop-k.k c.loop-k-test.true, c.loop-k.auto.cells)) in
          absurd (false≢true (c.in_err-render_row.ensures.short (subst (λ m. IsShortRow c.args.text.now m c.loop-k.k) columns
          (short c.loop-k.k c.loop-k-test.true))));
      marks = search (rules, marks);
    }

pub returns-clause-ok : goal.returns-clause-ok
returns-clause-ok c = made-all _ _ _ _ _ c.loop-k-test.false c.loop-k.invariant.0
