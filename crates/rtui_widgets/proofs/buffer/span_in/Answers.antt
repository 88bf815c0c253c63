use Rattle.std.proofs.Common.{◌≡◌, ℕ, ◌+◌, ◌-◌, length, take, drop, rules, arith, ap, sym}
use Rattle.rtui_widgets.specs.{Span.span_rendered, Refused.HasFrontOfSpan}
use Rattle.rtui_geometry.specs.Rect.{intersected}
use Rattle.rtui_widgets.proofs.LineLemmas.{span-none}
use Rattle.rtui_widgets.proofs.AreaRowLemmas.{renders-nothing, first-none, first-lent, first-columns}
use Rattle.rtui_buffer.specs.BufferData.{area_size}
use Rattle.rtui_widgets.proofs.buffer.span_in.Goals as goal

pub returns-in_default-clause-ok : goal.returns-in_default-clause-ok
returns-in_default-clause-ok c = renders-nothing _ _ _ (first-none (span_rendered c.args.span.now.style c.args.span.now.content)
    (span-none _ _)) (search rules)

pub returns : goal.returns
returns c =
    let value = c.cells_mut-cells.ensures.cells in
    let area = c.args.area in
    let buf = c.args.buf.now in
    let text = c.args.span.now.content in
    let at : ℕ = c.index_of-start.result in
    let n : ℕ = at + c.from.result - at in
    let wide : n ≡ c.in-Some.part.width = omega (arith, c.from.ensures) in
    let cells : length buf.cells ≡ area_size buf.area = rw (← value) c.cells_mut-cells.ensures.count in
    let place = c.index_of-start.ensures.value in
    let style : c.span.inside.style ≡ c.args.span.now.style = ap (λ s. s.style) c.span.view_is in
    let columns : (intersected area buf.area).width ≡ length (take n (drop at c.cells_mut-cells.result.now)) =
    rw value (sym (first-columns area buf c.in-Some.part c.in-Some.ensures at n place wide cells)) in
    let all = first-lent area buf c.in-Some.part c.in-Some.ensures at n c.render_span.new.row place wide cells
    (rw value at c.render_span.auto.row) c.render_span.result (span_rendered c.args.span.now.style text)
    (HasFrontOfSpan c.args.span.now.style text)
    (rw value at c.render_span.ensures.marks) (rw (value, style, c.text.ensures) at c.render_span.ensures.ok)
    (rw (value, style, c.text.ensures) at c.render_span.ensures.err) in
    record {
      ok = rw value all.0;
      err = rw value all.1;
      left = rw value all.2;
      short = λ short. c.render_span.ensures.short (rw (c.text.ensures, ← columns) short);
    }
