use Rattle.std.proofs.Common.{◌≡◌, ℕ, ◌+◌, ◌-◌, length, take, drop, rules, arith, ap, sym}
use Rattle.rtui_widgets.specs.{Line.line_rendered, Refused.HasFrontOfLine}
use Rattle.rtui_geometry.specs.Rect.{intersected}
use Rattle.rtui_widgets.proofs.LineLemmas.{line-in_none}
use Rattle.rtui_widgets.proofs.AreaRowLemmas.{renders-nothing, first-none, first-lent, first-columns}
use Rattle.rtui_buffer.specs.BufferData.{area_size}
use Rattle.rtui_widgets.proofs.buffer.line_in.Goals as goal

pub returns-in_default-clause-ok : goal.returns-in_default-clause-ok
returns-in_default-clause-ok c = renders-nothing _ _ _ (first-none (line_rendered c.args.line.now.alignment c.args.line.now)
    (line-in_none _ _)) (search rules)

pub returns : goal.returns
returns c =
    let value = c.cells_mut-cells.ensures.cells in
    let area = c.args.area in
    let buf = c.args.buf.now in
    let line = c.args.line.now in
    let at : ℕ = c.index_of-start.result in
    let n : ℕ = at + c.from.result - at in
    let wide : n ≡ c.in-Some.part.width = omega (arith, c.from.ensures) in
    let cells : length buf.cells ≡ area_size buf.area = rw (← value) c.cells_mut-cells.ensures.count in
    let place = c.index_of-start.ensures.value in
    let alignment : c.line.inside.alignment ≡ line.alignment = ap (λ l. l.alignment) c.line.view_is in
    let columns : (intersected area buf.area).width ≡ length (take n (drop at c.cells_mut-cells.result.now)) =
    rw value (sym (first-columns area buf c.in-Some.part c.in-Some.ensures at n place wide cells)) in
    let all = first-lent area buf c.in-Some.part c.in-Some.ensures at n c.render_line.new.row place wide cells
    (rw value at c.render_line.auto.row) c.render_line.result (line_rendered line.alignment line)
    (HasFrontOfLine line.alignment line)
    (rw value at c.render_line.ensures.marks) (rw (value, alignment) at c.render_line.ensures.ok)
    (rw (value, alignment) at c.render_line.ensures.err) in
    record {
      ok = rw value all.0;
      err = rw value all.1;
      left = rw value all.2;
      short = λ short. c.render_line.ensures.short (rw (alignment, ← columns) short);
    }
