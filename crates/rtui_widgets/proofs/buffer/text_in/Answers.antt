use Rattle.std.proofs.Common.{◌≡◌, length, rules, arith, ap, sym, ◌∙◌}
use Rattle.rtui_buffer.specs.BufferData.{area_size}
use Rattle.rtui_geometry.specs.Rect.{intersected}
use Rattle.rtui_widgets.specs.Rendering.{text_row}
use Rattle.rtui_widgets.proofs.LineLemmas.{line-in_none}
use Rattle.rtui_widgets.proofs.AreaRowLemmas.{renders-nothing, rows-inside, text-lent}
use Rattle.rtui_widgets.proofs.buffer.text_in.Goals as goal

pub returns-in_default-clause-ok : goal.returns-in_default-clause-ok
returns-in_default-clause-ok c = renders-nothing c.args.area (text_row c.args.text.now) c.args.buf.now (λ k. line-in_none _ _)
    (search rules)

pub render_rows-requires-clause-inside : goal.render_rows-requires-clause-inside
render_rows-requires-clause-inside c = λ k lt.
    let stride : c.from-stride.result ≡ c.args.buf.now.area.width = c.from-stride.ensures
    ∙ ap (λ a. a.width) c.area.ensures.area in
    let count : length c.args.buf.now.cells ≡ area_size c.args.buf.now.area =
    rw (← c.cells_mut.ensures.cells) c.cells_mut.ensures.count in
    rw (stride, c.index_of-start.ensures.value, c.from.ensures, c.cells_mut.ensures.cells)
    (rows-inside c.args.area c.args.buf.now c.in-Some.part c.in-Some.ensures count k (omega (arith, lt, c.from-2.ensures)))

pub returns : goal.returns
returns c =
    let area = c.args.area in
    let buf = c.args.buf.now in
    let is = c.in-Some.ensures in
    let ran = c.render_rows.ensures in
    let value = c.cells_mut.ensures.cells in
    let stride : c.from-stride.result ≡ buf.area.width = c.from-stride.ensures ∙ ap (λ a. a.width) c.area.ensures.area in
    let width : (intersected area buf.area).width ≡ c.from.result = sym (c.from.ensures ∙ ap (λ q. q.width) is.value) in
    let height : c.from-2.result ≡ (intersected area buf.area).height = c.from-2.ensures ∙ ap (λ q. q.height) is.value in
    let all = text-lent area buf c.in-Some.part is c.render_rows.new.cells
    (rw value at c.render_rows.auto.cells) c.render_rows.result c.args.text.now (rw value at ran.marks)
    (rw (c.index_of-start.ensures.value, c.from.ensures, stride, c.from-2.ensures, value) at ran.ok)
    (rw (c.index_of-start.ensures.value, c.from.ensures, stride, c.from-2.ensures, value) at ran.err)
    (rw (c.index_of-start.ensures.value, c.from.ensures, stride, c.from-2.ensures, value) at ran.left) in
    record { ok = all.0; err = all.1; left = all.2; short = λ short. ran.short (λ k lt. rw (← width) (short k (omega arith))) }
