use Rattle.std.proofs.Common.{◌≡◌, true, false}
use Rattle.rtui_inside.specs.Inside.{DrawsInside, LeavesInside}
use Rattle.widget_popup.specs.Popups.{popup_drawing}
use Rattle.widget_popup.proofs.PopupLemmas.{then-ok, then-left, then-within, short-cleared}
use Rattle.widget_popup.proofs.popup.RefPopupWidget.render.Goals as goal

pub returns-in_err-render : goal.returns-in_err-render
returns-in_err-render c = let no : false ≡ true = c.in_err-render.ensures.short tt in absurd (cc)

pub returns-clause-ok : goal.returns-clause-ok
returns-clause-ok c =
    let p = c.args.self.now in
    rw c.area-own.ensures.value at (then-ok c.area-own.result c.args.buf.now c.render.new.buf c.render_inside.new.buf
    c.in_ok-render.ensures.ok (DrawsInside p.style p.block (popup_drawing p)) c.render_inside.result c.render_inside.ensures.ok)

pub returns-clause-err : goal.returns-clause-err
returns-clause-err c =
    rw c.area-own.ensures.value at (then-within c.area-own.result c.args.buf.now c.render.new.buf c.render_inside.new.buf
    c.in_ok-render.ensures.ok c.render_inside.result c.render_inside.ensures.err)

pub returns-clause-left : goal.returns-clause-left
returns-clause-left c =
    let p = c.args.self.now in
    rw c.area-own.ensures.value at (then-left c.area-own.result c.args.buf.now c.render.new.buf c.render_inside.new.buf
    c.in_ok-render.ensures.ok (LeavesInside p.style p.block (popup_drawing p)) c.render_inside.result c.render_inside.ensures.left)

pub returns-clause-short : goal.returns-clause-short
returns-clause-short c = λ short.
    let p = c.args.self.now in
    c.render_inside.ensures.short (rw c.area-own.ensures.value (short-cleared p.block (popup_drawing p) _ c.args.buf.now c.render.new.buf
    (rw c.area-own.ensures.value at c.in_ok-render.ensures.ok) short))
