use Rattle.rtui_widgets.proofs.ChangeLemmas.{Changes-nowhere, clipped-ok, clipped-err}
use Rattle.rtui_widgets.proofs.change.change_area.Goals as goal

pub returns-in_default-clause-ok : goal.returns-in_default-clause-ok
returns-in_default-clause-ok g c =
    Changes-nowhere c.args.area (g.C.CellChange.made c.args.change.now) c.args.buf.now c.in_default.ensures

pub returns-clause-ok : goal.returns-clause-ok
returns-clause-ok g c = clipped-ok c.change_part.result c.args.area c.in-Some.part
    (g.C.CellChange.made c.args.change.now) c.args.buf.now c.change_part.new.buf c.in-Some.ensures c.change_part.ensures.ok

pub returns-clause-err : goal.returns-clause-err
returns-clause-err g c = clipped-err c.change_part.result c.args.area c.in-Some.part c.args.buf.now c.change_part.new.buf
    c.in-Some.ensures c.change_part.ensures.err
