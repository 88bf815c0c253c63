use Rattle.std.proofs.Common.{◌+◌, arith, sym, ◌∙◌, true, false}
use Rattle.files.specs.Columns.{is_parted}
use Rattle.files.proofs.PaintLemmas.{row-ok, row-ready, parted-wide}
use Rattle.files.proofs.browser.Browser.paint_row.Goals as goal

pub paint_columns-requires-clause-wide : goal.paint_columns-requires-clause-wide
paint_columns-requires-clause-wide c = parted-wide c.args.k c.args.part.width c.args.part.height c.args.self.now
    (sym c.is_parted.ensures ∙ c.if-is_parted.true)

pub returns-then-is_parted-clause-ok : goal.returns-then-is_parted-clause-ok
returns-then-is_parted-clause-ok c =
    row-ok c.paint_columns.result (is_parted c.args.k c.args.part.width c.args.part.height c.args.self.now) true c.args.self.now
    c.args.part c.args.k c.args.buf.now c.paint_columns.new.buf (sym c.is_parted.ensures ∙ c.if-is_parted.true)
    c.paint_columns.ensures.ok

pub returns-then-is_parted-clause-ready : goal.returns-then-is_parted-clause-ready
returns-then-is_parted-clause-ready c =
    row-ready c.paint_columns.result c.args.part (c.args.part.y + c.args.k) c.args.buf.now c.paint_columns.new.buf c.requires.some
    c.requires.inside (omega arith) (omega arith) c.paint_columns.ensures.ready

pub returns-else-is_parted-clause-ok : goal.returns-else-is_parted-clause-ok
returns-else-is_parted-clause-ok c =
    row-ok c.paint_whole.result (is_parted c.args.k c.args.part.width c.args.part.height c.args.self.now) false c.args.self.now
    c.args.part c.args.k c.args.buf.now c.paint_whole.new.buf (sym c.is_parted.ensures ∙ c.if-is_parted.false)
    c.paint_whole.ensures.ok

pub returns-else-is_parted-clause-ready : goal.returns-else-is_parted-clause-ready
returns-else-is_parted-clause-ready c =
    row-ready c.paint_whole.result c.args.part (c.args.part.y + c.args.k) c.args.buf.now c.paint_whole.new.buf c.requires.some
    c.requires.inside (omega arith) (omega arith) c.paint_whole.ensures.ready
