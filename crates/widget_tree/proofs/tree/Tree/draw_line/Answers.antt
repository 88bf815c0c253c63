use Rattle.std.proofs.Common.{refl}
use Rattle.widget_tree.proofs.DrawLemmas.{line-row, line-stop, line-done}
use Rattle.widget_tree.proofs.tree.Tree.draw_line.Goals as goal

pub returns-in_err-draw_left : goal.returns-in_err-draw_left
returns-in_err-draw_left c =
    line-stop c.args.self.now c.args.line.now c.args.is_selected c.args.mark c.args.left c.args.symbol.now c.args.row _
    c.args.buf.now c.put_style.new.buf c.draw_left.new.buf (rw c.style_of-style.ensures at c.put_style.ensures) refl
    c.from_residual.result c.from_residual.ensures.0 c.in_err-draw_left.ensures

pub draw_label-requires : goal.draw_label-requires
draw_label-requires c =
    line-row c.args.self.now c.args.line.now c.args.is_selected c.args.mark c.args.left c.args.symbol.now c.args.row c.of.result
    c.args.buf.now c.put_style.new.buf c.draw_left.new.buf (rw c.style_of-style.ensures at c.put_style.ensures) c.of.ensures
    c.draw_left.result c.draw_left.ensures c.requires.left c.requires.row

pub returns : goal.returns
returns c =
    line-done c.args.self.now c.args.line.now c.args.is_selected c.args.mark c.args.left c.args.symbol.now c.args.row c.of.result
    c.args.buf.now c.put_style.new.buf c.draw_left.new.buf (rw c.style_of-style.ensures at c.put_style.ensures) c.of.ensures
    c.draw_label.result c.in_ok-draw_left.ensures c.draw_label.ensures
