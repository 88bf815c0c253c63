use Rattle.widget_tree.proofs.DrawLemmas.{node-done}
use Rattle.widget_tree.proofs.tree.Tree.draw_node.Goals as goal

pub returns : goal.returns
returns c =
    node-done c.args.self.now c.args.state.now c.args.mark c.args.node c.item-item.result.now c.selects-is_selected.result
    c.indent-left.result c.symbol-symbol.result.now c.args.row c.draw_line.result c.args.buf.now c.draw_line.new.buf
    c.item-item.ensures c.selects-is_selected.ensures c.indent-left.ensures.value c.symbol-symbol.ensures c.draw_line.ensures
