use Rattle.std.proofs.Common.{◌+◌, sym, ap, subst, ◌∙◌, arith}
use Rattle.ratatui_core.specs.Layout.{Rect, IsInside}
use Rattle.rtui_drawing.proofs.DrawingLemmas.{done-within}
use Rattle.rtui_inside.proofs.InsideLemmas.{row-inside}
use Rattle.widget_tree.specs.Inner.{IsNext}
use Rattle.widget_tree.specs.TreeStates.{tree_depths, opened_of}
use Rattle.widget_tree.specs.Trees.{mark_columns, node_drawing, node_rows_drawing}
use Rattle.widget_tree.proofs.BuildLemmas.{length-depths}
use Rattle.widget_tree.proofs.RowLemmas.{rows_left, rows-next, rows-past, rows-all, selected-next, selected-end}
use Rattle.widget_tree.proofs.DrawLemmas.{node-in, rows-step, rows-stop, rows-end}
use Rattle.widget_tree.proofs.tree.Tree.draw_rows.Goals as goal

pub returns-then-node-len-clause-done : goal.returns-then-node-len-clause-done
returns-then-node-len-clause-done c =
    let t = c.args.self.now in let s = c.args.state.now in let r = c.args.inner in
    let ds = tree_depths t in let os = opened_of s in
    rows-end ds os (node_drawing t s (mark_columns t s r.width) r.width) r (node_rows_drawing t s c.args.first r) c.loop-y.y
    c.loop-y.node c.loop-y.invariant.rest
    (rows-past ds os r.height c.loop-y.y c.loop-y.node (omega (arith, length-depths t.nodes.items.items)))

pub returns-then-node-len-clause-selected : goal.returns-then-node-len-clause-selected
returns-then-node-len-clause-selected c =
    let t = c.args.self.now in let s = c.args.state.now in let r = c.args.inner in
    let ds = tree_depths t in let os = opened_of s in
    selected-end s.selected r c.loop-y.selected _ c.loop-y.y (rows_left ds os r.height c.loop-y.y c.loop-y.node)
    (rows-past ds os r.height c.loop-y.y c.loop-y.node (omega (arith, length-depths t.nodes.items.items)))
    c.loop-y.invariant.found

pub returns-clause-done : goal.returns-clause-done
returns-clause-done c =
    let t = c.args.self.now in let s = c.args.state.now in let r = c.args.inner in
    let ds = tree_depths t in let os = opened_of s in
    rows-end ds os (node_drawing t s (mark_columns t s r.width) r.width) r (node_rows_drawing t s c.args.first r) c.loop-y.y
    c.loop-y.node c.loop-y.invariant.rest (rows-all ds os r.height c.loop-y.y c.loop-y.node (omega arith))

pub returns-clause-selected : goal.returns-clause-selected
returns-clause-selected c =
    let t = c.args.self.now in let s = c.args.state.now in let r = c.args.inner in
    let ds = tree_depths t in let os = opened_of s in
    selected-end s.selected r c.loop-y.selected _ c.loop-y.y (rows_left ds os r.height c.loop-y.y c.loop-y.node)
    (rows-all ds os r.height c.loop-y.y c.loop-y.node (omega arith)) c.loop-y.invariant.found

pub draw_node-requires-clause-row : goal.draw_node-requires-clause-row
draw_node-requires-clause-row c =
    row-inside c.loop-y.buf.area c.args.inner c.of.result c.loop-y.y c.requires.some
    (subst (λ own. IsInside c.args.inner own) (sym c.loop-y.invariant.area) c.requires.inside) c.loop-y-test.true c.of.ensures

pub returns-in_err-draw_node-clause-done : goal.returns-in_err-draw_node-clause-done
returns-in_err-draw_node-clause-done c =
    let t = c.args.self.now in let s = c.args.state.now in let r = c.args.inner in
    let ds = tree_depths t in let os = opened_of s in
    rows-stop ds os (node_drawing t s (mark_columns t s r.width) r.width) r (node_rows_drawing t s c.args.first r) c.loop-y.y
    c.loop-y.node c.of.result c.from_residual.result c.from_residual.ensures.0 c.loop-y-test.true
    (c.loop-y.invariant.shown (omega (arith, length-depths t.nodes.items.items))) c.loop-y.invariant.rest c.of.ensures
    (node-in t s c.mark_columns-mark.result (mark_columns t s r.width) r.width c.loop-y.node c.of.result _ c.loop-y.buf
    c.draw_node.new.buf c.mark_columns-mark.ensures.value (ap (λ (q : Rect). q.width) c.of.ensures) c.in_err-draw_node.ensures)

pub loop-y-preserved : goal.loop-y-preserved
loop-y-preserved c =
    let t = c.args.self.now in let s = c.args.state.now in let r = c.args.inner in
    let ds = tree_depths t in let os = opened_of s in
    let next : IsNext ds os (c.loop-y.node + 1) c.next-node.result =
    subst (λ xs. IsNext ds xs (c.loop-y.node + 1) c.next-node.result) c.as_slice-opened.ensures.value c.next-node.ensures in
    record {
      area = (done-within c.draw_node.result c.draw_node.ensures).same_area ∙ c.loop-y.invariant.area;
      shown = λ lt. next.shown lt;
      rest = rows-step ds os (node_drawing t s (mark_columns t s r.width) r.width) r (node_rows_drawing t s c.args.first r)
          c.loop-y.y c.loop-y.node c.next-node.result c.of.result c.loop-y-test.true
          (c.loop-y.invariant.shown (omega (arith, length-depths t.nodes.items.items))) next c.loop-y.invariant.rest c.of.ensures
          (node-in t s c.mark_columns-mark.result (mark_columns t s r.width) r.width c.loop-y.node c.of.result _ c.loop-y.buf
          c.draw_node.new.buf c.mark_columns-mark.ensures.value (ap (λ (q : Rect). q.width) c.of.ensures) c.in_ok-draw_node.ensures);
      found = rw (c.or-selected.ensures, c.row_if.ensures, c.selects.ensures)
          (selected-next s.selected r c.loop-y.selected _ c.loop-y.y c.loop-y.node
          (rows_left ds os r.height c.loop-y.y c.loop-y.node) (rows_left ds os r.height (c.loop-y.y + 1) c.next-node.result)
          (rows-next ds os r.height c.loop-y.y c.loop-y.node c.next-node.result c.loop-y-test.true
          (c.loop-y.invariant.shown (omega (arith, length-depths t.nodes.items.items))) next) c.loop-y.invariant.found);
    }
