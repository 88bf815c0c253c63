use Rattle.std.proofs.Common.{sym, arith}
use Rattle.widget_tree.specs.Nodes.{depths_of}
use Rattle.widget_tree.proofs.BuildLemmas.{length-depths}
use Rattle.widget_tree.proofs.ShownLemmas.{shown-from}
use Rattle.widget_tree.proofs.LinkLemmas.{next-opened, next-closed}
use Rattle.widget_tree.proofs.nodes.Nodes.next.Goals as goal

pub overflow_add-result : goal.overflow_add-result
overflow_add-result c =
    let v = c.args.self.now.items in
    let there = (shown-from {ds = depths_of v.items} {os = c.args.opened.now} {k = c.args.k} c.requires).there in
    omega (arith, length-depths v.items, v.ok.0, v.ok.1, v.small)

pub returns-then-is_opened : goal.returns-then-is_opened
returns-then-is_opened c =
    next-opened (depths_of c.args.self.now.items.items) c.args.opened.now c.args.k c.requires (sym c.if-is_opened.ensures)

pub end-requires : goal.end-requires
end-requires c =
    let items = c.args.self.now.items.items in
    let there = (shown-from {ds = depths_of items} {os = c.args.opened.now} {k = c.args.k} c.requires).there in
    omega (arith, length-depths items)

pub returns : goal.returns
returns c = next-closed c.args.opened.now c.requires (sym c.if-is_opened.ensures) c.end.ensures
