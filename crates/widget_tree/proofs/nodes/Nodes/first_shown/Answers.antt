use Rattle.std.proofs.Common.{sym, arith}
use Rattle.widget_tree.specs.Nodes.{depths_of}
use Rattle.widget_tree.proofs.BuildLemmas.{length-depths}
use Rattle.widget_tree.proofs.ShownLemmas.{shown-from}
use Rattle.widget_tree.proofs.LinkLemmas.{first-here, first-end, first-end-none, first-past, end-shown}
use Rattle.widget_tree.proofs.nodes.Nodes.first_shown.Goals as goal

pub returns-then-from-len-clause-value : goal.returns-then-from-len-clause-value
returns-then-from-len-clause-value c =
    let items = c.args.self.now.items.items in
    sym (first-past (depths_of items) c.args.opened.now c.args.from (omega (arith, length-depths items)))

pub returns-then-standing-from-clause-value : goal.returns-then-standing-from-clause-value
returns-then-standing-from-clause-value c = sym (first-here c.standing-standing.ensures c.if-standing-from.true)

pub end-end-requires : goal.end-end-requires
end-end-requires c =
    let items = c.args.self.now.items.items in
    let there = (shown-from {ds = depths_of items} {os = c.args.opened.now} {k = c.standing-standing.result}
    c.standing-standing.ensures.shown).there in
    omega (arith, length-depths items)

pub returns-then-end-len-clause-value : goal.returns-then-end-len-clause-value
returns-then-end-len-clause-value c =
    let items = c.args.self.now.items.items in
    sym (first-end c.standing-standing.ensures c.if-standing-from.false c.end-end.ensures (omega (arith, length-depths items)))

pub returns-then-end-len-clause-shown : goal.returns-then-end-len-clause-shown
returns-then-end-len-clause-shown c =
    let items = c.args.self.now.items.items in
    end-shown c.args.opened.now c.standing-standing.ensures.shown c.end-end.ensures (omega (arith, length-depths items))

pub returns-else-end-len-clause-value : goal.returns-else-end-len-clause-value
returns-else-end-len-clause-value c =
    let items = c.args.self.now.items.items in
    sym (first-end-none c.standing-standing.ensures c.if-standing-from.false c.end-end.ensures
    (omega (arith, length-depths items)))
