use Rattle.std.proofs.Common.{◌-◌, min}
use Rattle.widget_tree.specs.Nodes.{depths_of}
use Rattle.widget_tree.proofs.ScrollLemmas.{Scrolls}
use Rattle.widget_tree.proofs.nodes.Nodes.scrolled.Given as goal

abbrev pub invariant-loop-last : goal.invariant-loop-last
invariant-loop-last l =
    Scrolls (depths_of l.fn.self.items.items) l.fn.opened l.fn.height (min l.fn.start l.fn.k) l.fn.k l.first l.last l.rows

abbrev pub decreases-loop-last : goal.decreases-loop-last
decreases-loop-last l = l.k - l.last
