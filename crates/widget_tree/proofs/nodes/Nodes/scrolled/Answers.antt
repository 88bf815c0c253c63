use Rattle.std.proofs.Common.{min, sym, subst, arith}
use Rattle.widget_tree.specs.Nodes.{depths_of}
use Rattle.widget_tree.proofs.ScrollLemmas.{Scrolls, scroll-start, scroll-more, scroll-shift, scroll-end, least-shown}
use Rattle.widget_tree.proofs.nodes.Nodes.scrolled.Goals as goal

pub loop-last-init : goal.loop-last-init
loop-last-init c =
    let ds = depths_of c.args.self.now.items.items in
    let os = c.args.opened.now in
    subst (λ n. Scrolls ds os c.args.height (min c.args.start c.args.k) c.args.k n n 1) (sym c.min-first.ensures)
    (scroll-start ds os c.args.height (min c.args.start c.args.k) c.args.k c.requires.some (omega arith)
    (least-shown ds os c.args.start c.args.k c.requires.start c.requires.shown))

pub loop-last-preserved-then-rows-height : goal.loop-last-preserved-then-rows-height
loop-last-preserved-then-rows-height c =
    scroll-more c.next-last.result c.loop-last.invariant c.requires.shown c.loop-last-test.true c.if-rows-height.true
    c.next-last.ensures

pub loop-last-preserved : goal.loop-last-preserved
loop-last-preserved c =
    scroll-shift c.next-last.result c.next-first.result c.loop-last.invariant c.requires.shown c.loop-last-test.true
    c.if-rows-height.false c.next-last.ensures c.next-first.ensures

pub returns-clause-value : goal.returns-clause-value
returns-clause-value c = scroll-end c.args.start c.loop-last.invariant c.loop-last-test.false
