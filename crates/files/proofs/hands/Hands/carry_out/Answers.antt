use Rattle.files.proofs.DiscardLemmas.{named-write, ends-undone}
use Rattle.files.proofs.hands.Hands.carry_out.Goals as goal

pub touch-requires-clause-named : goal.touch-requires-clause-named
touch-requires-clause-named g c =
    named-write c.args.browser.now c.args.discard.now c.args.plan.now c.requires.asked c.requires.planned

pub returns-in_default-touch : goal.returns-in_default-touch
returns-in_default-touch g c = ends-undone g.P.Performs.does c.args.plan.now c.touch.result c.touch-2.result c.touch-undone.result
    c.args.self.now.files c.touch.new.self.files c.touch-2.new.self.files c.touch-undone.new.self.files _ c.in-Done.is c.touch.ensures
    c.in_default-touch.not-Done c.touch-2.ensures c.touch-undone.ensures c.changed-in_default-touch.ensures
