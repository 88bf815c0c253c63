use Rattle.files.proofs.DiscardLemmas.{prepares-then}
use Rattle.files.proofs.hands.Hands.prepare.Goals as goal

pub returns-in_err-seen-clause-prepares : goal.returns-in_err-seen-clause-prepares
returns-in_err-seen-clause-prepares g c = prepares-then g.P.Performs.does c.args.discard.now c.args.self.now.files
    c.make_trash.new.self.files c.see.new.self.files c.make_trash.ensures c.see.ensures.prepares

pub returns-clause-prepares : goal.returns-clause-prepares
returns-clause-prepares g c = prepares-then g.P.Performs.does c.args.discard.now c.args.self.now.files
    c.make_trash.new.self.files c.see.new.self.files c.make_trash.ensures c.see.ensures.prepares
