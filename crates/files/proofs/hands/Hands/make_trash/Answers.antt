use Rattle.files.proofs.DiscardLemmas.{prepares-then}
use Rattle.files.proofs.hands.Hands.make_trash.Goals as goal

pub returns-in_err-make-2 : goal.returns-in_err-make-2
returns-in_err-make-2 g c = prepares-then g.P.Performs.does c.args.discard.now c.args.self.now.files c.make.new.self.files
    c.make-2.new.self.files c.make.ensures c.make-2.ensures

pub returns : goal.returns
returns g c =
    let does = g.P.Performs.does in
    let two = prepares-then does c.args.discard.now c.args.self.now.files c.make.new.self.files c.make-2.new.self.files
    c.make.ensures c.make-2.ensures in
    prepares-then does c.args.discard.now c.args.self.now.files c.make-2.new.self.files c.make-3.new.self.files two c.make-3.ensures
