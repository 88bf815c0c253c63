use Rattle.std.proofs.Common.{arith}
use Rattle.widget_tree.proofs.MoveLemmas.{opened-resized}
use Rattle.widget_tree.proofs.marks.make_room.Goals as goal

pub returns-clause-same : goal.returns-clause-same
returns-clause-same c = let v = c.args.opened.now in
    opened-resized c.resize.result v.items c.resize.new.self.items c.args.count _
    (omega (arith, v.ok.0)) c.resize.ensures.items
