use Rattle.std.proofs.Common.{true, arith}
use Rattle.widget_tree.proofs.MoveLemmas.{marks-then}
use Rattle.widget_tree.proofs.marks.open.Goals as goal

pub returns-clause-ok : goal.returns-clause-ok
returns-clause-ok c =
    let v = c.make_room.new.opened in
    marks-then c.args.opened.now.items v.items c.args.k true (omega (arith, v.ok.0, c.in_ok-make_room.ensures.room))
    c.make_room.ensures.same
