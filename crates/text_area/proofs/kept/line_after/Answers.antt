use Rattle.std.proofs.Common.{rules, ◌≡◌}
use Rattle.text_area.specs.Lines.{feeds}
use Rattle.text_area.proofs.LineKept.{kept-changed}
use Rattle.text_area.proofs.kept.line_after.Goals as goal

pub returns-then-has-clause-kept : goal.returns-then-has-clause-kept
returns-then-has-clause-kept c old kept le is =
    let none : feeds c.args.piece.now ≡ 0 = search rules in
    kept-changed old c.args.text.now c.args.piece.now c.args.from c.args.to c.requires.order le is c.args.was
    c.changed.result c.utf8.text kept (c.has.ensures.from c.if-has.true) (c.has.ensures.to c.if-has.true) none
    c.changed.ensures.start c.changed.ensures.end c.changed.ensures.was c.changed.ensures.plain
