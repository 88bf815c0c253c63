use Rattle.pager.proofs.PieceLemmas.{cut-gives}
use Rattle.pager.proofs.piece_reader.PieceReader.cut.Goals as goal

pub returns-in-Ok-clause-gives : goal.returns-in-Ok-clause-gives
returns-in-Ok-clause-gives g c = cut-gives c.in-Ok.piece c.args.self.now.rest.items c.forget.new.self.rest.items c.count_for-count.result
    c.args.is_last c.in-Ok.ensures.is c.in-Ok.ensures.last c.forget.ensures.after c.count_for-count.ensures.whole c.count_for-count.ensures.all
