use Rattle.text_field.proofs.HistoryLemmas.{after-move}
use Rattle.text_field.proofs.history.History.apply.Goals as goal

pub returns-then-is_move-clause-history : goal.returns-then-is_move-clause-history
returns-then-is_move-clause-history c =
    after-move c.apply.result c.args.edit c.args.field.now c.apply.new.self c.args.self.now
    (c.is_move.ensures c.if-is_move.true) c.apply.ensures.ok
