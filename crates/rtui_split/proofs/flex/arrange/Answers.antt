use Rattle.std.proofs.Common.{arith}
use Rattle.rtui_split.proofs.FlexLemmas.{alone_given}
use Rattle.rtui_split.proofs.flex.arrange.Goals as goal

pub returns-in-SpaceBetween-clause-given : goal.returns-in-SpaceBetween-clause-given
returns-in-SpaceBetween-clause-given c = λ none.
    alone_given c.give_all.new.slots c.args.room c.give_all.result (omega arith)
    (λ one. c.give_all.ensures.one (omega arith)) c.give_all.ensures.spaces.0 c.give_all.ensures.spaces.1
