use Rattle.files.specs.Moves.{browsed_after}
use Rattle.files.proofs.QuestionLemmas.{noted-move, moved-back}
use Rattle.files.proofs.laws.what_was_moved_is_moved_back.Goals as goal

pub returns-clause-noted : goal.returns-clause-noted
unfolding browsed_after
returns-clause-noted c = noted-move

pub returns-clause-back : goal.returns-clause-back
returns-clause-back c = moved-back
