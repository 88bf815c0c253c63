use Rattle.rtui_split.proofs.UniqueLemmas.{one_sharing}
use Rattle.rtui_split.proofs.laws.the_least_ragged_sharing_is_one.Goals as goal

pub returns : goal.returns
returns c = λ wishes standing room shares others end last one two.
    one_sharing wishes standing room shares others end last one two
