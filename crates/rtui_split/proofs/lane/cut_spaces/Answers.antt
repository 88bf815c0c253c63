use Rattle.std.proofs.Common.{arith}
use Rattle.rtui_split.proofs.SplitLemmas.{are_spacers}
use Rattle.rtui_split.proofs.lane.cut_spaces.Goals as goal

pub returns : goal.returns
returns c =
    are_spacers c.args.layout.now c.args.lane.area c.args.lane c.place_spaces.new.spaces c.args.segments.now c.requires.lane
    c.requires.parts
    (omega arith) c.place_spaces.ensures.across c.place_spaces.ensures.turns
