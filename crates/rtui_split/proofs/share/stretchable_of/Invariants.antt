use Rattle.rtui_split.specs.Inner.Slots.{constraints_of}
use Rattle.rtui_split.proofs.StretchLemmas.{IsLastOfLeast}
use Rattle.rtui_split.proofs.share.stretchable_of.Given as goal

abbrev pub invariant-loop-at : goal.invariant-loop-at
invariant-loop-at l = IsLastOfLeast (constraints_of l.slots) l.at l.last.at l.last.patience
