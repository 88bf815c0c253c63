use Rattle.std.proofs.Common.{◌∙◌, get_or, refl, arith}
use Rattle.rtui_split.specs.Inner.Slots.{TriesItsWish}
use Rattle.rtui_split.proofs.{SlotLemmas.parts_stay, SlotLemmas.All-taken, SlotLemmas.resized, SlotLemmas.no_slot}
use Rattle.rtui_split.proofs.Lists.{All-written}
use Rattle.rtui_split.proofs.slot.try_wishes.Goals as goal

pub loop-slot-preserved : goal.loop-slot-preserved
loop-slot-preserved c =
    let ss = c.loop-slot.slots in
    let i = c.loop-slot.slot-index in
    let wish = (get_or ss i no_slot).part.wanted in
    record {
      parts = parts_stay ss i wish ∙ c.loop-slot.invariant.parts;
      wish = All-written TriesItsWish ss i (resized ss i wish) (omega arith) c.loop-slot.invariant.wish refl;
    }

pub returns-clause-wish : goal.returns-clause-wish
returns-clause-wish c = All-taken TriesItsWish c.loop-slot.slots c.loop-slot.slot-index (omega arith)
    c.loop-slot.invariant.wish
