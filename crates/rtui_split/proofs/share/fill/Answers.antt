use Rattle.std.proofs.Common.{◌∙◌, arith}
use Rattle.rtui_split.specs.{declared.slot.Slot.Slot, Inner.Slots.HasSizeAt}
use Rattle.rtui_split.proofs.{SlotLemmas.parts_stay, SlotLemmas.All-taken, SlotLemmas.resized, Lists.All-written}
use Rattle.rtui_split.proofs.share.fill.Goals as goal

pub loop-slot-preserved : goal.loop-slot-preserved
loop-slot-preserved c =
    let ss = c.loop-slot.slots in
    let i = c.loop-slot.slot-index in
    let size = c.size_at-slot.result in
    record {
      parts = parts_stay ss i size ∙ c.loop-slot.invariant.parts;
      sizes = All-written (λ (s : Slot). HasSizeAt c.args.takers c.args.level s.part s.size) ss i (resized ss i size)
          (omega arith) c.loop-slot.invariant.sizes c.size_at-slot.ensures;
    }

pub returns-clause-sizes : goal.returns-clause-sizes
returns-clause-sizes c = All-taken (λ (s : Slot). HasSizeAt c.args.takers c.args.level s.part s.size) c.loop-slot.slots
    c.loop-slot.slot-index (omega arith) c.loop-slot.invariant.sizes
