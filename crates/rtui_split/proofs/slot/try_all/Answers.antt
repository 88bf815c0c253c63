use Rattle.std.proofs.Common.{◌≡◌, ◌∙◌, refl, arith}
use Rattle.rtui_split.specs.declared.slot.Slot.{Slot}
use Rattle.rtui_split.proofs.{SlotLemmas.parts_stay, SlotLemmas.All-taken, SlotLemmas.resized, Lists.All-written}
use Rattle.rtui_split.proofs.slot.try_all.Goals as goal

pub loop-slot-preserved : goal.loop-slot-preserved
loop-slot-preserved c =
    let ss = c.loop-slot.slots in
    let i = c.loop-slot.slot-index in
    record {
      parts = parts_stay ss i c.args.size ∙ c.loop-slot.invariant.parts;
      same = All-written (λ (s : Slot). s.size ≡ c.args.size) ss i (resized ss i c.args.size) (omega arith)
          c.loop-slot.invariant.same refl;
    }

pub returns-clause-same : goal.returns-clause-same
returns-clause-same c = All-taken (λ (s : Slot). s.size ≡ c.args.size) c.loop-slot.slots c.loop-slot.slot-index
    (omega arith) c.loop-slot.invariant.same
