use Rattle.std.proofs.Common.{◌≡◌, ◌≤◌, ◌+◌, ◌-◌, All, take, drop}
use Rattle.rtui_split.specs.Inner.Slots.{AllSlots, slot_parts, total_of, wanted_before, wanted_in, tries_in, TriesItsWish}
use Rattle.rtui_split.specs.Inner.Shares.{KeepsToTurn, HaveTried, ComeFirst}
use Rattle.rtui_split.proofs.share.grant_all.Given as goal

abbrev pub invariant-loop-slot : goal.invariant-loop-slot
invariant-loop-slot l = record {
  parts : slot_parts l.slots ≡ slot_parts l.fn.slots;
  rest : drop l.slot-index l.slots ≡ drop l.slot-index l.fn.slots;
  each : AllSlots (KeepsToTurn l.short.turn) (take l.slot-index l.slots);
  given : total_of (take l.slot-index l.slots) + l.left ≡ wanted_before l.short.turn (take l.slot-index l.slots) + l.short.left;
  -- the rest tries what is left, but for what nobody tries, and wishes that, too
  bound : l.left ≤ tries_in l.short.turn (drop l.slot-index l.slots) + l.spare;
  wished : tries_in l.short.turn (drop l.slot-index l.slots) + l.spare ≤ wanted_in l.short.turn (drop l.slot-index l.slots);
  fits : tries_in l.short.turn l.fn.slots ≤ l.short.left
      → tries_in l.short.turn (drop l.slot-index l.slots) + l.spare ≤ l.left;
  tried : tries_in l.short.turn l.fn.slots ≤ l.short.left
      → HaveTried l.short.turn (take l.slot-index l.fn.slots) (take l.slot-index l.slots);
  first : All TriesItsWish l.fn.slots → (l.spare ≡ 0)
      × (l.left ≡ l.short.left - wanted_in l.short.turn (take l.slot-index l.slots))
      × ComeFirst l.short.turn l.short.left (take l.slot-index l.slots);
}
