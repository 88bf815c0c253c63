use Rattle.std.proofs.Common.{ℕ, ◌≡◌, ◌<◌, ◌+◌, ◌*◌, ◌-◌, min, List, take, drop, length, get_or, sum_by, subst, sym, take_all}
use Rattle.std.proofs.Common.{arith}
use Rattle.std.proofs.lemmas.List.{length-map, Sums.sum_by-drop_more, Sums.sum_by_more}
use Rattle.rtui_geometry.specs.declared.rect.Rect.{Rect}
use Rattle.rtui_split.specs.Cut.{length_of, IsPartAlong, InOrder, AtMostCells, AtLeastCells, AreEdges}
use Rattle.rtui_split.specs.{declared.slot.Slot.Slot, Units.cell_units, Inner.Slots.sizes_of, Inner.Spaces.IsCutTo}
use Rattle.rtui_split.proofs.CutLemmas.{cut_at_most, cut_at_least, cut_later, InOrder-later, InOrder-written, AreEdges-written}
use Rattle.rtui_split.proofs.{SlotLemmas.no_slot, SlotLemmas.size_at, Lists.All-written, Lists.AllZip-written}
use Rattle.rtui_split.proofs.place.place.Goals as goal

pub loop-i-preserved : goal.loop-i-preserved
loop-i-preserved c =
    let lane = c.args.lane in
    let d = lane.direction in
    let i = c.loop-i.i in
    let at = c.loop-i.at in
    let part = c.across.result in
    let begin = c.stretch_from-part.result.begin in
    let finish = c.stretch_from-part.result.finish in
    let inv = c.loop-i.invariant in
    let rounding = c.rounding_of-rounding.result in
    let slots = c.args.slots.now in
    let sizes = sizes_of slots in
    let in_sizes : i < length sizes = omega (arith, length-map slots (λ (s : Slot). s.size)) in
    let is : (get_or slots i no_slot).size ≡ get_or sizes i 0 = size_at slots i no_slot c.loop-i-test.true in
    let size = get_or sizes i 0 in
    let own = λ (s : ℕ). s + c.args.spaces.middle in
    let own_size : own size + sum_by own (drop (i + 1) sizes) ≡ sum_by own (drop i sizes) =
    sym (sum_by-drop_more own sizes i 0 in_sizes) in
    let in_parts : i < length c.loop-i.parts = omega arith in
    let on_whole : c.from-whole.result * cell_units ≡ (lane.end - lane.start) * cell_units = omega arith in
    let is_part : IsPartAlong d lane.area lane.start lane.end part = record {
      from = omega arith;
      to = omega arith;
      across = c.across.ensures.across;
    } in
    record {
      inside = All-written (IsPartAlong d lane.area lane.start lane.end) c.loop-i.parts i part in_parts inv.inside is_part;
      in_order = λ none. InOrder-written d lane.start _ _ i c.loop-i.parts part in_parts (inv.in_order none)
          (omega arith)
          (omega (
            arith,
            cut_later finish (min c.place_after-at.result (c.from-whole.result * cell_units)) rounding
                (omega arith),
          ));
      at_most = AllZip-written (IsCutTo AtMostCells d) sizes c.loop-i.parts i 0 part in_sizes in_parts inv.at_most
          (cut_at_most begin finish size rounding lane.start c.cell_of-from.result c.cell_of-to.result (length_of d part)
          (omega arith)
          c.cell_of-from.ensures.value c.cell_of-to.ensures.value c.across.ensures.size);
      room = λ none roomy. omega (arith, inv.room none roomy, own_size);
      at_least = λ none roomy. AllZip-written (IsCutTo AtLeastCells d) sizes c.loop-i.parts i 0 part in_sizes in_parts
          (inv.at_least none roomy)
          (cut_at_least begin finish size rounding lane.start c.cell_of-from.result c.cell_of-to.result (length_of d part)
          (omega (arith, inv.room none roomy, own_size))
          c.cell_of-from.ensures.value c.cell_of-to.ensures.value c.across.ensures.size);
      exact = λ none roomy. omega (
        arith,
        inv.exact none roomy,
        inv.room none roomy,
        own_size,
        sum_by_more own sizes i 0 in_sizes,
      );
      edges = λ none roomy. AreEdges-written d lane.start rounding c.args.spaces.middle c.args.spaces.first begin i sizes
          c.loop-i.parts part in_sizes in_parts
          (inv.edges none roomy)
          (omega (arith, inv.exact none roomy, inv.room none roomy, own_size))
          (omega (arith, c.across.ensures.from, c.cell_of-from.ensures.value))
          (omega (arith, c.across.ensures.to, c.cell_of-to.ensures.value, inv.room none roomy, own_size));
    }

pub returns-clause-edges : goal.returns-clause-edges
returns-clause-edges c = λ none roomy.
    let lane = c.args.lane in
    let rounding = c.rounding_of-rounding.result in
    let E : List ℕ → List Rect → Type 0 =
    λ us ps. AreEdges lane.direction lane.start rounding c.args.spaces.middle c.args.spaces.first us ps in
    let P : List Rect → Type 0 = λ ps. E (sizes_of c.args.slots.now) ps in
    let Q : List ℕ → Type 0 = λ us. E us (take c.loop-i.i c.loop-i.parts) in (
      rounding,
      c.rounding_of-rounding.ensures,
      subst P (take_all c.loop-i.i c.loop-i.parts (omega arith))
          (subst Q (take_all c.loop-i.i (sizes_of c.args.slots.now)
          (omega (arith, length-map c.args.slots.now (λ (s : Slot). s.size)))) (c.loop-i.invariant.edges none roomy)),
    )

pub returns-clause-in_order : goal.returns-clause-in_order
returns-clause-in_order c = λ none.
    let lane = c.args.lane in
    let parts = c.loop-i.parts in
    let P : List Rect → Type 0 = λ ps. InOrder lane.direction lane.start lane.end ps in
    let all : take c.loop-i.i parts ≡ parts = take_all c.loop-i.i parts (omega arith) in
    subst P all (InOrder-later lane.direction lane.start _ lane.end (take c.loop-i.i parts) (omega arith)
    (c.loop-i.invariant.in_order none))
