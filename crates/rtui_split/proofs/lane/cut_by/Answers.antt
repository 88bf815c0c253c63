use Rattle.std.proofs.Common.{◌-◌, ◌*◌, length, List, subst, ap, ◌∙◌, arith}
use Rattle.rtui_layout.specs.declared.constraint.Constraint.{Constraint}
use Rattle.rtui_split.specs.{Units.cell_units, Cut.IsSpace, Split.cells_of, Inner.Slots.slot_parts, Inner.Slots.sizes_of}
use Rattle.rtui_split.proofs.SplitLemmas.{AreOf, moved, rearranged, is_split}
use Rattle.rtui_split.proofs.lane.cut_by.Goals as goal

pub returns : goal.returns
returns c = λ l is_lane is_rule.
    let lane = c.args.lane in
    let rule = c.args.rule in
    let area = lane.area in
    let cells = lane.end - lane.start in
    let ss = c.arrange-spaces.new.slots in
    let spaces = c.arrange-spaces.result in
    let AreSlots : List Constraint → Type 0 = λ cs. AreOf cells cs ss in
    is_split l area ss spaces c.place.new.parts rule.overlap
    (omega (arith, is_lane.end, lane.on_grid))
    (omega (arith, ap length is_rule.parts))
    (λ space. let none = is_rule.overlap space in
    rearranged l ss spaces cells (cells_of l.direction area) (c.from.result * cell_units) rule.gap rule.overlap rule.flex
    (omega (arith, is_lane.start, is_lane.end)) is_rule.gap is_rule.flex (omega (arith, is_lane.start, is_lane.end))
    (record {
      parts = subst AreSlots is_rule.parts (c.arrange-spaces.ensures.parts none ∙ ap slot_parts c.write_slots.ensures);
      given = c.arrange-spaces.ensures.given none;
      alone = c.arrange-spaces.ensures.alone none;
      arranged = c.arrange-spaces.ensures.arranged none;
      legacy = c.arrange-spaces.ensures.legacy none;
    }))
    (moved (IsSpace l.spacing) area (sizes_of ss) spaces c.place.new.parts lane.direction l.direction lane.start lane.end _ _
    is_lane.direction is_lane.start is_lane.end
    (record {
      inside = c.place.ensures.inside;
      in_order = λ space. c.place.ensures.in_order (is_rule.overlap space);
      at_most = c.place.ensures.at_most;
      at_least = λ space. c.place.ensures.at_least (is_rule.overlap space);
      edges = λ space. c.place.ensures.edges (is_rule.overlap space);
    }))
