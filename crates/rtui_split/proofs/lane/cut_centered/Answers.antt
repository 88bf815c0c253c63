use Rattle.std.proofs.Common.{List, refl, subst, arith}
use Rattle.rtui_geometry.specs.declared.rect.Rect.{Rect}
use Rattle.rtui_split.specs.Split.{centered_layout, IsSplit}
use Rattle.rtui_split.proofs.Lists.{one_long}
use Rattle.rtui_split.proofs.lane.cut_centered.Goals as goal

pub returns : goal.returns
returns c =
    let l = centered_layout c.args.direction c.args.constraint in
    let P : List Rect → Type 0 = λ ps. IsSplit l c.args.area ps in
    let empty : Rect = record { x = 0; y = 0; width = 0; height = 0 } in
    subst P (one_long c.cut_by.new.segments empty (omega arith))
    (c.cut_by.ensures l
    (record { cut = refl; direction = refl; start = c.start_of-start.ensures; end = c.end_of-end.ensures.value })
    (c.middle_rule.ensures c.args.direction c.args.constraint))
