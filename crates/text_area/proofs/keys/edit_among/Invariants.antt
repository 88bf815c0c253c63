use Rattle.std.proofs.Common.{◌≡◌, drop}
use Rattle.text_area.specs.AreaKeys.{area_edit_among}
use Rattle.text_area.proofs.keys.edit_among.Given as goal

abbrev pub invariant-loop-row : goal.invariant-loop-row
invariant-loop-row l = area_edit_among (drop l.row-index l.table) l.c ≡ area_edit_among l.table l.c
