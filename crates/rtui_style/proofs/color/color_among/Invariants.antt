use Rattle.std.proofs.Common.{◌≡◌, drop, map}
use Rattle.rtui_style.specs.Color.{color_among}
use Rattle.rtui_style.proofs.color.color_among.Given as goal

abbrev pub invariant-loop-row : goal.invariant-loop-row
invariant-loop-row l =
    color_among (map (λ row. (row.0.now, row.1)) (drop l.row-index l.names)) l.text ≡ color_among
    (map (λ row. (row.0.now, row.1)) l.names) l.text
