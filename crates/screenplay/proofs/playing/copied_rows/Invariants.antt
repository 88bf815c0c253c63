use Rattle.std.proofs.Common.{◌≡◌, map, take}
use Rattle.screenplay.proofs.playing.copied_rows.Given as goal

abbrev pub invariant-loop-row : goal.invariant-loop-row
invariant-loop-row l = map (λ row. row.items) l.copies.items ≡ map (λ row. row.items) (take l.row-index l.rows)
