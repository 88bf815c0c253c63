use Rattle.std.proofs.Common.{◌≡◌, ℕ, ◌+◌, ◌-◌, ◌*◌, ◌≤◌, List, length, take, drop, length-take, length-drop, refl, ap, arith}
use Rattle.rtui_geometry.specs.declared.rect.Rect.{Rect}
use Rattle.std.proofs.Math.Nat.{mul-le-mul_right}
use Rattle.rtui_cell.specs.declared.cell.Cell.{Cell}
use Rattle.rtui_buffer.proofs.diff.part.Goals as goal

-- how many cells some rows have
part_count : (w h i n : ℕ) (cells : List Cell) → length cells ≡ w * h → i + n ≤ h
    → length (take (w * n) (drop (i * w) cells)) ≡ w * n
part_count w h i n cells size inside =
    let p : (i + n) * w ≤ h * w = mul-le-mul_right w inside in
    let q : (i + n) * w ≡ i * w + w * n = grind arith in
    let r : h * w ≡ w * h = grind arith in
    simp (length-take, length-drop) (omega (arith, size))

pub returns-clause-cells : goal.returns-clause-cells
returns-clause-cells c =
    let w = c.args.buffer.now.area.width in
    let size : (c.args.first + c.args.count) * w - c.args.first * w ≡ w * c.args.count = grind arith in
    let width : c.area.result.now.width ≡ w = ap (λ (r : Rect). r.width) c.area.ensures.area in
    rw (c.content.ensures.cells, c.from-3.ensures, c.from-2.ensures, c.from.ensures, c.from-columns.ensures, width, size) refl

pub returns-clause-count : goal.returns-clause-count
returns-clause-count c =
    let s = c.args.buffer.now in
    let w = s.area.width in
    let size : (c.args.first + c.args.count) * w - c.args.first * w ≡ w * c.args.count = grind arith in
    let width : c.area.result.now.width ≡ w = ap (λ (r : Rect). r.width) c.area.ensures.area in
    rw (c.content.ensures.cells, c.from-3.ensures, c.from-2.ensures, c.from.ensures, c.from-columns.ensures, width, size)
    (part_count w s.area.height c.args.first c.args.count s.cells (rw c.content.ensures.cells at c.content.ensures.count)
    c.requires)
