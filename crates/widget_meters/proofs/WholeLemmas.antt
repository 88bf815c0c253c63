-- All of a whole: a full gauge.
use Rattle.std.proofs.Common.{◌≡◌, ℕ, ◌+◌, ◌*◌, ◌/◌, ◌<◌, ◌≤◌, Bool, true, false, if◌then◌else◌, max}
use Rattle.std.proofs.Common.{nat_lt, List, refl, ap, ◌∙◌, arith}
use Rattle.std.proofs.lemmas.{Nat.div-mul-add, Bool.Decides.nat_tests}
use Rattle.std.proofs.Math.Nat.{mul-div_cancel}
use Rattle.ratatui_core.specs.{Layout.Rect, Layout.Position, Layout.HasPosition, Buffer.Cell}
use Rattle.widget_meters.specs.{declared.gauge.Gauge.Gauge, declared.gauge.Fill.Fill, declared.share.Share.Share}
use Rattle.widget_meters.specs.Shares.{is_full, parts_of, whole_of, filled_part, rounded_part}
use Rattle.widget_meters.specs.Gauges.{IsFillOf, filled_cell, full_cell, full_columns}

-- all parts
all-parts : (s : Share) → is_full s ≡ true → parts_of s ≡ whole_of s
all-parts s full = let le : max s.whole 1 ≤ s.parts = grind (arith, nat_tests, full) in omega arith

if-same : (b : Bool) (m n k : ℕ) → m ≡ k → n ≡ k → (if b then m else n) ≡ k
if-same true m n k p q = p
if-same false m n k p q = q

pub full-columns : (g : Gauge) (width : ℕ) → is_full g.share ≡ true → full_columns g width ≡ width
full-columns g width full =
    let all = all-parts g.share full in
    let some : 0 < whole_of g.share = omega arith in
    let floor : filled_part g.share width ≡ width = ap (λ k. width * k / whole_of g.share) all ∙ mul-div_cancel width some in
    let near : 2 * width * parts_of g.share + whole_of g.share ≡ width * (2 * whole_of g.share) + whole_of g.share =
    rw all (omega arith) in
    if-same g.use_unicode (filled_part g.share width) (rounded_part g.share width) width floor
    (ap (λ k. k / (2 * whole_of g.share)) near ∙ div-mul-add width (2 * whole_of g.share) (whole_of g.share) (omega arith))

if-first : {A : Type 0} (b : Bool) (x y : A) → b ≡ true → (if b then x else y) ≡ x
if-first true x y e = refl
if-first false x y e = absurd (cc)

pub full-cells : (g : Gauge) (text : List ℕ) (r : Rect) (f : Fill) (p : Position) (c : Cell) → is_full g.share ≡ true
    → IsFillOf g text r f
    → HasPosition r p → filled_cell f p c ≡ full_cell f p c
full-cells g text r f p c full fill has =
    let right = has.right in
    let end : f.end ≡ r.x + r.width = fill.end ∙ ap (λ n. r.x + n) (full-columns g r.width full) in
    let before : p.x < f.end = omega arith in
    let test : nat_lt p.x f.end ≡ true = grind (arith, nat_tests, before) in
    if-first (nat_lt p.x f.end) _ _ test
