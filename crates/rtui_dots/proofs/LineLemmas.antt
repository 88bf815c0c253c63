-- The steps of a line.
use Rattle.std.proofs.Common.{◌≡◌, ℕ, zero, suc, ◌+◌, ◌-◌, ◌*◌, ◌/◌, ◌<◌, ◌≤◌, ℤ, ◌⊎◌, ⊎_elim, inl, inr, Bool, true, false, min, not, IsTrue}
use Rattle.std.proofs.Common.{List, [], ◌∷◌, ◌++◌, refl, ◌∙◌, ap, sym, arith}
use Rattle.std.proofs.lemmas.{Bool.cases_lt, Bool.Decides.nat_tests}
use Rattle.std.proofs.Math.Nat.{div-lt_iff_lt-mul, mul-le-mul_left}
use Rattle.rtui_style.specs.declared.color.{Color.Color, Color.TheVariants.Reset}
use Rattle.rtui_dots.specs.declared.{scale.Scale.Scale, painter.DotCell.DotCell, painter.Painter.Painter, line.Run.Run}
use Rattle.rtui_dots.specs.Grids.{Dot, is_open, dot_column, dot_row, with_dot, with_dots, has_dot, far, SetsDots}
use Rattle.rtui_dots.specs.Lines.{gone_after, dots_from, dot_by, run_dot, run_dots, run_of, across_at}
use Rattle.rtui_dots.specs.Inner.{places_along, HasSteps, HasAlong, HasAcross}
use Rattle.rtui_dots.specs.Shapes.{dots_between}
use Rattle.rtui_dots.proofs.GridLemmas.{with_dots-append}

-- a quotient is found by its remainder
pub quotient : (whole n r total : ℕ) → r < whole → r + whole * n ≡ total → total / whole ≡ n
quotient whole n r total lt e = grind arith

-- a run goes across by no more steps than along, and by no more than its shorter side
module _ (long short k : ℕ) (some : 0 < long) where
  pub gone-few : short ≤ long → gone_after long short k ≤ k
  gone-few slope =
      let less : k * short ≤ k * long = mul-le-mul_left k slope in
      let total : 2 * short * k + (long - 1) < (k + 1) * (2 * long) = omega arith in
      let few : gone_after long short k < k + 1 = (div-lt_iff_lt-mul (omega arith)).1 total in
      omega arith

  pub gone-short : k ≤ long → gone_after long short k ≤ short
  gone-short within =
      let less : short * k ≤ short * long = mul-le-mul_left short within in
      let total : 2 * short * k + (long - 1) < (short + 1) * (2 * long) = omega arith in
      let few : gone_after long short k < short + 1 = (div-lt_iff_lt-mul (omega arith)).1 total in
      omega arith

-- a step more
pub dots_from-more : (f : ℕ → Dot) (k n m : ℕ) → n ≡ suc m → dots_from f k n ≡ f k ∷ dots_from f (k + 1) m
dots_from-more f k n m e = ap (dots_from f k) e

dots_from-append : (f : ℕ → Dot) (k a b : ℕ) → dots_from f k (a + b) ≡ dots_from f k a ++ dots_from f (k + a) b
dots_from-append f k zero b =
    let e : 0 + b ≡ b = omega arith in let at : k ≡ k + 0 = omega arith in
    ap (dots_from f k) e ∙ ap (λ m. dots_from f m b) at
dots_from-append f k (suc a) b =
    let e : suc a + b ≡ suc (a + b) = omega arith in let at : (k + 1) + a ≡ k + suc a = omega arith in
    ap (dots_from f k) e ∙ ap (λ ds. f k ∷ ds) (dots_from-append f (k + 1) a b
    ∙ ap (λ m. dots_from f (k + 1) a ++ dots_from f m b) at)

-- a dot that the grid doesn't have changes nothing
with_dot-none : (s : Scale) (d : Dot) (cells : List DotCell) → has_dot s d.x d.y ≡ false → with_dot s d cells ≡ cells
with_dot-none s d cells none = rw none refl

dots-none : (s : Scale) (f : ℕ → Dot) (k n : ℕ) (cells : List DotCell)
    → ((j : ℕ) → k ≤ j → j < k + n → has_dot s (f j).x (f j).y ≡ false) → with_dots s (dots_from f k n) cells ≡ cells
dots-none s f k zero cells none = refl
dots-none s f k (suc n) cells none =
    ap (with_dots s (dots_from f (k + 1) n)) (with_dot-none s (f k) cells (none k (omega arith) (omega arith)))
    ∙ dots-none s f (k + 1) n cells (λ j ge lt. none j (omega arith) (omega arith))

-- a place before the first one or after the last one is none of the grid's
outside : (s : Scale) (flat : Bool) (along across : ℕ) (color : Color) → (along < far) ⊎ (far + places_along flat s ≤ along)
    → has_dot s (dot_by flat along across color).x (dot_by flat along across color).y ≡ false
outside s true along across color out = ⊎_elim (λ (h : along < far). grind arith)
    (λ (h : far + places_along true s ≤ along). grind arith) out
outside s false along across color out = ⊎_elim (λ (h : along < far). grind arith)
    (λ (h : far + places_along false s ≤ along). grind arith) out

-- the steps before some and after them change nothing
middle-only : (s : Scale) (f : ℕ → Dot) (a b c : ℕ) (cells : List DotCell)
    → ((j : ℕ) → 0 ≤ j → j < 0 + a → has_dot s (f j).x (f j).y ≡ false)
    → ((j : ℕ) → a + b ≤ j → j < a + b + c → has_dot s (f j).x (f j).y ≡ false)
    → with_dots s (dots_from f 0 (a + (b + c))) cells ≡ with_dots s (dots_from f a b) cells
middle-only s f a b c cells before behind =
    let zero-a : 0 + a ≡ a = omega arith in
    ap (λ ds. with_dots s ds cells) (dots_from-append f 0 a (b + c)) ∙ with_dots-append s (dots_from f 0 a)
    (dots_from f (0 + a) (b + c)) cells ∙ ap (with_dots s (dots_from f (0 + a) (b + c))) (dots-none s f 0 a cells before)
    ∙ ap (λ m. with_dots s (dots_from f m (b + c)) cells) zero-a
    ∙ ap (λ ds. with_dots s ds cells) (dots_from-append f a b c)
    ∙ with_dots-append s (dots_from f a b) (dots_from f (a + b) c) cells
    ∙ dots-none s f (a + b) c (with_dots s (dots_from f a b) cells) behind

-- the steps before the grid and after it change nothing
pub run-shown : (s : Scale) (r : Run) (color : Color) (first end : ℕ) (cells : List DotCell) → first ≡ far - r.along
    → end ≡ min (far + places_along r.is_flat s - r.along) (r.long + 1)
    → with_dots s (dots_from (run_dot r color) first (end - first)) cells ≡ with_dots s (run_dots r color) cells
run-shown s r color first end cells is_first is_end = ⊎_elim (λ (lt : first < end). some lt) (λ (le : end ≤ first). none le)
    (cases_lt first end)
  where
    out : (j : ℕ) → (r.along + j < far) ⊎ (far + places_along r.is_flat s ≤ r.along + j)
        → has_dot s (run_dot r color j).x (run_dot r color j).y ≡ false
    out j = outside s r.is_flat (r.along + j) (across_at r (gone_after r.long r.short j)) color

    some : first < end → with_dots s (dots_from (run_dot r color) first (end - first)) cells ≡ with_dots s
        (run_dots r color) cells
    some lt =
        let total : first + ((end - first) + (r.long + 1 - end)) ≡ r.long + 1 = omega arith in
        sym (middle-only s (run_dot r color) first (end - first) (r.long + 1 - end) cells (λ j ge less. out j (inl (omega arith)))
        (λ j ge less. out j (inr (omega arith)))) ∙ ap (λ n. with_dots s (dots_from (run_dot r color) 0 n) cells) total

    each : end ≤ first → (j : ℕ) → j < r.long + 1 → (r.along + j < far) ⊎ (far + places_along r.is_flat s ≤ r.along + j)
    each le j less = ⊎_elim (λ (h : j < first). inl (omega arith)) (λ (h : first ≤ j). inr (omega arith)) (cases_lt j first)

    none : end ≤ first → with_dots s (dots_from (run_dot r color) first (end - first)) cells ≡ with_dots s
        (run_dots r color) cells
    none le =
        let nothing : end - first ≡ 0 = omega arith in
        ap (λ n. with_dots s (dots_from (run_dot r color) first n) cells) nothing
        ∙ sym (dots-none s (run_dot r color) 0 (r.long + 1) cells (λ j ge less. out j (each le j (omega arith))))

-- a step's dot is set, and those of the others are left
pub next-dots : (s : Scale) (f : ℕ → Dot) (d : Dot) (k n m : ℕ) (old new all : List DotCell) → n ≡ suc m → d ≡ f k
    → new ≡ with_dot s d old → with_dots s (dots_from f k n) old ≡ all → with_dots s (dots_from f (k + 1) m) new ≡ all
next-dots s f d k n m old new all e at set was =
    ap (with_dots s (dots_from f (k + 1) m)) (set ∙ ap (λ q. with_dot s q old) at)
    ∙ sym (ap (λ ds. with_dots s ds old) (dots_from-more f k n m e)) ∙ was

-- the dot at a step, by the places at which the run is then
pub step-dot : (r : Run) (k gone across : ℕ) (flat : Bool) (color : Color) → flat ≡ r.is_flat → across ≡ across_at r gone
    → gone_after r.long r.short k ≡ gone → dot_by flat (r.along + k) across color ≡ run_dot r color k
step-dot r k gone across flat color side at is = rw (side, at, ← is) refl

-- where a dot stands doesn't depend on its colour
same-place : (s : Scale) (flat : Bool) (a b : ℕ) (c d : Color) → IsTrue (has_dot s (dot_by flat a b c).x (dot_by flat a b c).y)
    → IsTrue (has_dot s (dot_by flat a b d).x (dot_by flat a b d).y)
same-place s true a b c d has = has
same-place s false a b c d has = has

pub step-there : (s : Scale) (r : Run) (first end k gone across : ℕ) (flat : Bool) (color : Color) → flat ≡ r.is_flat
    → across ≡ across_at r gone → gone_after r.long r.short k ≡ gone → HasSteps s r first end → first ≤ k → k < end
    → IsTrue (has_dot s (dot_by flat (r.along + k) across color).x (dot_by flat (r.along + k) across color).y)
step-there s r first end k gone across flat color side at is has from to =
    rw (side, at, ← is) (same-place s r.is_flat (r.along + k) (across_at r (gone_after r.long r.short k)) Reset color (has k from to))

-- a grid that has the places along some steps, and all places across, has the dots of the steps
inside : (s : Scale) (flat : Bool) (along across : ℕ) (color : Color) → far ≤ along → along < far + places_along flat s
    → far ≤ across → across < far + places_along (not flat) s
    → IsTrue (has_dot s (dot_by flat along across color).x (dot_by flat along across color).y)
inside s true along across color a b c d = grind (arith, nat_tests)
inside s false along across color a b c d = grind (arith, nat_tests)

pub steps-there : (s : Scale) (r : Run) (first end : ℕ) → 0 < r.long → end ≤ r.long + 1 → HasAlong s r first end
    → HasAcross s r → HasSteps s r first end
steps-there s r first end some last along across k from to =
    let gone = gone_after r.long r.short k in
    let least = along.from in
    let most = along.to in
    let places = across gone (gone-short r.long r.short k some (omega arith)) in
    inside s r.is_flat (r.along + k) (across_at r gone) Reset (omega arith) (omega arith) places.0 places.1

-- a line between two points
pub line-painted : (s : Scale) (x y x' y' : ℤ) (color : Color) (column row column' row' : ℕ) (r : Run) (old new : Painter)
    → is_open s ≡ true → column ≡ dot_column s x → row ≡ dot_row s y → column' ≡ dot_column s x' → row' ≡ dot_row s y'
    → r ≡ run_of column row column' row' → SetsDots (run_dots r color) old new → SetsDots (dots_between x y x' y' color s) old new
line-painted s x y x' y' color column row column' row' r old new is a b a' b' e paints = rw (is, ← a, ← b, ← a', ← b', ← e) paints
