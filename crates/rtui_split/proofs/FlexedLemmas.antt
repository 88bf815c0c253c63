-- Spaces in whole cells, from exact places.
use Rattle.std.specs.Prelude.{⊤}
use Rattle.std.proofs.Common.{ℕ, ◌≡◌, ◌<◌, ◌≤◌, ◌+◌, ◌-◌, ◌*◌, ◌/◌, Bool, true, false, max, List, [], ◌∷◌, length, map, sum}
use Rattle.std.proofs.Common.{sum_by, refl, ◌∙◌, ap, subst, arith}
use Rattle.std.proofs.lemmas.{Bool.Decides.nat_tests, List.Sums.sum_by-cons, List.Sums.sum-map, List.Sums.sum_by-le-sum_by}
use Rattle.rtui_geometry.specs.declared.rect.Rect.{Rect}
use Rattle.rtui_layout.specs.declared.flex.Flex.TheVariants.{Legacy, Start, End, Center, SpaceBetween, SpaceAround, SpaceEvenly}
use Rattle.rtui_layout.specs.{Layout.LayoutData, declared.constraint.Constraint.Constraint}
use Rattle.rtui_layout.specs.{declared.direction.Direction.Direction, declared.flex.Flex.Flex}
use Rattle.rtui_layout.specs.{declared.constraint.Constraint.TheVariants.Fill, declared.layout.Spacing.Spacing}
use Rattle.rtui_layout.specs.{declared.layout.Spacing.TheVariants.Space, declared.layout.Spacing.TheVariants.Overlap}
use Rattle.rtui_split.specs.Wishes.{wish_before, wished_before, weight_in}
use Rattle.rtui_split.specs.Split.{gap_units, least_units, size_at, total_weight, FitWishes, HasTaker, IsLevel}
use Rattle.rtui_split.specs.Flexed.{IsCutUnits, SpacesAfter, SpacesAre, FlexedSpaces, gap_cells}
use Rattle.rtui_split.specs.{Units.cell_units, Units.unit_levels, Units.IsRounding, Cut.first_cell, Cut.after_of, Cut.AreEdges}
use Rattle.rtui_split.specs.{Spaces.IsPacked, Spaces.KeepsWishes, Spaces.IsFlexed}
use Rattle.rtui_split.proofs.{Lists.sum-plus, FlexLemmas.packed_least, GrowthLemmas.share_unit, LevelLemmas.fill_share}

pub gap_in_units : (spacing : Spacing) → gap_units spacing ≡ gap_cells spacing * cell_units
gap_in_units (Space n) = refl
gap_in_units (Overlap n) = refl

edges_long : (d : Direction) (start r m at : ℕ) (us : List ℕ) (ps : List Rect) → AreEdges d start r m at us ps
    → length us ≡ length ps
edges_long d start r m at [] [] edges = refl
edges_long d start r m at (u ∷ us) (p ∷ ps) edges = omega (arith, edges_long d start r m (at + u + m) us ps edges.2)
edges_long d start r m at _ _ edges = absurd edges

-- the spaces after a part that ends at an exact place
edges_after : (d : Direction) (start r m end b : ℕ) (M L : ℕ → Type 0)
    → ((e : ℕ) → M ((e + m + r) / cell_units - (e + r) / cell_units)) → L (b - (start + (end + r) / cell_units))
    → (e a : ℕ) (us : List ℕ) (ps : List Rect) → AreEdges d start r m (e + m) us ps → e + sum_by (λ s. s + m) us ≡ end
    → a ≡ start + (e + r) / cell_units → SpacesAfter d a b M L ps
edges_after d start r m end b M L middle last e a [] [] edges whole here =
    let same : b - (start + (end + r) / cell_units) ≡ b - a = omega (arith, whole, here) in
    subst L same last
edges_after d start r m end b M L middle last e a (u ∷ us) (p ∷ ps) edges whole here =
    let same : (e + m + r) / cell_units - (e + r) / cell_units ≡ first_cell d p - a = omega (arith, here, edges.0) in (
      subst M same (middle e),
      edges_after d start r m end b M L middle last (e + m + u) (after_of d p) us ps edges.2
          (omega (arith, whole, sum_by-cons (λ s. s + m) u us)) edges.1,
    )
edges_after d start r m end b M L middle last e a _ _ edges whole here = absurd edges

-- the spaces of parts at exact places
spaces_hold : (d : Direction) (start r m first last cells : ℕ) (F M L : ℕ → Type 0) (us : List ℕ) (ps : List Rect)
    → AreEdges d start r m first us ps → first + sum us + (length ps - 1) * m + last ≡ cells * cell_units
    → F ((first + r) / cell_units) → ((e : ℕ) → M ((e + m + r) / cell_units - (e + r) / cell_units))
    → L (cells - (cells * cell_units - last + r) / cell_units) → SpacesAre d start (start + cells) F M L ps
spaces_hold d start r m first last cells F M L [] [] edges whole before between ended = tt
spaces_hold d start r m first last cells F M L (u ∷ us) (p ∷ ps) edges whole before between ended =
    let lead : (first + r) / cell_units ≡ first_cell d p - start = omega (arith, edges.0) in
    let end = cells * cell_units - last in
    let long : length us ≡ length ps = edges_long d start r m (first + u + m) us ps edges.2 in
    let gaps : (length (p ∷ ps) - 1) * m ≡ length us * m = ap (λ n. n * m) (omega (arith, long)) in
    let ends : first + u + sum_by (λ s. s + m) us ≡ end =
    omega (arith, whole, gaps, sum-plus (λ (n : ℕ). n) m us, sum_by-cons (λ n. n) u us) in
    let rest : cells - (end + r) / cell_units ≡ start + cells - (start + (end + r) / cell_units) = omega arith in (
      subst F lead before,
      edges_after d start r m end (start + cells) M L between (subst L rest ended) (first + u) (after_of d p) us ps edges.2
          ends edges.1,
    )
spaces_hold d start r m first last cells F M L _ _ edges whole before between ended = absurd edges

-- a place and one a size later are cut to cells that are about the size apart
cut_between : (e m r : ℕ) → IsCutUnits m ((e + m + r) / cell_units - (e + r) / cell_units)
cut_between e m r = (omega arith, omega arith)

cut_as : (share m r : ℕ) → m ≡ share → (e : ℕ) → IsCutUnits share ((e + m + r) / cell_units - (e + r) / cell_units)
cut_as share m r same e = (omega (arith, same), omega (arith, same))

cut_first : (s r : ℕ) → r < cell_units → IsCutUnits s ((s + r) / cell_units)
cut_first s r less = (omega arith, omega arith)

cut_last : (s last r cells : ℕ) → r < cell_units → s ≤ last → last ≤ s + r → last ≤ cells * cell_units
    → IsCutUnits s (cells - (cells * cell_units - last + r) / cell_units)
cut_last s last r cells less more few within = (omega arith, omega arith)

cut_gap : (e g m r : ℕ) → m ≡ g * cell_units → (e + m + r) / cell_units - (e + r) / cell_units ≡ g
cut_gap e g m r gap = omega arith

module _ (gap start r first middle last cells n : ℕ) (d : Direction) (us : List ℕ) (ps : List Rect) (half : IsRounding r)
    (long : n ≡ length ps) (edges : AreEdges d start r middle first us ps)
    (whole : first + sum us + (n - 1) * middle + last ≡ cells * cell_units) where
  hold : (F M L : ℕ → Type 0) → F ((first + r) / cell_units)
      → ((e : ℕ) → M ((e + middle + r) / cell_units - (e + r) / cell_units))
      → L (cells - (cells * cell_units - last + r) / cell_units) → SpacesAre d start (start + cells) F M L ps
  hold F M L = spaces_hold d start r middle first last cells F M L us ps edges
      (omega (arith, whole, ap (λ k. (k - 1) * middle) long))

  pub flexed_spaces : (flex : Flex) (none : Type 0) → n ≤ 1000000
      → IsFlexed flex none n (gap * cell_units) first middle last → FlexedSpaces flex none gap d start (start + cells) ps
  flexed_spaces Legacy none few flexed = tt
  flexed_spaces Start none few flexed =
      hold (λ s. s ≡ 0) (λ s. s ≡ gap) (λ s. ⊤) (omega (arith, flexed.1)) (λ e. cut_gap e gap middle r flexed.0) tt
  flexed_spaces End none few flexed = hold (λ s. ⊤) (λ s. s ≡ gap) (λ s. none → s ≡ 0) tt
      (λ e. cut_gap e gap middle r flexed.0) (λ nobody. omega (arith, flexed.1 nobody))
  flexed_spaces Center none few flexed =
      let lead = (first + r) / cell_units in (
        lead,
        hold (λ s. s ≡ lead) (λ s. s ≡ gap) (λ s. none → (s ≤ lead) × (lead ≤ s + 1)) refl
            (λ e. cut_gap e gap middle r flexed.0)
            (λ nobody. (omega (arith, whole, flexed.1 nobody), omega (arith, whole, flexed.1 nobody))),
      )
  flexed_spaces SpaceBetween none few flexed = (
    middle,
    hold (λ s. s ≡ 0) (IsCutUnits middle) (λ s. s ≡ 0) (omega (arith, flexed.0)) (λ e. cut_between e middle r)
        (omega (arith, whole, flexed.1)),
  )
  flexed_spaces SpaceAround none few flexed = (
    first,
    hold (IsCutUnits first) (IsCutUnits (2 * first)) (IsCutUnits first) (cut_first first r (omega arith))
        (cut_as (2 * first) middle r flexed.0)
        (cut_last first last r cells (omega arith) flexed.1 (omega (arith, flexed.2)) (omega (arith, whole))),
  )
  flexed_spaces SpaceEvenly none few flexed = (
    first,
    hold (IsCutUnits first) (IsCutUnits first) (IsCutUnits first) (cut_first first r (omega arith))
        (cut_as first middle r flexed.0)
        (cut_last first last r cells (omega arith) flexed.1 (omega (arith, flexed.2)) (omega (arith, whole))),
  )

  -- no more than a million units at the ends are no cell
  pub no_spaces : first + last ≤ 1000000 → middle ≡ gap * cell_units
      → SpacesAre d start (start + cells) (λ s. s ≡ 0) (λ s. s ≡ gap) (λ s. s ≡ 0) ps
  no_spaces few wide = hold (λ s. s ≡ 0) (λ s. s ≡ gap) (λ s. s ≡ 0) (omega (arith, few, half))
      (λ e. cut_gap e gap middle r wide) (omega (arith, few, half, whole))

-- a packed flex leaves the gap between two parts
pub packed_gap : (flex : Flex) (none : Type 0) (n gap first middle last : ℕ) → IsPacked flex → KeepsWishes flex n
    → IsFlexed flex none n gap first middle last → middle ≡ gap
packed_gap Legacy none n gap first middle last packed keeps flexed = absurd keeps
packed_gap Start none n gap first middle last packed keeps flexed = flexed.0
packed_gap End none n gap first middle last packed keeps flexed = flexed.0
packed_gap Center none n gap first middle last packed keeps flexed = flexed.0
packed_gap _ none n gap first middle last packed keeps flexed = absurd packed

-- a size at a level of a unit more
fill_unit : (even : Bool) (n level : ℕ) → fill_share even (level + unit_levels) n ≤ fill_share even level n + n + 1
fill_unit true n level = omega (arith, share_unit (max n 1) level)
fill_unit false n level = omega (arith, share_unit n level)

size_unit : (cells : ℕ) (even : Bool) (level : ℕ) (c : Constraint)
    → size_at cells even (level + unit_levels) c ≤ size_at cells even level c + weight_in false c + 1
size_unit cells even level (Fill n) = fill_unit even n level
size_unit cells even level _ = omega arith

sizes_unit : (cells : ℕ) (even : Bool) (level : ℕ) (cs : List Constraint)
    → sum_by (size_at cells even (level + unit_levels)) cs ≤ sum_by (size_at cells even level) cs + total_weight cs + length cs
sizes_unit cells even level [] = omega arith
sizes_unit cells even level (c ∷ cs) =
    simp sum_by-cons (omega (arith, size_unit cells even level c, sizes_unit cells even level cs))

-- what is left at the ends is less than a unit for each weight
pub little_left : (l : LayoutData) (cells first middle last : ℕ) (units : List ℕ) → IsPacked l.flex
    → middle ≡ gap_units l.spacing → HasTaker l.constraints
    → ((even : Bool) × (level : ℕ) × (units ≡ map (size_at cells even level) l.constraints) × IsLevel l cells even level)
    → first + sum units + (length l.constraints - 1) * middle + last ≡ cells * cell_units
    → first + last ≤ total_weight l.constraints + length l.constraints
little_left l cells first middle last units packed gap some filled whole =
    let cs = l.constraints in
    let even = filled.0 in
    let level = filled.1 in
    let all : sum units ≡ sum_by (size_at cells even level) cs = ap sum filled.2 ∙ sum-map (size_at cells even level) cs in
    let least : least_units l ≡ (length cs - 1) * gap_units l.spacing =
    ap (λ n. n * gap_units l.spacing) (packed_least l.flex (length cs) packed) in
    let gaps : (length cs - 1) * middle ≡ (length cs - 1) * gap_units l.spacing = ap (λ m. (length cs - 1) * m) gap in
    omega (arith, all, whole, gaps, least, filled.3.0 some, sizes_unit cells even level cs)

-- who takes what is left is a part
pub some_part : (cs : List Constraint) → HasTaker cs → 0 < length cs
some_part [] taker = absurd taker
some_part (c ∷ cs) taker = omega arith

-- where all wishes fit the spaces do
one_before_all : (cells : ℕ) (c : Constraint) → wish_before 0 cells c ≤ wish_before 5 cells c
one_before_all cells c = grind (arith, nat_tests)

before_all : (cells : ℕ) (cs : List Constraint) → wished_before 0 cells cs ≤ wished_before 5 cells cs
before_all cells cs = sum_by-le-sum_by (wish_before 0 cells) (wish_before 5 cells) cs (one_before_all cells)

pub spaces_fit : (l : LayoutData) (cells : ℕ) → FitWishes 5 l cells → FitWishes 0 l cells
spaces_fit l cells fits = omega (arith, fits, before_all cells l.constraints)
