-- What arranged sizes and their places make of an area.
use Rattle.std.specs.List.{AllZip}
use Rattle.std.proofs.Common.{ℕ, ◌≡◌, ◌==◌, ◌<◌, ◌≤◌, ◌+◌, ◌-◌, ◌*◌, ◌/◌, max, min, false, true, List, [], ◌∷◌, ◌++◌, map, All}
use Rattle.std.proofs.Common.{length, sum, sum_by, get_or, set, take, drop, refl, sym, ◌∙◌, ap, suc, subst, add-mul, arith}
use Rattle.std.proofs.Common.{mul-le-mul_right}
use Rattle.std.proofs.Math.Nat.{suc-mul, mul_right_comm, div-mul-le_self, lt-div-mul-add}
use Rattle.std.proofs.lemmas.List.Elements.{All-map, All-nil, All-cons, All-head, All-tail, All-weaker}
use Rattle.std.proofs.lemmas.List.{length-map, length-take, take-append-drop, Sums.sum-map}
use Rattle.rtui_geometry.specs.declared.rect.Rect.{Rect}
use Rattle.rtui_layout.specs.declared.constraint.Constraint.TheVariants.{Min, Max, Percentage, Ratio, Fill}
use Rattle.rtui_layout.specs.declared.flex.Flex.TheVariants.{Legacy, End, Center, SpaceBetween}
use Rattle.rtui_layout.specs.{Layout.LayoutData, declared.constraint.Constraint.Constraint}
use Rattle.rtui_layout.specs.{declared.direction.Direction.Direction, declared.flex.Flex.Flex}
use Rattle.rtui_layout.specs.{declared.direction.Direction.TheVariants.Horizontal}
use Rattle.rtui_layout.specs.{declared.direction.Direction.TheVariants.Vertical}
use Rattle.rtui_split.specs.Cut.{first_cell, area_end, length_of, AtMostCells, AtLeastCells, IsPartAlong, InOrder, Alternate}
use Rattle.rtui_split.specs.Cut.{SpansAcross, AreEdges, IsSpace}
use Rattle.rtui_split.specs.Wishes.{turn, wish, wish_in, wished_before, weight_in, TakesNothing, TakesNothingIn}
use Rattle.rtui_split.specs.Split.{cells_of, gap_units, least_units, FitWishes, left_for, HasWish, WithinWish, HasLeast, IsSplit}
use Rattle.rtui_split.specs.Split.{IsGivenBefore, IsWithinWish, IsDeniedFrom, size_at, fill_size, total_weight, NoneTakes}
use Rattle.rtui_split.specs.Split.{HasTaker, IsCutAt, IsCutFrom, IsLevel, AreLevelled, AreLeastRagged, AreExact, HasExactPlaces}
use Rattle.rtui_split.specs.Split.{TakeInOrder, StretchOne, HasPlacesInOrder}
use Rattle.rtui_split.specs.Inner.Slots.{part_in, slot_in, slot_parts, sizes_of, total_of, AllSlots, if_in, if_before, heights_of}
use Rattle.rtui_split.specs.Inner.Slots.{wanted_before, sized, HasSizeAt, TakeNothing, weights}
use Rattle.rtui_split.specs.Inner.Shares.{HasAtLeast, IsGranted, IsModest, IsDenied, IsLevelled, ComeFirst, DifferLeast}
use Rattle.rtui_split.specs.Inner.Shares.{next_filled, IsStretchableAt, IsStretched}
use Rattle.rtui_split.specs.Inner.Spaces.{HasRoomForSpaces, IsCutTo, least_gaps, FitsBefore, left_in, IsFilledBeside, IsFlexedIn}
use Rattle.rtui_split.specs.Inner.Spaces.{GivesWishes, IsArranged, IsLegacy}
use Rattle.rtui_split.specs.{declared.place.Lane.Lane, declared.flex.Room.Room, declared.flex.Spaces.Spaces}
use Rattle.rtui_split.specs.{declared.part.Part.Part, declared.slot.Slot.Slot, Units.cell_units, Units.unit_levels}
use Rattle.rtui_split.specs.{Units.IsRounding, Spaces.least_spaces, Spaces.KeepsWishes, Spaces.IsFlexed, Spacers.AreSpacers}
use Rattle.rtui_split.specs.{Ragged.IsLeastRagged, Inner.Lanes.IsLane}
use Rattle.rtui_split.proofs.Lists.{AllZip-weaker, AllZip-chain, AllZip-both, AllZip-and, AllZip-is, map-map, sum_by-map}
use Rattle.rtui_split.proofs.Lists.{sum-plus, sum_is, drop_cons}
use Rattle.rtui_split.proofs.SlotLemmas.{same_map, same_sum, same_all, same_length}
use Rattle.rtui_split.proofs.StretchLemmas.{stretchable_split}

-- a share q/u of x by n parts
ratio_within : (x n q size : ℕ) → q ≤ x * cell_units / n → size * cell_units < q + cell_units → 0 < n → size * n < x + n
ratio_within x n q size few cut some =
    let cells : suc (size * cell_units) * n ≤ (q + cell_units) * n = mul-le-mul_right n cut in
    let share : q * n ≤ x * cell_units / n * n = mul-le-mul_right n few in
    omega (
      arith,
      cells,
      share,
      div-mul-le_self (x * cell_units) n,
      suc-mul (size * cell_units) n,
      add-mul q cell_units n,
      mul_right_comm size cell_units n,
    )

ratio_given : (x n size : ℕ) → x * cell_units / n < size * cell_units + cell_units → 0 < n → x < size * n + n
ratio_given x n size cut some =
    let cells : suc (x * cell_units / n) * n ≤ (size * cell_units + cell_units) * n = mul-le-mul_right n cut in
    omega (
      arith,
      cells,
      lt-div-mul-add {a = x * cell_units} {b = n} some,
      suc-mul (x * cell_units / n) n,
      add-mul (size * cell_units) cell_units n,
      mul_right_comm size cell_units n,
    )

-- a size of at most the wish
wish_within : (cells : ℕ) (c : Constraint) (units size : ℕ) → (TakesNothing c → units ≤ wish cells c) → AtMostCells units size
    → WithinWish cells c size
wish_within cells (Min n) units size few cut = tt
wish_within cells (Fill n) units size few cut = tt
wish_within cells (Ratio m n) units size few cut =
    ratio_within (cells * m) (max n 1) units size (omega (arith, few tt)) cut (omega arith)
wish_within cells _ units size few cut = omega (arith, few tt, cut)

-- a size of the wish
wish_given : (cells : ℕ) (c : Constraint) (units size : ℕ) → wish cells c ≤ units → AtLeastCells units size → size ≤ 65535
    → WithinWish cells c size → HasWish cells c size
wish_given cells (Percentage n) units size enough cut small few = (few, omega (arith, enough, cut))
wish_given cells (Ratio m n) units size enough cut small few =
    (few, ratio_given (cells * m) (max n 1) size (omega (arith, enough, cut, small)) (omega arith))
wish_given cells (Fill n) units size enough cut small few = tt
wish_given cells _ units size enough cut small few = omega (arith, enough, cut, few)

-- slots of these constraints
abbrev pub AreOf : ℕ → List Constraint → List Slot → Type 0
AreOf cells cs ss = slot_parts ss ≡ slot_parts (map (slot_in cells) cs)

long_of : (cells : ℕ) (cs : List Constraint) (ss : List Slot) → AreOf cells cs ss → length ss ≡ length cs
long_of cells cs ss of = same_length ss (map (slot_in cells) cs) of ∙ length-map cs (slot_in cells)

map_of : {X : Type 0} (f : Part → X) (cells : ℕ) (cs : List Constraint) (ss : List Slot) → AreOf cells cs ss
    → map (λ (s : Slot). f s.part) ss ≡ map (λ c. f (part_in cells c)) cs
map_of f cells cs ss of = same_map f ss (map (slot_in cells) cs) of ∙ map-map (λ (s : Slot). f s.part) (slot_in cells) cs

sum_of : (f : Part → ℕ) (cells : ℕ) (cs : List Constraint) (ss : List Slot) → AreOf cells cs ss
    → sum_by (λ (s : Slot). f s.part) ss ≡ sum_by (λ c. f (part_in cells c)) cs
sum_of f cells cs ss of = same_sum f ss (map (slot_in cells) cs) of ∙ sum_by-map (λ (s : Slot). f s.part) (slot_in cells) cs

all_of : (P : Constraint → Type 0) (cells : ℕ) (cs : List Constraint) (ss : List Slot) → AreOf cells cs ss → All P cs
    → All (λ (s : Slot). P s.part.constraint) ss
all_of P cells cs ss of all = same_all (λ (p : Part). P p.constraint) (map (slot_in cells) cs) ss (sym of)
    (All-map (λ (s : Slot). P s.part.constraint) (slot_in cells) cs all)

-- what holds of each part and its size holds of its constraint and the size
zip_of : (R : Part → ℕ → Type 0) (cells : ℕ) (cs : List Constraint) (ss : List Slot) → AreOf cells cs ss → AllSlots R ss
    → AllZip (λ c n. R (part_in cells c) n) cs (sizes_of ss)
zip_of R cells [] [] of all = tt
zip_of R cells [] (s ∷ ss) of all = cc
zip_of R cells (c ∷ cs) [] of all = cc
zip_of R cells (c ∷ cs) (s ∷ ss) of all =
    let P : Slot → Type 0 = λ r. R r.part r.size in
    let Q : Part → Type 0 = λ p. R p s.size in
    let own : s.part ≡ part_in cells c = cc in
    (subst Q own (All-head P s ss all), zip_of R cells cs ss (cc) (All-tail P s ss all))

none_of : (P : Constraint → Type 0) (cells : ℕ) (cs : List Constraint) (ss : List Slot) → AreOf cells cs ss
    → All (λ (s : Slot). P s.part.constraint) ss → All P cs
none_of P cells [] ss of all = All-nil P
none_of P cells (c ∷ cs) [] of all = cc
none_of P cells (c ∷ cs) (s ∷ ss) of all =
    let Q : Slot → Type 0 = λ r. P r.part.constraint in
    let own : s.part.constraint ≡ c = cc in
    All-cons P c cs (subst P own (All-head Q s ss all)) (none_of P cells cs ss (cc) (All-tail Q s ss all))

-- what placing makes of sizes
pub record Placed (space : Type 0) (area : Rect) (units : List ℕ) (spaces : Spaces) (parts : List Rect) (d : Direction) (a b : ℕ)
    : Type 0 where
  pub inside : All (IsPartAlong d area a b) parts
  pub in_order : space → InOrder d a b parts
  pub at_most : AllZip (IsCutTo AtMostCells d) units parts
  pub at_least : space → HasRoomForSpaces spaces ((b - a) * cell_units) units → AllZip (IsCutTo AtLeastCells d) units parts
  pub edges : space → HasRoomForSpaces spaces ((b - a) * cell_units) units
      → (rounding : ℕ) × IsRounding rounding × AreEdges d a rounding spaces.middle spaces.first units parts

pub moved : (space : Type 0) (area : Rect) (units : List ℕ) (spaces : Spaces) (parts : List Rect) (d e : Direction) (a b p q : ℕ)
    → d ≡ e → a ≡ p → b ≡ q → Placed space area units spaces parts d a b → Placed space area units spaces parts e p q
moved space area units spaces parts d e a b p q same_d same_a same_b placed =
    let P : Direction → Type 0 = λ x. Placed space area units spaces parts x a b in
    let Q : ℕ → Type 0 = λ x. Placed space area units spaces parts e x b in
    let R : ℕ → Type 0 = λ x. Placed space area units spaces parts e p x in
    subst R same_b (subst Q same_a (subst P same_d placed))

-- what arranging makes of the parts of constraints
pub record Arranges (cs : List Constraint) (spaces : Spaces) (ss : List Slot) (cells : ℕ) (room : Room) : Type 0 where
  pub parts : AreOf cells cs ss
  pub given : GivesWishes ss room spaces
  pub alone : room.flex ≡ SpaceBetween → length ss ≡ 1
      → (sizes_of ss ≡ room.whole ∷ []) × (spaces.first ≡ 0) × (spaces.middle ≡ 0)
  pub arranged : KeepsWishes room.flex (length ss) → IsArranged ss room spaces
  pub legacy : room.flex ≡ Legacy → IsLegacy ss room spaces

-- the room of a layout in an area of so many columns or rows
abbrev pub room_of : LayoutData → ℕ → ℕ → Room
room_of l cells overlap =
    record { whole = cells * cell_units; flex = l.flex; gap = gap_units l.spacing; overlap = overlap }

pub rearranged : (l : LayoutData) (ss : List Slot) (spaces : Spaces) (cells n w g o : ℕ) (f : Flex) → w ≡ n * cell_units
    → g ≡ gap_units l.spacing → f ≡ l.flex → cells ≡ n
    → Arranges l.constraints spaces ss cells (record { whole = w; flex = f; gap = g; overlap = o })
    → Arranges l.constraints spaces ss n (room_of l n o)
rearranged l ss spaces cells n w g o f same_w same_g same_f same_n arranges =
    let A : ℕ → Room → Type 0 = Arranges l.constraints spaces ss in
    let P : ℕ → Type 0 = λ x. A x (record { whole = w; flex = f; gap = g; overlap = o }) in
    let Q : ℕ → Type 0 = λ x. A n (record { whole = x; flex = f; gap = g; overlap = o }) in
    let R : ℕ → Type 0 = λ x. A n (record { whole = n * cell_units; flex = f; gap = x; overlap = o }) in
    let S : Flex → Type 0 = λ x. A n (record { whole = n * cell_units; flex = x; gap = gap_units l.spacing; overlap = o }) in
    subst S same_f (subst R same_g (subst Q same_w (subst P same_n arranges)))

-- no part has more than 65535 columns or rows
size_small : (d : Direction) (area : Rect) (a b : ℕ) → b ≤ 65535 → (p : Rect) → IsPartAlong d area a b p → length_of d p ≤ 65535
size_small Horizontal area a b small p part = omega (arith, part.to)
size_small Vertical area a b small p part = omega (arith, part.to)

-- a part that has all the room, in cells
alone_has_room : (whole : ℕ) (units : List ℕ) (spaces : Spaces) → units ≡ whole ∷ [] → spaces.first ≡ 0 → spaces.middle ≡ 0
    → HasRoomForSpaces spaces whole units
alone_has_room whole units spaces all first middle = omega (
  arith,
  first,
  middle,
  sum-plus (λ (n : ℕ). n) spaces.middle units,
  ap sum all,
  ap (λ m. length units * m) middle,
)

alone_cells : (d : Direction) (cells : ℕ) (units : List ℕ) (ps : List Rect) → units ≡ cells * cell_units ∷ []
    → AllZip (IsCutTo AtMostCells d) units ps → AllZip (IsCutTo AtLeastCells d) units ps → All (λ p. length_of d p ≡ cells) ps
alone_cells d cells units ps all most least =
    let P : List ℕ → Type 0 = λ us. AllZip (IsCutTo AtMostCells d) us ps in
    let Q : List ℕ → Type 0 = λ us. AllZip (IsCutTo AtLeastCells d) us ps in
    of_one ps (subst P all most) (subst Q all least)
  where
    of_one : (qs : List Rect) → AllZip (IsCutTo AtMostCells d) (cells * cell_units ∷ []) qs
        → AllZip (IsCutTo AtLeastCells d) (cells * cell_units ∷ []) qs → All (λ p. length_of d p ≡ cells) qs
    of_one [] most least = absurd most
    of_one (p ∷ []) most least = All-cons (λ q. length_of d q ≡ cells) p [] (omega (arith, most.0, least.0))
        (All-nil (λ q. length_of d q ≡ cells))
    of_one (p ∷ q ∷ qs) most least = absurd most.1

-- some part takes what is left, and so not none does
taker_takes : (cs : List Constraint) → HasTaker cs → NoneTakes cs → ⊥
taker_takes [] some none = some
taker_takes (Min n ∷ cs) some none = let no = All-head TakesNothing (Min n) cs none in cc
taker_takes (Fill n ∷ cs) some none = All-head TakesNothing (Fill n) cs none
taker_takes (c ∷ cs) some none = taker_takes cs some (All-tail TakesNothing c cs none)

-- sizes that are filled are those at a level
filled_of : (cells : ℕ) (cs : List Constraint) (ss : List Slot) → AreOf cells cs ss → (room : Room)
    → (filled : IsFilledBeside ss room) → AllZip (λ c n. n ≡ size_at cells filled.0 filled.1 c) cs (sizes_of ss)
filled_of cells cs ss of room filled =
    zip_of (HasSizeAt (record { legacy = false; even = filled.0 }) filled.1) cells cs ss of filled.2.each

level_of : (l : LayoutData) (cells o : ℕ) (ss : List Slot) → AreOf cells l.constraints ss
    → (filled : IsFilledBeside ss (room_of l cells o)) → IsLevel l cells filled.0 filled.1
level_of l cells o ss of filled =
    let cs = l.constraints in
    let even = filled.0 in
    let level = filled.1 in
    let at : ℕ → Part → ℕ = sized (record { legacy = false; even = even }) in
    let weighed : weights false ss ≡ total_weight cs = sum_of (λ p. weight_in false p.constraint) cells cs ss of in
    let next : next_filled false even level ss ≡ sum_by (size_at cells even (level + unit_levels)) cs =
    sum_of (at (level + unit_levels)) cells cs ss of in
    let whole : total_of ss ≡ sum_by (size_at cells even level) cs =
    sum_is (λ s. s.size) (λ s. at level s.part) ss filled.2.each ∙ sum_of (at level) cells cs ss of in
    let least : least_gaps (room_of l cells o) ss ≡ least_units l =
    ap (λ n. least_spaces l.flex n * gap_units l.spacing) (long_of cells cs ss of) in (
      λ some. omega (
        arith,
        filled.3 (λ none. taker_takes cs some (none_of TakesNothing cells cs ss of none)),
        next,
        least,
      ),
      filled.2.weighed ∙ ap (λ n. n == 0) weighed,
      omega (arith, filled.4, whole, least),
    )

-- the same spaces, by a condition that says the same
flexed_for : (flex : Flex) (none other : Type 0) (n gap first middle last : ℕ) → (other → none)
    → IsFlexed flex none n gap first middle last → IsFlexed flex other n gap first middle last
flexed_for End none other n gap first middle last same flexed = (flexed.0, λ x. flexed.1 (same x))
flexed_for Center none other n gap first middle last same flexed = (flexed.0, λ x. flexed.1 (same x))
flexed_for _ none other n gap first middle last same flexed = flexed

-- parts at exact places
exact_places : (l : LayoutData) (start cells o : ℕ) (parts : List Rect) (ss : List Slot) (spaces : Spaces)
    → AreOf cells l.constraints ss → IsFlexedIn ss (room_of l cells o) spaces
    → ((rounding : ℕ) × IsRounding rounding
    × AreEdges l.direction start rounding spaces.middle spaces.first (sizes_of ss) parts)
    → AreExact l cells (sizes_of ss) → HasExactPlaces l start cells parts
exact_places l start cells o parts ss spaces of flexed edges exact =
    let cs = l.constraints in
    let long = long_of cells cs ss of in
    let F : ℕ → Type 0 = λ k. IsFlexed l.flex (NoneTakes cs) k (gap_units l.spacing) spaces.first spaces.middle flexed.0 in (
      sizes_of ss,
      spaces.first,
      spaces.middle,
      flexed.0,
      edges.0,
      record {
        sizes = exact;
        whole = omega (arith, flexed.1, ap (λ k. (k - 1) * spaces.middle) long, sum-map (λ (s : Slot). s.size) ss);
        flexed = subst F long (flexed_for l.flex (TakeNothing ss) (NoneTakes cs) (length ss) (gap_units l.spacing) spaces.first
            spaces.middle flexed.0 (all_of TakesNothing cells cs ss of) flexed.2);
        half = edges.1;
        edges = edges.2;
      },
    )

-- what is levelled for parts is levelled for their constraints
levelled_at : (cells : ℕ) (cs : List Constraint) (ss : List Slot) → AreOf cells cs ss → IsLevelled ss
    → AreLevelled cells cs (sizes_of ss)
levelled_at cells cs ss of levelled = (
  levelled.0,
  zip_of (HasAtLeast 0 levelled.0) cells cs ss of levelled.1,
  omega (
    arith,
    levelled.2,
    sum_of (λ p. min (if_in 0 p) (levelled.0 + 1)) cells cs ss of,
    sum-map (λ (s : Slot). s.size) ss,
  ),
)

-- what differs least for parts differs least for their constraints
ragged_at : (t cells room : ℕ) (cs : List Constraint) (ss : List Slot) → AreOf cells cs ss → DifferLeast t room ss
    → AreLeastRagged t cells room cs (sizes_of ss)
ragged_at t cells room cs ss of ragged =
    let P : List ℕ → Type 0 = λ ws. IsLeastRagged ws (heights_of t ss) room ragged.0 ragged.1 in
    let Q : List ℕ → Type 0 = λ xs. IsLeastRagged (map (wish_in t cells) cs) xs room ragged.0 ragged.1 in (
      ragged.0,
      ragged.1,
      subst Q (map_of (if_before t) cells cs ss of) (subst P (map_of (if_in t) cells cs ss of) ragged.2),
      ragged.3,
    )

-- what comes first for parts comes first for their constraints
take_in_order : (t cells room : ℕ) (cs : List Constraint) (ss : List Slot) → AreOf cells cs ss → ComeFirst t room ss
    → TakeInOrder t cells room cs (sizes_of ss)
take_in_order t cells room [] [] of come = tt
take_in_order t cells room [] (s ∷ ss) of come = cc
take_in_order t cells room (c ∷ cs) [] of come = cc
take_in_order t cells room (c ∷ cs) (s ∷ ss) of come =
    let P : Part → Type 0 = λ p. (turn p.constraint ≡ t → s.size ≡ min p.wanted room) × ComeFirst t (room - if_in t p) ss in
    let own : s.part ≡ part_in cells c = cc in
    let here = subst P own come in
    (here.0, take_in_order t cells (room - wish_in t cells c) cs ss (cc) here.1)

-- one wish with so much beside it
wish_more : (cells left : ℕ) (before : List Constraint) (c : Constraint) (after : List Constraint)
    → set (map (wish cells) (before ++ c ∷ after)) (length before)
    (get_or (map (wish cells) (before ++ c ∷ after)) (length before) 0 + left)
    ≡ map (wish cells) before ++ (wish cells c + left) ∷ map (wish cells) after
wish_more cells left [] c after = refl
wish_more cells left (b ∷ bs) c after = ap (λ us. wish cells b ∷ us) (wish_more cells left bs c after)

map-self : (xs : List Constraint) → map (λ x. x) xs ≡ xs
map-self [] = refl
map-self (x ∷ xs) = ap (λ ys. x ∷ ys) (map-self xs)

stretch_one : (cells left : ℕ) (cs : List Constraint) (ss : List Slot) → AreOf cells cs ss
    → IsStretched (map (λ (s : Slot). s.part.wanted) ss) ss left → StretchOne cells cs (sizes_of ss) left
stretch_one cells left cs ss of stretched =
    let at = stretched.0 in
    let S : List Constraint → Type 0 = λ ds. IsStretchableAt ds at in
    let s : S cs = subst S (map_of (λ p. p.constraint) cells cs ss of ∙ map-self cs) stretched.1 in
    let before = take at cs in
    let one = get_or cs at (Max 0) in
    let after = drop (at + 1) cs in
    let whole : cs ≡ before ++ one ∷ after =
    sym (take-append-drop at cs) ∙ ap (λ ds. before ++ ds) (drop_cons cs at (Max 0) s.within) in
    let place : at ≡ length before = omega (arith, length-take at cs, s.within) in
    let more : List ℕ → ℕ → List ℕ = λ ws k. set ws k (get_or ws k 0 + left) in (
      before,
      one,
      after,
      whole,
      stretchable_split cs at s,
      stretched.2 ∙ ap (λ ws. more ws at) (map_of (λ p. p.wanted) cells cs ss of ∙ ap (map (wish cells)) whole)
          ∙ ap (more (map (wish cells) (before ++ one ∷ after))) place
          ∙ wish_more cells left before one after,
    )

-- parts at places one after the other
in_order : (l : LayoutData) (start cells o : ℕ) (parts : List Rect) (ss : List Slot) (spaces : Spaces)
    → AreOf cells l.constraints ss → IsLegacy ss (room_of l cells o) spaces
    → 0 < length l.constraints → cells ≤ 65535 → FitWishes 0 l cells
    → ((t : ℕ) → FitWishes t l cells → FitsBefore t ss (room_of l cells o))
    → ((t : ℕ) → FitsBefore t ss (room_of l cells o) → FitWishes t l cells)
    → ((t : ℕ) → left_in t ss (room_of l cells o) ≡ left_for t l cells)
    → ((rounding : ℕ) × IsRounding rounding
    × AreEdges l.direction start rounding spaces.middle spaces.first (sizes_of ss) parts)
    → HasPlacesInOrder l start cells parts
in_order l start cells o parts ss spaces of legacy some small spaced fits unfits left edges =
    let cs = l.constraints in
    let long = long_of cells cs ss of in
    let least : least_gaps (room_of l cells o) ss ≡ least_units l =
    ap (λ n. least_spaces l.flex n * gap_units l.spacing) long in
    let total = sum-map (λ (s : Slot). s.size) ss in
    let E : ℕ → Type 0 = λ n. AreEdges l.direction start edges.0 n spaces.first (sizes_of ss) parts in
    let F : ℕ → Type 0 = λ n. AreEdges l.direction start edges.0 (gap_units l.spacing) n (sizes_of ss) parts in (
      sizes_of ss,
      cells * cell_units - (sum (sizes_of ss) + least_units l),
      edges.0,
      record {
        whole = omega (arith, legacy.within (fits 0 spaced), least, total);
        first_come = λ t few fit misses. let P : ℕ → Type 0 = λ n. TakeInOrder t cells n cs (sizes_of ss) in
            subst P (left t) (take_in_order t cells (left_in t ss (room_of l cells o)) cs ss of
            (legacy.first_come t few (fits t fit) (λ f. misses (unfits (t + 1) f))));
        later = λ t few misses. zip_of (IsDenied t) cells cs ss of
            (legacy.later t few (fits 0 spaced) (λ f. misses (unfits t f)));
        stretched = λ fit none.
            let s = legacy.stretched (omega (arith, some, long)) (omega (arith, small)) (fits 5 fit)
            (all_of (TakesNothingIn true) cells cs ss of none) in
            (s.0, stretch_one cells s.0 cs ss of s.1, omega (arith, s.2, least, total));
        filled = λ fit some.
            let f = legacy.filled (omega (arith, small)) (fits 5 fit)
            (λ none. some (none_of (TakesNothingIn true) cells cs ss of none)) in
            let at : ℕ → Part → ℕ = sized (record { legacy = true; even = f.0 }) in
            let next : next_filled true f.0 f.1 ss ≡ sum_by (fill_size cells f.0 (f.1 + unit_levels)) cs =
            sum_of (at (f.1 + unit_levels)) cells cs ss of in (
              f.0,
              f.1,
              AllZip-is (fill_size cells f.0 f.1) cs (sizes_of ss)
                  (zip_of (HasSizeAt (record { legacy = true; even = f.0 }) f.1) cells cs ss of f.2.each),
              omega (arith, f.3, next, least),
              f.2.weighed ∙ ap (λ n. n == 0) (sum_of (λ p. weight_in true p.constraint) cells cs ss of),
            );
        half = edges.1;
        edges = subst F legacy.gaps.0 (subst E legacy.gaps.1 edges.2);
      },
    )

-- parts that are placed as they are arranged split the area
pub is_split : (l : LayoutData) (area : Rect) (ss : List Slot) (spaces : Spaces) (parts : List Rect) (o : ℕ)
    → area_end l.direction area ≤ 65535 → length parts ≡ length l.constraints
    → (IsSpace l.spacing
    → Arranges l.constraints spaces ss (cells_of l.direction area) (room_of l (cells_of l.direction area) o))
    → Placed (IsSpace l.spacing) area (sizes_of ss) spaces parts l.direction (first_cell l.direction area)
    (area_end l.direction area)
    → IsSplit l area parts
is_split l area ss spaces parts o small long arranges placed =
    let cs = l.constraints in
    let d = l.direction in
    let cells = cells_of d area in
    let room = room_of l cells o in
    let us = sizes_of ss in
    let Most : ℕ → Rect → Type 0 = IsCutTo AtMostCells d in
    let Least : ℕ → Rect → Type 0 = IsCutTo AtLeastCells d in
    let of : IsSpace l.spacing → AreOf cells cs ss = λ space. (arranges space).parts in
    let least : IsSpace l.spacing → least_gaps room ss ≡ least_units l =
    λ space. ap (λ n. least_spaces l.flex n * gap_units l.spacing) (long_of cells cs ss (of space)) in
    let wished : IsSpace l.spacing → (t : ℕ) → wanted_before t ss ≡ wished_before t cells cs =
    λ space t. sum_of (if_before t) cells cs ss (of space) in
    let fits : IsSpace l.spacing → (t : ℕ) → FitWishes t l cells → FitsBefore t ss room =
    λ space t f. omega (arith, f, wished space t, least space) in
    let unfits : IsSpace l.spacing → (t : ℕ) → FitsBefore t ss room → FitWishes t l cells =
    λ space t f. omega (arith, f, wished space t, least space) in
    let arranged : IsSpace l.spacing → KeepsWishes l.flex (length cs) → IsArranged ss room spaces = λ space k.
    let P : ℕ → Type 0 = λ n. KeepsWishes l.flex n in
    (arranges space).arranged (subst P (sym (long_of cells cs ss (of space))) k) in
    let at_least : IsSpace l.spacing → (t : ℕ) → FitWishes t l cells → AllZip Least us parts =
    λ space t f. placed.at_least space ((arranges space).given.fit t (fits space t f)) in
    let cut : IsSpace l.spacing → (t : ℕ) → FitWishes t l cells → AllZip (λ u p. Most u p × Least u p) us parts =
    λ space t f. AllZip-both Most Least us parts placed.at_most (at_least space t f) in
    let edges = λ (space : IsSpace l.spacing) (f : FitWishes 0 l cells).
    placed.edges space ((arranges space).given.fit 0 (fits space 0 f)) in
    let filled : IsSpace l.spacing → KeepsWishes l.flex (length cs) → FitWishes 5 l cells → IsFilledBeside ss room =
    λ space k f. (arranged space k).filled (omega (arith, small)) (fits space 5 f) in
    record {
      count = long;
      inside = placed.inside;
      in_order = placed.in_order;
      least = λ space t last f. AllZip-chain (λ c u. IsGranted t (part_in cells c) u) Least (HasLeast t cells d)
          (λ c u p granted least first. omega (arith, granted first, least)) cs us parts
          (zip_of (IsGranted t) cells cs ss (of space) ((arranges space).given.granted t last (fits space t f)))
          (at_least space t f);
      alone = λ space between one.
          let all = (arranges space).alone between (omega (arith, one, long_of cells cs ss (of space))) in
          alone_cells d cells us parts all.0 placed.at_most
          (placed.at_least space (alone_has_room (cells * cell_units) us spaces all.0 all.1 all.2));
      within = λ space k. AllZip-chain (λ c u. IsModest (part_in cells c) u) Most (IsWithinWish cells d)
          (λ c u p. wish_within cells c u (length_of d p)) cs us parts
          (zip_of IsModest cells cs ss (of space) (arranged space k).at_most) placed.at_most;
      given = λ space k t last f.
          let Given : Constraint → ℕ → Type 0 = λ c u. IsGranted t (part_in cells c) u in
          let Within : Constraint → ℕ → Type 0 = λ c u. IsModest (part_in cells c) u in
          let Small : Rect → Type 0 = λ p. length_of d p ≤ 65535 in
          AllZip-chain (λ c u. Given c u × Within c u) (λ u p. (Most u p × Least u p) × Small p) (IsGivenBefore t cells d)
          (λ c u p has cuts first. wish_given cells c u (length_of d p) (has.0 first) cuts.0.1 cuts.1
          (wish_within cells c u (length_of d p) has.1 cuts.0.0)) cs us parts
          (AllZip-both Given Within cs us
          (zip_of (IsGranted t) cells cs ss (of space) ((arranges space).given.granted t last (fits space t f)))
          (zip_of IsModest cells cs ss (of space) (arranged space k).at_most))
          (AllZip-and (λ u p. Most u p × Least u p) Small us parts (cut space t f)
          (All-weaker (IsPartAlong d area (first_cell d area) (area_end d area)) Small
          (size_small d area (first_cell d area) (area_end d area) small) parts placed.inside));
      short = λ space k t last spaced misses. (
        us,
        AllZip-weaker (λ u p. Most u p × Least u p) (IsCutFrom d) (λ u p cuts. record { at_most = cuts.0; at_least = cuts.1 }) us
            parts (cut space 0 spaced),
        omega (
          arith,
          (arranged space k).short t last (fits space 0 spaced) (λ f. misses (unfits space t f)),
          least space,
          sum-map (λ (s : Slot). s.size) ss,
        ),
      );
      later = λ space k t last spaced misses. AllZip-chain (λ c u. IsDenied t (part_in cells c) u) Most (IsDeniedFrom t cells d)
          (λ c u p denied most. (omega (arith, denied.0, most), λ from. omega (arith, denied.1 from, most))) cs us parts
          (zip_of (IsDenied t) cells cs ss (of space)
          ((arranged space k).later t last (fits space 0 spaced) (λ f. misses (unfits space t f)))) placed.at_most;
      flexed = λ space k some spaced. exact_places l (first_cell d area) cells o parts ss spaces (of space)
          ((arranged space k).flexed (omega (arith, some, long_of cells cs ss (of space))) (omega (arith, small))
          (fits space 0 spaced))
          (edges space spaced)
          (record {
            within = zip_of IsModest cells cs ss (of space) (arranged space k).at_most;
            given = λ t last f. zip_of (IsGranted t) cells cs ss (of space)
                ((arranges space).given.granted t last (fits space t f));
            later = λ t last misses. zip_of (IsDenied t) cells cs ss (of space)
                ((arranged space k).later t last (fits space 0 spaced) (λ f. misses (unfits space t f)));
            levelled = λ few. levelled_at cells cs ss (of space)
                ((arranged space k).levelled (omega (arith, few, wished space 1, sum-map (λ (s : Slot). s.size) ss)));
            ragged = λ t later last f misses. ragged_at t cells (left_for t l cells) cs ss (of space)
                (let P : ℕ → Type 0 = λ n. DifferLeast t n ss in
                subst P (omega (arith, wished space t, least space))
                ((arranged space k).ragged t later last (fits space t f) (λ f. misses (unfits space (t + 1) f))));
            rest = λ f. let full = filled space k f in (
              full.0,
              full.1,
              AllZip-is (size_at cells full.0 full.1) cs us (filled_of cells cs ss (of space) room full),
              level_of l cells o ss (of space) full,
            );
          });
      legacy = λ space flex some spaced. in_order l (first_cell d area) cells o parts ss spaces (of space)
          ((arranges space).legacy flex) some (omega (arith, small)) spaced (fits space) (unfits space)
          (λ t. omega (arith, wished space t, least space)) (edges space spaced);
      rest = λ space k f. let full = filled space k f in (
        full.0,
        full.1,
        AllZip-chain (λ c u. u ≡ size_at cells full.0 full.1 c) (λ u p. Most u p × Least u p) (IsCutAt cells full.0 full.1 d)
            (λ c u p is cuts. record { at_most = omega (arith, is, cuts.0); at_least = omega (arith, is, cuts.1) }) cs us parts
            (filled_of cells cs ss (of space) room full) (cut space 5 f),
        level_of l cells o ss (of space) full,
      );
    }

-- spaces between the edges of a lane are spacers of the area
pub are_spacers : (l : LayoutData) (area : Rect) (lane : Lane) (spacers parts : List Rect) → IsLane l area lane
    → IsSplit l area parts
    → length spacers ≡ length parts + 1 → All (SpansAcross lane.direction lane.area) spacers
    → (InOrder lane.direction lane.start lane.end parts → Alternate lane.direction lane.start lane.end spacers parts)
    → AreSpacers l area spacers parts
are_spacers l area lane spacers parts is_lane split count across turns =
    let A : Rect → Type 0 = λ x. All (SpansAcross lane.direction x) spacers in
    let D : Direction → Type 0 = λ x. All (SpansAcross x area) spacers in
    let P : Direction → Type 0 = λ x. InOrder x lane.start lane.end parts → Alternate x lane.start lane.end spacers parts in
    let Q : ℕ → Type 0 = λ x. InOrder l.direction x lane.end parts → Alternate l.direction x lane.end spacers parts in
    let R : ℕ → Type 0 = λ x. InOrder l.direction (first_cell l.direction area) x parts
    → Alternate l.direction (first_cell l.direction area) x spacers parts in
    record {
      count = count ∙ ap (λ n. n + 1) split.count;
      across = subst D is_lane.direction (subst A is_lane.cut across);
      turns = λ space. subst R is_lane.end (subst Q is_lane.start (subst P is_lane.direction turns)) (split.in_order space);
    }
