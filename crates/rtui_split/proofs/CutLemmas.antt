-- Rounding of places to cells, and parts in order.
use Rattle.std.proofs.Common.{ℕ, ◌≡◌, ◌≤◌, ◌<◌, ◌+◌, ◌/◌, List, [], ◌∷◌, ◌++◌, ◌∙◌, take, drop, length, get_or, subst, sym, refl}
use Rattle.std.proofs.Common.{arith, sum_by}
use Rattle.std.proofs.{Math.ListN.set, lemmas.List.take_more, lemmas.List.take_more_set, lemmas.List.take_all}
use Rattle.std.proofs.{lemmas.List.Sums.sum_by-cons}
use Rattle.rtui_geometry.specs.declared.rect.Rect.{Rect}
use Rattle.rtui_layout.specs.declared.direction.Direction.{Direction, TheVariants.Horizontal, TheVariants.Vertical}
use Rattle.rtui_split.specs.Cut.{first_cell, after_of, InOrder, Alternate, AtMostCells, AtLeastCells, AreEdges}
use Rattle.rtui_split.specs.Units.{cell_units}
use Rattle.rtui_split.proofs.Lists.{drop_cons, set_last}

-- a size from one place to another is cut to the whole number below or above
pub cut_at_most : (b f s r start from to size : ℕ) → f ≤ b + s → from ≡ start + (b + r) / cell_units
    → to ≡ start + (f + r) / cell_units → from + size ≡ to → AtMostCells s size
cut_at_most b f s r start from to size within from_is to_is size_is = omega arith

pub cut_at_least : (b f s r start from to size : ℕ) → b + s ≤ f → from ≡ start + (b + r) / cell_units
    → to ≡ start + (f + r) / cell_units → from + size ≡ to → AtLeastCells s size
cut_at_least b f s r start from to size within from_is to_is size_is = omega arith

-- a later place is cut to a later cell
pub cut_later : (b f r : ℕ) → b ≤ f → (b + r) / cell_units ≤ (f + r) / cell_units
cut_later b f r later = omega arith

-- one part more
InOrder-push : (d : Direction) (a c : ℕ) (ps : List Rect) (p : Rect) → InOrder d a (first_cell d p) ps → after_of d p ≤ c
    → InOrder d a c (ps ++ p ∷ [])
InOrder-push d a c [] p done within = (done, within)
InOrder-push d a c (q ∷ qs) p done within = (done.0, InOrder-push d (after_of d q) c qs p done.1 within)

pub InOrder-later : (d : Direction) (a b c : ℕ) (ps : List Rect) → b ≤ c → InOrder d a b ps → InOrder d a c ps
InOrder-later d a b c [] later done = omega arith
InOrder-later d a b c (q ∷ qs) later done = (done.0, InOrder-later d (after_of d q) b c qs later done.1)

-- one part more, written at its place
pub InOrder-written : (d : Direction) (a b c i : ℕ) (ps : List Rect) (p : Rect) → i < length ps
    → InOrder d a b (take i ps) → first_cell d p ≡ b → after_of d p ≤ c → InOrder d a c (take (i + 1) (set ps i p))
InOrder-written d a b c i ps p in_ps done from within =
    let P : List Rect → Type 0 = λ qs. InOrder d a c qs in
    let Q : ℕ → Type 0 = λ n. InOrder d a n (take i ps) in
    subst P (sym (take_more_set ps i p in_ps)) (InOrder-push d a c (take i ps) p (subst Q (sym from) done) within)

-- the rest of parts in order begins with the next one
pub InOrder-drop : (d : Direction) (a b i : ℕ) (ps : List Rect) (empty : Rect) → i < length ps → InOrder d a b (drop i ps)
    → (a ≤ first_cell d (get_or ps i empty)) × InOrder d (after_of d (get_or ps i empty)) b (drop (i + 1) ps)
InOrder-drop d a b i ps empty within done =
    let P : List Rect → Type 0 = λ qs. InOrder d a b qs in
    let e : drop i ps ≡ get_or ps i empty ∷ drop (i + 1) ps = drop_cons ps i empty within in
    subst P e done

first_before_after : (d : Direction) (p : Rect) → first_cell d p ≤ after_of d p
first_before_after Horizontal p = omega arith
first_before_after Vertical p = omega arith

pub InOrder-le : (d : Direction) (a b : ℕ) (ps : List Rect) → InOrder d a b ps → a ≤ b
InOrder-le d a b [] done = done
InOrder-le d a b (p ∷ ps) done = omega (arith, done.0, first_before_after d p, InOrder-le d (after_of d p) b ps done.1)

-- one part more, at its exact place
AreEdges-push : (d : Direction) (start r m at b u : ℕ) (us : List ℕ) (ps : List Rect) (p : Rect)
    → AreEdges d start r m at us ps → b ≡ at + sum_by (λ s. s + m) us
    → first_cell d p ≡ start + (b + r) / cell_units → after_of d p ≡ start + (b + u + r) / cell_units
    → AreEdges d start r m at (us ++ u ∷ []) (ps ++ p ∷ [])
AreEdges-push d start r m at b u [] [] p done begin from to = (omega (arith, begin, from), omega (arith, begin, to), tt)
AreEdges-push d start r m at b u (v ∷ vs) (q ∷ qs) p done begin from to = (
  done.0,
  done.1,
  AreEdges-push d start r m (at + v + m) b u vs qs p done.2 (omega (arith, begin, sum_by-cons (λ s. s + m) v vs)) from to,
)
AreEdges-push d start r m at b u _ _ p done begin from to = absurd done

pub AreEdges-written : (d : Direction) (start r m at b i : ℕ) (us : List ℕ) (ps : List Rect) (p : Rect) → i < length us
    → i < length ps → AreEdges d start r m at (take i us) (take i ps) → b ≡ at + sum_by (λ s. s + m) (take i us)
    → first_cell d p ≡ start + (b + r) / cell_units → after_of d p ≡ start + (b + get_or us i 0 + r) / cell_units
    → AreEdges d start r m at (take (i + 1) us) (take (i + 1) (set ps i p))
AreEdges-written d start r m at b i us ps p in_us in_ps done begin from to =
    let P : List Rect → Type 0 = λ qs. AreEdges d start r m at (take (i + 1) us) qs in
    let Q : List ℕ → Type 0 = λ vs. AreEdges d start r m at vs (take i ps ++ p ∷ []) in
    subst P (sym (take_more_set ps i p in_ps)) (subst Q (sym (take_more us i 0 in_us))
    (AreEdges-push d start r m at b (get_or us i 0) (take i us) (take i ps) p done begin from to))

-- as many spaces as parts, in turn, the last part up to c
abbrev pub InTurn : Direction → ℕ → ℕ → List Rect → List Rect → Type 0
InTurn d a c [] [] = a ≡ c
InTurn d a c [] (p ∷ ps) = ⊥
InTurn d a c (s ∷ ss) [] = ⊥
InTurn d a c (s ∷ ss) (p ∷ ps) = (first_cell d s ≡ a) × (after_of d s ≡ first_cell d p) × InTurn d (after_of d p) c ss ps

-- one space and one part more
InTurn-push : (d : Direction) (a c : ℕ) (ss ps : List Rect) (s p : Rect) → InTurn d a c ss ps → first_cell d s ≡ c
    → after_of d s ≡ first_cell d p → InTurn d a (after_of d p) (ss ++ s ∷ []) (ps ++ p ∷ [])
InTurn-push d a c [] [] s p h from to = (from ∙ sym h, to, refl)
InTurn-push d a c (t ∷ ts) (q ∷ qs) s p h from to = (h.0, h.1, InTurn-push d (after_of d q) c ts qs s p h.2 from to)
InTurn-push d a c _ _ s p h from to = absurd h

-- the space at the end
InTurn-close : (d : Direction) (a c b : ℕ) (ss ps : List Rect) (s : Rect) → InTurn d a c ss ps → first_cell d s ≡ c
    → after_of d s ≡ b → Alternate d a b (ss ++ s ∷ []) ps
InTurn-close d a c b [] [] s h from to = (from ∙ sym h, to, refl)
InTurn-close d a c b (t ∷ ts) (q ∷ qs) s h from to = (h.0, h.1, InTurn-close d (after_of d q) c b ts qs s h.2 from to)
InTurn-close d a c b _ _ s h from to = absurd h

-- one space more, written at its place
pub InTurn-written : (d : Direction) (a c e i : ℕ) (ss ps : List Rect) (s empty : Rect) → i < length ss → i < length ps
    → InTurn d a c (take i ss) (take i ps) → first_cell d s ≡ c → after_of d s ≡ first_cell d (get_or ps i empty)
    → after_of d (get_or ps i empty) ≡ e
    → InTurn d a e (take (i + 1) (set ss i s)) (take (i + 1) ps)
InTurn-written d a c e i ss ps s empty in_ss in_ps done from to last =
    let p = get_or ps i empty in
    let P : List Rect → Type 0 = λ qs. InTurn d a e qs (take (i + 1) ps) in
    let Q : List Rect → Type 0 = λ qs. InTurn d a e (take i ss ++ s ∷ []) qs in
    let R : ℕ → Type 0 = λ n. InTurn d a n (take i ss ++ s ∷ []) (take i ps ++ p ∷ []) in
    subst P (sym (take_more_set ss i s in_ss)) (subst Q (sym (take_more ps i empty in_ps))
    (subst R last (InTurn-push d a c (take i ss) (take i ps) s p done from to)))

-- the space at the end, written at its place
pub InTurn-closed : (d : Direction) (a c b n : ℕ) (ss ps : List Rect) (s : Rect) → length ss ≡ n + 1 → length ps ≡ n
    → InTurn d a c (take n ss) (take n ps) → first_cell d s ≡ c → after_of d s ≡ b → Alternate d a b (set ss n s) ps
InTurn-closed d a c b n ss ps s long_ss long_ps done from to =
    let P : List Rect → Type 0 = λ qs. Alternate d a b qs ps in
    let Q : List Rect → Type 0 = λ qs. InTurn d a c (take n ss) qs in
    subst P (sym (set_last ss n s long_ss)) (InTurn-close d a c b (take n ss) ps s (subst Q (take_all n ps (omega arith)) done)
    from to)
