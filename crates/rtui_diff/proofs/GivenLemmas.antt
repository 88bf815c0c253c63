-- Why a place is given.
use Rattle.std.proofs.Common.{◌≡◌, ℕ, zero, suc, ◌+◌, ◌*◌, ◌/◌, ◌%◌, ◌<◌, ◌≤◌, ◌&&◌, ◌||◌, Bool, true, false, not, List, map, All}
use Rattle.std.proofs.Common.{refl, sym, ap, subst, ◌∙◌, arith, inl, inr, length, filter, Contains}
use Rattle.std.specs.List.{range_with_len}
use Rattle.std.proofs.lemmas.{Nat.mod-mul-add, Nat.div-mul-add, List.get_or-map, List.length-map}
use Rattle.std.proofs.lemmas.Bool.{cases_order, false≢true, and_parts, not-true}
use Rattle.std.proofs.lemmas.List.Elements.{All-nil, All-cons, All-contains, All-contains_itself, All-map, All-weaker}
use Rattle.rtui_cell.specs.{declared.cell.Cell.Cell, Cell.empty_cell, Cell.width_of, Cell.is_skipped, Equality.is_same}
use Rattle.rtui_cell.specs.{Equality.is_same_symbol}
use Rattle.rtui_cell.proofs.CellLemmas.{same_symbol, symbol_beside}
use Rattle.rtui_diff.specs.Cells.{has_fe0f, is_forced, is_always, shows_on_blank, cell}
use Rattle.rtui_diff.specs.DiffRule.{Walk, start, gives, gives_other, step, step_other, give, given}
use Rattle.rtui_diff.specs.{Updates.update_at, Updates.updates, Settled.IsSettled}
use Rattle.rtui_diff.specs.Completeness.{differing, AreNarrow, IsGiven, CoversColumn, Uncovers, IsInFrame, IsMinimal}
use Rattle.rtui_diff.proofs.{WalkLemmas.step_cases, WalkLemmas.unskipped, WalkLemmas.give_cond, WalkLemmas.places}
use Rattle.rtui_diff.proofs.{FrameLemmas.row_start, SettledLemmas.settled_flat, SettledLemmas.same_row}
use Rattle.rtui_diff.proofs.ColumnLemmas.{Covers, Settled, Origin, FormerOrigin, Stands, reach-none, column_step, stands_start}
use Rattle.rtui_diff.proofs.ColumnLemmas.{behind_width}

-- Narrow cells: exactly those that differ.

abbrev differs : List Cell → List Cell → ℕ → Bool
differs ps ns i = not (is_skipped (cell ns i)) && not (is_same (cell ps i) (cell ns i))

gives_differs : (p n : Cell) → is_always n ≡ false → gives_other p n ≡ (not (is_skipped n) && not (is_same p n))
gives_differs p n e = rw e refl

narrow_from : (len : ℕ) (ps ns : List Cell) (n : ℕ) (s : Walk) (i : ℕ) → AreNarrow len ps ns → i + n ≡ len → s.over ≡ 0
    → s.left ≡ 0 →
    given ps ns n s i ≡ filter (differs ps ns) (range_with_len i n)
unfolding given
narrow_from len ps ns zero s i narrow e o l = refl
narrow_from len ps ns (suc n) s i narrow e o l =
    let p : Cell = cell ps i in
    let c : Cell = cell ns i in
    let wp : width_of (cell ps i) ≤ 1 = narrow.former i (omega arith) in
    let wn : width_of (cell ns i) ≤ 1 = narrow.next i (omega arith) in
    let g : gives s p c ≡ gives_other p c = rw (o, l) refl in
    let t : step s p c ≡ step_other p c = rw (o, l) refl in
    let d : gives_other p c ≡ differs ps ns i = gives_differs p c (narrow.changing i (omega arith)) in
    let none : ((step_other p c).over ≡ 0) × ((step_other p c).left ≡ 0) =
    step_cases (λ t. (t.over ≡ 0) × (t.left ≡ 0)) p c (λ _. (refl, refl)) (λ _. (omega arith, refl))
    (λ _ _ _ _ _. (refl, omega arith)) (λ _ _ _ _. (refl, omega arith)) (λ _ _. (refl, refl)) in
    ap (λ g. give g i (given ps ns n (step s p c) (i + 1))) (g ∙ d)
    ∙ ap (λ t. give (differs ps ns i) i (given ps ns n t (i + 1))) t
    ∙ ap (give (differs ps ns i) i) (narrow_from len ps ns n (step_other p c) (i + 1) narrow (omega arith) none.0 none.1)
    ∙ give_cond (differs ps ns i) i (filter (differs ps ns) (range_with_len (i + 1) n))

-- where all cells are narrow, exactly the unskipped ones that differ are given
pub given_narrow : (len : ℕ) (ps ns : List Cell) → AreNarrow len ps ns → given ps ns len start 0 ≡ differing ps ns len
given_narrow len ps ns narrow = narrow_from len ps ns len start 0 narrow (omega arith) refl refl

-- What is known of a given place.

pub contains_give : (g : Bool) (i c : ℕ) (is : List ℕ) → Contains is c → Contains (give g i is) c
contains_give true i c is h = (suc h.0, let k = h.1 in omega arith, h.2)
contains_give false i c is h = h

pub contains_head : (g : Bool) (i : ℕ) (is : List ℕ) → g ≡ true → Contains (give g i is) i
contains_head true i is e = (0, omega arith, refl)
contains_head false i is e = absurd (false≢true e)

all_give : (P : ℕ → Type 0) (g : Bool) (i : ℕ) (is : List ℕ) → (g ≡ true → P i) → All P is → All P (give g i is)
all_give P true i is p all = All-cons P i is (p refl) all
all_give P false i is p all = all

-- the walk's state there, if Q holds of all that is given
pub record At (len : ℕ) (ps ns : List Cell) (Q : ℕ → Type 0) (j : ℕ) : Type 0 where
  pub state : Walk
  pub rest : ℕ
  pub total : j + 1 + rest ≡ len
  pub stands : Stands len ps ns Q state j
  pub gave : gives state (cell ps j) (cell ns j) ≡ true
  pub later : (c : ℕ) → Contains (given ps ns rest (step state (cell ps j) (cell ns j)) (j + 1)) c → Q c

walked : (len : ℕ) (ps ns : List Cell) (Q : ℕ → Type 0) (n : ℕ) (s : Walk) (i : ℕ) → Settled len ps → Settled len ns
    → i + n ≡ len →
    Stands len ps ns Q s i → ((c : ℕ) → Contains (given ps ns n s i) c → Q c) → All (At len ps ns Q) (given ps ns n s i)
unfolding given
walked len ps ns Q zero s i sp st e stands q = All-nil (At len ps ns Q)
walked len ps ns Q (suc n) s i sp st e stands q =
    let t : Walk = step s (cell ps i) (cell ns i) in
    let g : Bool = gives s (cell ps i) (cell ns i) in
    let rest : List ℕ = given ps ns n t (i + 1) in
    let later : (c : ℕ) → Contains rest c → Q c = λ c x. q c (contains_give g i c rest x) in
    all_give (At len ps ns Q) g i rest (λ gave. record {
      state = s;
      rest = n;
      total = omega arith;
      stands = stands;
      gave = gave;
      later = later;
    })
    (walked len ps ns Q n t (i + 1) sp st (omega arith) (column_step len ps ns Q s.over s.left s.force i sp st (omega arith)
    (λ gave. q i (contains_head g i rest gave)) stands).0 later)

-- two unskipped cells that cover a place are one
one_cover : (len : ℕ) (ns : List Cell) (j k c : ℕ) → Settled len ns → c < len → Covers ns j c → Covers ns k c → j ≡ k
one_cover len ns j k c st lt x y = elim (cases_order j k) [
  | inl same ↦ same
  | inr (inl less) ↦ absurd (first j k less x y)
  | inr (inr more) ↦ absurd (first k j more y x)
]
  where
    first : (j k : ℕ) → j < k → Covers ns j c → Covers ns k c → ⊥
    first j k less x y =
        let b : Covers ns j k = record { before = less; unskipped = x.unskipped; reaches = omega (arith, x.reaches, y.before) } in
        omega (arith, y.before, y.reaches, behind_width len ns j k st (omega (arith, y.before)) b)

-- why it is given where a cell of next covers it, and where its cell is the former one
pub record Reasons (ps ns : List Cell) (Q : ℕ → Type 0) (c : ℕ) : Type 0 where
  pub behind : (j : ℕ) → Covers ns j c → Q j × (is_forced (cell ns j) ≡ false) × (has_fe0f (cell ns j) ≡ true)
      × (is_same_symbol (cell ps c) empty_cell ≡ false)
  pub same : is_same (cell ps c) (cell ns c) ≡ true → is_always (cell ns c) ≡ false → FormerOrigin ps ns Q c

reasons : (len : ℕ) (ps ns : List Cell) (Q : ℕ → Type 0) (over left : ℕ) (force : Bool) (i : ℕ) → Settled len ns → i < len →
    (let s : Walk = record { over = over; left = left; force = force } in
    Stands len ps ns Q s i → gives s (cell ps i) (cell ns i) ≡ true → Reasons ps ns Q i)
reasons len ps ns Q (suc over) left force i st lt stands g = absurd (false≢true g)
reasons len ps ns Q zero (suc left) true i st lt stands g = record {
  behind = λ j x. absurd (stands.closed.closed j (subst (Covers ns j) (sym (reach-none true i)) x));
  same = λ _ _. stands.origins.forced refl i (omega arith) (omega arith);
}
reasons len ps ns Q zero (suc left) false i st lt stands g =
    let x : Origin ns Q i = stands.origins.unforced refl i (omega arith) (omega arith) in
    let other : is_same_symbol (cell ps i) (cell ns i) ≡ false =
    not-true _ (and_parts (not (is_skipped (cell ns i))) (not (is_same_symbol (cell ps i) (cell ns i))) g).1 in
    let blank : is_same (cell ns i) empty_cell ≡ true = elim (st.behind x.j i lt x.covers) [
      | inl e ↦ e
      | inr e ↦ absurd (false≢true (sym (unskipped 0 (suc left) false (cell ps i) (cell ns i) g) ∙ e))
    ] in
    record {
      behind = λ j y.
          let one : x.j ≡ j = one_cover len ns x.j j i st lt x.covers y in (
            subst Q one x.given,
            subst (λ y. is_forced (cell ns y) ≡ false) one x.unforced,
            subst (λ y. has_fe0f (cell ns y) ≡ true) one x.variation,
            sym (symbol_beside (cell ps i) (cell ns i) empty_cell blank) ∙ other,
          );
      same = λ e _. absurd (false≢true (sym other ∙ same_symbol (cell ps i) (cell ns i) e));
    }
reasons len ps ns Q zero zero force i st lt stands g = record {
  behind = λ j x. absurd (stands.closed.closed j (subst (Covers ns j) (sym (reach-none force i)) x));
  same = λ e f. absurd (false≢true (rw (e, f) at (and_parts (not (is_skipped (cell ns i)))
      (is_always (cell ns i) || not (is_same (cell ps i) (cell ns i))) g).1));
}

-- In columns and rows.

contains_map : {X Y : Type 0} (f : X → Y) (xs : List X) (x : X) → Contains xs x → Contains (map f xs) (f x)
contains_map f xs x c = (
  c.0,
  let l : length (map f xs) ≡ length xs = length-map xs f in let k = c.1 in
      omega arith,
  get_or-map f xs c.0 x (f x) c.1 ∙ ap f c.2,
)

module _ (x0 y0 w h : ℕ) (ps ns : List Cell) where
  pub given_at : (j b : ℕ) → j < w → Contains (places w h ps ns) (b * w + j) → IsGiven x0 y0 (updates x0 y0 w h ps ns) j b
  given_at j b in_row c = record {
    update = update_at x0 y0 w ns (b * w + j);
    among = contains_map (update_at x0 y0 w ns) (places w h ps ns) (b * w + j) c;
    x = ap (λ n. x0 + n) (mod-mul-add b w j in_row);
    y = ap (λ n. y0 + n) (div-mul-add b w j in_row);
  }

  -- the walk's state at a column that is given
  pub at_column : (a b : ℕ) → IsSettled w h ps → IsSettled w h ns → IsGiven x0 y0 (updates x0 y0 w h ps ns) a b
      → At (w * h) ps ns (Contains (places w h ps ns)) (b * w + a)
  at_column a b sp st g =
      let is : List ℕ = places w h ps ns in
      let all : All (At (w * h) ps ns (Contains is)) is =
      walked (w * h) ps ns (Contains is) (w * h) start 0 (settled_flat w h ps sp) (settled_flat w h ns st) (omega arith)
      (stands_start (w * h) ps ns (Contains is)) (λ c x. x) in
      All-contains (At (w * h) ps ns (Contains is)) is (b * w + a) all
      (All-contains (λ u. u.x ≡ x0 + a → u.y ≡ y0 + b → Contains is (b * w + a)) (updates x0 y0 w h ps ns) g.update
      (All-map (λ u. u.x ≡ x0 + a → u.y ≡ y0 + b → Contains is (b * w + a)) (update_at x0 y0 w ns) is
      (All-weaker (Contains is) (λ i. x0 + i % w ≡ x0 + a → y0 + i / w ≡ y0 + b → Contains is (b * w + a)) place is
      (All-contains_itself is))) g.among g.x g.y)
    where
      place : (i : ℕ) → Contains (places w h ps ns) i → x0 + i % w ≡ x0 + a → y0 + i / w ≡ y0 + b
          → Contains (places w h ps ns) (b * w + a)
      place i c column row =
          let row' : i / w ≡ b = omega arith in
          let first : i / w * w ≡ b * w = ap (λ q. q * w) row' in
          let start : i / w * w + i % w ≡ i = row_start w h i in
          subst (Contains (places w h ps ns)) (let e : i ≡ b * w + a = omega arith in e) c

  pub flat : (cells : List Cell) (j a b : ℕ) → CoversColumn w cells j a b → Covers cells (b * w + j) (b * w + a)
  flat cells j a b x = record { before = omega (arith, x.before); unskipped = x.unskipped; reaches = omega (arith, x.reaches) }

  pub gives_little : IsSettled w h ps → IsSettled w h ns → IsMinimal x0 y0 w h ps ns (updates x0 y0 w h ps ns)
  gives_little sp st = record {
    behind = λ a b j inside is covers.
        let q = (why a b inside is).behind (b * w + j) (flat ns j a b covers) in
        record {
          given = given_at j b (omega (arith, inside.column, covers.before)) q.0;
          unforced = q.1;
          variation = q.2;
          filled = q.3;
        };
    same = λ a b inside is unchanged. row a b inside ((why a b inside is).same unchanged.same unchanged.changing);
  }
    where
      why : (a b : ℕ) → IsInFrame w h a b → IsGiven x0 y0 (updates x0 y0 w h ps ns) a b
          → Reasons ps ns (Contains (places w h ps ns)) (b * w + a)
      why a b inside is =
          let x = at_column a b sp st is in
          reasons (w * h) ps ns (Contains (places w h ps ns)) x.state.over x.state.left x.state.force (b * w + a)
          (settled_flat w h ns st) (omega (arith, x.total)) x.stands x.gave

      -- the former wide cell stood in the same row
      row : (a b : ℕ) → IsInFrame w h a b → FormerOrigin ps ns (Contains (places w h ps ns)) (b * w + a)
          → Uncovers x0 y0 w ps ns (updates x0 y0 w h ps ns) a b
      row a b inside o =
          let q = same_row w h ps a b o.j sp inside.column inside.row o.covers in
          record {
            j = o.j % w;
            before = q.1.before;
            former = q.1.unskipped;
            covers = q.1.reaches;
            visible = subst (λ x. shows_on_blank (cell ps x) ≡ true) q.0 o.visible;
            given = given_at (o.j % w) b (omega (arith, q.1.before, inside.column))
                (subst (Contains (places w h ps ns)) q.0 o.given);
            narrow = subst (λ x. width_of (cell ns x) ≤ 1) q.0 o.narrow;
          }
