-- The replay of the given places, seen at one column of a row of cells without end.
use Rattle.std.proofs.Common.{◌≡◌, ℕ, zero, suc, ◌+◌, ◌-◌, ◌<◌, ◌≤◌, ◌&&◌, Bool, true, false, not, List, [], ◌∷◌, refl, sym, ap}
use Rattle.std.proofs.Common.{subst, ◌∙◌, arith, inl, inr, if◌then◌else◌, nat_lt, nat_eq, max}
use Rattle.std.proofs.Math.Bool.{and-true}
use Rattle.std.proofs.lemmas.Bool.{cases_Bool, cases_order, false≢true, and_parts, not-false, false_from_ne_true}
use Rattle.std.proofs.lemmas.Bool.{Decides.nat_tests}
use Rattle.rtui_cell.specs.{declared.cell.Cell.Cell, Look.Look, Look.empty_look, Look.look_of, Cell.empty_cell, Cell.width_of}
use Rattle.rtui_cell.specs.{Cell.is_skipped}
use Rattle.rtui_cell.specs.Equality.{is_same}
use Rattle.rtui_diff.specs.Cells.{has_fe0f, is_forced, shows_on_blank, cell}
use Rattle.rtui_diff.specs.Settled.{IsBlankOrSkipped}
use Rattle.rtui_diff.specs.DiffRule.{Walk, start, gives, gives_visited, gives_other, step, give, given}
use Rattle.rtui_cell.proofs.CellLemmas.{same_look, same_width, same_skipped, look-empty, width-empty}
use Rattle.rtui_diff.proofs.WalkLemmas.{step_cases, other_same, unskipped}

-- the unskipped cell at j covers the place k after it
pub record Covers (cells : List Cell) (j k : ℕ) : Type 0 where
  pub before : j < k
  pub unskipped : is_skipped (cell cells j) ≡ false
  pub reaches : k < j + width_of (cell cells j)

-- settled, with the rows joined to one
pub record Settled (len : ℕ) (cells : List Cell) : Type 0 where
  pub skipped : (i : ℕ) → i < len → is_skipped (cell cells i) ≡ true → width_of (cell cells i) ≤ 1
  pub within : (i : ℕ) → i < len → is_skipped (cell cells i) ≡ false → i + width_of (cell cells i) ≤ len
  pub behind : (i k : ℕ) → k < len → Covers cells i k → IsBlankOrSkipped (cell cells k)

pub record ShowsPlace (cells : List Cell) (k : ℕ) (l : Look) : Type 0 where
  pub look : is_skipped (cell cells k) ≡ false → l ≡ look_of (cell cells k)
  pub behind : (j : ℕ) → Covers cells j k → l ≡ empty_look

-- no cell covers the place r
pub record Closed (cells : List Cell) (r : ℕ) : Type 0 where
  pub closed : (j : ℕ) → Covers cells j r → ⊥

-- the look of column k after the cell of place i was put
abbrev pub put_at : List Cell → ℕ → ℕ → Look → Look
put_at ns i k l = if nat_eq k i then look_of (cell ns i) else
    (if nat_lt i k && nat_lt k (i + width_of (cell ns i)) then empty_look else l)

abbrev pub after : List Cell → List ℕ → ℕ → Look → Look
after ns [] k l = l
after ns (i ∷ is) k l = after ns is k (put_at ns i k l)

-- left of r it shows ns, and from r on it is as F says
pub record Splits (F : Look → Type 0) (ns : List Cell) (r k : ℕ) (l : Look) : Type 0 where
  pub shown : k < r → ShowsPlace ns k l
  pub former : r ≤ k → F l

-- up to where the screen shows the next frame
abbrev pub reach : Walk → ℕ → ℕ
reach s i = i + max s.over (if s.force then 0 else s.left)

pub reach-none : (force : Bool) (i : ℕ) → i + max 0 (if force then 0 else 0) ≡ i
reach-none true i = omega arith
reach-none false i = omega arith

-- a given wide cell with U+FE0F covers the place c
pub record Origin (ns : List Cell) (Q : ℕ → Type 0) (c : ℕ) : Type 0 where
  pub j : ℕ
  pub covers : Covers ns j c
  pub given : Q j
  pub unforced : is_forced (cell ns j) ≡ false
  pub variation : has_fe0f (cell ns j) ≡ true

-- a former wide cell with a visible style covers it, and the cell that is given in its place is not wide
pub record FormerOrigin (ps ns : List Cell) (Q : ℕ → Type 0) (c : ℕ) : Type 0 where
  pub j : ℕ
  pub covers : Covers ps j c
  pub visible : shows_on_blank (cell ps j) ≡ true
  pub given : Q j
  pub narrow : width_of (cell ns j) ≤ 1

-- where the visited range of a state at place i comes from
pub record Origins (ps ns : List Cell) (Q : ℕ → Type 0) (s : Walk) (i : ℕ) : Type 0 where
  pub unforced : s.force ≡ false → (c : ℕ) → i ≤ c → c < i + s.left → Origin ns Q c
  pub forced : s.force ≡ true → (c : ℕ) → i ≤ c → c < i + s.left → FormerOrigin ps ns Q c

-- what holds of the walk's state at place i, if Q holds of each place that is given
pub record Stands (len : ℕ) (ps ns : List Cell) (Q : ℕ → Type 0) (s : Walk) (i : ℕ) : Type 0 where
  pub closed : Closed ns (reach s i)
  pub bound : reach s i ≤ len
  pub origins : Origins ps ns Q s i

-- what one step did to the look of column k
pub record Moves (ns : List Cell) (i k : ℕ) (l m : Look) : Type 0 where
  pub here : k ≡ i → is_skipped (cell ns i) ≡ false → m ≡ look_of (cell ns i)
  pub covered : Covers ns i k → m ≡ empty_look
  pub before : k < i → m ≡ l
  pub past : i + max 1 (width_of (cell ns i)) ≤ k → m ≡ l

abbrev pub next_place : List Cell → ℕ → ℕ
next_place ns i = i + max 1 (width_of (cell ns i))

-- a wide cell is not skipped
pub wide_unskipped : (len : ℕ) (ns : List Cell) (i : ℕ) → Settled len ns → i < len → 1 < width_of (cell ns i)
    → is_skipped (cell ns i) ≡ false
wide_unskipped len ns i st lt wide = false_from_ne_true (is_skipped (cell ns i)) (λ e. omega (arith, st.skipped i lt e))

-- what stands after an unskipped wide cell takes at most one column, and shows the empty look if it is not skipped
pub behind_width : (len : ℕ) (ns : List Cell) (j k : ℕ) → Settled len ns → k < len → Covers ns j k → width_of (cell ns k) ≤ 1
behind_width len ns j k st lt x = elim (st.behind j k lt x) [
  | inl e ↦ omega (arith, same_width (cell ns k) empty_cell e, width-empty)
  | inr e ↦ st.skipped k lt e
]

pub behind_look : (len : ℕ) (ns : List Cell) (j k : ℕ) → Settled len ns → k < len → Covers ns j k → is_skipped (cell ns k) ≡ false
    → look_of (cell ns k) ≡ empty_look
behind_look len ns j k st lt x unskipped = elim (st.behind j k lt x) [
  | inl e ↦ same_look (cell ns k) empty_cell e ∙ look-empty
  | inr e ↦ absurd (false≢true (sym unskipped ∙ e))
]

-- a cell covers the places up to the next one
pub next_covers : (len : ℕ) (ns : List Cell) (i k : ℕ) → Settled len ns → i < len → i < k → k < next_place ns i
    → Covers ns i k
next_covers len ns i k st lt a b = record {
  before = a;
  unskipped = wide_unskipped len ns i st lt (omega arith);
  reaches = omega arith;
}

pub next_bound : (len : ℕ) (ns : List Cell) (i : ℕ) → Settled len ns → i < len → next_place ns i ≤ len
next_bound len ns i st lt = elim (cases_Bool (is_skipped (cell ns i))) [
  | inl e ↦ omega (arith, st.skipped i lt e)
  | inr e ↦ omega (arith, st.within i lt e)
]

pub next_closed : (len : ℕ) (ns : List Cell) (i : ℕ) → Settled len ns → i < len → Closed ns i → Closed ns (next_place ns i)
next_closed len ns i st lt c = record {
  closed = λ j x. elim (cases_order j i) [
    | inl same ↦ let w = ap (λ x. width_of (cell ns x)) same in omega (arith, x.reaches)
    | inr (inl less) ↦ c.closed j (record { before = less; unskipped = x.unskipped; reaches = omega (arith, x.reaches) })
    | inr (inr more) ↦
        let e : next_place ns i ≤ len = next_bound len ns i st lt in
        omega (
          arith,
          x.before,
          x.reaches,
          behind_width len ns i j st (omega (arith, x.before))
              (next_covers len ns i j st lt more x.before),
        )
  ];
}

-- one step moves the split from i to the cell's end
pub next_splits : (len : ℕ) (F : Look → Type 0) (ns : List Cell) (i k : ℕ) (l m : Look) → Settled len ns → i < len → k < len
    → Closed ns i → Splits F ns i k l → Moves ns i k l m →
    Splits F ns (next_place ns i) k m
next_splits len F ns i k l m st lt klt c sp mv = record {
  shown = λ in_r. elim (cases_order k i) [
    | inl same ↦ record {
      look = λ unskipped. mv.here same (subst (λ x. is_skipped (cell ns x) ≡ false) same unskipped)
          ∙ ap (λ x. look_of (cell ns x)) (sym same);
      behind = λ j x. absurd (c.closed j (subst (Covers ns j) same x));
    }
    | inr (inl less) ↦ subst (ShowsPlace ns k) (sym (mv.before less)) (sp.shown less)
    | inr (inr more) ↦
        let blank : m ≡ empty_look = mv.covered (next_covers len ns i k st lt more in_r) in
        record {
          look = λ unskipped. blank ∙ sym (behind_look len ns i k st klt (next_covers len ns i k st lt more in_r) unskipped);
          behind = λ _ _. blank;
        }
  ];
  former = λ past. subst F (sym (mv.past past)) (sp.former (omega arith));
}

moves_put : (ns : List Cell) (i k : ℕ) (l : Look) → Moves ns i k l (put_at ns i k l)
moves_put ns i k l = record {
  here = λ e p. grind (arith, nat_tests);
  covered = λ x. let a = x.before in let b = x.reaches in grind (arith, nat_tests);
  before = λ a. grind (arith, nat_tests);
  past = λ a. grind (arith, nat_tests);
}

moves_skip : (ns : List Cell) (i k : ℕ) (l : Look) → is_skipped (cell ns i) ≡ true → Moves ns i k l l
moves_skip ns i k l e = record {
  here = λ _ p. absurd (false≢true (sym p ∙ e));
  covered = λ x. absurd (false≢true (sym x.unskipped ∙ e));
  before = λ _. refl;
  past = λ _. refl;
}

moves_same : (ps ns : List Cell) (i k : ℕ) (l : Look) → Splits (ShowsPlace ps k) ns i k l → is_same (cell ps i) (cell ns i) ≡ true
    → Moves ns i k l l
moves_same ps ns i k l sp e = record {
  here = λ same p. (sp.former (omega arith)).look (subst (λ x. is_skipped (cell ps x) ≡ false) (sym same) (skips ∙ p))
      ∙ ap (λ x. look_of (cell ps x)) same ∙ same_look (cell ps i) (cell ns i) e;
  covered = λ x. (sp.former (omega (arith, x.before))).behind i (record {
    before = x.before;
    unskipped = skips ∙ x.unskipped;
    reaches = omega (arith, x.reaches, same_width (cell ps i) (cell ns i) e);
  });
  before = λ _. refl;
  past = λ _. refl;
}
  where
    skips : is_skipped (cell ps i) ≡ is_skipped (cell ns i)
    skips = same_skipped (cell ps i) (cell ns i) e

-- the look of column k after a step that gives or not
abbrev pub step_look : Bool → List Cell → ℕ → ℕ → Look → Look
step_look true ns i k l = put_at ns i k l
step_look false ns i k l = l

pub after-give : (g : Bool) (ns : List Cell) (i : ℕ) (is : List ℕ) (k : ℕ) (l : Look)
    → after ns (give g i is) k l ≡ after ns is k (step_look g ns i k l)
after-give true ns i is k l = refl
after-give false ns i is k l = refl

other_moves : (ps ns : List Cell) (i k : ℕ) (l : Look) (g : Bool) → g ≡ gives_other (cell ps i) (cell ns i)
    → Splits (ShowsPlace ps k) ns i k l → Moves ns i k l (step_look g ns i k l)
other_moves ps ns i k l true e sp = moves_put ns i k l
other_moves ps ns i k l false e sp = elim (cases_Bool (is_skipped (cell ns i))) [
  | inl skip ↦ moves_skip ns i k l skip
  | inr unskipped ↦ moves_same ps ns i k l sp (other_same (cell ps i) (cell ns i) (sym e) unskipped)
]

-- each unskipped cell is put
pub forced_moves : (ns : List Cell) (i k : ℕ) (l : Look) (g : Bool) → g ≡ not (is_skipped (cell ns i))
    → Moves ns i k l (step_look g ns i k l)
forced_moves ns i k l true e = moves_put ns i k l
forced_moves ns i k l false e = moves_skip ns i k l (not-false (is_skipped (cell ns i)) (sym e))

-- a visited blank after a wide cell changes nothing
pub blank_kept : (len : ℕ) (ns : List Cell) (j i k : ℕ) (l : Look) (g : Bool) → Settled len ns → i < len → Covers ns j i →
    (g ≡ true → is_skipped (cell ns i) ≡ false) → (k ≡ i → l ≡ empty_look) → step_look g ns i k l ≡ l
blank_kept len ns j i k l true st lt x unskipped blank =
    let w : width_of (cell ns i) ≤ 1 = behind_width len ns j i st lt x in
    let look : look_of (cell ns i) ≡ empty_look = behind_look len ns j i st lt x (unskipped refl) in
    elim (cases_Bool (nat_eq k i)) [
      | inl same ↦ rw same (look ∙ sym (blank (grind (arith, nat_tests))))
      | inr away ↦ grind (arith, nat_tests)
    ]
blank_kept len ns j i k l false st lt x unskipped blank = refl

-- a step at place i to the state t, with the split at r
abbrev Goes : ℕ → List Cell → List Cell → (ℕ → Type 0) → Walk → ℕ → ℕ → Bool → Type 0
Goes len ps ns Q t i r g = Stands len ps ns Q t (i + 1) ×
    ((k : ℕ) (l : Look) → k < len → Splits (ShowsPlace ps k) ns r k l → Splits (ShowsPlace ps k) ns (reach t (i + 1)) k
    (step_look g ns i k l))

-- to a state that reaches the cell's end
advance : (len : ℕ) (ps ns : List Cell) (Q : ℕ → Type 0) (t : Walk) (i r : ℕ) (g : Bool) → Settled len ns → i < len → Closed ns r
    → r ≡ i →
    ((k : ℕ) (l : Look) → Splits (ShowsPlace ps k) ns i k l → Moves ns i k l (step_look g ns i k l))
    → reach t (i + 1) ≡ next_place ns i → Origins ps ns Q t (i + 1) → Goes len ps ns Q t i r g
advance len ps ns Q t i r g st lt closed z mv e o = (
  record {
    closed = subst (Closed ns) (sym e) (next_closed len ns i st lt c);
    bound = subst (λ r. r ≤ len) (sym e) (next_bound len ns i st lt);
    origins = o;
  },
  λ k l klt sp.
      let here : Splits (ShowsPlace ps k) ns i k l = subst (λ r. Splits (ShowsPlace ps k) ns r k l) z sp in
      subst (λ r. Splits (ShowsPlace ps k) ns r k (step_look g ns i k l)) (sym e)
      (next_splits len (ShowsPlace ps k) ns i k l (step_look g ns i k l) st lt klt c here (mv k l here)),
)
  where
    c : Closed ns i
    c = subst (Closed ns) z closed

-- to a state that reaches as far as before
stay : (len : ℕ) (ps ns : List Cell) (Q : ℕ → Type 0) (s t : Walk) (i : ℕ) (g : Bool) → Stands len ps ns Q s i
    → reach s i ≡ reach t (i + 1) →
    s.force ≡ t.force → t.left ≤ s.left - 1 →
    ((k : ℕ) (l : Look) → Splits (ShowsPlace ps k) ns (reach s i) k l → step_look g ns i k l ≡ l)
    → Goes len ps ns Q t i (reach s i) g
stay len ps ns Q s t i g stands e f le kept = (
  record {
    closed = subst (Closed ns) e stands.closed;
    bound = subst (λ r. r ≤ len) e stands.bound;
    origins = record {
      unforced = λ u c a b. stands.origins.unforced (f ∙ u) c (omega arith) (omega arith);
      forced = λ u c a b. stands.origins.forced (f ∙ u) c (omega arith) (omega arith);
    };
  },
  λ k l klt sp. subst (Splits (ShowsPlace ps k) ns (reach t (i + 1)) k) (sym (kept k l sp))
      (subst (λ r. Splits (ShowsPlace ps k) ns r k l) e sp),
)

pub none_visited : (ps ns : List Cell) (Q : ℕ → Type 0) (s : Walk) (i : ℕ) → s.left ≡ 0 → Origins ps ns Q s i
none_visited ps ns Q s i e = record { unforced = λ _ c a b. absurd (omega arith); forced = λ _ c a b. absurd (omega arith) }

-- the invariant of the walk: one column
pub column_step : (len : ℕ) (ps ns : List Cell) (Q : ℕ → Type 0) (over left : ℕ) (force : Bool) (i : ℕ) → Settled len ps
    → Settled len ns → i < len →
    (let s : Walk = record { over = over; left = left; force = force } in
    (gives s (cell ps i) (cell ns i) ≡ true → Q i) → Stands len ps ns Q s i
    → Goes len ps ns Q (step s (cell ps i) (cell ns i)) i (reach s i) (gives s (cell ps i) (cell ns i)))
column_step len ps ns Q (suc over) left force i sp st lt q stands =
    stay len ps ns Q (record { over = suc over; left = left; force = force }) (record {
      over = over;
      left = left - 1;
      force = force;
    }) i false stands (goes_on force) refl (omega arith) (λ k l split. refl)
  where
    goes_on : (f : Bool) → i + max (suc over) (if f then 0 else left) ≡ i + 1 + max over (if f then 0 else (left - 1))
    goes_on true = omega arith
    goes_on false = omega arith
column_step len ps ns Q zero (suc left) true i sp st lt q stands =
    advance len ps ns Q (record { over = width_of (cell ns i) - 1; left = left; force = true }) i _
    (gives_visited true (cell ps i) (cell ns i)) st lt stands.closed (omega arith)
    (λ k l split. forced_moves ns i k l (gives_visited true (cell ps i) (cell ns i)) (and-true (not (is_skipped (cell ns i)))))
    (omega arith)
    (record {
      unforced = λ f. absurd (false≢true (sym f));
      forced = λ f c a b. stands.origins.forced f c (omega arith)
          (omega arith);
    })
column_step len ps ns Q zero (suc left) false i sp st lt q stands =
    let x : Origin ns Q i = stands.origins.unforced refl i (omega arith) (omega arith) in
    let w : width_of (cell ns i) ≤ 1 = behind_width len ns x.j i st lt x.covers in
    stay len ps ns Q (record { over = 0; left = suc left; force = false }) (record {
      over = width_of (cell ns i) - 1;
      left = left;
      force = false;
    }) i _ stands (omega arith) refl (omega arith)
    (λ k l split. blank_kept len ns x.j i k l _ st lt x.covers (unskipped 0 (suc left) false (cell ps i) (cell ns i))
    (λ same. (split.shown (omega arith)).behind x.j (subst (Covers ns x.j) (sym same) x.covers)))
column_step len ps ns Q zero zero force i sp st lt q stands =
    step_cases (λ t. Goes len ps ns Q t i (i + max 0 (if force then 0 else 0)) g) (cell ps i) (cell ns i)
    (λ skip. let w : width_of (cell ns i) ≤ 1 = st.skipped i lt skip in
    to start (omega arith) (none_visited ps ns Q start (i + 1) refl))
    (λ unskipped. to (record { over = width_of (cell ns i) - 1; left = 0; force = false }) (omega arith)
    (none_visited ps ns Q _ (i + 1) refl))
    (λ unskipped unforced gave wide fe. let w : 1 < width_of (cell ns i) = grind (arith, nat_tests) in
    to (record { over = 0; left = width_of (cell ns i) - 1; force = false }) (omega arith) (record {
      unforced = λ _ c a b. record {
        j = i;
        covers = record { before = omega arith; unskipped = unskipped; reaches = omega arith };
        given = q gave;
        unforced = unforced;
        variation = fe;
      };
      forced = λ f. absurd (false≢true f);
    }))
    (λ unskipped gave narrow vis. let w : width_of (cell ns i) ≤ 1 = grind (arith, nat_tests) in
    to (record { over = 0; left = width_of (cell ps i) - 1; force = true }) (omega arith) (record {
      unforced = λ f. absurd (false≢true (sym f));
      forced = λ _ c a b. record {
        j = i;
        covers = record { before = omega arith; unskipped = wide_unskipped len ps i sp lt (omega arith); reaches = omega arith };
        visible = (and_parts (nat_lt (width_of (cell ns i)) (width_of (cell ps i))) (shows_on_blank (cell ps i)) vis).1;
        given = q gave;
        narrow = w;
      };
    }))
    (λ unskipped narrow. let w : width_of (cell ns i) ≤ 1 = grind (arith, nat_tests) in
    to start (omega arith) (none_visited ps ns Q start (i + 1) refl))
  where
    g : Bool
    g = gives_other (cell ps i) (cell ns i)

    to : (t : Walk) → reach t (i + 1) ≡ next_place ns i → Origins ps ns Q t (i + 1)
        → Goes len ps ns Q t i (i + max 0 (if force then 0 else 0)) (gives_other (cell ps i) (cell ns i))
    to t e o = advance len ps ns Q t i _ (gives_other (cell ps i) (cell ns i)) st lt stands.closed (reach-none force i)
        (λ k l. other_moves ps ns i k l (gives_other (cell ps i) (cell ns i)) refl) e o

-- from any state that stands, the places that are given leave column k showing the next frame
pub replay_from : (len : ℕ) (ps ns : List Cell) (n : ℕ) (s : Walk) (i k : ℕ) (l : Look) → Settled len ps → Settled len ns
    → i + n ≡ len → k < len →
    Stands len ps ns (λ _. Unit {0}) s i → Splits (ShowsPlace ps k) ns (reach s i) k l
    → ShowsPlace ns k (after ns (given ps ns n s i) k l)
unfolding given
replay_from len ps ns zero s i k l sp st e klt stands split = split.shown (omega arith)
replay_from len ps ns (suc n) s i k l sp st e klt stands split =
    let g : Bool = gives s (cell ps i) (cell ns i) in
    let q = column_step len ps ns (λ _. Unit {0}) s.over s.left s.force i sp st (omega arith) (λ _. tt) stands in
    subst (ShowsPlace ns k) (sym (after-give g ns i (given ps ns n (step s (cell ps i) (cell ns i)) (i + 1)) k l))
    (replay_from len ps ns n (step s (cell ps i) (cell ns i)) (i + 1) k (step_look g ns i k l) sp st (omega arith) klt q.0
    (q.1 k l klt split))

pub stands_start : (len : ℕ) (ps ns : List Cell) (Q : ℕ → Type 0) → Stands len ps ns Q start 0
stands_start len ps ns Q = record {
  closed = record { closed = λ j x. omega (arith, x.before) };
  bound = omega arith;
  origins = none_visited ps ns Q start 0 refl;
}

pub replay_column : (len : ℕ) (ps ns : List Cell) (k : ℕ) (l : Look) → Settled len ps → Settled len ns → k < len
    → ShowsPlace ps k l → ShowsPlace ns k (after ns (given ps ns len start 0) k l)
replay_column len ps ns k l sp st klt shows = replay_from len ps ns len start 0 k l sp st (omega arith) klt
    (stands_start len ps ns (λ _. Unit {0}))
    (record { shown = λ a. absurd (omega arith); former = λ _. shows })
