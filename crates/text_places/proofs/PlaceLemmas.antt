-- Places by how many rows stand before them in the text.
use Rattle.std.proofs.Common.{◌≡◌, ℕ, zero, suc, ◌+◌, ◌-◌, ◌<◌, ◌≤◌, ◌==◌, ◌&&◌, ◌||◌, Bool, true, false, nat_lt, if◌then◌else◌}
use Rattle.std.proofs.Common.{min, max, refl, ap, ap₂, sym, ◌∙◌, subst, arith, ⊎_elim}
use Rattle.std.proofs.lemmas.{Bool.cases_lt, Bool.Decides.nat_tests}
use Rattle.text_places.specs.declared.place.Place.{Place}
use Rattle.text_places.specs.Places.{HaveRows, IsInLine, text_place, next_place, previous_place, places_after, places_before}
use Rattle.text_places.specs.Places.{is_before, earlier_place, later_place, place_there, lines_rows, rows_between, view_begin}

-- ---- the order of places

pub not-both : (a b : Place) → is_before a b ≡ true → is_before b a ≡ false
not-both a b is = by a.line a.row b.line b.row is
  where
    by : (i j k l : ℕ) → (nat_lt i k || ((i == k) && nat_lt j l)) ≡ true → (nat_lt k i || ((k == i) && nat_lt l j)) ≡ false
    by i j k l is = grind (arith, nat_tests)

pub one-place : (a b : Place) → is_before a b ≡ false → is_before b a ≡ false → a ≡ b
one-place a b not other = ap₂ text_place (lines a.line a.row b.line b.row not other) (rows a.line a.row b.line b.row not other)
  where
    lines : (i j k l : ℕ) → (nat_lt i k || ((i == k) && nat_lt j l)) ≡ false → (nat_lt k i || ((k == i) && nat_lt l j)) ≡ false → i ≡ k
    lines i j k l p q = grind (arith, nat_tests)

    rows : (i j k l : ℕ) → (nat_lt i k || ((i == k) && nat_lt j l)) ≡ false → (nat_lt k i || ((k == i) && nat_lt l j)) ≡ false → j ≡ l
    rows i j k l p q = grind (arith, nat_tests)

no-later-line : (a b : Place) → is_before b a ≡ false → a.line ≤ b.line
no-later-line a b not = by a.line a.row b.line b.row not
  where
    by : (i j k l : ℕ) → (nat_lt k i || ((k == i) && nat_lt l j)) ≡ false → i ≤ k
    by i j k l is = grind (arith, nat_tests)

-- ---- rows of lines

-- the rows of lines, and then those of more lines
rows-more : (rows : ℕ → ℕ) (i m n : ℕ) → lines_rows rows i (m + n) ≡ lines_rows rows i m + lines_rows rows (i + m) n
rows-more rows i zero n =
    let none : 0 + n ≡ n = omega arith in
    let same : i + 0 ≡ i = omega arith in
    omega (arith, ap (lines_rows rows i) none, ap (λ k. lines_rows rows k n) same)
rows-more rows i (suc m) n =
    let rest = rows-more rows (i + 1) m n in
    let same : i + 1 + m ≡ i + suc m = omega arith in
    let there = ap (λ k. lines_rows rows k n) same in
    let first : suc m + n ≡ suc (m + n) = omega arith in
    let all = ap (lines_rows rows i) first in
    omega (arith, rest, there, all)

-- how many rows of a text stand before a place
abbrev pub rank : (ℕ → ℕ) → Place → ℕ
rank rows q = lines_rows rows 0 q.line + q.row

rows-from : (rows : ℕ → ℕ) (a b : ℕ) → a ≤ b → lines_rows rows 0 b ≡ lines_rows rows 0 a + lines_rows rows a (b - a)
rows-from rows a b le =
    let all : b ≡ a + (b - a) = omega (arith, le) in
    let none : 0 + a ≡ a = omega arith in
    ap (lines_rows rows 0) all ∙ rows-more rows 0 a (b - a)
    ∙ ap (λ k. lines_rows rows 0 a + lines_rows rows k (b - a)) none

rows-one : (rows : ℕ → ℕ) (line : ℕ) → lines_rows rows 0 (line + 1) ≡ lines_rows rows 0 line + rows line
rows-one rows line =
    let none : 0 + line ≡ line = omega arith in
    let there = ap rows none in
    omega (arith, rows-more rows 0 line 1, there)

-- a place before another one has fewer rows before it
line-later : (rows : ℕ → ℕ) (i k : ℕ) → i < k → lines_rows rows 0 i + rows i ≤ lines_rows rows 0 k
line-later rows i k lt =
    let all = rows-from rows i k (omega (arith, lt)) in
    let more : k - i ≡ suc (k - i - 1) = omega (arith, lt) in
    let first = ap (lines_rows rows i) more in
    omega (arith, all, first)

by-line : (i j k l : ℕ) → (nat_lt i k || ((i == k) && nat_lt j l)) ≡ true → k ≤ i → i ≡ k
by-line i j k l is le = grind (arith, nat_tests)

by-row : (i j k l : ℕ) → (nat_lt i k || ((i == k) && nat_lt j l)) ≡ true → k ≤ i → j < l
by-row i j k l is le = grind (arith, nat_tests)

pub rank-before : (rows : ℕ → ℕ) (a b : Place) → IsInLine rows a → is_before a b ≡ true → rank rows a < rank rows b
rank-before rows a b here before =
    ⊎_elim (λ (lt : a.line < b.line). omega (arith, here, line-later rows a.line b.line lt))
    (λ (le : b.line ≤ a.line). omega (
      arith,
      ap (lines_rows rows 0) (by-line a.line a.row b.line b.row before le),
      by-row a.line a.row b.line b.row before le,
    ))
    (cases_lt a.line b.line)

pub rank-not : (rows : ℕ → ℕ) (a b : Place) → IsInLine rows b → is_before a b ≡ false → rank rows b ≤ rank rows a
rank-not rows a b here not = by (is_before b a) refl
  where
    by : (t : Bool) → is_before b a ≡ t → rank rows b ≤ rank rows a
    by true is = omega (arith, rank-before rows b a here is)
    by false is = omega (arith, ap (rank rows) (one-place a b not is))

pub rank-same : (rows : ℕ → ℕ) (a b : Place) → IsInLine rows a → IsInLine rows b → rank rows a ≡ rank rows b → a ≡ b
rank-same rows a b in_a in_b same = by (is_before a b) (is_before b a) refl refl
  where
    by : (s t : Bool) → is_before a b ≡ s → is_before b a ≡ t → a ≡ b
    by true t is other = absurd (omega (arith, same, rank-before rows a b in_a is))
    by false true is other = absurd (omega (arith, same, rank-before rows b a in_b other))
    by false false is other = one-place a b is other

-- the place of a lower rank is before the other one
pub before-rank : (rows : ℕ → ℕ) (a b : Place) → IsInLine rows b → rank rows a < rank rows b → is_before a b ≡ true
before-rank rows a b in_b lt = by (is_before a b) refl
  where
    by : (t : Bool) → is_before a b ≡ t → is_before a b ≡ true
    by true is = is
    by false is = absurd (omega (arith, lt, rank-not rows a b in_b is))

pub not-rank : (rows : ℕ → ℕ) (a b : Place) → IsInLine rows a → rank rows b ≤ rank rows a → is_before a b ≡ false
not-rank rows a b in_a le = by (is_before a b) refl
  where
    by : (t : Bool) → is_before a b ≡ t → is_before a b ≡ false
    by true is = absurd (omega (arith, le, rank-before rows a b in_a is))
    by false is = is

pub between-rank : (rows : ℕ → ℕ) (a b : Place) → is_before b a ≡ false → rows_between rows a b ≡ rank rows b - rank rows a
between-rank rows a b not = omega (arith, rows-from rows a.line b.line (no-later-line a b not))

-- ---- the places beside a place

module _ (rows : ℕ → ℕ) (have : HaveRows rows) where
  last-row : (line : ℕ) → previous_place rows (text_place (suc line) 0) ≡ text_place line (rows line - 1)
  last-row line =
      let some : nat_lt 0 (suc line) ≡ true = grind (arith, nat_tests) in
      let same : suc line - 1 ≡ line = omega arith in
      let place : ℕ → Place = λ l. text_place l (rows l - 1) in
      ap (λ b. if b then place (suc line - 1) else text_place (suc line) 0) some ∙ ap place same

  row-less : (line row : ℕ) → previous_place rows (text_place line (suc row)) ≡ text_place line row
  row-less line row =
      let some : nat_lt 0 (suc row) ≡ true = grind (arith, nat_tests) in
      let same : suc row - 1 ≡ row = omega arith in
      let other : Place = if nat_lt 0 line then text_place (line - 1) (rows (line - 1) - 1) else text_place line (suc row) in
      ap (λ b. if b then text_place line (suc row - 1) else other) some ∙ ap (text_place line) same

  -- both are rows of their lines
  pub previous-in : (q : Place) → IsInLine rows q → IsInLine rows (previous_place rows q)
  previous-in q here = by q.line q.row here
    where
      by : (line row : ℕ) → row < rows line → IsInLine rows (previous_place rows (text_place line row))
      by line (suc row) here = subst (IsInLine rows) (sym (row-less line row)) (omega (arith, here))
      by (suc line) zero here = subst (IsInLine rows) (sym (last-row line)) (omega (arith, have line))
      by zero zero here = here

  pub next-in : (q : Place) → IsInLine rows q → IsInLine rows (next_place rows q)
  next-in q here = by (nat_lt (q.row + 1) (rows q.line)) refl
    where
      by : (b : Bool) → nat_lt (q.row + 1) (rows q.line) ≡ b
          → IsInLine rows (if b then text_place q.line (q.row + 1) else text_place (q.line + 1) 0)
      by true is = grind (arith, nat_tests, is)
      by false is = have (q.line + 1)

  -- and one row before and after it
  pub previous-rank : (q : Place) → rank rows (previous_place rows q) ≡ rank rows q - 1
  previous-rank q = by q.line q.row
    where
      by : (line row : ℕ) → rank rows (previous_place rows (text_place line row)) ≡ lines_rows rows 0 line + row - 1
      by line (suc row) = ap (rank rows) (row-less line row) ∙ omega arith
      by (suc line) zero =
          let one : lines_rows rows 0 (suc line) ≡ lines_rows rows 0 line + rows line =
          ap (lines_rows rows 0) (let e : suc line ≡ line + 1 = omega arith in e) ∙ rows-one rows line in
          ap (rank rows) (last-row line) ∙ omega (arith, one, have line)
      by zero zero = refl

  pub next-rank : (q : Place) → IsInLine rows q → rank rows (next_place rows q) ≡ rank rows q + 1
  next-rank q here = by (nat_lt (q.row + 1) (rows q.line)) refl
    where
      by : (b : Bool) → nat_lt (q.row + 1) (rows q.line) ≡ b
          → rank rows (if b then text_place q.line (q.row + 1) else text_place (q.line + 1) 0) ≡ rank rows q + 1
      by true is = omega arith
      by false is =
          let last : q.row + 1 ≡ rows q.line = grind (arith, nat_tests, is, here) in
          omega (arith, last, rows-one rows q.line)

  -- so many rows further, and back
  pub after-in : (n : ℕ) (q : Place) → IsInLine rows q → IsInLine rows (places_after rows n q)
  unfolding places_after
  after-in zero q here = here
  after-in (suc n) q here = next-in (places_after rows n q) (after-in n q here)

  pub before-in : (n : ℕ) (q : Place) → IsInLine rows q → IsInLine rows (places_before rows n q)
  unfolding places_before
  before-in zero q here = here
  before-in (suc n) q here = previous-in (places_before rows n q) (before-in n q here)

  pub after-rank : (n : ℕ) (q : Place) → IsInLine rows q → rank rows (places_after rows n q) ≡ rank rows q + n
  unfolding places_after
  after-rank zero q here = omega arith
  after-rank (suc n) q here = omega (arith, next-rank (places_after rows n q) (after-in n q here), after-rank n q here)

  pub before-rank-less : (n : ℕ) (q : Place) → rank rows (places_before rows n q) ≡ rank rows q - n
  unfolding places_before
  before-rank-less zero q = omega arith
  before-rank-less (suc n) q = omega (arith, previous-rank (places_before rows n q), before-rank-less n q)

  -- ---- one of two places

  pub earlier-in : (a b : Place) → IsInLine rows a → IsInLine rows b → IsInLine rows (earlier_place a b)
  earlier-in a b in_a in_b = by (is_before a b)
    where
      by : (t : Bool) → IsInLine rows (if t then a else b)
      by true = in_a
      by false = in_b

  pub later-in : (a b : Place) → IsInLine rows a → IsInLine rows b → IsInLine rows (later_place a b)
  later-in a b in_a in_b = by (is_before a b)
    where
      by : (t : Bool) → IsInLine rows (if t then b else a)
      by true = in_b
      by false = in_a

  pub earlier-rank : (a b : Place) → IsInLine rows a → IsInLine rows b → rank rows (earlier_place a b) ≡ min (rank rows a) (rank rows b)
  earlier-rank a b in_a in_b = by (is_before a b) refl
    where
      by : (t : Bool) → is_before a b ≡ t → rank rows (if t then a else b) ≡ min (rank rows a) (rank rows b)
      by true is = omega (arith, rank-before rows a b in_a is)
      by false is = omega (arith, rank-not rows a b in_b is)

  pub later-rank : (a b : Place) → IsInLine rows a → IsInLine rows b → rank rows (later_place a b) ≡ max (rank rows a) (rank rows b)
  later-rank a b in_a in_b = by (is_before a b) refl
    where
      by : (t : Bool) → is_before a b ≡ t → rank rows (if t then b else a) ≡ max (rank rows a) (rank rows b)
      by true is = omega (arith, rank-before rows a b in_a is)
      by false is = omega (arith, rank-not rows a b in_b is)

  -- ---- a row that a line may not have

  pub there-in : (q : Place) → IsInLine rows (place_there rows q)
  there-in q = omega (arith, have q.line)

  pub there-same : (q : Place) → IsInLine rows q → place_there rows q ≡ q
  there-same q here = ap (text_place q.line) (let e : min q.row (rows q.line - 1) ≡ q.row = omega (arith, here) in e)

  -- it stands before the same places
  pub there-before : (f q : Place) → IsInLine rows q → is_before (place_there rows f) q ≡ is_before f q
  there-before f q here =
      ⊎_elim (λ (lt : f.line < q.line). earlier-line f.line q.line (min f.row (rows f.line - 1)) f.row q.row lt)
      (λ (le : q.line ≤ f.line).
      ⊎_elim (λ (lt : q.line < f.line). later-line f.line q.line (min f.row (rows f.line - 1)) f.row q.row lt)
      (λ (ge : f.line ≤ q.line). one-line f.line q.line f.row q.row (rows f.line) (omega (arith, le, ge))
      (omega (arith, here, ap rows (let e : f.line ≡ q.line = omega (arith, le, ge) in e))))
      (cases_lt q.line f.line))
      (cases_lt f.line q.line)
    where
      earlier-line : (i k j j' l : ℕ) → i < k → (nat_lt i k || ((i == k) && nat_lt j l)) ≡ (nat_lt i k || ((i == k) && nat_lt j' l))
      earlier-line i k j j' l lt =
          let yes : nat_lt i k ≡ true = grind (arith, nat_tests, lt) in rw yes refl

      later-line : (i k j j' l : ℕ) → k < i → (nat_lt i k || ((i == k) && nat_lt j l)) ≡ (nat_lt i k || ((i == k) && nat_lt j' l))
      later-line i k j j' l lt =
          let not : (i == k) ≡ false = grind (arith, nat_tests, lt) in rw not refl

      one-line : (i k j l n : ℕ) → i ≡ k → l < n
          → (nat_lt i k || ((i == k) && nat_lt (min j (n - 1)) l)) ≡ (nat_lt i k || ((i == k) && nat_lt j l))
      one-line i k j l n is lt = ap (λ b. nat_lt i k || ((i == k) && b)) (one-row j l n lt)
        where
          one-row : (j l n : ℕ) → l < n → nat_lt (min j (n - 1)) l ≡ nat_lt j l
          one-row j l n lt =
              ⊎_elim (λ (less : j < l).
              let yes : nat_lt j l ≡ true = grind (arith, nat_tests, less) in
              let and : nat_lt (min j (n - 1)) l ≡ true = grind (arith, nat_tests, less) in and ∙ sym yes)
              (λ (more : l ≤ j).
              let no' : nat_lt j l ≡ false = grind (arith, nat_tests, more) in
              let and : nat_lt (min j (n - 1)) l ≡ false = grind (arith, nat_tests, more, lt) in and ∙ sym no')
              (cases_lt j l)

  -- ---- a view

  pub view-in : (f q : Place) (n : ℕ) → IsInLine rows q → IsInLine rows (view_begin rows f q n)
  view-in f q n here =
      later-in (earlier_place (place_there rows f) q) (places_before rows (n - 1) q)
      (earlier-in (place_there rows f) q (there-in f) here) (before-in (n - 1) q here)

  pub view-rank : (f q : Place) (n : ℕ) → IsInLine rows q
      → rank rows (view_begin rows f q n) ≡ max (min (rank rows (place_there rows f)) (rank rows q)) (rank rows q - (n - 1))
  view-rank f q n here =
      later-rank (earlier_place (place_there rows f) q) (places_before rows (n - 1) q)
      (earlier-in (place_there rows f) q (there-in f) here) (before-in (n - 1) q here)
      ∙ ap₂ max (earlier-rank (place_there rows f) q (there-in f) here) (before-rank-less (n - 1) q)
