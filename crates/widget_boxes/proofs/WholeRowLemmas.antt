-- A line over a row of plain cells leaves a row whose symbols end in it and cover empty cells.
use Rattle.std.proofs.Common.{◌≡◌, ℕ, zero, suc, ◌+◌, ◌-◌, ◌<◌, ◌≤◌, ◌⊎◌, ⊎_elim, inl, inr, Bool, true, false, if◌then◌else◌}
use Rattle.std.proofs.Common.{nat_lt, nat_le, ◌==◌, ◌||◌, ◌&&◌, not, List, [], ◌∷◌, ◌++◌, length, map, take, drop, filter, slice_index_or}
use Rattle.std.proofs.Common.{All, Some, Option, refl, sym, ap, subst, ◌∙◌, arith, append-nil, sum_by, length-append, min}
use Rattle.std.specs.List.{concat}
use Rattle.std.proofs.lemmas.{Bool.cases_lt, Bool.Decides.nat_tests, List.Sums.sum_by-cons}
use Rattle.std.proofs.lemmas.List.{get_or-take, get_or-drop, get_or_default, length-take, length-drop, get_or_append_left}
use Rattle.std.proofs.lemmas.List.{get_or-append_right, take-append-drop}
use Rattle.std.proofs.lemmas.List.Elements.{All-nil, All-cons, All-head, All-tail, All-take, All-drop, All-map}
use Rattle.unicode_segmentation.specs.Grapheme.{graphemes}
use Rattle.ratatui_core.specs.declared.layout.HorizontalAlignment.{HorizontalAlignment}
use Rattle.ratatui_core.specs.{Style.Style}
use Rattle.ratatui_core.specs.Buffer.{Cell, cell, empty_cell, styled, width_of, text_width, IsUnmarked, IsPlain}
use Rattle.ratatui_core.specs.Text.{LineData, SpanData, EachGrapheme, has_control, line_width, span_width}
use Rattle.ratatui_core.proofs.BufferLemmas.{width-empty, plain-styled}
use Rattle.rtui_buffer.specs.Painting.{fitting}
use Rattle.rtui_widgets.specs.Span.{showing, those_at, is_behind, column_with, columns_from, span_rendered}
use Rattle.rtui_widgets.specs.Line.{Part, parts, parts_then, parts_rendered, after_first, part_of, columns_before, line_rendered}
use Rattle.widget_boxes.specs.Apart.{TakesColumns, columns_shown, KeepApart, IsShowableAs}

-- a cell of a row ends in it, and covers empty cells
pub record IsWholeAt (cs : List Cell) (i : ℕ) : Type 0 where
  pub unmarked : IsUnmarked (cell cs i)
  pub ends : i + width_of (cell cs i) ≤ length cs
  pub behind : (k : ℕ) → i < k → k < i + width_of (cell cs i) → cell cs k ≡ empty_cell

-- so does each
abbrev pub IsWhole : List Cell → Type 0
IsWhole cs = (i : ℕ) → i < length cs → IsWholeAt cs i

-- plain cells do
plain-nth : (cs : List Cell) (i : ℕ) → All IsPlain cs → i < length cs → IsPlain (cell cs i)
plain-nth cs i all lt = all i empty_cell lt

pub whole-plain : (cs : List Cell) → All IsPlain cs → IsWhole cs
whole-plain cs all i lt =
    let is = plain-nth cs i all lt in let one = is.narrow in
    record { unmarked = is.unmarked; ends = omega arith; behind = λ k more less. absurd (omega arith) }

-- and one row of such after another
module _ (a b : List Cell) where
  first : (i : ℕ) → i < length a → cell (a ++ b) i ≡ cell a i
  first i lt = get_or_append_left a b empty_cell i lt

  second : (i : ℕ) → length a ≤ i → cell (a ++ b) i ≡ cell b (i - length a)
  second i le = get_or-append_right a b (length a) i empty_cell refl le

  whole-append : IsWhole a → IsWhole b → IsWhole (a ++ b)
  whole-append is_a is_b i lt =
      let sum : length (a ++ b) ≡ length a + length b = length-append a b in
      ⊎_elim
      (λ (before : i < length a).
      let at = is_a i before in let ends = at.ends in
      let w : width_of (cell (a ++ b) i) ≡ width_of (cell a i) = ap width_of (first i before) in
      record {
        unmarked = subst IsUnmarked (sym (first i before)) at.unmarked;
        ends = omega arith;
        behind = λ k more less. first k (omega arith) ∙ at.behind k more (omega arith);
      })
      (λ (from : length a ≤ i).
      let at = is_b (i - length a) (omega arith) in let ends = at.ends in
      let w : width_of (cell (a ++ b) i) ≡ width_of (cell b (i - length a)) = ap width_of (second i from) in
      record {
        unmarked = subst IsUnmarked (sym (second i from)) at.unmarked;
        ends = omega arith;
        behind = λ k more less. second k (omega arith) ∙ at.behind (k - length a) (omega arith) (omega arith);
      })
      (cases_lt i (length a))

-- ---- graphemes that take columns

abbrev IsWide : List ℕ → Type 0
IsWide g = 0 < text_width g

abbrev sum_of : List (List ℕ) → ℕ
sum_of gs = sum_by text_width gs

kept-wide : (t : Bool) (g : List ℕ) (us : List (List ℕ)) → (t ≡ false → IsWide g) → All IsWide us
    → All IsWide (if not t then g ∷ us else us)
kept-wide true g us one all = all
kept-wide false g us one all = All-cons IsWide g us (one refl) all

all-wide : (gs : List (List ℕ)) → All TakesColumns gs → All IsWide (filter (λ g. not (has_control g)) gs)
all-wide [] all = All-nil IsWide
all-wide (g ∷ gs) all =
    kept-wide (has_control g) g (filter (λ g. not (has_control g)) gs) (All-head TakesColumns g gs all)
    (all-wide gs (All-tail TakesColumns g gs all))

fitting-if : (t : Bool) (g : List ℕ) (us : List (List ℕ)) → All IsWide (g ∷ us) → All IsWide (if t then g ∷ us else [])
fitting-if true g us all = all
fitting-if false g us all = All-nil IsWide

fitting-wide : (room : ℕ) (gs : List (List ℕ)) → All IsWide gs → All IsWide (fitting room gs)
unfolding fitting
fitting-wide room [] all = All-nil IsWide
fitting-wide room (g ∷ gs) all =
    fitting-if (nat_le (text_width g) room) g (fitting (room - text_width g) gs)
    (All-cons IsWide g (fitting (room - text_width g) gs) (All-head IsWide g gs all)
    (fitting-wide (room - text_width g) gs (All-tail IsWide g gs all)))

-- what fits takes no more columns than there are, and no more than all
fits-if : (t : Bool) (room : ℕ) (g : List ℕ) (us : List (List ℕ)) → t ≡ nat_le (text_width g) room
    → sum_of us ≤ room - text_width g → sum_of (if t then g ∷ us else []) ≤ room
fits-if true room g us e le =
    let sum : sum_of (g ∷ us) ≡ text_width g + sum_of us = sum_by-cons text_width g us in
    let fits : text_width g ≤ room = grind (arith, nat_tests) in omega arith
fits-if false room g us e le = omega arith

fitting-fits : (room : ℕ) (gs : List (List ℕ)) → sum_of (fitting room gs) ≤ room
unfolding fitting
fitting-fits room [] = omega arith
fitting-fits room (g ∷ gs) =
    fits-if (nat_le (text_width g) room) room g (fitting (room - text_width g) gs) refl (fitting-fits (room - text_width g) gs)

less-if : (t : Bool) (g : List ℕ) (us vs : List (List ℕ)) → sum_of us ≤ sum_of vs
    → sum_of (if t then g ∷ us else []) ≤ sum_of (g ∷ vs)
less-if true g us vs le =
    let a : sum_of (g ∷ us) ≡ text_width g + sum_of us = sum_by-cons text_width g us in
    let b : sum_of (g ∷ vs) ≡ text_width g + sum_of vs = sum_by-cons text_width g vs in omega arith
less-if false g us vs le = omega arith

fitting-less : (room : ℕ) (gs : List (List ℕ)) → sum_of (fitting room gs) ≤ sum_of gs
unfolding fitting
fitting-less room [] = omega arith
fitting-less room (g ∷ gs) =
    less-if (nat_le (text_width g) room) g (fitting (room - text_width g) gs) gs (fitting-less (room - text_width g) gs)

-- ---- what stands in a column

-- nothing, or what is after a grapheme, or one alone, and then all that it covers is after one
pub record IsHead (k x : ℕ) (gs : List (List ℕ)) : Type 0 where
  pub grapheme : List ℕ
  pub there : those_at k x gs ≡ grapheme ∷ []
  pub free : is_behind k x gs ≡ false
  pub ends : k + text_width grapheme ≤ x + sum_of gs
  pub covers : (j : ℕ) → k < j → j < k + text_width grapheme → (those_at j x gs ≡ []) × (is_behind j x gs ≡ true)

abbrev IsColumn : ℕ → ℕ → List (List ℕ) → Type 0
IsColumn k x gs =
    ((those_at k x gs ≡ []) × (is_behind k x gs ≡ false))
    ⊎ (((those_at k x gs ≡ []) × (is_behind k x gs ≡ true)) ⊎ IsHead k x gs)

those-here : (k x : ℕ) (g : List ℕ) (gs : List (List ℕ)) → IsWide g
    → those_at k x (g ∷ gs) ≡ (if x == k then g ∷ those_at k (x + text_width g) gs else those_at k (x + text_width g) gs)
unfolding those_at
those-here k x g gs wide =
    let some : (text_width g == 0) ≡ false = grind (arith, nat_tests) in rw some refl

behind-here : (k x : ℕ) (g : List ℕ) (gs : List (List ℕ))
    → is_behind k x (g ∷ gs) ≡ ((nat_lt x k && nat_lt k (x + text_width g)) || is_behind k (x + text_width g) gs)
unfolding is_behind
behind-here k x g gs = refl

those-before : (k x : ℕ) (gs : List (List ℕ)) → All IsWide gs → k < x → those_at k x gs ≡ []
unfolding those_at
those-before k x [] all lt = refl
those-before k x (g ∷ gs) all lt =
    let no : (x == k) ≡ false = grind (arith, nat_tests) in
    those-here k x g gs (All-head IsWide g gs all)
    ∙ rw no (those-before k (x + text_width g) gs (All-tail IsWide g gs all) (omega arith))

behind-before : (k x : ℕ) (gs : List (List ℕ)) → k ≤ x → is_behind k x gs ≡ false
unfolding is_behind
behind-before k x [] le = refl
behind-before k x (g ∷ gs) le =
    let no : nat_lt x k ≡ false = grind (arith, nat_tests) in rw no (behind-before k (x + text_width g) gs (omega arith))

-- after the first grapheme it is as without it
module _ (x : ℕ) (g : List ℕ) (gs : List (List ℕ)) (wide : IsWide g) where
  those-after : (k : ℕ) → x + text_width g ≤ k → those_at k x (g ∷ gs) ≡ those_at k (x + text_width g) gs
  those-after k le =
      let no : (x == k) ≡ false = grind (arith, nat_tests) in those-here k x g gs wide ∙ rw no refl

  behind-after : (k : ℕ) → x + text_width g ≤ k → is_behind k x (g ∷ gs) ≡ is_behind k (x + text_width g) gs
  behind-after k le =
      let no : nat_lt k (x + text_width g) ≡ false = grind (arith, nat_tests) in
      let off : (nat_lt x k && nat_lt k (x + text_width g)) ≡ false = rw no (and-false (nat_lt x k)) in
      behind-here k x g gs ∙ rw off refl
    where
      and-false : (t : Bool) → (t && false) ≡ false
      and-false true = refl
      and-false false = refl

  -- under it
  those-under : (k : ℕ) → All IsWide gs → x < k → k < x + text_width g → those_at k x (g ∷ gs) ≡ []
  those-under k all more less =
      let no : (x == k) ≡ false = grind (arith, nat_tests) in
      those-here k x g gs wide ∙ rw no (those-before k (x + text_width g) gs all less)

  behind-under : (k : ℕ) → x < k → k < x + text_width g → is_behind k x (g ∷ gs) ≡ true
  behind-under k more less =
      let a : nat_lt x k ≡ true = grind (arith, nat_tests) in
      let b : nat_lt k (x + text_width g) ≡ true = grind (arith, nat_tests) in
      behind-here k x g gs ∙ rw (a, b) refl

  -- where it begins
  first-head : All IsWide gs → IsHead x x (g ∷ gs)
  first-head all =
      let yes : (x == x) ≡ true = grind (arith, nat_tests) in
      let sum : sum_of (g ∷ gs) ≡ text_width g + sum_of gs = sum_by-cons text_width g gs in
      record {
        grapheme = g;
        there = those-here x x g gs wide ∙ rw yes (ap (λ us. g ∷ us) (those-before x (x + text_width g) gs all (omega arith)));
        free = behind-before x x (g ∷ gs) (omega arith);
        ends = omega arith;
        covers = λ j more less. (those-under j all more less, behind-under j more less);
      }

  later-head : (k : ℕ) → x + text_width g ≤ k → IsHead k (x + text_width g) gs → IsHead k x (g ∷ gs)
  later-head k le is =
      let sum : sum_of (g ∷ gs) ≡ text_width g + sum_of gs = sum_by-cons text_width g gs in
      let ends = is.ends in
      record {
        grapheme = is.grapheme;
        there = those-after k le ∙ is.there;
        free = behind-after k le ∙ is.free;
        ends = omega arith;
        covers = λ j more less. let c = is.covers j more less in
            (those-after j (omega arith) ∙ c.0, behind-after j (omega arith) ∙ c.1);
      }

  later-column : (k : ℕ) → x + text_width g ≤ k → IsColumn k (x + text_width g) gs → IsColumn k x (g ∷ gs)
  later-column k le is =
      ⊎_elim
      (λ (none : (those_at k (x + text_width g) gs ≡ []) × (is_behind k (x + text_width g) gs ≡ false)).
      inl (those-after k le ∙ none.0, behind-after k le ∙ none.1))
      (λ (some : ((those_at k (x + text_width g) gs ≡ []) × (is_behind k (x + text_width g) gs ≡ true))
      ⊎ IsHead k (x + text_width g) gs).
      ⊎_elim
      (λ (under : (those_at k (x + text_width g) gs ≡ []) × (is_behind k (x + text_width g) gs ≡ true)).
      inr (inl (those-after k le ∙ under.0, behind-after k le ∙ under.1)))
      (λ (head : IsHead k (x + text_width g) gs). inr (inr (later-head k le head)))
      some)
      is

column-is : (k x : ℕ) (gs : List (List ℕ)) → All IsWide gs → x ≤ k → IsColumn k x gs
unfolding those_at is_behind
column-is k x [] all le = inl (refl, refl)
column-is k x (g ∷ gs) all le =
    let wide = All-head IsWide g gs all in let rest = All-tail IsWide g gs all in
    ⊎_elim
    (λ (under : k < x + text_width g).
    ⊎_elim
    (λ (more : x < k). inr (inl (those-under x g gs wide k rest more under, behind-under x g gs wide k more under)))
    (λ (at : k ≤ x). let e : k ≡ x = omega arith in inr (inr (rw e (first-head x g gs wide rest))))
    (cases_lt x k))
    (λ (after : x + text_width g ≤ k). later-column x g gs wide k after (column-is k (x + text_width g) gs rest after))
    (cases_lt k (x + text_width g))

those-past : (k x : ℕ) (gs : List (List ℕ)) → All IsWide gs → x + sum_of gs ≤ k → those_at k x gs ≡ []
unfolding those_at
those-past k x [] all le = refl
those-past k x (g ∷ gs) all le =
    let sum : sum_of (g ∷ gs) ≡ text_width g + sum_of gs = sum_by-cons text_width g gs in
    let wide = All-head IsWide g gs all in
    those-after x g gs wide k (omega arith)
    ∙ those-past k (x + text_width g) gs (All-tail IsWide g gs all) (omega arith)

behind-past : (k x : ℕ) (gs : List (List ℕ)) → All IsWide gs → x + sum_of gs ≤ k → is_behind k x gs ≡ false
unfolding is_behind
behind-past k x [] all le = refl
behind-past k x (g ∷ gs) all le =
    let sum : sum_of (g ∷ gs) ≡ text_width g + sum_of gs = sum_by-cons text_width g gs in
    let wide = All-head IsWide g gs all in
    behind-after x g gs wide k (omega arith)
    ∙ behind-past k (x + text_width g) gs (All-tail IsWide g gs all) (omega arith)

-- ---- a span in a row of plain cells

columns-length : (f : ℕ → Cell → Cell) (j : ℕ) (row : List Cell) → length (columns_from f j row) ≡ length row
unfolding columns_from
columns-length f j [] = refl
columns-length f j (c ∷ cs) = ap suc (columns-length f (j + 1) cs)

columns-nth : (f : ℕ → Cell → Cell) (j k : ℕ) (row : List Cell) → k < length row
    → cell (columns_from f j row) k ≡ f (j + k) (cell row k)
unfolding columns_from
columns-nth f j k [] lt = absurd (omega arith)
columns-nth f j zero (c ∷ cs) lt = let e : j + 0 ≡ j = omega arith in rw e refl
columns-nth f j (suc k) (c ∷ cs) lt =
    let e : (j + 1) + k ≡ j + suc k = omega arith in
    columns-nth f (j + 1) k cs (omega arith) ∙ ap (λ n. f n (cell cs k)) e

head-width : (style : Style) (g : List ℕ) (c : Cell) → IsUnmarked c
    → width_of (styled style (record c { symbol = Some (concat (g ∷ [])) })) ≡ text_width g
unfolding width_of
head-width style g c is =
    let whole : concat (g ∷ []) ≡ g = append-nil g in let e = is.option in rw (e, whole) refl

module _ (style : Style) (gs : List (List ℕ)) (row : List Cell) (wide : All IsWide gs) (plain : All IsPlain row)
    (fits : sum_of gs ≤ length row) where
  abbrev made : List Cell
  made = columns_from (column_with style gs) 0 row

  made-length : length made ≡ length row
  made-length = columns-length (column_with style gs) 0 row

  made-at : (k : ℕ) → k < length row → cell made k ≡ column_with style gs k (cell row k)
  made-at k lt = let e : 0 + k ≡ k = omega arith in
      columns-nth (column_with style gs) 0 k row lt ∙ ap (λ n. column_with style gs n (cell row k)) e

  -- a column that is covered
  made-under : (k : ℕ) → k < length row → those_at k 0 gs ≡ [] → is_behind k 0 gs ≡ true → cell made k ≡ empty_cell
  made-under k lt none under = made-at k lt ∙ rw (none, under) refl

  -- a column that no grapheme takes
  made-free : (k : ℕ) → k < length row → those_at k 0 gs ≡ [] → is_behind k 0 gs ≡ false → cell made k ≡ cell row k
  made-free k lt none free = made-at k lt ∙ rw (none, free) refl

  made-past : (k : ℕ) → k < length row → sum_of gs ≤ k → cell made k ≡ cell row k
  made-past k lt past = made-free k lt (those-past k 0 gs wide (omega arith)) (behind-past k 0 gs wide (omega arith))

  -- what the columns up to one show ends there, if no grapheme goes on
  front-at : (n i : ℕ) → sum_of gs ≤ n → i < n → i < length row
      → IsUnmarked (cell made i) × (i + width_of (cell made i) ≤ n) × (i + width_of (cell made i) ≤ length row)
      × ((k : ℕ) → i < k → k < i + width_of (cell made i) → cell made k ≡ empty_cell)
  front-at n i past lt there =
      let was = plain-nth row i plain there in let one = was.narrow in
      ⊎_elim
      (λ (none : (those_at i 0 gs ≡ []) × (is_behind i 0 gs ≡ false)).
      let e = made-free i there none.0 none.1 in
      let w : width_of (cell made i) ≡ width_of (cell row i) = ap width_of e in
      (subst IsUnmarked (sym e) was.unmarked, omega arith, omega arith, λ k more less. absurd (omega arith)))
      (λ (some : ((those_at i 0 gs ≡ []) × (is_behind i 0 gs ≡ true)) ⊎ IsHead i 0 gs).
      ⊎_elim
      (λ (under : (those_at i 0 gs ≡ []) × (is_behind i 0 gs ≡ true)).
      let e = made-under i there under.0 under.1 in
      let w : width_of (cell made i) ≡ 1 = ap width_of e ∙ width-empty in (
        subst IsUnmarked (sym e) (record { option = refl; flag = refl }),
        omega arith,
        omega arith,
        λ k more less. absurd (omega arith),
      ))
      (λ (head : IsHead i 0 gs).
      let e : cell made i ≡ styled style (record (cell row i) { symbol = Some (concat (head.grapheme ∷ [])) }) =
      made-at i there ∙ rw (head.there, head.free) refl in
      let w : width_of (cell made i) ≡ text_width head.grapheme =
      ap width_of e ∙ head-width style head.grapheme (cell row i) was.unmarked in
      let ends = head.ends in (
        subst IsUnmarked (sym e) (record { option = was.unmarked.option; flag = was.unmarked.flag }),
        omega arith,
        omega arith,
        λ k more less. let c = head.covers k more (omega arith) in made-under k (omega arith) c.0 c.1,
      ))
      some)
      (column-is i 0 gs wide (omega arith))

  made-whole : IsWhole made
  made-whole i lt =
      let count = made-length in
      let at = front-at (length row) i fits (omega arith) (omega arith) in
      record { unmarked = at.0; ends = (let e = at.1 in omega arith); behind = at.3 }

  made-front : (n : ℕ) → sum_of gs ≤ n → IsWhole (take n made)
  made-front n past i lt =
      let count = made-length in let front : length (take n made) ≡ min n (length made) = length-take n made in
      let at = front-at n i past (omega arith) (omega arith) in
      let same : (k : ℕ) → k < n → cell (take n made) k ≡ cell made k = λ k less. get_or-take n made k empty_cell less in
      let here = same i (omega arith) in
      let w : width_of (cell (take n made) i) ≡ width_of (cell made i) = ap width_of here in
      let short = at.1 in let inside = at.2 in
      record {
        unmarked = subst IsUnmarked (sym here) at.0;
        ends = omega arith;
        behind = λ k more less. same k (omega arith) ∙ at.3 k more (omega arith);
      }

  made-rest : (n : ℕ) → sum_of gs ≤ n → All IsPlain (drop n made)
  made-rest n past j d lt =
      let count = made-length in let rest : length (drop n made) ≡ length made - n = length-drop n made in
      let here : n + j < length row = omega arith in
      let e : slice_index_or (drop n made) j d ≡ cell row (n + j) =
      get_or_default (drop n made) j d empty_cell lt ∙ get_or-drop n made j empty_cell ∙ made-past (n + j) here (omega arith) in
      subst IsPlain (sym e) (plain-nth row (n + j) plain here)

-- ---- parts of a line

module _ (style : Style) (text : List ℕ) (row : List Cell) (takes : EachGrapheme TakesColumns text) (plain : All IsPlain row) where
  abbrev shown_there : List (List ℕ)
  shown_there = showing (length row) (graphemes true text)

  shown-wide : All IsWide shown_there
  unfolding showing
  shown-wide = fitting-wide (length row) (filter (λ g. not (has_control g)) (graphemes true text))
      (all-wide (graphemes true text) takes)

  shown-fits : sum_of shown_there ≤ length row
  unfolding showing
  shown-fits = fitting-fits (length row) (filter (λ g. not (has_control g)) (graphemes true text))

  shown-less : sum_of shown_there ≤ columns_shown text
  unfolding showing
  shown-less = fitting-less (length row) (filter (λ g. not (has_control g)) (graphemes true text))

  span-whole : IsWhole (span_rendered style text row)
  unfolding span_rendered
  span-whole = made-whole style shown_there row shown-wide plain shown-fits

  span-front : (n : ℕ) → columns_shown text ≤ n → IsWhole (take n (span_rendered style text row))
  unfolding span_rendered
  span-front n le = let less = shown-less in
      made-front style shown_there row shown-wide plain shown-fits n (omega arith)

  span-rest : (n : ℕ) → columns_shown text ≤ n → All IsPlain (drop n (span_rendered style text row))
  unfolding span_rendered
  span-rest n le = let less = shown-less in
      made-rest style shown_there row shown-wide plain shown-fits n (omega arith)

-- after some plain cells what is whole
whole-after : (n : ℕ) (f : List Cell → List Cell) (row : List Cell) → All IsPlain row
    → ((cs : List Cell) → All IsPlain cs → IsWhole (f cs)) → IsWhole (after_first n f row)
whole-after n f row plain keeps =
    whole-append (take n row) (f (drop n row)) (whole-plain (take n row) (All-take IsPlain n row plain))
    (keeps (drop n row) (All-drop IsPlain n row plain))

abbrev TakesAll : Part → Type 0
TakesAll p = EachGrapheme TakesColumns p.content

parts-whole : (ps : List Part) (row : List Cell) → All TakesAll ps → KeepApart ps → All IsPlain row
    → IsWhole (parts_rendered ps row)
unfolding parts_then KeepApart
parts-whole [] row takes apart plain = whole-plain row plain
parts-whole (p ∷ []) row takes apart plain =
    whole-after p.indent (λ left. after_first p.width (λ cs. cs) (span_rendered p.style p.content left)) row plain
    (λ left all. subst IsWhole (sym (take-append-drop p.width (span_rendered p.style p.content left)))
    (span-whole p.style p.content left (All-head TakesAll p [] takes) all))
parts-whole (p ∷ (q ∷ ps)) row takes apart plain =
    let own = All-head TakesAll p (q ∷ ps) takes in
    whole-after p.indent (λ left. after_first p.width (parts_rendered (q ∷ ps)) (span_rendered p.style p.content left)) row plain
    (λ left all. whole-append (take p.width (span_rendered p.style p.content left))
    (parts_rendered (q ∷ ps) (drop p.width (span_rendered p.style p.content left)))
    (span-front p.style p.content left own all p.width apart.0)
    (parts-whole (q ∷ ps) (drop p.width (span_rendered p.style p.content left)) (All-tail TakesAll p (q ∷ ps) takes) apart.1
    (span-rest p.style p.content left own all p.width apart.0)))

-- ---- a line

pub laid-plain : (style : Style) (row : List Cell) → All IsPlain row → All IsPlain (map (styled style) row)
laid-plain style row all = All-map IsPlain (styled style) row (λ k d lt. plain-styled style (slice_index_or row k d) (all k d lt))

either-whole : (t : Bool) (a b : List Cell) → IsWhole a → IsWhole b → IsWhole (if t then a else b)
either-whole true a b is_a is_b = is_a
either-whole false a b is_a is_b = is_b

pub line-whole : (alignment : Option HorizontalAlignment) (line : LineData) (row : List Cell) → IsShowableAs alignment line
    → All IsPlain row → IsWhole (line_rendered alignment line row)
unfolding line_rendered
line-whole alignment line row shows plain =
    let width = line_width line.spans in
    let excess = width - length row in
    let skip = columns_before alignment excess in
    let own = whole-plain row plain in
    either-whole (length row == 0) row _ own
    (either-whole (width == 0) row _ own
    (whole-after (columns_before alignment (length row - width)) (parts_rendered (parts skip line.spans))
    (map (styled line.style) row) (laid-plain line.style row plain)
    (λ cs all. parts-whole (parts skip line.spans) cs (shows.graphemes excess) (shows.spans excess) all)))

-- a line of one span that isn't cut at the left
one-takes : (t : Bool) (p : Part) → TakesAll p → All TakesAll (if t then [] else p ∷ [])
one-takes true p takes = All-nil TakesAll
one-takes false p takes = All-cons TakesAll p [] takes (All-nil TakesAll)

one-apart : (t : Bool) (p : Part) → KeepApart (if t then [] else p ∷ [])
unfolding KeepApart
one-apart true p = tt
one-apart false p = tt

pub one-shown : (alignment : Option HorizontalAlignment) (line : LineData) (span : SpanData) → ((n : ℕ) → columns_before alignment n ≡ 0)
    → line.spans ≡ span ∷ [] → EachGrapheme TakesColumns span.content → IsShowableAs alignment line
unfolding parts
one-shown alignment line span uncut is takes = record {
  graphemes = λ excess. rw (uncut excess, is) (one-takes (nat_le (span_width span) 0) (part_of 0 span) takes);
  spans = λ excess. rw (uncut excess, is) (one-apart (nat_le (span_width span) 0) (part_of 0 span));
}
