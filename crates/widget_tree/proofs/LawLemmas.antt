-- Laws of the nodes that are shown.
use Rattle.std.proofs.Common.{◌≡◌, ℕ, zero, suc, ◌+◌, ◌-◌, ◌<◌, ◌≤◌, ⊎_elim, Bool, true, false, not, ◌&&◌}
use Rattle.std.proofs.Common.{List, [], ◌∷◌, ◌++◌, Option, Some, None, IfSome, drop, min, slice_get, length, get_or, eqb}
use Rattle.std.proofs.Common.{refl, sym, ap, subst, ◌∙◌, arith, length-append, length-drop}
use Rattle.std.specs.List.{filter, range_with_len, last_or}
use Rattle.std.specs.Option.{option_or}
use Rattle.std.proofs.lemmas.Bool.{cases_eq, cases_Bool, lt-ltb, ltb-true, cond-true, cond-false, eq-eqb, ne_eqb, false≢true, and_left, and_right, and_from}
use Rattle.std.proofs.lemmas.Bool.{false_from_ne_true, not_from_true, not_from_false}
use Rattle.widget_tree.specs.Depths.{is_ancestor, ancestors, parent_of, has_children, is_opened, shows_node, shown_nodes, first_node, last_node}
use Rattle.widget_tree.specs.Moves.{MarksOnly, node_below, node_above}
use Rattle.widget_tree.specs.Rows.{row_start, rows_to, scrolled_to, offset_for}
use Rattle.widget_tree.proofs.AncestorLemmas.{IsAncestor, ancestor-from, ancestor-is}
use Rattle.widget_tree.proofs.ShownLemmas.{shown-from, shown-is, hidden-under, in-join, in-here, last-is}
use Rattle.widget_tree.proofs.ParentLemmas.{filter-nothing, filter-last}
use Rattle.widget_tree.proofs.ScrollLemmas.{one-in, offset-shown}

-- 1. closing a node hides its descendants, and opening it adds those that are shown then
marked-here : (os os' : List Bool) (k : ℕ) (is : Bool) → MarksOnly os os' k is → is_opened os' k ≡ is
marked-here os os' k is marks = marks k ∙ cond-true (eqb k k) is (is_opened os k) (eq-eqb k k refl)

marked-other : (os os' : List Bool) (k : ℕ) (is : Bool) (j : ℕ) → MarksOnly os os' k is → (j ≡ k → ⊥)
    → is_opened os' j ≡ is_opened os j
marked-other os os' k is j marks other =
    marks j ∙ cond-false (eqb j k) is (is_opened os j) (ne_eqb j k other)

shown-less : (ds : List ℕ) (os os' : List Bool) (k j : ℕ) → is_opened os' k ≡ false
    → ((i : ℕ) → (i ≡ k → ⊥) → is_opened os' i ≡ is_opened os i)
    → shows_node ds os' j ≡ (shows_node ds os j && not (is_ancestor ds k j))
shown-less ds os os' k j closed same =
    ⊎_elim
    (λ (under : is_ancestor ds k j ≡ true).
    hidden-under os' (ancestor-from ds k j under) closed
    ∙ sym (and_right (shows_node ds os j) (not (is_ancestor ds k j)) (not_from_true (is_ancestor ds k j) under)))
    (λ (apart : is_ancestor ds k j ≡ false).
    let others : (a : ℕ) → IsAncestor ds a j → a ≡ k → ⊥ =
    λ a anc e. false≢true (sym apart ∙ ancestor-is ds k j (subst (λ i. IsAncestor ds i j) e anc)) in
    ⊎_elim
    (λ (shown : shows_node ds os j ≡ true).
    let is = shown-from {ds = ds} {os = os} {k = j} shown in
    shown-is (record { there = is.there; opened = λ a anc. same a (others a anc) ∙ is.opened a anc })
    ∙ sym (and_from (shows_node ds os j) (not (is_ancestor ds k j)) shown (not_from_false (is_ancestor ds k j) apart)))
    (λ (hidden : shows_node ds os j ≡ false).
    false_from_ne_true (shows_node ds os' j) (λ yet.
    let is = shown-from {ds = ds} {os = os'} {k = j} yet in
    false≢true (sym hidden
    ∙ shown-is (record { there = is.there; opened = λ a anc. sym (same a (others a anc)) ∙ is.opened a anc })))
    ∙ sym (and_left (shows_node ds os j) (not (is_ancestor ds k j)) hidden))
    (cases_Bool (shows_node ds os j)))
    (cases_Bool (is_ancestor ds k j))

pub closing-hides : (ds : List ℕ) (os os' : List Bool) (k : ℕ) → MarksOnly os os' k false → (j : ℕ)
    → shows_node ds os' j ≡ (shows_node ds os j && not (is_ancestor ds k j))
closing-hides ds os os' k marks j =
    shown-less ds os os' k j (marked-here os os' k false marks)
    (λ i other. marked-other os os' k false i marks other)

pub opening-adds : (ds : List ℕ) (os os' : List Bool) (k : ℕ) → is_opened os k ≡ false → MarksOnly os os' k true → (j : ℕ)
    → shows_node ds os j ≡ (shows_node ds os' j && not (is_ancestor ds k j))
opening-adds ds os os' k closed marks j =
    shown-less ds os' os k j closed
    (λ i other. sym (marked-other os os' k true i marks other))

-- 2. a tree of closed nodes shows its roots
last-none-nil : {A : Type 0} (x : A) (xs : List A) → last_or (Some x) xs ≡ None → ⊥
last-none-nil x [] e = let no : Some x ≡ None = e in cc
last-none-nil x (y ∷ xs) e = last-none-nil y xs e

pub last-nothing : (p : ℕ → Bool) (a n : ℕ) → last_or None (filter p (range_with_len a n)) ≡ None → (j : ℕ) → a ≤ j → j < a + n
    → p j ≡ false
last-nothing p a zero e j from to = absurd (omega arith)
last-nothing p a (suc n) e j from to =
    let rest = filter p (range_with_len (a + 1) n) in
    ⊎_elim
    (λ (yes : p a ≡ true).
    absurd (last-none-nil a rest (subst (λ xs. last_or None xs ≡ None) (cond-true (p a) (a ∷ rest) rest yes) e)))
    (λ (no : p a ≡ false).
    ⊎_elim (λ (same : a ≡ j). subst (λ m. p m ≡ false) same no)
    (λ (other : a ≡ j → ⊥).
    last-nothing p (a + 1) n (subst (λ xs. last_or None xs ≡ None) (cond-false (p a) (a ∷ rest) rest no) e) j (omega arith)
    (omega arith))
    (cases_eq a j))
    (cases_Bool (p a))

pub roots-shown : (ds : List ℕ) (os : List Bool) (k : ℕ) → k < length ds → parent_of ds k ≡ None → shows_node ds os k ≡ true
unfolding parent_of ancestors
roots-shown ds os k there none = shown-is (record {
  there = there;
  opened = λ a anc.
      let before = anc.before in
      let never = last-nothing (λ a. is_ancestor ds a k) 0 k none a (omega arith) (omega arith) in
      absurd (false≢true (sym never ∙ ancestor-is ds a k anc));
})

pub only-roots : (ds : List ℕ) (os : List Bool) (k : ℕ) → ((j : ℕ) → is_opened os j ≡ false) → shows_node ds os k ≡ true
    → parent_of ds k ≡ None
unfolding parent_of ancestors
only-roots ds os k closed shown =
    let is = shown-from {ds = ds} {os = os} {k = k} shown in
    ap (last_or None) (filter-nothing (λ a. is_ancestor ds a k) 0 k (λ a from to.
    false_from_ne_true (is_ancestor ds a k) (λ e. false≢true (sym (closed a) ∙ is.opened a (ancestor-from ds a k e)))))

-- 3. the first node that is shown
pub record FirstPassing (p : ℕ → Bool) (a n j : ℕ) : Type 0 where
  pub from : a ≤ j
  pub to : j < a + n
  pub passes : p j ≡ true
  pub before : (i : ℕ) → a ≤ i → i < j → p i ≡ false

first-passing : (p : ℕ → Bool) (a n j : ℕ) → slice_get (filter p (range_with_len a n)) 0 ≡ Some j → FirstPassing p a n j
first-passing p a zero j e = let none : None ≡ Some j = e in absurd (cc)
first-passing p a (suc n) j e =
    let rest = filter p (range_with_len (a + 1) n) in
    ⊎_elim
    (λ (yes : p a ≡ true).
    let some : Some a ≡ Some j = subst (λ xs. slice_get xs 0 ≡ Some j) (cond-true (p a) (a ∷ rest) rest yes) e in
    let same : a ≡ j = cc in
    let this : FirstPassing p a (suc n) a = record {
      from = omega arith;
      to = omega arith;
      passes = yes;
      before = λ i from to. absurd (omega arith);
    } in
    subst (λ i. FirstPassing p a (suc n) i) same this)
    (λ (no : p a ≡ false).
    let is = first-passing p (a + 1) n j (subst (λ xs. slice_get xs 0 ≡ Some j) (cond-false (p a) (a ∷ rest) rest no) e) in
    let from = is.from in let to = is.to in
    record {
      from = omega arith;
      to = omega arith;
      passes = is.passes;
      before = λ i at_least till.
          ⊎_elim (λ (same : a ≡ i). subst (λ m. p m ≡ false) same no)
          (λ (other : a ≡ i → ⊥). is.before i (omega arith) till)
          (cases_eq a i);
    })
    (cases_Bool (p a))

pub first-of-shown : (ds : List ℕ) (os : List Bool) (from j : ℕ) → first_node ds os from ≡ Some j
    → FirstPassing (shows_node ds os) from (length ds - from) j
unfolding first_node shown_nodes
first-of-shown ds os from j e = first-passing (shows_node ds os) from (length ds - from) j e

-- the last one
last-passes : (p : ℕ → Bool) (o : Option ℕ) (a n j : ℕ) → last_or o (filter p (range_with_len a n)) ≡ Some j
    → IfSome o (λ i. p i ≡ true) → p j ≡ true
last-passes p None a zero j e all = let none : None ≡ Some j = e in absurd (cc)
last-passes p (Some i) a zero j e all =
    let some : Some i ≡ Some j = e in let same : i ≡ j = cc in subst (λ m. p m ≡ true) same all
last-passes p o a (suc n) j e all =
    let rest = filter p (range_with_len (a + 1) n) in
    ⊎_elim
    (λ (yes : p a ≡ true).
    last-passes p (Some a) (a + 1) n j (subst (λ xs. last_or o xs ≡ Some j) (cond-true (p a) (a ∷ rest) rest yes) e) yes)
    (λ (no : p a ≡ false).
    last-passes p o (a + 1) n j (subst (λ xs. last_or o xs ≡ Some j) (cond-false (p a) (a ∷ rest) rest no) e) all)
    (cases_Bool (p a))

pub last-of-shown : (ds : List ℕ) (os : List Bool) (to j : ℕ) → last_node ds os to ≡ Some j → shows_node ds os j ≡ true
unfolding last_node shown_nodes
last-of-shown ds os to j e = last-passes (shows_node ds os) None 0 (to - 0) j e tt

-- 4. a step down and one up lead back
pub down-then-up : (ds : List ℕ) (os : List Bool) (k j : ℕ) → shows_node ds os k ≡ true → first_node ds os (k + 1) ≡ Some j
    → (node_below ds os (Some k) ≡ Some j) × (node_above ds os (Some j) ≡ Some k)
down-then-up ds os k j shown e =
    let is = first-of-shown ds os (k + 1) j e in
    let from = is.from in
    let back : last_node ds os j ≡ Some k =
    last-is ds os k j (omega arith) shown (λ i after to. is.before i (omega arith) to) in (
      ap (λ o. option_or o (last_node ds os (length ds))) e,
      ap (λ o. option_or o (first_node ds os 0)) back,
    )

-- and each step leads to a node that is shown
if-first : (ds : List ℕ) (os : List Bool) (from : ℕ) (o : Option ℕ) → first_node ds os from ≡ o
    → IfSome o (λ k. shows_node ds os k ≡ true)
if-first ds os from None e = tt
if-first ds os from (Some j) e = (first-of-shown ds os from j e).passes

if-last : (ds : List ℕ) (os : List Bool) (to : ℕ) (o : Option ℕ) → last_node ds os to ≡ o
    → IfSome o (λ k. shows_node ds os k ≡ true)
if-last ds os to None e = tt
if-last ds os to (Some j) e = last-of-shown ds os to j e

if-or : (P : ℕ → Type 0) (o other : Option ℕ) → IfSome o P → IfSome other P → IfSome (option_or o other) P
if-or P None other one two = two
if-or P (Some k) other one two = one

pub below-shown : (ds : List ℕ) (os : List Bool) (o : Option ℕ) → IfSome (node_below ds os o) (λ k. shows_node ds os k ≡ true)
below-shown ds os None = if-first ds os 0 _ refl
below-shown ds os (Some k) = if-or (λ k. shows_node ds os k ≡ true) (first_node ds os (k + 1)) (last_node ds os (length ds))
    (if-first ds os (k + 1) _ refl) (if-last ds os (length ds) _ refl)

pub above-shown : (ds : List ℕ) (os : List Bool) (o : Option ℕ) → IfSome (node_above ds os o) (λ k. shows_node ds os k ≡ true)
above-shown ds os None = if-last ds os (length ds) _ refl
above-shown ds os (Some k) = if-or (λ k. shows_node ds os k ≡ true) (last_node ds os k) (first_node ds os 0)
    (if-last ds os k _ refl) (if-first ds os 0 _ refl)

-- 5. an item of those that are shown, and those from it on
pub record ItemAt (p : ℕ → Bool) (a n i e : ℕ) : Type 0 where
  pub from : a ≤ e
  pub to : e < a + n
  pub passes : p e ≡ true
  pub rest : drop i (filter p (range_with_len a n)) ≡ filter p (range_with_len e (a + n - e))

item-at : (p : ℕ → Bool) (a n i : ℕ) → i < length (filter p (range_with_len a n))
    → ItemAt p a n i (get_or (filter p (range_with_len a n)) i 0)
item-at p a zero i lt = absurd (omega arith)
item-at p a (suc n) i lt =
    let rest = filter p (range_with_len (a + 1) n) in
    let same_end : a + 1 + n ≡ a + suc n = omega arith in
    ⊎_elim
    (λ (yes : p a ≡ true).
    let here : filter p (range_with_len a (suc n)) ≡ a ∷ rest = cond-true (p a) (a ∷ rest) rest yes in
    let go : (i : ℕ) → i < length (a ∷ rest) → ItemAt p a (suc n) i (get_or (a ∷ rest) i 0) = λ i. at (item-at p (a + 1) n) i yes here in
    subst (λ xs. ItemAt p a (suc n) i (get_or xs i 0)) (sym here) (go i (subst (λ xs. i < length xs) here lt)))
    (λ (no : p a ≡ false).
    let here : filter p (range_with_len a (suc n)) ≡ rest = cond-false (p a) (a ∷ rest) rest no in
    let is = item-at p (a + 1) n i (subst (λ xs. i < length xs) here lt) in
    let from = is.from in let to = is.to in
    let it : ItemAt p a (suc n) i (get_or rest i 0) = record {
      from = omega arith;
      to = omega arith;
      passes = is.passes;
      rest = ap (drop i) here ∙ is.rest
          ∙ ap (λ m. filter p (range_with_len (get_or rest i 0) (m - get_or rest i 0))) same_end;
    } in
    subst (λ xs. ItemAt p a (suc n) i (get_or xs i 0)) (sym here) it)
    (cases_Bool (p a))
  where
    at : ((i : ℕ) → i < length (filter p (range_with_len (a + 1) n))
        → ItemAt p (a + 1) n i (get_or (filter p (range_with_len (a + 1) n)) i 0)) → (i : ℕ) → p a ≡ true → filter p (range_with_len a (suc n)) ≡ a ∷ filter p (range_with_len (a + 1) n)
        → i < length (a ∷ filter p (range_with_len (a + 1) n))
        → ItemAt p a (suc n) i (get_or (a ∷ filter p (range_with_len (a + 1) n)) i 0)
    at later zero passed here lt = record {
      from = omega arith;
      to = omega arith;
      passes = passed;
      rest = let m : suc n ≡ a + suc n - a = omega arith in ap (λ k. filter p (range_with_len a k)) m;
    }
    at later (suc i) passed here lt =
        let is = later i (omega arith) in
        let from = is.from in let to = is.to in
        let same_end : a + 1 + n ≡ a + suc n = omega arith in
        record {
          from = omega arith;
          to = omega arith;
          passes = is.passes;
          rest = ap (drop (suc i)) here ∙ is.rest
              ∙ ap (λ m. filter p (range_with_len (get_or (filter p (range_with_len (a + 1) n)) i 0)
              (m - get_or (filter p (range_with_len (a + 1) n)) i 0))) same_end;
        }

-- from an item of those that are shown on there are as many as follow it
pub record RowAt (ds : List ℕ) (os : List Bool) (a b i e : ℕ) : Type 0 where
  pub from : a ≤ e
  pub to : e < b
  pub shown : shows_node ds os e ≡ true
  pub count : length (shown_nodes ds os e b) ≡ length (shown_nodes ds os a b) - i

pub row-at : (ds : List ℕ) (os : List Bool) (a b i : ℕ) → a ≤ b → i < length (shown_nodes ds os a b)
    → RowAt ds os a b i (get_or (shown_nodes ds os a b) i 0)
unfolding shown_nodes
row-at ds os a b i le lt =
    let e = get_or (filter (shows_node ds os) (range_with_len a (b - a))) i 0 in
    let is = item-at (shows_node ds os) a (b - a) i lt in
    let from = is.from in let to = is.to in
    let end : a + (b - a) - e ≡ b - e = omega arith in
    record {
      from = from;
      to = omega arith;
      shown = is.passes;
      count = ap (λ m. length (filter (shows_node ds os) (range_with_len e m))) (sym end) ∙ sym (ap length is.rest)
          ∙ length-drop i (filter (shows_node ds os) (range_with_len a (b - a)));
    }

-- where rows begin that show a node
pub record ShowsRow (ds : List ℕ) (os : List Bool) (height from k first : ℕ) : Type 0 where
  pub at_least : from ≤ first
  pub at_most : first ≤ k
  pub shown : shows_node ds os first ≡ true
  pub count : length (shown_nodes ds os first (k + 1)) ≡ min height (length (shown_nodes ds os from (k + 1)))

pub scrolled-shows : (ds : List ℕ) (os : List Bool) (height start k : ℕ) → 0 < height → shows_node ds os k ≡ true
    → ShowsRow ds os height (min start k) k (scrolled_to ds os height start k)
unfolding scrolled_to rows_to
scrolled-shows ds os height start k some shown =
    let from = min start k in
    let xs = shown_nodes ds os from (k + 1) in
    let last = ap length (in-join ds os from k (k + 1) (omega arith) (omega arith))
    ∙ length-append (shown_nodes ds os from k) (shown_nodes ds os k (k + 1)) in
    let one = ap length (one-in ds os k shown) in
    let is = row-at ds os from (k + 1) (length xs - height) (omega arith) (omega arith) in
    let to = is.to in let count = is.count in
    record { at_least = is.from; at_most = omega arith; shown = is.shown; count = omega arith }

-- the node stands in one of the rows
get-middle : (xs : List ℕ) (x : ℕ) (ys : List ℕ) → slice_get (xs ++ x ∷ ys) (length xs) ≡ Some x
get-middle [] x ys = refl
get-middle (z ∷ xs) x ys = get-middle xs x ys

pub row-of-shown : (ds : List ℕ) (os : List Bool) (first k : ℕ) → first ≤ k → shows_node ds os k ≡ true
    → slice_get (shown_nodes ds os first (length ds)) (length (shown_nodes ds os first k)) ≡ Some k
row-of-shown ds os first k le shown =
    let there = (shown-from {ds = ds} {os = os} {k = k} shown).there in
    rw (in-join ds os first k (length ds) le (omega arith), in-here ds os k (length ds) there shown)
    (get-middle (shown_nodes ds os first k) k (shown_nodes ds os (k + 1) (length ds)))

pub selected-row : (ds : List ℕ) (os : List Bool) (height was k : ℕ) → 0 < height → shows_node ds os k ≡ true
    → (y : ℕ) × (y < height) × (slice_get (shown_nodes ds os (offset_for ds os height was (Some k)) (length ds)) y ≡ Some k)
selected-row ds os height was k some shown =
    let first = scrolled_to ds os height (row_start ds os was) k in
    let is = scrolled-shows ds os height (row_start ds os was) k some shown in
    let le = is.at_most in let count = is.count in
    let longer = ap length (in-join ds os first k (k + 1) le (omega arith))
    ∙ length-append (shown_nodes ds os first k) (shown_nodes ds os k (k + 1)) in
    let one = ap length (one-in ds os k shown) in
    rw (offset-shown ds os height was k shown) ((length (shown_nodes ds os first k), omega arith, row-of-shown ds os first k le shown))

-- where rows begin moves only if it must, and only as far
pub scroll-stays : (ds : List ℕ) (os : List Bool) (height start k : ℕ) → start ≤ k → shows_node ds os start ≡ true
    → length (shown_nodes ds os start (k + 1)) ≤ height → scrolled_to ds os height start k ≡ start
unfolding scrolled_to rows_to
scroll-stays ds os height start k le shown fits =
    let from : min start k ≡ start = omega arith in
    let index : length (shown_nodes ds os start (k + 1)) - height ≡ 0 = omega arith in
    ap (λ a. get_or (shown_nodes ds os a (k + 1)) (length (shown_nodes ds os a (k + 1)) - height) 0) from
    ∙ ap (λ i. get_or (shown_nodes ds os start (k + 1)) i 0) index
    ∙ ap (λ xs. get_or xs 0 0) (in-here ds os start (k + 1) (omega arith) shown)

pub scroll-up : (ds : List ℕ) (os : List Bool) (height start k : ℕ) → 0 < height → k < start → shows_node ds os k ≡ true
    → scrolled_to ds os height start k ≡ k
unfolding scrolled_to rows_to
scroll-up ds os height start k some lt shown =
    let from : min start k ≡ k = omega arith in
    let one : length (shown_nodes ds os k (k + 1)) ≡ 1 = ap length (one-in ds os k shown) in
    let index : length (shown_nodes ds os k (k + 1)) - height ≡ 0 = omega arith in
    ap (λ a. get_or (shown_nodes ds os a (k + 1)) (length (shown_nodes ds os a (k + 1)) - height) 0) from
    ∙ ap (λ i. get_or (shown_nodes ds os k (k + 1)) i 0) index
    ∙ ap (λ xs. get_or xs 0 0) (one-in ds os k shown)

pub scroll-down : (ds : List ℕ) (os : List Bool) (height start k : ℕ) → 0 < height → start ≤ k → shows_node ds os k ≡ true
    → height < length (shown_nodes ds os start (k + 1))
    → length (shown_nodes ds os (scrolled_to ds os height start k) (k + 1)) ≡ height
scroll-down ds os height start k some le shown more =
    let from : min start k ≡ start = omega arith in
    let count = (scrolled-shows ds os height start k some shown).count in
    let same = ap (λ a. length (shown_nodes ds os a (k + 1))) from in
    omega arith

-- the parent of a node, and its children
pub parent-ancestor : (ds : List ℕ) (j k : ℕ) → parent_of ds j ≡ Some k → is_ancestor ds k j ≡ true
unfolding parent_of ancestors
parent-ancestor ds j k e = last-passes (λ a. is_ancestor ds a j) None 0 j k e tt

pub parent-children : (ds : List ℕ) (j k : ℕ) → parent_of ds j ≡ Some k → has_children ds k ≡ true
unfolding has_children
parent-children ds j k e =
    let anc = ancestor-from ds k j (parent-ancestor ds j k e) in
    let before = anc.before in
    lt-ltb (get_or ds k 0) (get_or ds (k + 1) 0) (anc.deeper (k + 1) (omega arith) (omega arith))

pub children-parent : (ds : List ℕ) (k : ℕ) → has_children ds k ≡ true → parent_of ds (k + 1) ≡ Some k
unfolding has_children parent_of ancestors
children-parent ds k e =
    let deep = ltb-true (get_or ds k 0) (get_or ds (k + 1) 0) e in
    let anc : IsAncestor ds k (k + 1) = record {
      before = omega arith;
      deeper = λ j from to. let same : j ≡ k + 1 = omega arith in rw same deep;
    } in
    filter-last (λ a. is_ancestor ds a (k + 1)) k (k + 1) (omega arith) (ancestor-is ds k (k + 1) anc)
    (λ j from to. absurd (omega arith))
