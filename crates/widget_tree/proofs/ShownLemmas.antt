-- Which nodes are shown: those with no closed ancestor.
use Rattle.std.proofs.Common.{◌≡◌, ℕ, zero, suc, ◌+◌, ◌-◌, ◌<◌, ◌≤◌, ⊎_elim, Bool, true, false, cond, List, [], ◌∷◌, ◌++◌}
use Rattle.std.proofs.Common.{Option, Some, None, ltb, length, slice_get, refl, sym, ap, subst, ◌∙◌, arith}
use Rattle.std.specs.List.{filter, list_all, range_with_len, last_or}
use Rattle.std.proofs.lemmas.Bool.{and_parts, and_from, ltb-true, lt-ltb, cases_lt, cases_eq, cases_Bool, cond-true, cond-false}
use Rattle.std.proofs.lemmas.Bool.{false_from_ne_true, false≢true}
use Rattle.widget_tree.specs.Depths.{is_ancestor, ancestors, is_opened, shows_node, shown_nodes, first_node, last_node}
use Rattle.widget_tree.proofs.AncestorLemmas.{IsAncestor, ancestor-from, ancestor-is}

-- a test of those numbers of a range that pass another one
all-filter : (p q : ℕ → Bool) (a n : ℕ) → list_all p (filter q (range_with_len a n)) ≡ true → (j : ℕ) → a ≤ j → j < a + n
    → q j ≡ true → p j ≡ true
all-filter p q a zero e j from to passes = absurd (omega arith)
all-filter p q a (suc n) e j from to passes =
    let rest = filter q (range_with_len (a + 1) n) in
    ⊎_elim
    (λ (yes : q a ≡ true).
    let parts = and_parts (p a) (list_all p rest) (subst (λ xs. list_all p xs ≡ true) (cond-true (q a) (a ∷ rest) rest yes) e) in
    ⊎_elim (λ (same : a ≡ j). subst (λ k. p k ≡ true) same parts.0)
    (λ (more : a ≡ j → ⊥). all-filter p q (a + 1) n parts.1 j (omega arith) (omega arith) passes)
    (cases_eq a j))
    (λ (no : q a ≡ false).
    ⊎_elim (λ (same : a ≡ j). absurd (false≢true (sym no ∙ ap q same ∙ passes)))
    (λ (more : a ≡ j → ⊥). all-filter p q (a + 1) n (subst (λ xs. list_all p xs ≡ true) (cond-false (q a) (a ∷ rest) rest no) e)
    j (omega arith) (omega arith) passes)
    (cases_eq a j))
    (cases_Bool (q a))

filter-all : (p q : ℕ → Bool) (a n : ℕ) → ((j : ℕ) → a ≤ j → j < a + n → q j ≡ true → p j ≡ true)
    → list_all p (filter q (range_with_len a n)) ≡ true
filter-all p q a zero each = refl
filter-all p q a (suc n) each =
    let rest = filter q (range_with_len (a + 1) n) in
    let later = filter-all p q (a + 1) n (λ j from to. each j (omega arith) (omega arith)) in
    ⊎_elim
    (λ (yes : q a ≡ true). subst (λ xs. list_all p xs ≡ true) (sym (cond-true (q a) (a ∷ rest) rest yes))
    (and_from (p a) (list_all p rest) (each a (omega arith) (omega arith) yes) later))
    (λ (no : q a ≡ false). subst (λ xs. list_all p xs ≡ true) (sym (cond-false (q a) (a ∷ rest) rest no)) later)
    (cases_Bool (q a))

-- a node that is shown
pub record IsShown (ds : List ℕ) (os : List Bool) (k : ℕ) : Type 0 where
  pub there : k < length ds
  pub opened : (a : ℕ) → IsAncestor ds a k → is_opened os a ≡ true

pub shown-from : {ds : List ℕ} {os : List Bool} {k : ℕ} → shows_node ds os k ≡ true → IsShown ds os k
unfolding shows_node ancestors
shown-from {ds} {os} {k} e =
    let all = list_all (is_opened os) (filter (λ a. is_ancestor ds a k) (range_with_len 0 k)) in
    let parts = and_parts (ltb k (length ds)) all e in
    record {
      there = ltb-true k (length ds) parts.0;
      opened = λ a is. let lt = is.before in
          all-filter (is_opened os) (λ a. is_ancestor ds a k) 0 k parts.1 a (omega arith) (omega arith) (ancestor-is ds a k is);
    }

pub shown-is : {ds : List ℕ} {os : List Bool} {k : ℕ} → IsShown ds os k → shows_node ds os k ≡ true
unfolding shows_node ancestors
shown-is {ds} {os} {k} is =
    let there = is.there in
    and_from (ltb k (length ds)) (list_all (is_opened os) (filter (λ a. is_ancestor ds a k) (range_with_len 0 k)))
    (lt-ltb k (length ds) there)
    (filter-all (is_opened os) (λ a. is_ancestor ds a k) 0 k (λ a from to passes. is.opened a (ancestor-from ds a k passes)))

-- a closed ancestor hides a node
pub hidden-under : {ds : List ℕ} (os : List Bool) {a k : ℕ} → IsAncestor ds a k → is_opened os a ≡ false → shows_node ds os k ≡ false
hidden-under {ds} os {a} {k} is closed =
    false_from_ne_true (shows_node ds os k) (λ e. false≢true (sym closed ∙ (shown-from e).opened a is))

-- numbers of a range that pass a test
pub filter-skip : (p : ℕ → Bool) (a n m : ℕ) → ((j : ℕ) → a ≤ j → j < a + n → p j ≡ false)
    → filter p (range_with_len a (n + m)) ≡ filter p (range_with_len (a + n) m)
filter-skip p a zero m each =
    let zero_first : zero + m ≡ m = omega arith in let same : a + zero ≡ a = omega arith in
    ap (λ k. filter p (range_with_len a k)) zero_first ∙ ap (λ k. filter p (range_with_len k m)) (sym same)
filter-skip p a (suc n) m each =
    let step : suc n + m ≡ suc (n + m) = omega arith in
    let rest = filter p (range_with_len (a + 1) (n + m)) in
    let at : a + 1 + n ≡ a + suc n = omega arith in
    ap (λ k. filter p (range_with_len a k)) step ∙ cond-false (p a) (a ∷ rest) rest (each a (omega arith) (omega arith))
    ∙ filter-skip p (a + 1) n m (λ j from to. each j (omega arith) (omega arith))
    ∙ ap (λ k. filter p (range_with_len k m)) at

pub filter-join : (p : ℕ → Bool) (a n m : ℕ)
    → filter p (range_with_len a (n + m)) ≡ filter p (range_with_len a n) ++ filter p (range_with_len (a + n) m)
filter-join p a zero m =
    let zero_first : zero + m ≡ m = omega arith in let same : a + zero ≡ a = omega arith in
    ap (λ k. filter p (range_with_len a k)) zero_first ∙ ap (λ k. filter p (range_with_len k m)) (sym same)
filter-join p a (suc n) m =
    let step : suc n + m ≡ suc (n + m) = omega arith in
    let rest = filter p (range_with_len (a + 1) n) in
    let more = filter p (range_with_len (a + 1 + n) m) in
    let at : a + 1 + n ≡ a + suc n = omega arith in
    let ih : filter p (range_with_len (a + 1) (n + m)) ≡ rest ++ more = filter-join p (a + 1) n m in
    ap (λ k. filter p (range_with_len a k)) step
    ∙ ap (λ xs. cond (p a) (a ∷ xs) xs) ih
    ∙ ⊎_elim
    (λ (yes : p a ≡ true). cond-true (p a) (a ∷ (rest ++ more)) (rest ++ more) yes
    ∙ ap (λ xs. xs ++ more) (sym (cond-true (p a) (a ∷ rest) rest yes)))
    (λ (no : p a ≡ false). cond-false (p a) (a ∷ (rest ++ more)) (rest ++ more) no
    ∙ ap (λ xs. xs ++ more) (sym (cond-false (p a) (a ∷ rest) rest no)))
    (cases_Bool (p a))
    ∙ ap (λ k. filter p (range_with_len a (suc n)) ++ filter p (range_with_len k m)) at

-- where no node is shown up to one, the nodes that are shown begin there
pub in-skip : (ds : List ℕ) (os : List Bool) (a b c : ℕ) → a ≤ b → b ≤ c
    → ((j : ℕ) → a ≤ j → j < b → shows_node ds os j ≡ false) → shown_nodes ds os a c ≡ shown_nodes ds os b c
unfolding shown_nodes
in-skip ds os a b c le fits hidden =
    let n : c - a ≡ (b - a) + (c - b) = omega arith in
    let at : a + (b - a) ≡ b = omega arith in
    ap (λ k. filter (shows_node ds os) (range_with_len a k)) n
    ∙ filter-skip (shows_node ds os) a (b - a) (c - b) (λ j from to. hidden j from (omega arith))
    ∙ ap (λ k. filter (shows_node ds os) (range_with_len k (c - b))) at

-- none from a node on up to the same one or one before
pub in-none : (ds : List ℕ) (os : List Bool) (a b : ℕ) → b ≤ a → shown_nodes ds os a b ≡ []
unfolding shown_nodes
in-none ds os a b le =
    let n : b - a ≡ 0 = omega arith in ap (λ k. filter (shows_node ds os) (range_with_len a k)) n

-- a node that is shown, and those after it
pub in-here : (ds : List ℕ) (os : List Bool) (a c : ℕ) → a < c → shows_node ds os a ≡ true
    → shown_nodes ds os a c ≡ a ∷ shown_nodes ds os (a + 1) c
unfolding shown_nodes
in-here ds os a c lt passes =
    let n : c - a ≡ suc (c - (a + 1)) = omega arith in
    let rest = filter (shows_node ds os) (range_with_len (a + 1) (c - (a + 1))) in
    ap (λ k. filter (shows_node ds os) (range_with_len a k)) n ∙ cond-true (shows_node ds os a) (a ∷ rest) rest passes

-- the nodes that are shown up to one, and from it on
pub in-join : (ds : List ℕ) (os : List Bool) (a b c : ℕ) → a ≤ b → b ≤ c
    → shown_nodes ds os a c ≡ shown_nodes ds os a b ++ shown_nodes ds os b c
unfolding shown_nodes
in-join ds os a b c le fits =
    let n : c - a ≡ (b - a) + (c - b) = omega arith in
    let at : a + (b - a) ≡ b = omega arith in
    ap (λ k. filter (shows_node ds os) (range_with_len a k)) n ∙ filter-join (shows_node ds os) a (b - a) (c - b)
    ∙ ap (λ k. filter (shows_node ds os) (range_with_len a (b - a)) ++ filter (shows_node ds os) (range_with_len k (c - b))) at

-- the first node that is shown from one on
pub record IsFirst (ds : List ℕ) (os : List Bool) (from k : ℕ) : Type 0 where
  pub at_least : from ≤ k
  pub hidden : (j : ℕ) → from ≤ j → j < k → shows_node ds os j ≡ false
  pub shown : shows_node ds os k ≡ true

pub first-in : {ds : List ℕ} {os : List Bool} {from k : ℕ} → IsFirst ds os from k
    → shown_nodes ds os from (length ds) ≡ k ∷ shown_nodes ds os (k + 1) (length ds)
first-in {ds} {os} {from} {k} is =
    let there = (shown-from {ds = ds} {os = os} {k = k} is.shown).there in
    let le = is.at_least in
    in-skip ds os from k (length ds) le (omega arith) is.hidden ∙ in-here ds os k (length ds) there is.shown

pub first-is : {ds : List ℕ} {os : List Bool} {from k : ℕ} → IsFirst ds os from k → first_node ds os from ≡ Some k
unfolding first_node
first-is {ds} {os} {from} {k} is = ap (λ xs. slice_get xs 0) (first-in is)

pub none-in : (ds : List ℕ) (os : List Bool) (from : ℕ) → ((j : ℕ) → from ≤ j → j < length ds → shows_node ds os j ≡ false)
    → shown_nodes ds os from (length ds) ≡ []
none-in ds os from hidden =
    ⊎_elim
    (λ (lt : from < length ds). in-skip ds os from (length ds) (length ds) (omega arith) (omega arith) hidden
    ∙ in-none ds os (length ds) (length ds) (omega arith))
    (λ (past : length ds ≤ from). in-none ds os from (length ds) past)
    (cases_lt from (length ds))

pub first-none : (ds : List ℕ) (os : List Bool) (from : ℕ) → ((j : ℕ) → from ≤ j → j < length ds → shows_node ds os j ≡ false)
    → first_node ds os from ≡ None
unfolding first_node
first-none ds os from hidden = ap (λ xs. slice_get xs 0) (none-in ds os from hidden)

-- the last node that is shown before one
pub last-append : {A : Type 0} (o : Option A) (xs : List A) (x : A) → last_or o (xs ++ x ∷ []) ≡ Some x
last-append o [] x = refl
last-append o (y ∷ xs) x = last-append (Some y) xs x

pub append-none : {A : Type 0} (xs : List A) → xs ++ [] ≡ xs
append-none [] = refl
append-none (x ∷ xs) = ap (λ ys. x ∷ ys) (append-none xs)

pub in-last : (ds : List ℕ) (os : List Bool) (from k to : ℕ) → from ≤ k → k < to → shows_node ds os k ≡ true
    → ((j : ℕ) → k < j → j < to → shows_node ds os j ≡ false) → shown_nodes ds os from to ≡ shown_nodes ds os from k ++ k ∷ []
in-last ds os from k to le lt shown hidden =
    let here : shown_nodes ds os k to ≡ k ∷ [] =
    in-here ds os k to lt shown
    ∙ ap (λ xs. k ∷ xs) (in-skip ds os (k + 1) to to (omega arith) (omega arith) (λ j from to. hidden j (omega arith) to)
    ∙ in-none ds os to to (omega arith)) in
    in-join ds os from k to le (omega arith) ∙ ap (λ xs. shown_nodes ds os from k ++ xs) here

pub last-is : (ds : List ℕ) (os : List Bool) (k to : ℕ) → k < to → shows_node ds os k ≡ true
    → ((j : ℕ) → k < j → j < to → shows_node ds os j ≡ false) → last_node ds os to ≡ Some k
unfolding last_node
last-is ds os k to lt shown hidden =
    ap (last_or None) (in-last ds os 0 k to (omega arith) lt shown hidden) ∙ last-append None (shown_nodes ds os 0 k) k

pub last-none : (ds : List ℕ) (os : List Bool) → last_node ds os 0 ≡ None
unfolding last_node
last-none ds os = ap (last_or None) (in-none ds os 0 0 (omega arith))
