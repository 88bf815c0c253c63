-- Ancestors: what holds of all nodes between.
use Rattle.std.proofs.Common.{◌≡◌, ℕ, zero, suc, ◌+◌, ◌-◌, ◌<◌, ◌≤◌, ⊎_elim, Bool, true, List}
use Rattle.std.proofs.Common.{ltb, get_or, refl, subst, arith}
use Rattle.std.specs.List.{list_all, range_with_len}
use Rattle.std.proofs.lemmas.Bool.{and_parts, and_from, ltb-true, lt-ltb, cases_lt, cases_eq}
use Rattle.widget_tree.specs.Depths.{is_ancestor}

-- how deep a node is
abbrev pub depth_at : List ℕ → ℕ → ℕ
depth_at ds k = get_or ds k 0

-- a node is an ancestor of a later one
pub record IsAncestor (ds : List ℕ) (a k : ℕ) : Type 0 where
  pub before : a < k
  pub deeper : (j : ℕ) → a < j → j ≤ k → depth_at ds a < depth_at ds j

-- a test holds of each number of a range
pub all-range : (p : ℕ → Bool) (a n : ℕ) → list_all p (range_with_len a n) ≡ true → (j : ℕ) → a ≤ j → j < a + n → p j ≡ true
all-range p a zero e j from to = absurd (omega arith)
all-range p a (suc n) e j from to =
    let parts = and_parts (p a) (list_all p (range_with_len (a + 1) n)) e in
    ⊎_elim (λ (same : a ≡ j). subst (λ k. p k ≡ true) same parts.0)
    (λ (more : a ≡ j → ⊥). all-range p (a + 1) n parts.1 j (omega arith) (omega arith))
    (cases_eq a j)

pub range-all : (p : ℕ → Bool) (a n : ℕ) → ((j : ℕ) → a ≤ j → j < a + n → p j ≡ true) → list_all p (range_with_len a n) ≡ true
range-all p a zero each = refl
range-all p a (suc n) each =
    and_from (p a) (list_all p (range_with_len (a + 1) n)) (each a (omega arith) (omega arith))
    (range-all p (a + 1) n (λ j from to. each j (omega arith) (omega arith)))

-- what a test of nodes says
pub ancestor-from : (ds : List ℕ) (a k : ℕ) → is_ancestor ds a k ≡ true → IsAncestor ds a k
unfolding is_ancestor
ancestor-from ds a k e =
    let p : ℕ → Bool = λ j. ltb (get_or ds a 0) (get_or ds j 0) in
    let parts = and_parts (ltb a k) (list_all p (range_with_len (a + 1) (k - a))) e in
    let before : a < k = ltb-true a k parts.0 in
    record {
      before = before;
      deeper = λ j from to. ltb-true (get_or ds a 0) (get_or ds j 0)
          (all-range p (a + 1) (k - a) parts.1 j (omega arith) (omega arith));
    }

pub ancestor-is : (ds : List ℕ) (a k : ℕ) → IsAncestor ds a k → is_ancestor ds a k ≡ true
unfolding is_ancestor
ancestor-is ds a k is =
    let p : ℕ → Bool = λ j. ltb (get_or ds a 0) (get_or ds j 0) in
    let before = is.before in
    and_from (ltb a k) (list_all p (range_with_len (a + 1) (k - a))) (lt-ltb a k before)
    (range-all p (a + 1) (k - a) (λ j from to. lt-ltb (get_or ds a 0) (get_or ds j 0) (is.deeper j (omega arith) (omega arith))))

-- an ancestor is less deep, and its ancestors are ancestors, too
pub ancestor-below : {ds : List ℕ} {a k : ℕ} → IsAncestor ds a k → depth_at ds a < depth_at ds k
ancestor-below {ds} {a} {k} is = let before = is.before in is.deeper k before (omega arith)

pub ancestor-then : {ds : List ℕ} {a b k : ℕ} → IsAncestor ds a b → IsAncestor ds b k → IsAncestor ds a k
ancestor-then {ds} {a} {b} {k} one two =
    let p = one.before in let q = two.before in
    record {
      before = omega arith;
      deeper = λ j from to.
          ⊎_elim (λ (past : b < j). let le = ancestor-below one in let lt = two.deeper j past to in omega arith)
          (λ (within : j ≤ b). one.deeper j from within)
          (cases_lt b j);
    }

-- of two ancestors of a node the first one is an ancestor of the other one
pub ancestor-before : {ds : List ℕ} {a b k : ℕ} → IsAncestor ds a k → b ≤ k → a < b → IsAncestor ds a b
ancestor-before {ds} {a} {b} {k} is to lt = record { before = lt; deeper = λ j from le. is.deeper j from (omega arith) }
