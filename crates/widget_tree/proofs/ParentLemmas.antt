-- The parent of a node, and whether it has children.
use Rattle.std.proofs.Common.{◌≡◌, ℕ, suc, ◌+◌, ◌-◌, ◌<◌, ◌≤◌, ⊎_elim, Bool, true, false, List, [], ◌∷◌, ◌++◌}
use Rattle.std.proofs.Common.{Some, None, ltb, length, sym, ap, subst, ◌∙◌, arith}
use Rattle.std.specs.List.{filter, range_with_len, last_or}
use Rattle.std.proofs.lemmas.Bool.{cases_lt, cond-true, lt-ltb, le-ltb, false_from_ne_true}
use Rattle.std.proofs.lemmas.List.{get_or_past}
use Rattle.widget_tree.specs.Depths.{is_ancestor, ancestors, parent_of, has_children}
use Rattle.widget_tree.specs.Inner.{IsUp, IsSubtreeEnd}
use Rattle.widget_tree.proofs.AncestorLemmas.{depth_at, IsAncestor, ancestor-from, ancestor-is}
use Rattle.widget_tree.proofs.ShownLemmas.{filter-skip, filter-join, last-append}
use Rattle.widget_tree.proofs.LinkLemmas.{up-parent, up-least, ancestor-there}

pub filter-nothing : (p : ℕ → Bool) (a n : ℕ) → ((j : ℕ) → a ≤ j → j < a + n → p j ≡ false) → filter p (range_with_len a n) ≡ []
filter-nothing p a n each =
    let e : n + 0 ≡ n = omega arith in
    ap (λ k. filter p (range_with_len a k)) (sym e) ∙ filter-skip p a n 0 each

-- the last number of a range that passes a test
pub filter-last : (p : ℕ → Bool) (k to : ℕ) → k < to → p k ≡ true → ((j : ℕ) → k < j → j < to → p j ≡ false)
    → last_or None (filter p (range_with_len 0 to)) ≡ Some k
filter-last p k to lt passes none =
    let n : to ≡ k + suc (to - (k + 1)) = omega arith in
    let zero_first : 0 + k ≡ k = omega arith in
    let front = filter p (range_with_len 0 k) in
    let rest = filter p (range_with_len (k + 1) (to - (k + 1))) in
    let here : filter p (range_with_len k (suc (to - (k + 1)))) ≡ k ∷ [] =
    cond-true (p k) (k ∷ rest) rest passes
    ∙ ap (λ xs. k ∷ xs) (filter-nothing p (k + 1) (to - (k + 1)) (λ j from till. none j (omega arith) (omega arith))) in
    ap (λ m. last_or None (filter p (range_with_len 0 m))) n
    ∙ ap (last_or None) (filter-join p 0 k (suc (to - (k + 1))))
    ∙ ap (λ m. last_or None (front ++ filter p (range_with_len m (suc (to - (k + 1)))))) zero_first
    ∙ ap (λ xs. last_or None (front ++ xs)) here
    ∙ last-append None front k

no-ancestor : {ds : List ℕ} {a k : ℕ} → (IsAncestor ds a k → ⊥) → is_ancestor ds a k ≡ false
no-ancestor {ds} {a} {k} never = false_from_ne_true (is_ancestor ds a k) (λ e. never (ancestor-from ds a k e))

pub parent-some : {ds : List ℕ} {k up : ℕ} (p : ℕ) → IsUp ds k up → p + 1 ≡ up → parent_of ds k ≡ Some p
unfolding parent_of ancestors
parent-some {ds} {k} {up} p is e =
    let anc = up-parent p is e in
    let before = anc.before in
    filter-last (λ a. is_ancestor ds a k) p k before (ancestor-is ds p k anc)
    (λ j from to. no-ancestor (λ other. let least = up-least is other in absurd (omega arith)))

pub parent-none : {ds : List ℕ} {k : ℕ} → IsUp ds k 0 → parent_of ds k ≡ None
unfolding parent_of ancestors
parent-none {ds} {k} is =
    ap (last_or None) (filter-nothing (λ a. is_ancestor ds a k) 0 k
    (λ j from to. no-ancestor (λ other. let least = up-least is other in absurd (omega arith))))

pub parent-past : (ds : List ℕ) (k : ℕ) → length ds ≤ k → parent_of ds k ≡ None
unfolding parent_of ancestors
parent-past ds k past =
    ap (last_or None) (filter-nothing (λ a. is_ancestor ds a k) 0 k
    (λ j from to. no-ancestor (λ other. let there = ancestor-there other in absurd (omega arith))))

-- a node has children if it doesn't end with the next one
pub children-end : {ds : List ℕ} {k end : ℕ} → IsSubtreeEnd ds k end → ltb (k + 1) end ≡ has_children ds k
unfolding has_children
children-end {ds} {k} {end} is =
    let after = is.after in let most = is.at_most in
    ⊎_elim
    (λ (more : k + 1 < end).
    lt-ltb (k + 1) end more ∙ sym (lt-ltb (depth_at ds k) (depth_at ds (k + 1)) (is.between (k + 1) (omega arith) more)))
    (λ (last : end ≤ k + 1).
    let at : end ≡ k + 1 = omega arith in
    let flat : depth_at ds (k + 1) ≤ depth_at ds k =
    ⊎_elim (λ (there : end < length ds). subst (λ j. depth_at ds j ≤ depth_at ds k) at (is.ends there))
    (λ (past : length ds ≤ end).
    let none : depth_at ds (k + 1) ≡ 0 = get_or_past ds (k + 1) 0 (omega arith) in omega arith)
    (cases_lt end (length ds)) in
    le-ltb (k + 1) end last ∙ sym (le-ltb (depth_at ds k) (depth_at ds (k + 1)) flat))
    (cases_lt (k + 1) end)

pub children-past : (ds : List ℕ) (k : ℕ) → length ds ≤ k → has_children ds k ≡ false
unfolding has_children
children-past ds k past =
    let here : depth_at ds k ≡ 0 = get_or_past ds k 0 past in
    let next : depth_at ds (k + 1) ≡ 0 = get_or_past ds (k + 1) 0 (omega arith) in
    le-ltb (depth_at ds k) (depth_at ds (k + 1)) (omega arith)
