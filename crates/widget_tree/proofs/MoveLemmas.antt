-- From a node to another one, and which are opened.
use Rattle.std.proofs.Common.{◌≡◌, ℕ, zero, suc, ◌+◌, ◌-◌, ◌<◌, ◌≤◌, ⊎_elim, Bool, true, false, cond, List, [], ◌++◌, set, replicate}
use Rattle.std.specs.Result.{is_ok}
use Rattle.std.proofs.Common.{Result, Ok, Err, take, Some, None, min, eqb, length, get_or, refl, sym, ap, ◌∙◌, arith}
use Rattle.std.specs.List.{last_or}
use Rattle.std.specs.Option.{option_or}
use Rattle.std.proofs.lemmas.Bool.{cases_lt, cases_eq, cond-true, cond-false, eq-eqb, ne_eqb, false≢true}
use Rattle.std.proofs.lemmas.List.{get_or_past, get_or_append_left, get_or-append-add, get_or-set_same, get_or-set_other, take_all}
use Rattle.widget_tree.specs.Depths.{has_children, is_opened, shown_nodes, first_node, last_node}
use Rattle.widget_tree.specs.Moves.{MarksOnly, node_below, node_above}
use Rattle.widget_tree.proofs.ShownLemmas.{in-join, in-skip, in-none, append-none}
use Rattle.widget_tree.proofs.LinkLemmas.{first-past}
use Rattle.widget_tree.proofs.ParentLemmas.{children-past}
use Rattle.widget_tree.proofs.ScrollLemmas.{hidden-past}

-- a node that is opened is told of
pub opened-there : (os : List Bool) (k : ℕ) → is_opened os k ≡ true → k < length os
unfolding is_opened
opened-there os k e =
    ⊎_elim (λ (lt : k < length os). lt)
    (λ (past : length os ≤ k). absurd (false≢true (sym (get_or_past os k false past) ∙ e)))
    (cases_lt k (length os))

-- what a mark leaves
pub marks-set : (os : List Bool) (k : ℕ) (is : Bool) → k < length os → MarksOnly os (set os k is) k is
unfolding is_opened
marks-set os k is lt j =
    ⊎_elim
    (λ (same : j ≡ k).
    ap (λ i. get_or (set os k is) i false) same ∙ get_or-set_same os k is false lt
    ∙ sym (cond-true (eqb j k) is (get_or os j false) (eq-eqb j k same)))
    (λ (other : j ≡ k → ⊥).
    get_or-set_other os k j is false other ∙ sym (cond-false (eqb j k) is (get_or os j false) (ne_eqb j k other)))
    (cases_eq j k)

get-falses : (n i : ℕ) → get_or (replicate n false) i false ≡ false
get-falses zero i = refl
get-falses (suc n) zero = refl
get-falses (suc n) (suc i) = get-falses n i

-- more room changes nothing
pub opened-longer : (os : List Bool) (n j : ℕ) → is_opened (os ++ replicate n false) j ≡ is_opened os j
unfolding is_opened
opened-longer os n j =
    ⊎_elim
    (λ (lt : j < length os). get_or_append_left os (replicate n false) false j lt)
    (λ (past : length os ≤ j).
    let at : j ≡ length os + (j - length os) = omega arith in
    ap (λ i. get_or (os ++ replicate n false) i false) at
    ∙ get_or-append-add os (replicate n false) (j - length os) false
    ∙ get-falses n (j - length os)
    ∙ sym (get_or_past os j false past))
    (cases_lt j (length os))

pub opened-resized : {E : Type 0} (r : Result (Unit {0}) E) (os os' : List Bool) (n m : ℕ) → length os ≤ n
    → os' ≡ cond (is_ok r) (take n os ++ replicate m false) os → (j : ℕ) → is_opened os' j ≡ is_opened os j
opened-resized (Ok x) os os' n m le e j =
    ap (λ xs. is_opened xs j) (e ∙ ap (λ xs. xs ++ replicate m false) (take_all n os le)) ∙ opened-longer os m j
opened-resized (Err x) os os' n m le e j = ap (λ xs. is_opened xs j) e

pub marks-then : (os mid : List Bool) (k : ℕ) (is : Bool) → k < length mid → ((j : ℕ) → is_opened mid j ≡ is_opened os j)
    → MarksOnly os (set mid k is) k is
marks-then os mid k is lt same j = marks-set mid k is lt j ∙ ap (λ x. cond (eqb j k) is x) (same j)

-- a node that has children is one of the tree's
pub children-there : (ds : List ℕ) (k : ℕ) → has_children ds k ≡ true → k < length ds
children-there ds k e =
    ⊎_elim (λ (lt : k < length ds). lt)
    (λ (past : length ds ≤ k). absurd (false≢true (sym (children-past ds k past) ∙ e)))
    (cases_lt k (length ds))

-- before a number that is no node's there are as many nodes as before the end
pub last-cut : (ds : List ℕ) (os : List Bool) (k : ℕ) → last_node ds os (min k (length ds)) ≡ last_node ds os k
unfolding last_node
last-cut ds os k =
    ⊎_elim
    (λ (lt : k < length ds). let e : min k (length ds) ≡ k = omega arith in ap (λ n. last_or None (shown_nodes ds os 0 n)) e)
    (λ (past : length ds ≤ k).
    let e : min k (length ds) ≡ length ds = omega arith in
    let none : shown_nodes ds os (length ds) k ≡ [] =
    in-skip ds os (length ds) k k past (omega arith) (λ j from to. hidden-past ds os j from)
    ∙ in-none ds os k k (omega arith) in
    let join = in-join ds os 0 (length ds) k (omega arith) past in
    ap (λ n. last_or None (shown_nodes ds os 0 n)) e
    ∙ ap (last_or None) (sym (join ∙ ap (λ xs. shown_nodes ds os 0 (length ds) ++ xs) none
    ∙ append-none (shown_nodes ds os 0 (length ds)))))
    (cases_lt k (length ds))

pub first-cut : (ds : List ℕ) (os : List Bool) (k m : ℕ) → length ds ≤ m → first_node ds os (min k m) ≡ first_node ds os k
first-cut ds os k m le =
    ⊎_elim (λ (lt : k < m). let e : min k m ≡ k = omega arith in ap (first_node ds os) e)
    (λ (past : m ≤ k). first-past ds os (min k m) (omega arith) ∙ sym (first-past ds os k (omega arith)))
    (cases_lt k m)

-- a step down, and one up
pub below-some : (ds : List ℕ) (os : List Bool) (k next : ℕ) → first_node ds os (k + 1) ≡ Some next
    → node_below ds os (Some k) ≡ Some next
below-some ds os k next e = ap (λ o. option_or o (last_node ds os (length ds))) e

pub below-last : (ds : List ℕ) (os : List Bool) (k : ℕ) → first_node ds os (k + 1) ≡ None
    → node_below ds os (Some k) ≡ last_node ds os (length ds)
below-last ds os k e = ap (λ o. option_or o (last_node ds os (length ds))) e

pub above-some : (ds : List ℕ) (os : List Bool) (k previous : ℕ) → last_node ds os k ≡ Some previous
    → node_above ds os (Some k) ≡ Some previous
above-some ds os k previous e = ap (λ o. option_or o (first_node ds os 0)) e

pub above-first : (ds : List ℕ) (os : List Bool) (k : ℕ) → last_node ds os k ≡ None
    → node_above ds os (Some k) ≡ first_node ds os 0
above-first ds os k e = ap (λ o. option_or o (first_node ds os 0)) e
