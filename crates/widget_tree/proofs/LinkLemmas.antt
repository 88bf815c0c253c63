-- Parents and ends: from a node to the ones that are shown around it.
use Rattle.std.proofs.Common.{◌≡◌, ℕ, ◌+◌, ◌<◌, ◌≤◌, ◌⊎◌, ⊎_elim, inl, inr, Bool, true, false, List, length}
use Rattle.std.proofs.Common.{Some, None, sym, ap, subst, arith}
use Rattle.std.proofs.lemmas.Bool.{cases_lt, cases_eq}
use Rattle.std.proofs.lemmas.List.{get_or_past}
use Rattle.widget_tree.specs.Depths.{is_ancestor, is_opened, shows_node, first_node, last_node}
use Rattle.widget_tree.specs.Inner.{IsUp, IsSubtreeEnd, ShowsFor, IsNext}
use Rattle.widget_tree.proofs.AncestorLemmas.{depth_at, IsAncestor, ancestor-from, ancestor-is, ancestor-below, ancestor-then, ancestor-before}
use Rattle.widget_tree.proofs.ShownLemmas.{shown-from, shown-is, hidden-under, first-is, first-none, last-is}

-- a node that has an ancestor is one of the tree's
pub ancestor-there : {ds : List ℕ} {a k : ℕ} → IsAncestor ds a k → k < length ds
ancestor-there {ds} {a} {k} is =
    ⊎_elim (λ (lt : k < length ds). lt)
    (λ (past : length ds ≤ k).
    let no = get_or_past ds k 0 past in let deep = ancestor-below is in absurd (omega arith))
    (cases_lt k (length ds))

-- the parent is an ancestor, and there is none after it
pub up-parent : {ds : List ℕ} {k up : ℕ} (p : ℕ) → IsUp ds k up → p + 1 ≡ up → IsAncestor ds p k
up-parent {ds} {k} {up} p is e =
    let most = is.at_most in let less = is.parent p e in
    record {
      before = omega arith;
      deeper = λ j from to.
          ⊎_elim (λ (within : j < k). let le = is.between j (omega arith) within in omega arith)
          (λ (ge : k ≤ j). let same : j ≡ k = omega arith in rw same less)
          (cases_lt j k);
    }

pub up-least : {ds : List ℕ} {a k up : ℕ} → IsUp ds k up → IsAncestor ds a k → a < up
up-least {ds} {a} {k} {up} is anc =
    ⊎_elim (λ (lt : a < up). lt)
    (λ (from : up ≤ a).
    let before = anc.before in let deep = ancestor-below anc in let le = is.between a from before in absurd (omega arith))
    (cases_lt a up)

-- a node is an ancestor of those up to its end, and of no other ones
pub end-ancestor : {ds : List ℕ} {k end : ℕ} (j : ℕ) → IsSubtreeEnd ds k end → k < j → j < end → IsAncestor ds k j
end-ancestor {ds} {k} {end} j is from to = record {
  before = from;
  deeper = λ i after le. is.between i after (omega arith);
}

pub end-past : {ds : List ℕ} {k j end : ℕ} → IsSubtreeEnd ds k end → IsAncestor ds k j → j < end
end-past {ds} {k} {j} {end} is anc =
    ⊎_elim (λ (lt : j < end). lt)
    (λ (past : end ≤ j).
    let there = ancestor-there anc in let after = is.after in
    let le = is.ends (omega arith) in let deep = anc.deeper end after past in absurd (omega arith))
    (cases_lt j end)

-- on the way from a node to its outermost ancestor: so far the node is shown for it
pub record Climbs (ds : List ℕ) (os : List Bool) (k at stands : ℕ) : Type 0 where
  pub within : at ≤ stands
  pub at_most : stands ≤ k
  pub line : (at ≡ k) ⊎ IsAncestor ds at k
  pub is : (stands ≡ k) ⊎ (IsAncestor ds stands k × (is_opened os stands ≡ false))
  pub opened : (a : ℕ) → IsAncestor ds a stands → at ≤ a → is_opened os a ≡ true

line-down : {ds : List ℕ} {k at a : ℕ} → (at ≡ k) ⊎ IsAncestor ds at k → IsAncestor ds a k → a < at → IsAncestor ds a at
line-down {ds} {k} {at} {a} line anc lt =
    ⊎_elim (λ (same : at ≡ k). subst (λ j. IsAncestor ds a j) (sym same) anc)
    (λ (up : IsAncestor ds at k). let before = up.before in ancestor-before anc (omega arith) lt) line

stands-up : {ds : List ℕ} (os : List Bool) {k s a : ℕ} → (s ≡ k) ⊎ (IsAncestor ds s k × (is_opened os s ≡ false))
    → IsAncestor ds a s → IsAncestor ds a k
stands-up {ds} os {k} {s} {a} is anc =
    ⊎_elim (λ (same : s ≡ k). subst (λ j. IsAncestor ds a j) same anc)
    (λ (up : IsAncestor ds s k × (is_opened os s ≡ false)). ancestor-then anc up.0) is

pub climbs-end : {ds : List ℕ} {os : List Bool} {k at s : ℕ} → k < length ds → Climbs ds os k at s → IsUp ds at 0
    → ShowsFor ds os k s
climbs-end {ds} {os} {k} {at} {s} there is ups =
    let most = is.at_most in
    record {
      shown = shown-is (record {
        there = omega arith;
        opened = λ a anc.
            ⊎_elim
            (λ (lower : a < at). let least = up-least ups (line-down is.line (stands-up os is.is anc) lower) in absurd (omega arith))
            (λ (higher : at ≤ a). is.opened a anc higher)
            (cases_lt a at);
      });
      is = ⊎_elim (λ (same : s ≡ k). inl same)
          (λ (up : IsAncestor ds s k × (is_opened os s ≡ false)). inr ((ancestor-is ds s k up.0, up.1))) is.is;
    }

-- what is shown after a node that stands for another one
pub hidden-within : {ds : List ℕ} (os : List Bool) {r end : ℕ} → is_opened os r ≡ false → IsSubtreeEnd ds r end → (j : ℕ) → r < j → j < end
    → shows_node ds os j ≡ false
hidden-within {ds} os {r} {end} closed is j from to = hidden-under os (end-ancestor j is from to) closed

pub end-shown : {ds : List ℕ} (os : List Bool) {r end : ℕ} → shows_node ds os r ≡ true → IsSubtreeEnd ds r end → end < length ds
    → shows_node ds os end ≡ true
end-shown {ds} os {r} {end} shown is there =
    let after = is.after in let flat = is.ends there in
    shown-is (record {
      there = there;
      opened = λ a anc.
          let before = anc.before in let deep = ancestor-below anc in
          ⊎_elim
          (λ (lower : a < r). (shown-from {ds = ds} {os = os} {k = r} shown).opened a (ancestor-before anc (omega arith) lower))
          (λ (from : r ≤ a).
          ⊎_elim
          (λ (same : r ≡ a). let e = ap (λ j. depth_at ds j) same in absurd (omega arith))
          (λ (other : r ≡ a → ⊥). let more = is.between a (omega arith) before in absurd (omega arith))
          (cases_eq r a))
          (cases_lt a r);
    })

stands-hides : {ds : List ℕ} {os : List Bool} {k r : ℕ} → (r ≡ k → ⊥) → ShowsFor ds os k r
    → IsAncestor ds r k × (is_opened os r ≡ false)
stands-hides {ds} {os} {k} {r} other is =
    ⊎_elim (λ (same : r ≡ k). absurd (other same))
    (λ (up : (is_ancestor ds r k ≡ true) × (is_opened os r ≡ false)). (ancestor-from ds r k up.0, up.1)) is.is

-- a node is shown if it stands for itself
pub stands-shown : {ds : List ℕ} {os : List Bool} {k r : ℕ} → ShowsFor ds os k r → r ≡ k → shows_node ds os k ≡ true
stands-shown {ds} {os} {k} {r} is same = subst (λ j. shows_node ds os j ≡ true) same is.shown

pub stands-hidden : {ds : List ℕ} {os : List Bool} {k r : ℕ} → ShowsFor ds os k r → (r ≡ k → ⊥) → shows_node ds os k ≡ false
stands-hidden {ds} {os} {k} {r} is other = let up = stands-hides other is in hidden-under os up.0 up.1

-- the first node that is shown from one on: itself, or the end of what stands for it
pub first-here : {ds : List ℕ} {os : List Bool} {k r : ℕ} → ShowsFor ds os k r → r ≡ k → first_node ds os k ≡ Some k
first-here {ds} {os} {k} {r} is same = first-is (record {
  at_least = omega arith;
  hidden = λ j from to. absurd (omega arith);
  shown = stands-shown is same;
})

pub first-end : {ds : List ℕ} {os : List Bool} {k r end : ℕ} → ShowsFor ds os k r → (r ≡ k → ⊥) → IsSubtreeEnd ds r end
    → end < length ds → first_node ds os k ≡ Some end
first-end {ds} {os} {k} {r} {end} is other ends there =
    let up = stands-hides other is in let anc = up.0 in
    let before = anc.before in let past = end-past ends anc in
    first-is (record {
      at_least = omega arith;
      hidden = λ j from to. hidden-within os up.1 ends j (omega arith) to;
      shown = end-shown os is.shown ends there;
    })

pub first-end-none : {ds : List ℕ} {os : List Bool} {k r end : ℕ} → ShowsFor ds os k r → (r ≡ k → ⊥) → IsSubtreeEnd ds r end
    → length ds ≤ end → first_node ds os k ≡ None
first-end-none {ds} {os} {k} {r} {end} is other ends there =
    let up = stands-hides other is in let anc = up.0 in let before = anc.before in
    first-none ds os k (λ j from to. hidden-within os up.1 ends j (omega arith) (omega arith))

pub first-past : (ds : List ℕ) (os : List Bool) (k : ℕ) → length ds ≤ k → first_node ds os k ≡ None
first-past ds os k past = first-none ds os k (λ j from to. absurd (omega arith))

-- what is shown after a node that is shown
pub next-opened : (ds : List ℕ) (os : List Bool) (k : ℕ) → shows_node ds os k ≡ true → is_opened os k ≡ true
    → IsNext ds os (k + 1) (k + 1)
next-opened ds os k shown open_ =
    let there = (shown-from {ds = ds} {os = os} {k = k} shown).there in
    record {
      at_least = omega arith;
      at_most = omega arith;
      hidden = λ j from to. absurd (omega arith);
      shown = λ lt. shown-is (record {
        there = lt;
        opened = λ a anc.
            let before = anc.before in
            ⊎_elim (λ (same : k ≡ a). subst (λ j. is_opened os j ≡ true) same open_)
            (λ (other : k ≡ a → ⊥).
            (shown-from {ds = ds} {os = os} {k = k} shown).opened a (ancestor-before anc (omega arith) (omega arith)))
            (cases_eq k a);
      });
    }

pub next-closed : {ds : List ℕ} (os : List Bool) {k end : ℕ} → shows_node ds os k ≡ true → is_opened os k ≡ false → IsSubtreeEnd ds k end
    → IsNext ds os (k + 1) end
next-closed {ds} os {k} {end} shown closed ends =
    let after = ends.after in
    record {
      at_least = omega arith;
      at_most = ends.at_most;
      hidden = λ j from to. hidden-within os closed ends j (omega arith) to;
      shown = λ lt. end-shown os shown ends lt;
    }

-- the last node that is shown before one is the one that stands for the node before it
pub last-stands : {ds : List ℕ} {os : List Bool} {k r : ℕ} (to : ℕ) → k + 1 ≡ to → ShowsFor ds os k r
    → last_node ds os to ≡ Some r
last-stands {ds} {os} {k} {r} to e is =
    ⊎_elim
    (λ (same : r ≡ k). last-is ds os r to (omega arith) is.shown (λ j from till. absurd (omega arith)))
    (λ (up : (is_ancestor ds r k ≡ true) × (is_opened os r ≡ false)).
    let anc = ancestor-from ds r k up.0 in let before = anc.before in
    last-is ds os r to (omega arith) is.shown
    (λ j from till. hidden-under os (ancestor-before anc (omega arith) from) up.1))
    is.is
