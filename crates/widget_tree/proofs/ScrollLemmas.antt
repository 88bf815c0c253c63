-- Where the rows begin so that a node is in one of them.
use Rattle.std.proofs.Common.{◌≡◌, ℕ, ◌+◌, ◌-◌, ◌<◌, ◌≤◌, ⊎_elim, Bool, true, false, List, [], ◌∷◌, ◌++◌}
use Rattle.std.proofs.Common.{Option, Some, None, unwrap_or, min, length, get_or, eqb, ltb, refl, sym, ap, subst, ◌∙◌, arith, length-append}
use Rattle.std.proofs.lemmas.Bool.{cases_lt, cases_eq, cond-true, cond-false, false≢true, le-ltb, eq-eqb, ne_eqb, and_left}
use Rattle.std.proofs.lemmas.List.{get_or-append-add}
use Rattle.widget_tree.specs.Depths.{shows_node, shown_nodes, first_node, last_node}
use Rattle.widget_tree.specs.Inner.{ShowsFor, IsNext}
use Rattle.widget_tree.specs.Rows.{row_start, rows_to, scrolled_to, offset_for}
use Rattle.widget_tree.proofs.ShownLemmas.{shown-from, in-skip, in-here, in-none, in-join}
use Rattle.widget_tree.proofs.LinkLemmas.{stands-shown, stands-hidden}

-- a node that is no node of the tree isn't shown
pub hidden-past : (ds : List ℕ) (os : List Bool) (k : ℕ) → length ds ≤ k → shows_node ds os k ≡ false
unfolding shows_node
hidden-past ds os k past = and_left (ltb k (length ds)) _ (le-ltb k (length ds) past)

pub stands-test : {ds : List ℕ} {os : List Bool} {k r : ℕ} → ShowsFor ds os k r → eqb r k ≡ shows_node ds os k
stands-test {ds} {os} {k} {r} is =
    ⊎_elim (λ (same : r ≡ k). eq-eqb r k same ∙ sym (stands-shown is same))
    (λ (other : r ≡ k → ⊥). ne_eqb r k other ∙ sym (stands-hidden is other))
    (cases_eq r k)

-- where rows begin
pub start-first : (ds : List ℕ) (os : List Bool) (was k : ℕ) → first_node ds os was ≡ Some k → row_start ds os was ≡ k
unfolding row_start
start-first ds os was k e = rw e refl

pub start-last : (ds : List ℕ) (os : List Bool) (was : ℕ) (last : Option ℕ) → first_node ds os was ≡ None
    → last_node ds os (length ds) ≡ last → row_start ds os was ≡ unwrap_or last 0
unfolding row_start
start-last ds os was last none e = rw (none, e) refl

-- after a node that is shown
pub next-in : {ds : List ℕ} {os : List Bool} (a b c : ℕ) → shows_node ds os a ≡ true → IsNext ds os (a + 1) b → b ≤ c
    → shown_nodes ds os a c ≡ a ∷ shown_nodes ds os b c
next-in {ds} {os} a b c shown next le =
    let least = next.at_least in
    in-here ds os a c (omega arith) shown
    ∙ ap (λ xs. a ∷ xs) (in-skip ds os (a + 1) b c least le next.hidden)

pub next-reaches : {ds : List ℕ} {os : List Bool} {a b k : ℕ} → IsNext ds os (a + 1) b → shows_node ds os k ≡ true → a < k → b ≤ k
next-reaches {ds} {os} {a} {b} {k} next shown lt =
    ⊎_elim (λ (past : k < b). absurd (false≢true (sym (next.hidden k (omega arith) past) ∙ shown)))
    (λ (le : b ≤ k). le) (cases_lt k b)

next-shown : {ds : List ℕ} {os : List Bool} {a b k : ℕ} → IsNext ds os (a + 1) b → shows_node ds os k ≡ true → a < k
    → shows_node ds os b ≡ true
next-shown {ds} {os} {a} {b} {k} next shown lt =
    let there = (shown-from {ds = ds} {os = os} {k = k} shown).there in
    let le = next-reaches next shown lt in next.shown (omega arith)

-- rows from one node down to another one, on the way to a third one
pub record Scrolls (ds : List ℕ) (os : List Bool) (height from k first last rows : ℕ) : Type 0 where
  pub first_is : shows_node ds os first ≡ true
  pub last_is : shows_node ds os last ≡ true
  pub from_on : from ≤ first
  pub order : first ≤ last
  pub most : last ≤ k
  pub count : rows ≡ length (shown_nodes ds os first (last + 1))
  pub some : 0 < rows
  pub fits : rows ≤ height
  pub top : rows < height → first ≡ from

-- one node alone
pub one-in : (ds : List ℕ) (os : List Bool) (k : ℕ) → shows_node ds os k ≡ true → shown_nodes ds os k (k + 1) ≡ k ∷ []
one-in ds os k shown =
    in-here ds os k (k + 1) (omega arith) shown ∙ ap (λ xs. k ∷ xs) (in-none ds os (k + 1) (k + 1) (omega arith))

pub scroll-start : (ds : List ℕ) (os : List Bool) (height from k : ℕ) → 0 < height → from ≤ k → shows_node ds os from ≡ true
    → Scrolls ds os height from k from from 1
scroll-start ds os height from k some le shown = record {
  first_is = shown;
  last_is = shown;
  from_on = omega arith;
  order = omega arith;
  most = le;
  count = sym (ap length (one-in ds os from shown));
  some = omega arith;
  fits = some;
  top = λ lt. refl;
}

-- one row more at the end
longer : {ds : List ℕ} {os : List Bool} (first last next : ℕ) → first ≤ last → shows_node ds os next ≡ true
    → IsNext ds os (last + 1) next
    → length (shown_nodes ds os first (next + 1)) ≡ length (shown_nodes ds os first (last + 1)) + 1
longer {ds} {os} first last next le shown is =
    let least = is.at_least in
    let end : shown_nodes ds os (last + 1) (next + 1) ≡ next ∷ [] =
    in-skip ds os (last + 1) next (next + 1) least (omega arith) is.hidden ∙ one-in ds os next shown in
    ap length (in-join ds os first (last + 1) (next + 1) (omega arith) (omega arith))
    ∙ length-append (shown_nodes ds os first (last + 1)) (shown_nodes ds os (last + 1) (next + 1))
    ∙ ap (λ xs. length (shown_nodes ds os first (last + 1)) + length xs) end

pub scroll-more : {ds : List ℕ} {os : List Bool} {height from k first last rows : ℕ} (next : ℕ)
    → Scrolls ds os height from k first last rows → shows_node ds os k ≡ true → last < k → rows < height
    → IsNext ds os (last + 1) next → Scrolls ds os height from k first next (rows + 1)
scroll-more {ds} {os} {height} {from} {k} {first} {last} {rows} next is shown lt room to =
    let there = next-shown to shown lt in
    let order = is.order in let count = is.count in let least = to.at_least in
    let more = longer first last next order there to in
    record {
      first_is = is.first_is;
      last_is = there;
      from_on = is.from_on;
      order = omega arith;
      most = next-reaches to shown lt;
      count = omega arith;
      some = omega arith;
      fits = omega arith;
      top = λ less. is.top room;
    }

pub scroll-shift : {ds : List ℕ} {os : List Bool} {height from k first last rows : ℕ} (next second : ℕ)
    → Scrolls ds os height from k first last rows → shows_node ds os k ≡ true → last < k → height ≤ rows
    → IsNext ds os (last + 1) next → IsNext ds os (first + 1) second → Scrolls ds os height from k second next rows
scroll-shift {ds} {os} {height} {from} {k} {first} {last} {rows} next second is shown lt full to down =
    let there = next-shown to shown lt in
    let order = is.order in let count = is.count in let least = to.at_least in let after = down.at_least in
    let on = is.from_on in let few = is.fits in
    let le : second ≤ next = next-reaches down there (omega arith) in
    let more = longer first last next order there to in
    let fewer = ap length (next-in first second (next + 1) is.first_is down (omega arith)) in
    record {
      first_is = next-shown down there (omega arith);
      last_is = there;
      from_on = omega arith;
      order = le;
      most = next-reaches to shown lt;
      count = omega arith;
      some = is.some;
      fits = few;
      top = λ less. absurd (omega arith);
    }

-- the first row is the first one of as many of the last ones
first-of : (ds : List ℕ) (os : List Bool) (xs : List ℕ) (a c i : ℕ) → shows_node ds os a ≡ true → a < c → i ≡ length xs
    → get_or (xs ++ shown_nodes ds os a c) i 0 ≡ a
first-of ds os xs a c i shown lt e =
    let at : i ≡ length xs + 0 = omega arith in
    rw (at, in-here ds os a c lt shown) (get_or-append-add xs (a ∷ shown_nodes ds os (a + 1) c) 0 0)

pub scroll-end : {ds : List ℕ} {os : List Bool} {height k first last rows : ℕ} (start : ℕ)
    → Scrolls ds os height (min start k) k first last rows → k ≤ last → first ≡ scrolled_to ds os height start k
unfolding scrolled_to rows_to
scroll-end {ds} {os} {height} {k} {first} {last} {rows} start is end =
    let most = is.most in let order = is.order in let on = is.from_on in let few = is.fits in
    let same : last ≡ k = omega arith in
    let count : rows ≡ length (shown_nodes ds os first (k + 1)) = subst (λ j. rows ≡ length (shown_nodes ds os first (j + 1))) same is.count in
    let from = min start k in
    let front = shown_nodes ds os from first in
    let join = in-join ds os from first (k + 1) on (omega arith) in
    let total = ap length join ∙ length-append front (shown_nodes ds os first (k + 1)) in
    let none : rows < height → length front ≡ 0 = λ less.
    let top = is.top less in ap length (in-none ds os from first (omega arith)) in
    let index : length (shown_nodes ds os from (k + 1)) - height ≡ length front =
    ⊎_elim (λ (less : rows < height). let no = none less in omega arith) (λ (full : height ≤ rows). omega arith)
    (cases_lt rows height) in
    sym (ap (λ xs. get_or xs (length (shown_nodes ds os from (k + 1)) - height) 0) join
    ∙ first-of ds os front first (k + 1) _ is.first_is (omega arith) index)

-- where the rows begin for a selection
pub offset-none : (ds : List ℕ) (os : List Bool) (height was : ℕ) → offset_for ds os height was None ≡ row_start ds os was
unfolding offset_for
offset-none ds os height was = refl

pub offset-shown : (ds : List ℕ) (os : List Bool) (height was k : ℕ) → shows_node ds os k ≡ true
    → offset_for ds os height was (Some k) ≡ scrolled_to ds os height (row_start ds os was) k
unfolding offset_for
offset-shown ds os height was k shown = cond-true (shows_node ds os k) _ _ shown

pub offset-hidden : (ds : List ℕ) (os : List Bool) (height was k : ℕ) → shows_node ds os k ≡ false
    → offset_for ds os height was (Some k) ≡ row_start ds os was
unfolding offset_for
offset-hidden ds os height was k hidden = cond-false (shows_node ds os k) _ _ hidden

pub least-shown : (ds : List ℕ) (os : List Bool) (a b : ℕ) → shows_node ds os a ≡ true → shows_node ds os b ≡ true
    → shows_node ds os (min a b) ≡ true
least-shown ds os a b one two =
    ⊎_elim (λ (lt : a < b). let e : min a b ≡ a = omega arith in subst (λ k. shows_node ds os k ≡ true) (sym e) one)
    (λ (le : b ≤ a). let e : min a b ≡ b = omega arith in subst (λ k. shows_node ds os k ≡ true) (sym e) two) (cases_lt a b)
