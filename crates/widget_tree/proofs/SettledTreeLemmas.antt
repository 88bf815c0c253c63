-- A tree whose state is settled leaves it as it is.
use Rattle.std.proofs.Common.{◌≡◌, ℕ, ◌-◌, ◌<◌, ◌==◌, ◌||◌, ⊎_elim, inl, inr, Bool, true, false, List, Option, Some}
use Rattle.std.proofs.Common.{None, slice_get, length, refl, sym, ap, subst, ◌∙◌, arith}
use Rattle.std.proofs.lemmas.Bool.{cases_Bool, false≢true}
use Rattle.std.proofs.lemmas.Bool.Decides.{nat_tests}
use Rattle.ratatui_core.specs.{Layout.Rect, Layout.intersected, Buffer.BufferData}
use Rattle.widget_boxes.specs.declared.block.Block.{Block}
use Rattle.widget_boxes.specs.Framed.{inner_if, IsBare}
use Rattle.widget_boxes.proofs.InnerLemmas.{bare-or}
use Rattle.widget_tree.specs.declared.{state.TreeState.TreeState, tree.Tree.Tree}
use Rattle.widget_tree.specs.Depths.{shows_node, shown_nodes, first_node, last_node}
use Rattle.widget_tree.specs.Rows.{row_start, scrolled_to, offset_for}
use Rattle.widget_tree.specs.TreeStates.{tree_depths, opened_of}
use Rattle.widget_tree.specs.Trees.{next_tree_state, settled_tree, ShowsNodes}
use Rattle.widget_tree.specs.Trees.{RendersTree}
use Rattle.widget_tree.proofs.ShownLemmas.{shown-from, in-here}
use Rattle.widget_tree.proofs.ScrollLemmas.{start-first, start-last, offset-none, offset-shown, offset-hidden}
use Rattle.widget_tree.proofs.LawLemmas.{first-of-shown, last-of-shown, last-nothing, scrolled-shows, scroll-stays}

-- the first node that is shown from one on that is shown is that one
first-here : (ds : List ℕ) (os : List Bool) (k : ℕ) → shows_node ds os k ≡ true → first_node ds os k ≡ Some k
unfolding first_node
first-here ds os k shown =
    let there = (shown-from {ds = ds} {os = os} {k = k} shown).there in
    ap (λ xs. slice_get xs 0) (in-here ds os k (length ds) there shown)

start-here : (ds : List ℕ) (os : List Bool) (k : ℕ) → shows_node ds os k ≡ true → row_start ds os k ≡ k
start-here ds os k shown = start-first ds os k k (first-here ds os k shown)

-- without a last one that is shown there is no first one
none-last : (ds : List ℕ) (os : List Bool) (k : ℕ) → last_node ds os (length ds) ≡ None → k < length ds → shows_node ds os k ≡ false
unfolding last_node shown_nodes
none-last ds os k none lt = last-nothing (shows_node ds os) 0 (length ds - 0) none k (omega arith) (omega arith)

none-start : (ds : List ℕ) (os : List Bool) (first : Option ℕ) → first_node ds os 0 ≡ first → last_node ds os (length ds) ≡ None
    → row_start ds os 0 ≡ 0
none-start ds os None is none = start-last ds os 0 None is none
none-start ds os (Some k) is none =
    let passing = first-of-shown ds os 0 k is in
    let to = passing.to in
    absurd (false≢true (sym (none-last ds os k none (omega arith)) ∙ passing.passes))

-- where rows begin they begin again
start-last-twice : (ds : List ℕ) (os : List Bool) (was : ℕ) (last : Option ℕ) → first_node ds os was ≡ None
    → last_node ds os (length ds) ≡ last → row_start ds os (row_start ds os was) ≡ row_start ds os was
start-last-twice ds os was None none is =
    rw (start-last ds os was None none is) (none-start ds os (first_node ds os 0) refl is)
start-last-twice ds os was (Some k) none is =
    rw (start-last ds os was (Some k) none is) (start-here ds os k (last-of-shown ds os (length ds) k is))

start-by : (ds : List ℕ) (os : List Bool) (was : ℕ) (first : Option ℕ) → first_node ds os was ≡ first
    → row_start ds os (row_start ds os was) ≡ row_start ds os was
start-by ds os was None is = start-last-twice ds os was (last_node ds os (length ds)) is refl
start-by ds os was (Some k) is = rw (start-first ds os was k is) (start-here ds os k (first-of-shown ds os was k is).passes)

start-twice : (ds : List ℕ) (os : List Bool) (was : ℕ) → row_start ds os (row_start ds os was) ≡ row_start ds os was
start-twice ds os was = start-by ds os was (first_node ds os was) refl

scrolled-twice : (ds : List ℕ) (os : List Bool) (height start k : ℕ) → 0 < height → shows_node ds os k ≡ true
    → scrolled_to ds os height (row_start ds os (scrolled_to ds os height start k)) k ≡ scrolled_to ds os height start k
scrolled-twice ds os height start k some shown =
    let first = scrolled_to ds os height start k in
    let is = scrolled-shows ds os height start k some shown in
    let count = is.count in
    rw (start-here ds os first is.shown) (scroll-stays ds os height first k is.at_most is.shown (omega arith))

pub offset-twice : (ds : List ℕ) (os : List Bool) (height was : ℕ) (selected : Option ℕ) → 0 < height
    → offset_for ds os height (offset_for ds os height was selected) selected ≡ offset_for ds os height was selected
offset-twice ds os height was None some =
    rw (offset-none ds os height was) (offset-none ds os height (row_start ds os was) ∙ start-twice ds os was)
offset-twice ds os height was (Some k) some =
    ⊎_elim (λ (shown : shows_node ds os k ≡ true).
    let first = scrolled_to ds os height (row_start ds os was) k in
    rw (offset-shown ds os height was k shown)
    (offset-shown ds os height first k shown ∙ scrolled-twice ds os height (row_start ds os was) k some shown))
    (λ (hidden : shows_node ds os k ≡ false).
    rw (offset-hidden ds os height was k hidden)
    (offset-hidden ds os height (row_start ds os was) k hidden ∙ start-twice ds os was))
    (cases_Bool (shows_node ds os k))

pub next-twice : (t : Tree) (s : TreeState) (r : Rect) → 0 < r.height
    → next_tree_state t (next_tree_state t s r) r ≡ next_tree_state t s r
next-twice t s r some =
    ap (λ (n : ℕ). record s { offset = n }) (offset-twice (tree_depths t) (opened_of s) r.height s.offset s.selected some)

-- nothing is inside of nothing
pub bare-inside : (o : Option Block) (part : Rect) → IsBare part → IsBare (inner_if o part)
bare-inside None part bare = bare
bare-inside (Some b) part bare =
    ⊎_elim (λ (e : part.width ≡ 0). inl (omega arith)) (λ (e : part.height ≡ 0). inr (omega arith)) bare

module _ (t : Tree) (area : Rect) where
  abbrev inner : Rect
  inner = inner_if t.block area

  settled-bare : (s : TreeState) → IsBare inner → settled_tree t area s ≡ s
  settled-bare s bare =
      let test : ((inner.width == 0) || (inner.height == 0)) ≡ true =
      ⊎_elim (λ (e : inner.width ≡ 0). grind (arith, nat_tests)) (λ (e : inner.height ≡ 0). grind (arith, nat_tests)) bare in
      rw test refl

  settled-inside : (s : TreeState) → 0 < inner.width → 0 < inner.height → settled_tree t area s ≡ next_tree_state t s inner
  settled-inside s wide high =
      let test : ((inner.width == 0) || (inner.height == 0)) ≡ false = grind (arith, nat_tests) in rw test refl

  -- settling twice is settling once
  pub settled-twice : (s : TreeState) → settled_tree t area (settled_tree t area s) ≡ settled_tree t area s
  settled-twice s =
      bare-or inner (λ bare. settled-bare (settled_tree t area s) bare)
      (λ wide high.
      let once = settled-inside s wide high in
      ap (settled_tree t area) once ∙ settled-inside (next_tree_state t s inner) wide high ∙ next-twice t s inner high ∙ sym once)

module _ (t : Tree) (s s' : TreeState) (area : Rect) (old new : BufferData) (is : RendersTree t s s' area old new) where
  abbrev part : Rect
  part = intersected area old.area

  -- what a rendering leaves is settled
  pub rendering-settles : s' ≡ settled_tree t part s
  rendering-settles =
      bare-or (inner_if t.block part)
      (λ bare. bare-or part is.no_part (λ wide high. ((is.parts.part wide high).none bare).1) ∙ sym (settled-bare t part s bare))
      (λ wide high.
      bare-or part (λ none. absurd (off wide high (bare-inside t.block part none)))
      (λ w h. ((is.parts.part w h).inside wide high).state ∙ sym (settled-inside t part s wide high)))
    where
      off : 0 < (inner_if t.block part).width → 0 < (inner_if t.block part).height → IsBare (inner_if t.block part) → ⊥
      off wide high bare =
          ⊎_elim (λ (e : (inner_if t.block part).width ≡ 0). omega arith) (λ (e : (inner_if t.block part).height ≡ 0). omega arith) bare

  -- what is shown of a state is shown of the state that is left
  shows-settled : RendersTree t s' s' area old new
  shows-settled = record {
    within = is.within;
    no_part = λ _. refl;
    parts = record {
      nothing = is.parts.nothing;
      part = λ w h. let there = is.parts.part w h in record {
        framed = there.framed;
        frame = there.frame;
        none = λ bare. ((there.none bare).0, refl);
        inside = λ wide high.
            let r = inner_if t.block part in
            let shows = there.inside wide high in
            let again : next_tree_state t s' r ≡ s' =
            ap (λ u. next_tree_state t u r) shows.state ∙ next-twice t s r high ∙ sym shows.state in
            let offset = sym (offset-twice (tree_depths t) (opened_of s) r.height s.offset s.selected high) in
            let moved = subst (λ n. ShowsNodes t s n r there.framed new) offset shows.shown in
            record {
              state = sym again;
              shown = subst (λ (u : TreeState). ShowsNodes t u (next_tree_state t u r).offset r there.framed new) (sym shows.state)
                  (record { drawn = moved.drawn; nodes = moved.nodes; highlight = moved.highlight });
            };
      };
    };
  }

  pub settled-shows : let u = settled_tree t part s in RendersTree t u u area old new
  settled-shows = subst (λ (u : TreeState). RendersTree t u u area old new) rendering-settles shows-settled
