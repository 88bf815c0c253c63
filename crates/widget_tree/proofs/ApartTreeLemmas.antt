-- A tree on an area that is ready leaves it apart, with wide graphemes, too.
use Rattle.std.proofs.Common.{◌≡◌, ℕ, zero, suc, ◌+◌, ◌<◌, ◌≤◌, ⊎_elim, min, Bool, true, false, if◌then◌else◌}
use Rattle.std.proofs.Common.{List, [], ◌∷◌, All, Option, Some, None, IfSome, is_some, length, refl, sym, ◌∙◌, arith}
use Rattle.std.specs.Option.{option_or}
use Rattle.std.proofs.lemmas.List.{length-take}
use Rattle.std.proofs.lemmas.List.Elements.{All-head, All-tail}
use Rattle.ratatui_core.specs.Layout.{Rect, Position, HasPosition, IsInside, EdgesFit, intersected}
use Rattle.ratatui_core.specs.{Widgets.ChangesWithin, Buffer.BufferData, Buffer.text_columns}
use Rattle.ratatui_core.proofs.BufferLemmas.{within-same, within-wider}
use Rattle.ratatui_core.proofs.WidgetLemmas.{within-then}
use Rattle.widget_boxes.specs.declared.block.Block.{Block}
use Rattle.widget_boxes.specs.{Framed.inner_if, Framed.IsBare, Framed.IsInner, Boxes.IsBoxArea}
use Rattle.widget_boxes.specs.Apart.{StandsApart, IsReadyIn, IsShowable}
use Rattle.widget_boxes.proofs.{BoxLemmas.box-area, InnerLemmas.bare-or, InnerLemmas.clipped, FrameLemmas.inner-in}
use Rattle.widget_boxes.proofs.ApartLemmas.{ready-apart, ready-stays, ready-inside, ready-beside, apart-around, lit-apart, lit-within}
use Rattle.widget_boxes.proofs.ApartBoxLemmas.{frame-apart}
use Rattle.rtui_drawing.specs.{Cuts.cut_from, Drawings.Drawing, Drawings.DrawsAll}
use Rattle.rtui_drawing.specs.declared.cut.Cut.TheVariants.{Rows, Below}
use Rattle.rtui_drawing.proofs.DrawingLemmas.{cut-inside, draws-within}
use Rattle.rtui_inside.proofs.InsideLemmas.{row-inside}
use Rattle.widget_tree.specs.declared.{item.TreeItem.TreeItem, state.TreeState.TreeState, tree.Tree.Tree}
use Rattle.widget_tree.specs.{Depths.shows_node, Depths.shown_nodes, Rows.nodes_in_rows, Nodes.node_item, Moves.same_node}
use Rattle.widget_tree.specs.TreeStates.{tree_depths, opened_of}
use Rattle.widget_tree.specs.Trees.{each_in_row, node_drawing, node_symbol, mark_columns, indent_columns, next_tree_state}
use Rattle.widget_tree.specs.Trees.{row_if, selected_row, node_rows_drawing, HighlightsRow, ShowsNodes, ShowsTree, RendersTree, IsShowableTree, drawn_nodes}
use Rattle.widget_tree.proofs.{ApartRowLemmas.row-stands, NarrowTreeLemmas.all-shown, SettledTreeLemmas.bare-inside}
use Rattle.widget_tree.proofs.{ShownLemmas.shown-from, BuildLemmas.length-depths}

-- ---- the highlight

-- a row of an area that stands apart does so
row-apart : (r : Rect) (y : ℕ) (s : BufferData) → StandsApart r s → StandsApart (cut_from (Rows y 1) r) s
row-apart r y s is = record {
  edges = is.edges;
  settled = is.settled;
  unreached = λ p k has there before plain.
      is.unreached p k has (cut-inside (Rows y 1) r (record { x = k; y = p.y }) there) before plain;
  enclosed = λ p has here plain. is.enclosed p has (cut-inside (Rows y 1) r p here) plain;
}

-- the selected row is one of the area's
record IsRowOf (r row : Rect) : Type 0 where
  number : ℕ
  is : row ≡ cut_from (Rows number 1) r

selected-is : (selected : Option ℕ) (r : Rect) (y : ℕ) (ks : List ℕ) → IfSome (selected_row selected r y ks) (IsRowOf r)
selected-is selected r y [] = tt
selected-is selected r y (k ∷ ks) = either (same_node selected (Some k)) (selected-is selected r (y + 1) ks)
  where
    either : (t : Bool) → IfSome (selected_row selected r (y + 1) ks) (IsRowOf r)
        → IfSome (option_or (row_if t y r) (selected_row selected r (y + 1) ks)) (IsRowOf r)
    either true rest = record { number = y; is = refl }
    either false rest = rest

module _ (t : Tree) (r : Rect) where
  highlight-within : (row : Option Rect) (old new : BufferData) → IfSome row (IsRowOf r) → HighlightsRow t row old new
      → ChangesWithin r old new
  highlight-within None old new is same = rw same (within-same r old)
  highlight-within (Some row) old new is lit =
      let inside : IsInside row r = rw is.is (cut-inside (Rows is.number 1) r) in
      within-wider row r old new inside (lit-within t.highlight_style row old new lit)

  highlight-stands : (row : Option Rect) (old new : BufferData) → IfSome row (IsRowOf r) → HighlightsRow t row old new
      → StandsApart r old → StandsApart r new
  highlight-stands None old new is same was = rw same was
  highlight-stands (Some row) old new is lit was =
      let inside : IsInside row r = rw is.is (cut-inside (Rows is.number 1) r) in
      let there : StandsApart row old = rw is.is (row-apart r is.number old was) in
      apart-around r row old new inside was (lit-within t.highlight_style row old new lit)
      (lit-apart t.highlight_style row old new lit there)

-- what is drawn of nodes changes nothing outside the area
pub nodes-within : (t : Tree) (s : TreeState) (first : ℕ) (r : Rect) (old new : BufferData) → ShowsNodes t s first r old new
    → ChangesWithin r old new
nodes-within t s first r old new is =
    let nodes = nodes_in_rows (tree_depths t) (opened_of s) first r.height in
    within-then r old is.drawn new (draws-within (node_rows_drawing t s first r) r old is.drawn is.nodes)
    (highlight-within t r (selected_row s.selected r 0 nodes) is.drawn new (selected-is s.selected r 0 nodes) is.highlight)

-- ---- the nodes

row-below : (y : ℕ) (r : Rect) → IsInside (cut_from (Rows y 1) r) (cut_from (Below y) r)
row-below y r p h = let l = h.left in let e = h.right in let t = h.top in let b = h.bottom in
    record { left = l; right = e; top = omega arith; bottom = omega arith }

next-below : (y : ℕ) (r : Rect) → IsInside (cut_from (Below (y + 1)) r) (cut_from (Below y) r)
next-below y r p h = let l = h.left in let e = h.right in let t = h.top in let b = h.bottom in
    record { left = l; right = e; top = omega arith; bottom = omega arith }

below-apart : (y : ℕ) (r : Rect) (p : Position) → HasPosition (cut_from (Below (y + 1)) r) p
    → HasPosition (cut_from (Rows y 1) r) p → ⊥
below-apart y r p a b = let t = a.top in let e = b.bottom in let o = a.bottom in omega arith

module _ (f : ℕ → Drawing) (P : ℕ → Type 0) (r own : Rect)
    (each : (y k : ℕ) (old new : BufferData) → y < r.height → P k → old.area ≡ own → IsReadyIn (cut_from (Rows y 1) r) old
    → DrawsAll (f k) (cut_from (Rows y 1) r) old new → StandsApart (cut_from (Rows y 1) r) new) where
  rows-stand : (y : ℕ) (ks : List ℕ) (old new : BufferData) → y + length ks ≤ r.height → All P ks → old.area ≡ own
      → StandsApart r old → IsReadyIn (cut_from (Below y) r) old → DrawsAll (each_in_row f y ks) r old new → StandsApart r new
  rows-stand y [] old new fits all same was free same_buffer = rw same_buffer was
  rows-stand y (k ∷ ks) old new fits all same was free is =
      let row = cut_from (Rows y 1) r in
      let within = draws-within (f k) row old is.0 is.1 in
      let here = each y k old is.0 (omega arith) (All-head P k ks all) same
      (ready-inside (cut_from (Below y) r) row old (row-below y r) free) is.1 in
      rows-stand (y + 1) ks is.0 new (omega arith) (All-tail P k ks all) (within.same_area ∙ same)
      (apart-around r row old is.0 (cut-inside (Rows y 1) r) was within here)
      (ready-beside (cut_from (Below y) r) row (cut_from (Below (y + 1)) r) old is.0 free within here (row-below y r) (next-below y r)
      (below-apart y r)) is.2

-- an item's line
item-shows : (items : List TreeItem) (k : ℕ) → k < length items → All (λ item. IsShowable item.line) items
    → IsShowable (node_item items k).line
item-shows [] k lt all = absurd (omega arith)
item-shows (item ∷ items) zero lt all = All-head (λ (i : TreeItem). IsShowable i.line) item items all
item-shows (item ∷ items) (suc k) lt all = item-shows items k (omega arith) (All-tail (λ (i : TreeItem). IsShowable i.line) item items all)

-- the symbol has some of the columns
mark-few : (t : Tree) (s : TreeState) (width : ℕ) → mark_columns t s width ≤ width
mark-few t s width = few (is_some s.selected)
  where
    few : (b : Bool) → (if b then min (text_columns t.highlight_symbol.now) width else 0) ≤ width
    few true = omega arith
    few false = omega arith

module _ (t : Tree) (s s' : TreeState) (r : Rect) (old new : BufferData) (shows : IsShowableTree t) (box : IsBoxArea r)
    (inside : IsInside r old.area) where
  abbrev mark : ℕ
  mark = mark_columns t s r.width

  node-stands : (y k : ℕ) (from to : BufferData) → y < r.height → shows_node (tree_depths t) (opened_of s) k ≡ true
      → from.area ≡ old.area → IsReadyIn (cut_from (Rows y 1) r) from
      → DrawsAll (node_drawing t s mark r.width k) (cut_from (Rows y 1) r) from to → StandsApart (cut_from (Rows y 1) r) to
  node-stands y k from to lt shown same ready is =
      let item = node_item t.nodes.items.items k in
      let row = cut_from (Rows y 1) r in
      let there = (shown-from {ds = tree_depths t} {os = opened_of s} {k = k} shown).there in
      let few = mark-few t s r.width in
      row-stands t item.line (item-shows t.nodes.items.items k (omega (arith, length-depths t.nodes.items.items)) shows.lines) mark
      (indent_columns item.depth mark r.width) row (omega arith) (omega arith) (omega arith) (same_node s.selected (Some k))
      (node_symbol t s k) from to (row-inside from.area r row y box (rw same inside) lt refl) ready is

  nodes-fit : length (drawn_nodes t s r) ≤ r.height
  nodes-fit = let ds = tree_depths t in
      let count = length-take r.height (shown_nodes ds (opened_of s) (next_tree_state t s r).offset (length ds)) in omega (arith, count)

  pub tree-stands : IsReadyIn r old → ShowsTree t s s' r old new → StandsApart r new
  tree-stands ready is =
      let nodes = drawn_nodes t s r in
      let fit = nodes-fit in
      let shown = is.shown in
      let drawn = rows-stand (node_drawing t s mark r.width) (λ k. shows_node (tree_depths t) (opened_of s) k ≡ true) r old.area
      node-stands 0 nodes old shown.drawn (omega arith)
      (all-shown (tree_depths t) (opened_of s) (next_tree_state t s r).offset r.height) refl (ready-apart r old ready)
      (ready-inside r (cut_from (Below 0) r) old (cut-inside (Below 0) r) ready) shown.nodes in
      highlight-stands t r (selected_row s.selected r 0 nodes) shown.drawn new (selected-is s.selected r 0 nodes) shown.highlight drawn

-- ---- the tree

-- an area without cells
bare-stands : (r : Rect) (old new : BufferData) → IsBare r → IsReadyIn r old → ChangesWithin r old new → StandsApart r new
bare-stands r old new bare ready within =
    ready-apart r new (ready-stays r old new ready within (λ p has here.
    let l = here.left in let e = here.right in let t = here.top in let b = here.bottom in
    ⊎_elim (λ (none : r.width ≡ 0). absurd (omega arith)) (λ (none : r.height ≡ 0). absurd (omega arith)) bare))

-- what is inside has cells if the box does
inner-of-part : (o : Option Block) (area own : Rect) → EdgesFit own → 0 < (inner_if o (intersected area own)).width
    → 0 < (inner_if o (intersected area own)).height → IsInner o (intersected area own) (inner_if o (intersected area own))
inner-of-part o area own edges w h =
    let part = intersected area own in
    bare-or part
    (λ bare. ⊎_elim (λ (e : (inner_if o part).width ≡ 0). absurd (omega arith))
    (λ (e : (inner_if o part).height ≡ 0). absurd (omega arith)) (bare-inside o part bare))
    (λ wide high. inner-in o part (box-area area own part (clipped area own edges wide high)) w h)

pub tree-apart : (t : Tree) (s s' : TreeState) (area : Rect) (old new : BufferData) → IsShowableTree t → IsReadyIn area old
    → RendersTree t s s' area old new → StandsApart area new
tree-apart t s s' area old new shows ready is =
    let part = intersected area old.area in
    let r = inner_if t.block part in
    frame-apart t.style t.block (ShowsTree t) s s' area old new shows.box ready (λ framed inside shown.
    let within = nodes-within t s (next_tree_state t s r).offset r framed new shown.shown in (
      within,
      bare-or r (λ bare. bare-stands r framed new bare inside within) (λ wide high.
          let inner = inner-of-part t.block area old.area ready.edges wide high in
          let same : framed.area ≡ old.area = sym within.same_area ∙ is.within.same_area in
          let own : IsInside r framed.area = λ p here.
          let in_part = inner.inside p here in
          let l = in_part.left in let e = in_part.right in let t = in_part.top in let b = in_part.bottom in
          rw same (record { left = omega arith; right = omega arith; top = omega arith; bottom = omega arith }) in
          tree-stands t s s' r framed new shows inner.some own inside shown),
    )) is
