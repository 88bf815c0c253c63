-- Trees of narrow texts keep cells plain.
use Rattle.std.proofs.Common.{◌≡◌, ℕ, zero, suc, ◌+◌, ◌-◌, ◌<◌, ◌≤◌, min, length, Bool, true, false, if◌then◌else◌, List, [], ◌∷◌, All, arith}
use Rattle.std.proofs.Common.{Option, Some, None, codes, is_some}
use Rattle.std.proofs.lemmas.List.Elements.{All-head, All-tail, All-take, filter_passes}
use Rattle.std.specs.List.{filter, range_with_len}
use Rattle.ratatui_core.specs.{Layout.Rect, Layout.intersected, Style.new_style, Text.LineData}
use Rattle.ratatui_core.specs.Text.{EachGrapheme, EachLineGrapheme, TakesOneColumn}
use Rattle.ratatui_core.specs.Buffer.{BufferData, Cell, width_of, text_width, text_columns, text_pieces, IsPlain, IsPlainFrom}
use Rattle.ratatui_core.proofs.BufferLemmas.{width-empty, over-all, from-over}
use Rattle.widget_boxes.specs.Framed.{inner_if}
use Rattle.widget_boxes.proofs.{InnerLemmas.plain-inside, ApartLemmas.plain-lit}
use Rattle.rtui_drawing.specs.declared.cut.Cut.TheVariants.{First}
use Rattle.rtui_drawing.specs.Drawings.{Drawing, over, put_pieces}
use Rattle.rtui_drawing.proofs.{Laws.IsNarrowDrawing, NarrowLemmas.text-narrow, DrawingLemmas.if-narrow, DrawingLemmas.draws-plain}
use Rattle.rtui_inside.proofs.InsideLemmas.{inner-columns}
use Rattle.widget_tree.specs.declared.{item.TreeItem.TreeItem, state.TreeState.TreeState, tree.Tree.Tree}
use Rattle.widget_tree.specs.Depths.{has_children, is_opened, shows_node, shown_nodes}
use Rattle.widget_tree.specs.{Nodes.node_item, Moves.same_node, Rows.nodes_in_rows}
use Rattle.widget_tree.specs.TreeStates.{tree_depths, opened_of}
use Rattle.widget_tree.specs.Trees.{blank_in_place, mark_columns, indent_columns, node_symbol}
use Rattle.widget_tree.specs.Trees.{node_drawing, each_in_row, drawn_nodes, tree_drawing, next_tree_state, selected_row}
use Rattle.widget_tree.specs.Trees.{HighlightsRow, ShowsTree, IsNarrowTree, RendersTree}
use Rattle.widget_tree.proofs.{ShownLemmas.shown-from, BuildLemmas.length-depths}

blank-width : text_width (codes " ") ≡ 1
unfolding width_of
blank-width = width-empty

pub blank-plain : (c : Cell) → IsPlain c → IsPlain (blank_in_place c)
unfolding width_of
blank-plain c is =
    let e = is.unmarked.option in
    record {
      narrow = rw (e, blank-width) (omega arith);
      unmarked = record { option = is.unmarked.option; flag = is.unmarked.flag };
    }

abbrev IsNarrow : List ℕ → Type 0
IsNarrow text = EachGrapheme TakesOneColumn text

abbrev IsNarrowLine : LineData → Type 0
IsNarrowLine line = EachLineGrapheme TakesOneColumn line

choice-narrow : (b : Bool) (x y : List ℕ) → IsNarrow x → IsNarrow y → IsNarrow (if b then x else y)
choice-narrow true x y one two = one
choice-narrow false x y one two = two

-- an item's line
item-narrow : (items : List TreeItem) (k : ℕ) → k < length items → All (λ item. IsNarrowLine item.line) items
    → IsNarrowLine (node_item items k).line
item-narrow [] k lt all = absurd (omega arith)
item-narrow (item ∷ items) zero lt all = All-head (λ (i : TreeItem). IsNarrowLine i.line) item items all
item-narrow (item ∷ items) (suc k) lt all =
    item-narrow items k (omega arith) (All-tail (λ (i : TreeItem). IsNarrowLine i.line) item items all)

-- the columns of the highlight symbol are some of the area's
mark-small : (t : Tree) (s : TreeState) (width : ℕ) → width ≤ 65535 → mark_columns t s width ≤ 65535
mark-small t s width le = small (is_some s.selected)
  where
    small : (b : Bool) → (if b then min (text_columns t.highlight_symbol.now) width else 0) ≤ 65535
    small true = omega arith
    small false = omega arith

-- a node's row
node-narrow : (t : Tree) (s : TreeState) (mark width k : ℕ) → IsNarrowTree t → mark ≤ 65535 → width ≤ 65535
    → shows_node (tree_depths t) (opened_of s) k ≡ true → IsNarrowDrawing (node_drawing t s mark width k)
node-narrow t s mark width k narrow few le shown =
    let item = node_item t.nodes.items.items k in
    let is_selected = same_node s.selected (Some k) in
    let left = indent_columns item.depth mark width in
    let symbol = node_symbol t s k in
    let there = (shown-from {ds = tree_depths t} {os = opened_of s} {k = k} shown).there in
    let is_narrow : IsNarrow symbol =
    choice-narrow (has_children (tree_depths t) k) _ _
    (choice-narrow (is_opened (opened_of s) k) _ _ narrow.open_symbol narrow.closed_symbol) narrow.no_children_symbol in (
      tt,
      (
        (
          (λ p c plain. blank-plain c plain),
          if-narrow is_selected (over (First mark) (put_pieces (text_pieces mark new_style t.highlight_symbol.now)))
              (text-narrow mark new_style t.highlight_symbol.now few narrow.mark),
        ),
        (
          text-narrow (width - left) new_style symbol (omega arith) is_narrow,
          item-narrow t.nodes.items.items k (omega (arith, length-depths t.nodes.items.items)) narrow.lines,
        ),
      ),
    )

rows-narrow : (f : ℕ → Drawing) (P : ℕ → Type 0) → ((k : ℕ) → P k → IsNarrowDrawing (f k)) → (y : ℕ) (ks : List ℕ) → All P ks
    → IsNarrowDrawing (each_in_row f y ks)
rows-narrow f P each y [] all = tt
rows-narrow f P each y (k ∷ ks) all = (each k (All-head P k ks all), rows-narrow f P each (y + 1) ks (All-tail P k ks all))

pub all-shown : (ds : List ℕ) (os : List Bool) (first height : ℕ) → All (λ k. shows_node ds os k ≡ true) (nodes_in_rows ds os first height)
unfolding shown_nodes
all-shown ds os first height =
    All-take (λ k. shows_node ds os k ≡ true) height (filter (shows_node ds os) (range_with_len first (length ds - first)))
    (filter_passes (shows_node ds os) (range_with_len first (length ds - first)))

-- the highlight
highlight-plain : (t : Tree) (row : Option Rect) (old new : BufferData) → HighlightsRow t row old new → IsPlainFrom 0 old
    → IsPlainFrom 0 new
highlight-plain t None old new same plain = rw same plain
highlight-plain t (Some row) old new is plain =
    from-over old new is.area (plain-lit t.highlight_style row old new is old.area (over-all old plain))

pub tree-plain : (t : Tree) (s s' : TreeState) (area : Rect) (old new : BufferData) → IsNarrowTree t → IsPlainFrom 0 old
    → RendersTree t s s' area old new → IsPlainFrom 0 new
tree-plain t s s' area old new narrow plain =
    let r = inner_if t.block (intersected area old.area) in
    let le = inner-columns t.block area old.area in
    let ds = tree_depths t in let os = opened_of s in
    let drawing = rows-narrow (node_drawing t s (mark_columns t s r.width) r.width) (λ k. shows_node ds os k ≡ true)
    (λ k shown. node-narrow t s (mark_columns t s r.width) r.width k narrow (mark-small t s r.width le) le shown) 0
    (drawn_nodes t s r) (all-shown ds os (next_tree_state t s r).offset r.height) in
    plain-inside t.style t.block (ShowsTree t) s s' area old new narrow.box plain (λ framed cells shown.
    highlight-plain t (selected_row s.selected r 0 (drawn_nodes t s r)) shown.shown.drawn new shown.shown.highlight
    (draws-plain (tree_drawing t s r) r framed shown.shown.drawn drawing cells shown.shown.nodes))
