-- What a tree draws.
use Rattle.std.specs.Prelude.{◌≡◌, ℕ, ◌+◌, ◌-◌, ◌*◌, ◌==◌, ◌||◌, min, Bool, if◌then◌else◌, List, [], ◌∷◌, codes, encode_utf8_all}
use Rattle.std.specs.Prelude.{Option, Some, None, is_some, IfSome, All, ⊤, true, false}
use Rattle.std.specs.Option.{option_or}
use Rattle.ratatui_core.specs.{Layout.Rect, Style.new_style}
use Rattle.ratatui_core.specs.Text.{LineData, EachGrapheme, EachLineGrapheme, TakesOneColumn}
use Rattle.ratatui_core.specs.Buffer.{BufferData, Cell, with_symbol, text_pieces, columns, text_columns}
use Rattle.widget_boxes.specs.{Boxes.IsNarrowBox, Framed.inner_if, Framed.RendersStateInFrame}
use Rattle.widget_boxes.specs.{Highlights.IsHighlighted, Apart.IsShowable}
use Rattle.rtui_drawing.specs.Cuts.{cut_from}
use Rattle.rtui_drawing.specs.declared.cut.Cut.TheVariants.{First, After, Rows}
use Rattle.rtui_drawing.specs.Drawings.{Drawing, nothing, over, ◌before◌, draw_if, put_style, put_pieces, put_line, put_change}
use Rattle.rtui_drawing.specs.Drawings.{DrawsAll}
use Rattle.rtui_inside.specs.Inside.{LeavesInside, IsShortInside}
use Rattle.widget_tree.specs.declared.{item.TreeItem.TreeItem, state.TreeState.TreeState, tree.Tree.Tree}
use Rattle.widget_tree.specs.Depths.{has_children, is_opened}
use Rattle.widget_tree.specs.{Nodes.node_item, Moves.same_node, Rows.nodes_in_rows, Rows.offset_for}
use Rattle.widget_tree.specs.TreeStates.{tree_depths, opened_of}

-- a tree of items, without box, styles and highlight symbol
pub record IsNewTree (items : List TreeItem) (t : Tree) : Type 0 where
  pub items_are : t.nodes.items.items ≡ items
  pub no_box : t.block ≡ None
  pub unstyled : t.style ≡ new_style
  pub unstyled_highlight : t.highlight_style ≡ new_style
  pub no_symbol : t.highlight_symbol.now ≡ []
  pub open_symbol : t.node_open_symbol.now ≡ encode_utf8_all (codes "▼ ")
  pub closed_symbol : t.node_closed_symbol.now ≡ encode_utf8_all (codes "▶ ")
  pub no_children_symbol : t.node_no_children_symbol.now ≡ codes "  "

-- how many columns of so many stay free for the highlight symbol: those that it takes, if a node is selected
abbrev pub mark_columns : Tree → TreeState → ℕ → ℕ
mark_columns t s width = if is_some s.selected then min (text_columns t.highlight_symbol.now) width else 0

-- how many columns of so many are left of a node's symbol: those, and two for each level
abbrev pub indent_columns : ℕ → ℕ → ℕ → ℕ
indent_columns depth mark width = min (mark + 2 * depth) width

-- the symbol before a node
abbrev pub node_symbol : Tree → TreeState → ℕ → List ℕ
node_symbol t s k =
    if has_children (tree_depths t) k
    then (if is_opened (opened_of s) k then t.node_open_symbol.now else t.node_closed_symbol.now)
    else t.node_no_children_symbol.now

-- a cell with a blank, in the style that it has
abbrev pub blank_in_place : Cell → Cell
blank_in_place = with_symbol (codes " ")

-- the highlight symbol in the first columns of the selected node's row
abbrev pub mark_drawing : Tree → Bool → ℕ → Drawing
mark_drawing t is_selected mark =
    draw_if is_selected (over (First mark) (put_pieces (text_pieces mark new_style t.highlight_symbol.now)))

-- the first columns of a row are emptied, and over them comes the highlight symbol
abbrev pub left_drawing : Tree → Bool → ℕ → ℕ → Drawing
left_drawing t is_selected mark left =
    over (First left) (put_change (λ _. blank_in_place) (λ _ _. ⊤)) before mark_drawing t is_selected mark

-- a symbol at the left of so many columns, and a line after it
abbrev pub node_label : List ℕ → LineData → ℕ → Drawing
node_label symbol line room =
    let ps = text_pieces room new_style symbol in put_pieces ps before over (After (columns ps)) (put_line line)

-- A row of so many columns with a line: the line's style over all of it; at the left the highlight symbol or
-- blanks, and blanks further on; then a symbol and the line.
abbrev pub line_row_drawing : Tree → LineData → Bool → ℕ → ℕ → List ℕ → ℕ → Drawing
line_row_drawing t line is_selected mark left symbol width =
    put_style line.style before left_drawing t is_selected mark left
    before over (After left) (node_label symbol line (width - left))

-- a node in such a row: two columns for each level, its symbol and its line
abbrev pub node_drawing : Tree → TreeState → ℕ → ℕ → ℕ → Drawing
node_drawing t s mark width k =
    let item = node_item t.nodes.items.items k in
    line_row_drawing t item.line (same_node s.selected (Some k)) mark (indent_columns item.depth mark width)
    (node_symbol t s k) width

-- nodes in rows one below the other, from one row on
abbrev pub each_in_row : (ℕ → Drawing) → ℕ → List ℕ → Drawing
each_in_row f y [] = nothing
each_in_row f y (k ∷ ks) = over (Rows y 1) (f k) before each_in_row f (y + 1) ks

-- the nodes that are shown from one on, as far as an area has rows
abbrev pub node_rows_drawing : Tree → TreeState → ℕ → Rect → Drawing
node_rows_drawing t s first r =
    each_in_row (node_drawing t s (mark_columns t s r.width) r.width) 0
    (nodes_in_rows (tree_depths t) (opened_of s) first r.height)

-- the state after an area was drawn: the selected node is in a row, if it is shown
abbrev pub next_tree_state : Tree → TreeState → Rect → TreeState
next_tree_state t s r =
    record s { offset = offset_for (tree_depths t) (opened_of s) r.height s.offset s.selected }

-- the same over an area with the tree's box; without cells inside the box the state stays
abbrev pub settled_tree : Tree → Rect → TreeState → TreeState
settled_tree t area s =
    let r = inner_if t.block area in
    if (r.width == 0) || (r.height == 0) then s else next_tree_state t s r

-- the nodes that stand in the rows of an area
abbrev pub drawn_nodes : Tree → TreeState → Rect → List ℕ
drawn_nodes t s r = nodes_in_rows (tree_depths t) (opened_of s) (next_tree_state t s r).offset r.height

-- all that a tree draws in an area, but for the highlight
abbrev pub tree_drawing : Tree → TreeState → Rect → Drawing
tree_drawing t s r = node_rows_drawing t s (next_tree_state t s r).offset r

-- an area's row, if there is to be one
abbrev pub row_if : Bool → ℕ → Rect → Option Rect
row_if true y r = Some (cut_from (Rows y 1) r)
row_if false y r = None

-- the selected node's row, if it is one of these, which stand in an area's rows from one on
abbrev pub selected_row : Option ℕ → Rect → ℕ → List ℕ → Option Rect
selected_row selected r y [] = None
selected_row selected r y (k ∷ ks) =
    option_or (row_if (same_node selected (Some k)) y r) (selected_row selected r (y + 1) ks)

-- the selected node's row is highlighted, if it is shown: all but the columns that wide symbols cover
abbrev pub HighlightsRow : Tree → Option Rect → BufferData → BufferData → Type 0
HighlightsRow t None old new = new ≡ old
HighlightsRow t (Some row) old new = IsHighlighted row t.highlight_style old new

-- the nodes that are shown from one on, a row each, and the highlight over the selected one's
pub record ShowsNodes (t : Tree) (s : TreeState) (first : ℕ) (r : Rect) (old new : BufferData) : Type 0 where
  pub drawn : BufferData
  pub nodes : DrawsAll (node_rows_drawing t s first r) r old drawn
  pub highlight : let nodes = nodes_in_rows (tree_depths t) (opened_of s) first r.height in
      HighlightsRow t (selected_row s.selected r 0 nodes) drawn new

-- a tree over an area: its nodes, from the next state's first one on
pub record ShowsTree (t : Tree) (s s' : TreeState) (r : Rect) (old new : BufferData) : Type 0 where
  pub state : s' ≡ next_tree_state t s r
  pub shown : ShowsNodes t s (next_tree_state t s r).offset r old new

-- A tree in its style and its box, over the part of an area that a buffer has. Nothing outside the area changes.
abbrev pub RendersTree : Tree → TreeState → TreeState → Rect → BufferData → BufferData → Type 0
RendersTree t = RendersStateInFrame t.style t.block (ShowsTree t)

-- what a refusal leaves: if the box takes no memory, style and box stand, and all before one of the parts; the
-- state stays
pub record LeavesTree (t : Tree) (s s' : TreeState) (area : Rect) (old new : BufferData) : Type 0 where
  pub state : s' ≡ s
  pub drawn : LeavesInside t.style t.block (tree_drawing t s) area old new

-- it takes no memory if its box takes none and all that shows of it is short
abbrev pub IsShortTree : Tree → TreeState → Rect → BufferData → Type 0
IsShortTree t s = IsShortInside t.block (tree_drawing t s)

-- each grapheme of its box, its symbols and its lines takes one column
pub record IsNarrowTree (t : Tree) : Type 0 where
  pub box : IfSome t.block IsNarrowBox
  pub mark : EachGrapheme TakesOneColumn t.highlight_symbol.now
  pub open_symbol : EachGrapheme TakesOneColumn t.node_open_symbol.now
  pub closed_symbol : EachGrapheme TakesOneColumn t.node_closed_symbol.now
  pub no_children_symbol : EachGrapheme TakesOneColumn t.node_no_children_symbol.now
  pub lines : All (λ item. EachLineGrapheme TakesOneColumn item.line) t.nodes.items.items

-- a screen can show its lines, and it has no box or a narrow one; its symbols may be any
pub record IsShowableTree (t : Tree) : Type 0 where
  pub box : IfSome t.block IsNarrowBox
  pub lines : All (λ item. IsShowable item.line) t.nodes.items.items
