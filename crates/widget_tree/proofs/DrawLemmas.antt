-- The parts of a row one after the other, and rows one below the other.
use Rattle.std.proofs.Common.{◌≡◌, ℕ, ◌+◌, ◌-◌, ◌<◌, ◌≤◌, Bool, true, List, [], Some, Result, Ok, Err, OnErr, sym, ap, subst, arith}
use Rattle.std.specs.Result.{IsErr}
use Rattle.std.specs.declared.alloc.AllocError.{AllocError}
use Rattle.ratatui_core.specs.{Layout.Rect, Style.new_style, Text.LineData, Buffer.BufferData, Buffer.text_pieces, Buffer.columns}
use Rattle.rtui_drawing.specs.{Cuts.cut_from, Drawings.Drawing, Drawings.IsDone, Drawings.DrawsAll, Drawings.IsRowIn}
use Rattle.rtui_drawing.specs.Drawings.{put_pieces, put_line, put_style, over, IsStopped}
use Rattle.rtui_inside.proofs.InsideLemmas.{filled-left}
use Rattle.widget_boxes.specs.Framed.{FramesInside}
use Rattle.rtui_drawing.specs.declared.cut.Cut.TheVariants.{After, Rows}
use Rattle.rtui_drawing.proofs.Laws.{Continues}
use Rattle.rtui_drawing.proofs.DrawingLemmas.{done-within, draws-within, done-then, draws-then, done-stop, done-in, continues-next, continues-stop, continues-end}
use Rattle.widget_tree.specs.declared.{item.TreeItem.TreeItem, state.TreeState.TreeState, tree.Tree.Tree}
use Rattle.widget_tree.specs.{Nodes.node_item, Moves.same_node}
use Rattle.widget_tree.specs.Trees.{node_label, each_in_row, left_drawing, line_row_drawing, node_drawing, node_symbol, indent_columns}
use Rattle.widget_tree.specs.Trees.{tree_drawing, LeavesTree}
use Rattle.widget_tree.specs.Inner.{IsNext}
use Rattle.widget_tree.specs.Depths.{shows_node}
use Rattle.widget_tree.proofs.RowLemmas.{rows_left, rows-here, rows-next}

-- and so are all but some of them
pub row-rest : (own row : Rect) (n : ℕ) → n ≤ row.width → IsRowIn own row → IsRowIn own (cut_from (After n) row)
row-rest own row n le is = let l = is.left in let r = is.right in let e = is.edge in record {
  there = is.there;
  left = omega arith;
  right = omega arith;
  edge = omega arith;
  down = is.down;
  high = is.high;
}

-- what is drawn keeps the buffer's rows
pub row-done : {A : Type 0} {d : Drawing} {r : Rect} {old new : BufferData} (row : Rect) (result : Result A AllocError)
    → IsDone d r result old new → IsRowIn old.area row → IsRowIn new.area row
row-done row result done is = subst (λ own. IsRowIn own row) (sym (done-within result done).same_area) is

pub row-drawn : (d : Drawing) (r row : Rect) (old new : BufferData) → DrawsAll d r old new → IsRowIn old.area row
    → IsRowIn new.area row
row-drawn d r row old new drawn is = subst (λ own. IsRowIn own row) (sym (draws-within d r old new drawn).same_area) is

-- a symbol, and then a line
pub label-then : {A B : Type 0} (symbol : List ℕ) (line : LineData) (row rest : Rect) {x : A} {old mid new : BufferData}
    (result : Result B AllocError) → IsDone (put_pieces (text_pieces row.width new_style symbol)) row (Ok x) old mid
    → rest ≡ cut_from (After (columns (text_pieces row.width new_style symbol))) row
    → IsDone (put_line line) rest result mid new → IsDone (node_label symbol line row.width) row result old new
label-then symbol line row rest result one at two =
    done-then result one (done-in (After (columns (text_pieces row.width new_style symbol))) rest result two at)

-- a row's parts
module _ (t : Tree) (line : LineData) (is_selected : Bool) (mark left : ℕ) (symbol : List ℕ) (row rest : Rect)
    (old laid marked : BufferData) (styled : DrawsAll (put_style line.style) row old laid)
    (at : rest ≡ cut_from (After left) row) where
  pub line-row : {A : Type 0} (result : Result A AllocError) → IsDone (left_drawing t is_selected mark left) row result laid marked
      → left ≤ row.width → IsRowIn old.area row → IsRowIn marked.area rest
  line-row result one le is =
      rw at (row-rest marked.area row left le (row-done row result one (row-drawn (put_style line.style) row row old laid styled is)))

  pub line-stop : {A B : Type 0} {e : AllocError} (result : Result B AllocError) → IsErr result
      → IsDone {A = A} (left_drawing t is_selected mark left) row (Err e) laid marked
      → IsDone (line_row_drawing t line is_selected mark left symbol row.width) row result old marked
  line-stop result err one = draws-then result styled (done-stop result err one)

  label-in : {B : Type 0} {new : BufferData} (result : Result B AllocError)
      → IsDone (node_label symbol line rest.width) rest result marked new
      → IsDone (over (After left) (node_label symbol line (row.width - left))) row result marked new
  label-in {new = new} result two =
      let width : rest.width ≡ row.width - left = ap (λ (r : Rect). r.width) at in
      done-in (After left) rest result (subst (λ n. IsDone (node_label symbol line n) rest result marked new) width two) at

  pub line-done : {A B : Type 0} {x : A} {new : BufferData} (result : Result B AllocError)
      → IsDone (left_drawing t is_selected mark left) row (Ok x) laid marked
      → IsDone (node_label symbol line rest.width) rest result marked new
      → IsDone (line_row_drawing t line is_selected mark left symbol row.width) row result old new
  line-done result one two = draws-then result styled (done-then result one (label-in result two))

-- a node's row
pub node-done : {A : Type 0} (t : Tree) (s : TreeState) (mark k : ℕ) (item : TreeItem) (is_selected : Bool) (left : ℕ)
    (symbol : List ℕ) (row : Rect) (result : Result A AllocError) (old new : BufferData)
    → item ≡ node_item t.nodes.items.items k → is_selected ≡ same_node s.selected (Some k)
    → left ≡ indent_columns item.depth mark row.width → symbol ≡ node_symbol t s k
    → IsDone (line_row_drawing t item.line is_selected mark left symbol row.width) row result old new
    → IsDone (node_drawing t s mark row.width k) row result old new
node-done t s mark k item is_selected left symbol row result old new e-item e-selected e-left e-symbol done =
    let n = row.width in
    let one = subst (λ x. IsDone (line_row_drawing t item.line is_selected mark left x n) row result old new) e-symbol done in
    let two = subst (λ x. IsDone (line_row_drawing t item.line is_selected mark x (node_symbol t s k) n) row result old new) e-left one in
    let three = subst (λ x. IsDone (line_row_drawing t item.line x mark (indent_columns item.depth mark n) (node_symbol t s k) n)
    row result old new) e-selected two in
    subst (λ (i : TreeItem). IsDone (line_row_drawing t i.line (same_node s.selected (Some k)) mark (indent_columns i.depth mark n)
    (node_symbol t s k) n) row result old new) e-item three

-- the same of a row of an area
pub node-in : {A : Type 0} (t : Tree) (s : TreeState) (mark' mark width k : ℕ) (row : Rect) (result : Result A AllocError)
    (old new : BufferData) → mark' ≡ mark → row.width ≡ width
    → IsDone (node_drawing t s mark' row.width k) row result old new
    → IsDone (node_drawing t s mark width k) row result old new
node-in t s mark' mark width k row result old new e-mark e-width done =
    subst (λ n. IsDone (node_drawing t s mark n k) row result old new) e-width
    (subst (λ m. IsDone (node_drawing t s m row.width k) row result old new) e-mark done)

-- rows one below the other: what is left after one more
module _ (ds : List ℕ) (os : List Bool) (f : ℕ → Drawing) (r : Rect) (all : Drawing) where
  pub rows-step : {A : Type 0} (y node next : ℕ) (row : Rect) {x : A} {old now mid : BufferData} → y < r.height
      → shows_node ds os node ≡ true → IsNext ds os (node + 1) next
      → Continues (each_in_row f y (rows_left ds os r.height y node)) r all r old now → row ≡ cut_from (Rows y 1) r
      → IsDone (f node) row (Ok x) now mid
      → Continues (each_in_row f (y + 1) (rows_left ds os r.height (y + 1) next)) r all r old mid
  rows-step y node next row {x = x} {old = old} {now = now} lt shown is rest at done =
      let split = rows-next ds os r.height y node next lt shown is in
      continues-next (subst (λ ks. Continues (each_in_row f y ks) r all r old now) split rest)
      (done-in (Rows y 1) row (Ok x) done at)

  pub rows-stop : {A B : Type 0} (y node : ℕ) (row : Rect) {e : AllocError} {old now new : BufferData}
      (result : Result B AllocError) → IsErr result → y < r.height → shows_node ds os node ≡ true
      → Continues (each_in_row f y (rows_left ds os r.height y node)) r all r old now → row ≡ cut_from (Rows y 1) r
      → IsDone {A = A} (f node) row (Err e) now new → IsDone all r result old new
  rows-stop y node row {e = e} {old = old} {now = now} result err lt shown rest at done =
      let split = rows-here ds os r.height y node lt shown in
      continues-stop result err (subst (λ ks. Continues (each_in_row f y ks) r all r old now) split rest)
      (done-in (Rows y 1) row (Err e) done at)

  pub rows-end : {A : Type 0} (y node : ℕ) {x : A} {old now : BufferData}
      → Continues (each_in_row f y (rows_left ds os r.height y node)) r all r old now
      → rows_left ds os r.height y node ≡ [] → IsDone all r (Ok x) old now
  rows-end y node {x = x} {old = old} {now = now} rest none =
      continues-end (subst (λ ks. Continues (each_in_row f y ks) r all r old now) none rest)

-- what a refusal leaves
pub tree-left : {A : Type 0} (t : Tree) (s s' : TreeState) (area inner : Rect) (old framed new : BufferData)
    → FramesInside t.style t.block area old framed inner → (result : Result A AllocError) → OnErr result (s' ≡ s)
    → OnErr result (IsStopped (tree_drawing t s inner) inner framed new) → OnErr result (LeavesTree t s s' area old new)
tree-left t s s' area inner old framed new is (Ok x) state stopped = tt
tree-left {A = A} t s s' area inner old framed new is (Err e) state stopped = record {
  state = state;
  drawn = filled-left {A = A} t.style t.block area inner old framed new is (tree_drawing t s) (Err e)
      (record { ok = tt; err = stopped });
}
