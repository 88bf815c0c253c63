-- What a tree keeps from one rendering to the next: the first row, the selected node and the opened nodes.
use Rattle.std.specs.Prelude.{◌≡◌, ℕ, Bool, false, ◌&&◌, ◌||◌, not, MatchBool, List, [], Option, Some, None}
use Rattle.widget_tree.specs.declared.state.TreeState.{TreeState}
use Rattle.widget_tree.specs.declared.tree.Tree.{Tree}
use Rattle.widget_tree.specs.Depths.{parent_of, has_children, is_opened}
use Rattle.widget_tree.specs.{Nodes.depths_of, Moves.MarksOnly}

-- how deep each node of a tree is
abbrev pub tree_depths : Tree → List ℕ
tree_depths t = depths_of t.nodes.items.items

-- the nodes that a state opens
abbrev pub opened_of : TreeState → List Bool
opened_of s = s.opened.items

-- a state in which nothing is selected or opened
pub record IsNewTreeState (s : TreeState) : Type 0 where
  pub offset : s.offset ≡ 0
  pub selected : s.selected ≡ None
  pub opened : opened_of s ≡ []

-- all of a state is as before, but for whether that node is opened
pub record OpensOnly (s s' : TreeState) (k : ℕ) (is : Bool) : Type 0 where
  pub offset : s'.offset ≡ s.offset
  pub selected : s'.selected ≡ s.selected
  pub opened : MarksOnly (opened_of s) (opened_of s') k is

-- all of it is as before
pub record SameTreeState (s s' : TreeState) : Type 0 where
  pub offset : s'.offset ≡ s.offset
  pub selected : s'.selected ≡ s.selected
  pub opened : opened_of s' ≡ opened_of s

-- A step to the left closes the selected node if it is opened, and else selects its parent, if it has one.
abbrev pub GoesLeft : List ℕ → TreeState → TreeState → Option ℕ → Type 0
GoesLeft ds s s' None = SameTreeState s s'
GoesLeft ds s s' (Some k) = MatchBool (is_opened (opened_of s) k) (OpensOnly s s' k false)
    (s' ≡ record s { selected = parent_of ds k })

-- whether a node can be opened: it has children and is closed
abbrev pub can_open : List ℕ → List Bool → Option ℕ → Bool
can_open ds os None = false
can_open ds os (Some k) = has_children ds k && not (is_opened os k)

-- a node is opened, if there is one and it has children
abbrev pub OpensNode : List ℕ → TreeState → TreeState → Option ℕ → Type 0
OpensNode ds s s' None = SameTreeState s s'
OpensNode ds s s' (Some k) = OpensOnly s s' k (is_opened (opened_of s) k || has_children ds k)

-- whether a node can be opened or closed
abbrev pub can_toggle : List ℕ → List Bool → Option ℕ → Bool
can_toggle ds os None = false
can_toggle ds os (Some k) = is_opened os k || has_children ds k

-- a node is closed if it is opened, and else opened, if there is one and it has children
abbrev pub TogglesNode : List ℕ → TreeState → TreeState → Option ℕ → Type 0
TogglesNode ds s s' None = SameTreeState s s'
TogglesNode ds s s' (Some k) = OpensOnly s s' k (not (is_opened (opened_of s) k) && has_children ds k)
