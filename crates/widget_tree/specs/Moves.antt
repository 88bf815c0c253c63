-- From a node to another one, and which are opened.
use Rattle.std.specs.Prelude.{◌≡◌, ℕ, ◌+◌, ◌==◌, Bool, true, false, if◌then◌else◌, List, Option, Some, None, length}
use Rattle.std.specs.Option.{option_or}
use Rattle.widget_tree.specs.Depths.{is_opened, first_node, last_node}

-- two nodes, or none, are the same
abbrev pub same_node : Option ℕ → Option ℕ → Bool
same_node None None = true
same_node None (Some k) = false
same_node (Some j) None = false
same_node (Some j) (Some k) = j == k

-- of the opened nodes one alone may have changed: now it is opened, or not
abbrev pub MarksOnly : List Bool → List Bool → ℕ → Bool → Type 0
MarksOnly os os' k is = (j : ℕ) → is_opened os' j ≡ (if j == k then is else is_opened os j)

-- the node after another one: the next one that is shown, or the last one; the first one if there is none
abbrev pub node_below : List ℕ → List Bool → Option ℕ → Option ℕ
node_below ds os None = first_node ds os 0
node_below ds os (Some k) = option_or (first_node ds os (k + 1)) (last_node ds os (length ds))

-- the node before another one: the last one that is shown before it, or the first one; the last one if there is
-- none
abbrev pub node_above : List ℕ → List Bool → Option ℕ → Option ℕ
node_above ds os None = last_node ds os (length ds)
node_above ds os (Some k) = option_or (last_node ds os k) (first_node ds os 0)
