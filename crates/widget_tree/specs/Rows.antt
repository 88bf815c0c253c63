-- Which of the nodes stand in the rows of an area.
use Rattle.std.specs.Prelude.{ℕ, ◌+◌, ◌-◌, Bool, if◌then◌else◌, List, Option, Some, None, min, take}
use Rattle.std.specs.Prelude.{length, slice_index, unwrap_or}
use Rattle.std.specs.Option.{option_or}
use Rattle.widget_tree.specs.Depths.{shows_node, shown_nodes, first_node, last_node}

-- where rows begin that began with a node: with the first one that is shown from it on, or else the last one
unfoldable pub row_start : List ℕ → List Bool → ℕ → ℕ
row_start ds os was = unwrap_or (option_or (first_node ds os was) (last_node ds os (length ds))) 0

-- the nodes that are shown from the first row on, or from a node that comes before it, up to that node
unfoldable pub rows_to : List ℕ → List Bool → ℕ → ℕ → List ℕ
rows_to ds os start k = shown_nodes ds os (min start k) (k + 1)

-- where the rows begin so that the node is in one of so many: with all these nodes, or with as many of the
-- last ones as there are rows
unfoldable pub scrolled_to : List ℕ → List Bool → ℕ → ℕ → ℕ → ℕ
scrolled_to ds os height start k =
    let rows = rows_to ds os start k in slice_index rows (length rows - height)

-- where the rows begin so that the selected node is in one of them, if it is shown
unfoldable pub offset_for : List ℕ → List Bool → ℕ → ℕ → Option ℕ → ℕ
offset_for ds os height was None = row_start ds os was
offset_for ds os height was (Some k) =
    let start = row_start ds os was in if shows_node ds os k then scrolled_to ds os height start k else start

-- the nodes that stand in so many rows: those that are shown, from one on
abbrev pub nodes_in_rows : List ℕ → List Bool → ℕ → ℕ → List ℕ
nodes_in_rows ds os first height = take height (shown_nodes ds os first (length ds))
