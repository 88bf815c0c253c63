-- The items of a tree.
use Rattle.std.specs.Prelude.{ℕ, List, [], map, slice_index_or}
use Rattle.ratatui_core.specs.Text.{line_of, raw_line}
use Rattle.widget_tree.specs.declared.item.TreeItem.{TreeItem}

-- how deep each of them is
abbrev pub depths_of : List TreeItem → List ℕ
depths_of items = map (λ item. item.depth) items

-- one of them
abbrev pub node_item : List TreeItem → ℕ → TreeItem
node_item items k = slice_index_or items k (record { depth = 0; line = line_of [] })

-- an item of a plain text
abbrev pub raw_node : ℕ → List ℕ → TreeItem
raw_node depth text = record { depth = depth; line = raw_line text }
