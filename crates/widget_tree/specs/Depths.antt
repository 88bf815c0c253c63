-- The nodes of a tree stand one below the other, and each has a depth. A node's descendants are the nodes
-- after it that are deeper than it, up to the first one that isn't.
use Rattle.std.specs.Prelude.{ℕ, ◌+◌, ◌-◌, Bool, false, ◌&&◌, List, Option, None, nat_lt, length}
use Rattle.std.specs.Prelude.{slice_get, slice_index, slice_index_or}
use Rattle.std.specs.List.{filter, list_all, range_with_len, last_or}

-- a node is an ancestor of a later one: all nodes after it, up to that one, are deeper than it
unfoldable pub is_ancestor : List ℕ → ℕ → ℕ → Bool
is_ancestor ds a k = nat_lt a k
    && list_all (λ j. nat_lt (slice_index ds a) (slice_index ds j)) (range_with_len (a + 1) (k - a))

-- the ancestors of a node, from the outermost one on
unfoldable pub ancestors : List ℕ → ℕ → List ℕ
ancestors ds k = filter (λ a. is_ancestor ds a k) (range_with_len 0 k)

-- its parent: the last of them
unfoldable pub parent_of : List ℕ → ℕ → Option ℕ
parent_of ds k = last_or None (ancestors ds k)

-- whether a node has children: the next one is deeper
unfoldable pub has_children : List ℕ → ℕ → Bool
has_children ds k = nat_lt (slice_index ds k) (slice_index ds (k + 1))

-- whether a node is opened: what isn't told of is closed
unfoldable pub is_opened : List Bool → ℕ → Bool
is_opened os k = slice_index_or os k false

-- whether a node is shown: all its ancestors are opened
unfoldable pub shows_node : List ℕ → List Bool → ℕ → Bool
shows_node ds os k = nat_lt k (length ds) && list_all (is_opened os) (ancestors ds k)

-- the nodes that are shown, from one on up to another one, in order
unfoldable pub shown_nodes : List ℕ → List Bool → ℕ → ℕ → List ℕ
shown_nodes ds os from to = filter (shows_node ds os) (range_with_len from (to - from))

-- the first node that is shown, from one on
unfoldable pub first_node : List ℕ → List Bool → ℕ → Option ℕ
first_node ds os from = slice_get (shown_nodes ds os from (length ds)) 0

-- the last node that is shown before one
unfoldable pub last_node : List ℕ → List Bool → ℕ → Option ℕ
last_node ds os to = last_or None (shown_nodes ds os 0 to)
