-- What the nodes of a tree keep of each node, so that it is found without looking at those between.
use Rattle.std.specs.Prelude.{◌≡◌, ℕ, ◌+◌, ◌<◌, ◌≤◌, ◌⊎◌, Bool, true, false, List, length, slice_index}
use Rattle.widget_tree.specs.Depths.{is_ancestor, is_opened, shows_node}

-- how many nodes there are up to the parent of one; none if it has no parent
pub record IsUp (ds : List ℕ) (k up : ℕ) : Type 0 where
  pub at_most : up ≤ k
  pub between : (j : ℕ) → up ≤ j → j < k → slice_index ds k ≤ slice_index ds j
  pub parent : (p : ℕ) → p + 1 ≡ up → slice_index ds p < slice_index ds k

-- the first node after one that isn't deeper
pub record IsSubtreeEnd (ds : List ℕ) (k end : ℕ) : Type 0 where
  pub after : k < end
  pub at_most : end ≤ length ds
  pub between : (j : ℕ) → k < j → j < end → slice_index ds k < slice_index ds j
  pub ends : end < length ds → slice_index ds end ≤ slice_index ds k

-- both of each node up to one, or from one on
pub record HasUps (ds ups : List ℕ) (n : ℕ) : Type 0 where
  pub count : length ups ≡ n
  pub each : (k : ℕ) → k < n → IsUp ds k (slice_index ups k)

pub record HasEnds (ds ends : List ℕ) (from : ℕ) : Type 0 where
  pub count : length ends ≡ length ds
  pub each : (k : ℕ) → from ≤ k → k < length ds → IsSubtreeEnd ds k (slice_index ends k)

-- the node that is shown for another one: itself, or the outermost of its closed ancestors
pub record ShowsFor (ds : List ℕ) (os : List Bool) (k stands : ℕ) : Type 0 where
  pub shown : shows_node ds os stands ≡ true
  pub is : (stands ≡ k) ⊎ ((is_ancestor ds stands k ≡ true) × (is_opened os stands ≡ false))

-- the first node that is shown from one on, or how many nodes there are if there is none
pub record IsNext (ds : List ℕ) (os : List Bool) (from next : ℕ) : Type 0 where
  pub at_least : from ≤ next
  pub at_most : next ≤ length ds
  pub hidden : (j : ℕ) → from ≤ j → j < next → shows_node ds os j ≡ false
  pub shown : next < length ds → shows_node ds os next ≡ true
