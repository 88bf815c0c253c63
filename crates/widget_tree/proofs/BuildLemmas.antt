-- How parents and ends are found from those that are known.
use Rattle.std.proofs.Common.{◌≡◌, ℕ, zero, suc, ◌-◌, ◌<◌, ◌≤◌, ⊎_elim, List, [], ◌∷◌, length, get_or}
use Rattle.std.proofs.Common.{refl, ap, arith}
use Rattle.std.proofs.lemmas.Bool.{cases_lt, cases_eq}
use Rattle.widget_tree.specs.declared.item.TreeItem.{TreeItem}
use Rattle.widget_tree.specs.Inner.{IsUp}
use Rattle.widget_tree.specs.Nodes.{depths_of}
use Rattle.widget_tree.proofs.AncestorLemmas.{depth_at}

-- the depth of an item that is read
pub depth-read : (items : List TreeItem) (k : ℕ) (d : TreeItem) → k < length items
    → (get_or items k d).depth ≡ depth_at (depths_of items) k
depth-read [] k d lt = absurd (omega arith)
depth-read (x ∷ xs) zero d lt = refl
depth-read (x ∷ xs) (suc k) d lt = depth-read xs k d (omega arith)

pub length-depths : (items : List TreeItem) → length (depths_of items) ≡ length items
length-depths [] = refl
length-depths (x ∷ xs) = ap suc (length-depths xs)

-- so far no node before one was its parent
pub record SoFarUp (ds : List ℕ) (k up : ℕ) : Type 0 where
  pub at_most : up ≤ k
  pub between : (j : ℕ) → up ≤ j → j < k → depth_at ds k ≤ depth_at ds j

pub up-next : {ds : List ℕ} {k up further : ℕ} → SoFarUp ds k up → 0 < up → IsUp ds (up - 1) further
    → depth_at ds k ≤ depth_at ds (up - 1) → SoFarUp ds k further
up-next {ds} {k} {up} {further} is some ups le =
    let most = is.at_most in let less = ups.at_most in
    record {
      at_most = omega arith;
      between = λ j from to.
          ⊎_elim (λ (before : j < up - 1). let deep = ups.between j from before in omega arith)
          (λ (after : up - 1 ≤ j).
          ⊎_elim (λ (same : up - 1 ≡ j). rw (← same) le)
          (λ (other : up - 1 ≡ j → ⊥). is.between j (omega arith) to)
          (cases_eq (up - 1) j))
          (cases_lt j (up - 1));
    }

-- so far each node after one was deeper
pub record SoFarEnd (ds : List ℕ) (k end : ℕ) : Type 0 where
  pub after : k < end
  pub at_most : end ≤ length ds
  pub between : (j : ℕ) → k < j → j < end → depth_at ds k < depth_at ds j
