use Rattle.std.proofs.Common.{◌≡◌, ℕ, ◌<◌, Some, sym, subst, slice_get}
use Rattle.widget_tree.specs.Rows.{nodes_in_rows, offset_for}
use Rattle.widget_tree.specs.TreeStates.{tree_depths, opened_of}
use Rattle.widget_tree.proofs.RowLemmas.{selected-in-row}
use Rattle.widget_tree.proofs.laws.selected_nodes_stand_in_a_row.Goals as goal

pub returns : goal.returns
returns c = λ t s r k some is shown.
    let ds = tree_depths t in
    let os = opened_of s in
    subst (λ o. (y : ℕ) × (y < r.height)
    × (slice_get (nodes_in_rows ds os (offset_for ds os r.height s.offset o) r.height) y ≡ Some k)) (sym is)
    (selected-in-row ds os r.height s.offset k some shown)
