-- The nodes that stand in rows.
use Rattle.std.proofs.Common.{◌≡◌, ℕ, zero, suc, ◌+◌, ◌-◌, ◌<◌, ◌≤◌, Bool, true, List, [], ◌∷◌, Some, take}
use Rattle.std.proofs.Common.{slice_get, length, refl, sym, ap, ◌∙◌, arith, Option, None}
use Rattle.std.specs.Option.{option_or}
use Rattle.ratatui_core.specs.Layout.{Rect}
use Rattle.widget_tree.specs.{Moves.same_node, Trees.row_if, Trees.selected_row}
use Rattle.widget_tree.specs.Depths.{shows_node, shown_nodes}
use Rattle.widget_tree.specs.Inner.{IsNext}
use Rattle.widget_tree.specs.Rows.{nodes_in_rows, offset_for}
use Rattle.widget_tree.proofs.ShownLemmas.{shown-from, in-here, in-none}
use Rattle.widget_tree.proofs.ScrollLemmas.{next-in}
use Rattle.widget_tree.proofs.LawLemmas.{selected-row}

-- no rows are left
take-none : (n : ℕ) → let nodes : List ℕ = [] in take n nodes ≡ nodes
take-none zero = refl
take-none (suc n) = refl

-- the nodes in the rows that are left after so many
abbrev pub rows_left : List ℕ → List Bool → ℕ → ℕ → ℕ → List ℕ
rows_left ds os height y node = take (height - y) (shown_nodes ds os node (length ds))

pub rows-next : (ds : List ℕ) (os : List Bool) (height y node next : ℕ) → y < height → shows_node ds os node ≡ true
    → IsNext ds os (node + 1) next
    → rows_left ds os height y node ≡ node ∷ rows_left ds os height (y + 1) next
rows-next ds os height y node next lt shown is =
    let n : height - y ≡ suc (height - (y + 1)) = omega arith in
    ap (λ m. take m (shown_nodes ds os node (length ds))) n
    ∙ ap (λ xs. take (suc (height - (y + 1))) xs) (next-in node next (length ds) shown is is.at_most)

-- a node that is shown stands in the first one of them
pub rows-here : (ds : List ℕ) (os : List Bool) (height y node : ℕ) → y < height → shows_node ds os node ≡ true
    → rows_left ds os height y node ≡ node ∷ take (height - (y + 1)) (shown_nodes ds os (node + 1) (length ds))
rows-here ds os height y node lt shown =
    let there = (shown-from {ds = ds} {os = os} {k = node} shown).there in
    let n : height - y ≡ suc (height - (y + 1)) = omega arith in
    ap (λ m. take m (shown_nodes ds os node (length ds))) n
    ∙ ap (λ xs. take (suc (height - (y + 1))) xs) (in-here ds os node (length ds) there shown)

pub rows-past : (ds : List ℕ) (os : List Bool) (height y node : ℕ) → length ds ≤ node → rows_left ds os height y node ≡ []
rows-past ds os height y node past =
    ap (λ xs. take (height - y) xs) (in-none ds os node (length ds) past) ∙ take-none (height - y)

pub rows-all : (ds : List ℕ) (os : List Bool) (height y node : ℕ) → height ≤ y → rows_left ds os height y node ≡ []
rows-all ds os height y node end =
    let none : height - y ≡ 0 = omega arith in
    ap (λ n. take n (shown_nodes ds os node (length ds))) none

-- the selected node's row: it is the next one's, or one of those after it
module _ (selected : Option ℕ) (r : Rect) where
  pub selected-next : (was all : Option Rect) (y node : ℕ) (nodes more : List ℕ) → nodes ≡ node ∷ more
      → option_or was (selected_row selected r y nodes) ≡ all
      → option_or (option_or was (row_if (same_node selected (Some node)) y r)) (selected_row selected r (y + 1) more) ≡ all
  selected-next was all y node nodes more is so_far =
      or-assoc was _ _ ∙ ap (λ ks. option_or was (selected_row selected r y ks)) (sym is) ∙ so_far
    where
      or-assoc : (a b c : Option Rect) → option_or (option_or a b) c ≡ option_or a (option_or b c)
      or-assoc None b c = refl
      or-assoc (Some x) b c = refl

  pub selected-end : (was all : Option Rect) (y : ℕ) (nodes : List ℕ) → nodes ≡ []
      → option_or was (selected_row selected r y nodes) ≡ all → was ≡ all
  selected-end None all y nodes none is = sym (ap (selected_row selected r y) none) ∙ is
  selected-end (Some row) all y nodes none is = is

-- the selected node stands in one of them
get-take : {A : Type 0} (xs : List A) (n y : ℕ) → y < n → slice_get (take n xs) y ≡ slice_get xs y
get-take xs zero y lt = absurd (omega arith)
get-take [] (suc n) y lt = refl
get-take (x ∷ xs) (suc n) zero lt = refl
get-take (x ∷ xs) (suc n) (suc y) lt = get-take xs n y (omega arith)

pub selected-in-row : (ds : List ℕ) (os : List Bool) (height was k : ℕ) → 0 < height → shows_node ds os k ≡ true
    → (y : ℕ) × (y < height) × (slice_get (nodes_in_rows ds os (offset_for ds os height was (Some k)) height) y ≡ Some k)
selected-in-row ds os height was k some shown =
    let row = selected-row ds os height was k some shown in
    (row.0, row.1, get-take (shown_nodes ds os (offset_for ds os height was (Some k)) (length ds)) height row.0 row.1 ∙ row.2)
