-- The orders of rows are orders.
use Rattle.std.proofs.Common.{◌≡◌, ◌≤◌, ◌<◌, ℕ, List, length, Bool, true, false, string_bytes, Result, Ok, Err, OnOk, IsSorted, slice_index_or, refl}
use Rattle.std.specs.declared.cmp.Ordering.{Ordering}
use Rattle.std.specs.Ordering.{is_lt, bool_cmp, ordering_then}
use Rattle.std.proofs.lemmas.List.Sorted.{ranks_by, sorted_far}
use Rattle.std.specs.Cmp.{IsTotalOrder, bool_cmp_total}
use Rattle.std.specs.Cmp.Lexicographic.{options_total}
use Rattle.std.proofs.lemmas.Cmp.{nat_cmp_total, on_total, then_total, back_total, nat_list_cmp_total}
use Rattle.files.specs.declared.list.Row.{Row}
use Rattle.files.specs.declared.order.Order.{Order}
use Rattle.files.specs.declared.order.SortBy.{SortBy}
use Rattle.files.specs.declared.order.SortBy.TheVariants.{Name, Size, Date}
use Rattle.files.specs.Orders.{compare_names, compare_by, turned_if, compare_rows}

names-total : IsTotalOrder compare_names
names-total =
    then_total (on_total (λ (row : Row). row.key) nat_list_cmp_total)
    (on_total (λ (row : Row). string_bytes row.name) nat_list_cmp_total)

by-total : (by : SortBy) → IsTotalOrder (compare_by by)
by-total Name = names-total
by-total Size = then_total (on_total (λ (row : Row). row.size) (options_total nat_cmp_total)) names-total
by-total Date = then_total (on_total (λ (row : Row). row.changed) (options_total nat_cmp_total)) names-total

turned-total : (turned : Bool) (by : SortBy) → IsTotalOrder (turned_if turned (compare_by by))
turned-total false by = by-total by
turned-total true by = back_total (by-total by)

pub rows-total : (order : Order) → IsTotalOrder (compare_rows order)
rows-total order = then_total (on_total (λ (row : Row). row.is_leaf) bool_cmp_total) (turned-total order.is_reversed order.by)

-- a weaker fact of what was done
pub done-weaker : {A E : Type 0} (r : Result A E) {P Q : Type 0} → (P → Q) → OnOk r P → OnOk r Q
done-weaker (Ok v) f p = f p
done-weaker (Err e) f p = tt

-- a row isn't before any that stands above it
pub rows-far : (order : Order) (rows : List Row) (i j : ℕ) (other : Row) → IsSorted (compare_rows order) rows → i ≤ j → j < length rows
    → is_lt (compare_rows order (slice_index_or rows j other) (slice_index_or rows i other)) ≡ false
rows-far order rows i j other sorted le within =
    sorted_far (λ x y. is_lt (compare_rows order x y)) (ranks_by (rows-total order) (λ (row : Row). row)) rows sorted i j other le within

leaf-by : (one two : Bool) (rest : Ordering) → is_lt (ordering_then (bool_cmp two one) rest) ≡ false → one ≡ true → two ≡ true
leaf-by true true rest not is = refl
leaf-by true false rest not is = absurd (cc)
leaf-by false two rest not is = absurd (cc)

pub folders-first : (order : Order) (rows : List Row) (i j : ℕ) (other : Row) → IsSorted (compare_rows order) rows → i ≤ j
    → j < length rows → (slice_index_or rows i other).is_leaf ≡ true → (slice_index_or rows j other).is_leaf ≡ true
folders-first order rows i j other sorted le within is =
    let one = slice_index_or rows i other in let two = slice_index_or rows j other in
    leaf-by one.is_leaf two.is_leaf (turned_if order.is_reversed (compare_by order.by) two one)
    (rows-far order rows i j other sorted le within) is
