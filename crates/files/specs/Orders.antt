-- The orders of rows.
use Rattle.std.specs.Prelude.{Bool, true, false, string_bytes}
use Rattle.std.specs.declared.cmp.Ordering.{Ordering}
use Rattle.std.specs.Ordering.{nat_cmp, bool_cmp, on, then_cmp, flip_args}
use Rattle.std.specs.Option.{option_cmp}
use Rattle.std.specs.Cmp.Lexicographic.{slice_cmp}
use Rattle.files.specs.declared.list.Row.{Row}
use Rattle.files.specs.declared.order.Order.{Order}
use Rattle.files.specs.declared.order.SortBy.{SortBy}
use Rattle.files.specs.declared.order.SortBy.TheVariants.{Name, Size, Date}

-- by name: numbers as numbers, and then byte by byte
abbrev pub compare_names : Row → Row → Ordering
compare_names =
    then_cmp (on (λ row. row.key) (slice_cmp nat_cmp)) (on (λ row. string_bytes row.name) (slice_cmp nat_cmp))

-- rows that have no size, or no date, come first; what is alike goes by name
abbrev pub compare_by : SortBy → Row → Row → Ordering
compare_by Name = compare_names
compare_by Size = then_cmp (on (λ row. row.size) (option_cmp nat_cmp)) compare_names
compare_by Date = then_cmp (on (λ row. row.changed) (option_cmp nat_cmp)) compare_names

abbrev pub turned_if : Bool → (Row → Row → Ordering) → Row → Row → Ordering
turned_if false cmp = cmp
turned_if true cmp = flip_args cmp

-- folders first, either way
abbrev pub compare_rows : Order → Row → Row → Ordering
compare_rows order = then_cmp (on (λ row. row.is_leaf) bool_cmp) (turned_if order.is_reversed (compare_by order.by))
