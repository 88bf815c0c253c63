-- How many rows items take, and which of them fit.
use Rattle.std.proofs.Common.{◌≡◌, ℕ, ◌+◌, ◌-◌, ◌<◌, ◌≤◌, ⊎_elim, min, List, length, take, sum_by, refl, sym, ap, subst, ◌∙◌}
use Rattle.std.proofs.Common.{arith}
use Rattle.std.proofs.Math.ListN.{get_or}
use Rattle.std.proofs.lemmas.{Bool.cases_lt, List.take-take, List.Sums.sum_by_more, List.Sums.sum_by-take-le}
use Rattle.widget_list.specs.declared.item.ListItem.{ListItem}
use Rattle.widget_list.specs.Windows.{item_rows, rows_before, Fit, IsFirst, IsPadding, IsScrolled, first_kept, last_kept}

-- the rows before a later item are at least those before an earlier one
pub rows-grow : (items : List ListItem) (n m : ℕ) → n ≤ m → rows_before items n ≤ rows_before items m
rows-grow items n m le =
    let h = sum_by-take-le item_rows (take m items) n in
    subst (λ xs. sum_by item_rows xs ≤ rows_before items m) (take-take n m items le) h

-- one item more
pub rows-next : (items : List ListItem) (k : ℕ) (item : ListItem) → k < length items → item ≡ get_or items k item
    → rows_before items (k + 1) ≡ rows_before items k + item_rows item
rows-next items k item lt is = sum_by_more item_rows items k item lt ∙ ap (λ i. rows_before items k + item_rows i) (sym is)

-- the last item alone takes more rows than there are
pub first-alone : (items : List ListItem) (height least last rows : ℕ) → least ≤ last
    → rows_before items (last + 1) ≡ rows_before items last + rows → height < rows → IsFirst items height least last last
first-alone items height least last rows le next more = record {
  from = le;
  to = omega arith;
  fits = λ lt. absurd (omega arith);
  nearest = λ k from to. let grow = rows-grow items k last (omega arith) in omega arith;
}

-- the item before doesn't fit any more
pub first-before : (items : List ListItem) (height least last first left rows : ℕ) → least < first → first ≤ last
    → rows_before items (last + 1) + left ≡ rows_before items first + height
    → rows_before items (first - 1 + 1) ≡ rows_before items (first - 1) + rows → left < rows
    → IsFirst items height least last first
first-before items height least last first left rows from to so_far next more =
    let at : first - 1 + 1 ≡ first = omega arith in
    let here : rows_before items first ≡ rows_before items (first - 1) + rows =
    subst (λ k. rows_before items k ≡ rows_before items (first - 1) + rows) at next in
    record {
      from = omega arith;
      to = to;
      fits = λ _. omega arith;
      nearest = λ k least_ lt. let grow = rows-grow items k (first - 1) (omega arith) in omega arith;
    }

-- more items kept take no fewer rows
around-grows : (items : List ListItem) (selected n m : ℕ) → n ≤ m
    → (rows_before items (first_kept selected m) ≤ rows_before items (first_kept selected n))
    × (rows_before items (last_kept items selected n + 1) ≤ rows_before items (last_kept items selected m + 1))
around-grows items selected n m le = (
  rows-grow items (selected - m) (selected - n) (omega arith),
  rows-grow items (min (selected + n) (length items - 1) + 1)
      (min (selected + m) (length items - 1) + 1) (omega arith),
)

pub padding-none : (items : List ListItem) (height asked selected rows : ℕ) → selected < length items
    → rows_before items (selected + 1) ≡ rows_before items selected + rows → height < rows
    → IsPadding items height asked selected 0
padding-none items height asked selected rows inside next more = record {
  asked_for = omega arith;
  fits = λ lt. absurd (omega arith);
  largest = λ k le fit.
      let above = rows-grow items (selected - k) selected (omega arith) in
      let below = rows-grow items (selected + 1) (min (selected + k) (length items - 1) + 1) (omega arith) in
      absurd (omega arith);
}

-- those that are kept fit, and one more on each side doesn't
pub padding-full : (items : List ListItem) (height asked selected padding left above below : ℕ)
    → padding ≤ min asked (length items)
    → rows_before items (last_kept items selected padding + 1) + left ≡ rows_before items (first_kept selected padding) + height
    → rows_before items (first_kept selected (padding + 1)) + above ≡ rows_before items (first_kept selected padding)
    → rows_before items (last_kept items selected padding + 1) + below ≡ rows_before items
    (last_kept items selected (padding + 1) + 1)
    → left < above + below → IsPadding items height asked selected padding
padding-full items height asked selected padding left above below le so_far up down more = record {
  asked_for = le;
  fits = λ _. omega arith;
  largest = λ k _ fit.
      ⊎_elim
      (λ (lt : padding < k). let grows = around-grows items selected (padding + 1) k (omega arith) in let one = grows.0 in
      let two = grows.1 in absurd (omega arith))
      (λ (ge : k ≤ padding). ge)
      (cases_lt padding k);
}

pub scrolled-stays : (items : List ListItem) (height first last was nearest : ℕ) → first ≤ last → was ≤ last
    → (first < last → Fit items height first (last + 1)) → IsFirst items height was last nearest → nearest ≤ was
    → IsScrolled items height first last was (min first was)
scrolled-stays items height first last was nearest order in_view fits is le =
    let from = is.from in
    let at : nearest ≡ was = omega arith in
    record {
      up = λ _. refl;
      down = λ _ over.
          let end : was ≡ last =
          ⊎_elim (λ (lt : was < last). let fit : rows_before items (last + 1) ≤ rows_before items was + height = subst
          (λ k. Fit items height k (last + 1)) at (is.fits (omega arith)) in absurd (omega arith))
          (λ (ge : last ≤ was). omega arith) (cases_lt was last) in
          let begin : first ≡ last =
          ⊎_elim (λ (lt : first < last). let fit = fits lt in let grow = rows-grow items first was (omega arith) in
          absurd (omega arith))
          (λ (ge : last ≤ first). omega arith) (cases_lt first last) in
          let same : min first was ≡ nearest = omega arith in
          rw same is;
    }
