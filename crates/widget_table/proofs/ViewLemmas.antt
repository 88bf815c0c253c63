-- How many rows of the screen the rows of a table take, and which of them fit.
use Rattle.std.proofs.Common.{◌≡◌, ℕ, zero, suc, ◌+◌, ◌-◌, ◌<◌, ◌≤◌, ⊎_elim, min, List, [], ◌∷◌, length, map, take}
use Rattle.std.proofs.Common.{sum_by, Option, Some, None, sym, ap, subst, ◌∙◌, arith}
use Rattle.std.proofs.Math.ListN.{get_or, get_or-map}
use Rattle.std.proofs.lemmas.{Bool.cases_lt, List.take-take, List.get_or_default, List.length-map}
use Rattle.std.proofs.lemmas.{List.Sums.sum_by_more, List.Sums.sum_by-take-le}
use Rattle.widget_table.specs.declared.row.Row.{Row}
use Rattle.widget_table.specs.Tables.{within_count}
use Rattle.widget_table.specs.Rows.{full_height, height_before, upper_at, full_at, IsInView, IsFirstRow, KeepsRowInView}
use Rattle.widget_table.specs.Rows.{IsRowOffset}

-- the rows before a later row take at least those before an earlier one
pub before-grow : (rows : List Row) (n m : ℕ) → n ≤ m → height_before rows n ≤ height_before rows m
before-grow rows n m le =
    let h = sum_by-take-le full_height (take m rows) n in
    subst (λ xs. sum_by full_height xs ≤ height_before rows m) (take-take n m rows le) h

-- one row more
pub before-next : (rows : List Row) (k : ℕ) (row : Row) → k < length rows → row ≡ get_or rows k row
    → height_before rows (k + 1) ≡ height_before rows k + full_height row
before-next rows k row lt is = sum_by_more full_height rows k row lt ∙ ap (λ r. height_before rows k + full_height r) (sym is)

-- a height by a row's number
module _ (f : Row → ℕ) (rows : List Row) (k : ℕ) (row : Row) (lt : k < length rows) (is : row ≡ get_or rows k row) where
  pub height-at : get_or (map f rows) k 0 ≡ f row
  height-at =
      let count : k < length (map f rows) = omega (arith, length-map rows f) in
      get_or_default (map f rows) k 0 (f row) count ∙ get_or-map f rows k row ∙ ap f (sym is)

-- a row alone is higher than the area
pub row-alone : (rows : List Row) (height least last shown : ℕ) → least ≤ last → height < shown
    → IsFirstRow rows height least last shown last
row-alone rows height least last shown le more = record {
  from = le;
  to = omega arith;
  fits = λ lt. absurd (omega arith);
  nearest = λ k from to. let grow = before-grow rows k last (omega arith) in omega arith;
}

-- the row before doesn't fit any more
pub row-before : (rows : List Row) (height least last shown first left one : ℕ) → least < first → first ≤ last
    → height_before rows last + shown + left ≡ height_before rows first + height
    → height_before rows (first - 1 + 1) ≡ height_before rows (first - 1) + one → left < one
    → IsFirstRow rows height least last shown first
row-before rows height least last shown first left one from to so_far next more =
    let at : first - 1 + 1 ≡ first = omega arith in
    let here : height_before rows first ≡ height_before rows (first - 1) + one =
    subst (λ k. height_before rows k ≡ height_before rows (first - 1) + one) at next in
    record {
      from = omega arith;
      to = to;
      fits = λ _. omega arith;
      nearest = λ k least_ lt. let grow = before-grow rows k (first - 1) (omega arith) in omega arith;
    }

-- the selected row is in view from the first one, or it is that one
pub view-stays : (rows : List Row) (height selected was least upper : ℕ) → upper ≡ upper_at rows selected
    → least ≡ min was selected
    → IsFirstRow rows height least selected upper least → KeepsRowInView rows height selected was least
view-stays rows height selected was least upper high at first = record {
  stays = λ _. at;
  moves = λ lacks.
      let here : height_before rows least + height < height_before rows selected + upper = rw (at, high) lacks in
      let end : least ≡ selected =
      ⊎_elim (λ (lt : least < selected). let fit = first.fits lt in absurd (omega arith))
      (λ (ge : selected ≤ least). let to = first.to in omega arith) (cases_lt least selected) in
      rw (← at) (record {
        from = omega arith;
        to = omega arith;
        fits = λ lt. absurd (omega arith);
        nearest = λ k from to. absurd (omega arith);
      });
}

-- it isn't in view from there
pub view-moves : (rows : List Row) (height selected was least upper full first begins : ℕ) → upper ≡ upper_at rows selected
    → full ≡ full_at rows selected → least ≡ min was selected
    → IsFirstRow rows height least selected upper first → (first ≡ least → ⊥) → IsFirstRow rows height least selected full begins
    → KeepsRowInView rows height selected was begins
view-moves rows height selected was least upper full first begins high whole at near other moved =
    let from = near.from in
    let lt : least < first = ⊎_elim (λ (l : least < first). l) (λ (ge : first ≤ least). absurd (other (omega arith)))
    (cases_lt least first) in
    let lacks = near.nearest least (omega arith) lt in
    record {
      stays = λ fits. let here : height_before rows selected + upper ≤ height_before rows least + height = rw (at, high) fits in
          absurd (omega arith);
      moves = λ _. rw (← at, ← whole) moved;
    }

-- a row without its lower margin is no higher than with it
pub upper-full : (rows : List Row) (k : ℕ) → upper_at rows k ≤ full_at rows k
upper-full [] k = omega arith
upper-full (row ∷ rows) zero = omega arith
upper-full (row ∷ rows) (suc k) = upper-full rows k

-- a selected row whose cells fit is in view from where the table begins
pub kept-in-view : (rows : List Row) (height selected was begins : ℕ) → upper_at rows selected ≤ height
    → KeepsRowInView rows height selected was begins → (begins ≤ selected) × IsInView rows height begins selected
kept-in-view rows height selected was begins fits keeps =
    ⊎_elim
    (λ (lacks : height_before rows (min was selected) + height < height_before rows selected + upper_at rows selected).
    let moved = keeps.moves lacks in
    let to = moved.to in (
      to,
      ⊎_elim (λ (lt : begins < selected). let fit = moved.fits lt in let less = upper-full rows selected in omega arith)
          (λ (ge : selected ≤ begins). let same : begins ≡ selected = omega arith in rw same (omega arith))
          (cases_lt begins selected),
    ))
    (λ (in_view : height_before rows selected + upper_at rows selected ≤ height_before rows (min was selected) + height).
    let at = keeps.stays in_view in (omega arith, rw at in_view))
    (cases_lt (height_before rows (min was selected) + height) (height_before rows selected + upper_at rows selected))

-- a table begins so that its selected row is in view
pub offset-in-view : (rows : List Row) (height selected : ℕ) (chosen was : Option ℕ) (before begins : ℕ) → chosen ≡ Some selected
    → chosen ≡ within_count (length rows) was → upper_at rows selected ≤ height
    → IsRowOffset rows height chosen before begins → (begins ≤ selected) × IsInView rows height begins selected
offset-in-view [] height selected chosen was before begins is one fits offset = let no : Some selected ≡ None = sym is ∙ one in
    absurd (cc)
offset-in-view (row ∷ rows) height selected chosen was before begins is one fits offset =
    kept-in-view (row ∷ rows) height selected before begins fits (rw is at offset)
