-- The next state of a table is one state, and it is its own next one.
use Rattle.std.proofs.Common.{◌≡◌, ℕ, zero, suc, ◌+◌, ◌-◌, ◌<◌, ◌≤◌, ⊎_elim, min, Bool, true, false, if◌then◌else◌}
use Rattle.std.proofs.Common.{List, [], ◌∷◌, length, Option, Some, None, refl, sym, ap, subst, ◌∙◌, arith}
use Rattle.std.proofs.lemmas.Bool.{cases_lt}
use Rattle.widget_list.specs.Settled.{first_passing}
use Rattle.widget_list.proofs.SettledLemmas.{first-made, test-fit, test-over}
use Rattle.widget_list.proofs.SettledFrameLemmas.{LeadsOn}
use Rattle.widget_table.specs.{declared.table.Table.Table as TableData, declared.row.Row.Row}
use Rattle.widget_table.specs.{declared.state.TableState.TableState}
use Rattle.widget_table.specs.Rows.{height_before, upper_at, full_at, rows_area, IsFirstRow, KeepsRowInView, IsRowOffset}
use Rattle.widget_table.specs.Tables.{column_count, within_count, IsNextState, ShowsTable}
use Rattle.widget_table.specs.SettledTables.{row_fits, table_offset, next_table_state}
use Rattle.widget_table.proofs.ViewLemmas.{upper-full}

module _ (rows : List Row) (height : ℕ) where
  first-row-least : (least last shown a b : ℕ) → IsFirstRow rows height least last shown a → IsFirstRow rows height least last shown b
      → a ≤ b
  first-row-least least last shown a b one two =
      ⊎_elim
      (λ (lt : b < a). let over = one.nearest b two.from lt in let to = one.to in let fit = two.fits (omega arith) in absurd (omega arith))
      (λ (ge : a ≤ b). ge)
      (cases_lt b a)

  keeps-one : (selected was a b : ℕ) → KeepsRowInView rows height selected was a → KeepsRowInView rows height selected was b → a ≡ b
  keeps-one selected was a b one two =
      ⊎_elim
      (λ (over : height_before rows (min was selected) + height < height_before rows selected + upper_at rows selected).
      let x = first-row-least (min was selected) selected (full_at rows selected) a b (one.moves over) (two.moves over) in
      let y = first-row-least (min was selected) selected (full_at rows selected) b a (two.moves over) (one.moves over) in omega arith)
      (λ (fit : height_before rows selected + upper_at rows selected ≤ height_before rows (min was selected) + height).
      one.stays fit ∙ sym (two.stays fit))
      (cases_lt (height_before rows (min was selected) + height) (height_before rows selected + upper_at rows selected))

  first-row-fits : (least last shown : ℕ) → least ≤ last
      → IsFirstRow rows height least last shown (first_passing (row_fits rows height last shown) least (last - least))
  first-row-fits least last shown order =
      let is = first-made (row_fits rows height last shown) least (last - least) in
      let from = is.from in let to = is.to in
      record {
        from = from;
        to = omega arith;
        fits = λ lt. test-fit _ _ (is.passes (omega arith));
        nearest = λ k a b. test-over _ _ (is.nearest k a b);
      }

  keeps-made : (selected was : ℕ) (fits : Bool) → row_fits rows height selected (upper_at rows selected) (min was selected) ≡ fits
      → KeepsRowInView rows height selected was (if fits then min was selected
      else first_passing (row_fits rows height selected (full_at rows selected)) (min was selected) (selected - min was selected))
  keeps-made selected was true is =
      let fit : height_before rows selected + upper_at rows selected ≤ height_before rows (min was selected) + height = test-fit _ _ is in
      record { stays = λ _. refl; moves = λ over. absurd (omega arith) }
  keeps-made selected was false is =
      let over : height_before rows (min was selected) + height < height_before rows selected + upper_at rows selected = test-over _ _ is in
      record {
        stays = λ fit. absurd (omega arith);
        moves = λ _. first-row-fits (min was selected) selected (full_at rows selected) (omega arith);
      }

  -- a table that begins where it does begins there again
  keeps-again : (selected was begins : ℕ) → KeepsRowInView rows height selected was begins
      → KeepsRowInView rows height selected begins begins
  keeps-again selected was begins keeps =
      let upper = upper-full rows selected in
      let within : begins ≤ selected =
      ⊎_elim (λ (over : height_before rows (min was selected) + height < height_before rows selected + upper_at rows selected).
      (keeps.moves over).to)
      (λ (fit : height_before rows selected + upper_at rows selected ≤ height_before rows (min was selected) + height).
      let e = keeps.stays fit in omega arith)
      (cases_lt (height_before rows (min was selected) + height) (height_before rows selected + upper_at rows selected)) in
      let least : min begins selected ≡ begins = omega arith in
      record {
        stays = λ _. sym least;
        moves = λ lacks'.
            let lacks : height_before rows begins + height < height_before rows selected + upper_at rows selected =
            subst (λ k. height_before rows k + height < height_before rows selected + upper_at rows selected) least lacks' in
            let end : begins ≡ selected =
            ⊎_elim (λ (over : height_before rows (min was selected) + height < height_before rows selected + upper_at rows selected).
            let at = keeps.moves over in
            ⊎_elim (λ (lt : begins < selected). let fit = at.fits lt in absurd (omega arith)) (λ (ge : selected ≤ begins). omega arith)
            (cases_lt begins selected))
            (λ (fit : height_before rows selected + upper_at rows selected ≤ height_before rows (min was selected) + height).
            let here : height_before rows selected + upper_at rows selected ≤ height_before rows begins + height =
            subst (λ k. height_before rows selected + upper_at rows selected ≤ height_before rows k + height) (sym (keeps.stays fit)) fit in
            absurd (omega arith))
            (cases_lt (height_before rows (min was selected) + height) (height_before rows selected + upper_at rows selected)) in
            record {
              from = omega arith;
              to = omega arith;
              fits = λ lt. absurd (omega arith);
              nearest = λ k from to. absurd (omega arith);
            };
      }

row-offset-again : (rows : List Row) (height : ℕ) (selected : Option ℕ) (was begins : ℕ) → IsRowOffset rows height selected was begins
    → IsRowOffset rows height selected begins begins
row-offset-again [] height selected was begins is = is
row-offset-again (row ∷ rows) height None was begins is = omega arith
row-offset-again (row ∷ rows) height (Some selected) was begins is = keeps-again (row ∷ rows) height selected was begins is

row-offset-made : (rows : List Row) (height : ℕ) (selected : Option ℕ) (was : ℕ)
    → IsRowOffset rows height selected was (table_offset rows height selected was)
row-offset-made [] height selected was = refl
row-offset-made (row ∷ rows) height None was = refl
row-offset-made (row ∷ rows) height (Some selected) was =
    keeps-made (row ∷ rows) height selected was
    (row_fits (row ∷ rows) height selected (upper_at (row ∷ rows) selected) (min was selected)) refl

row-offset-is : (rows : List Row) (height : ℕ) (selected : Option ℕ) (was begins : ℕ) → IsRowOffset rows height selected was begins
    → begins ≡ table_offset rows height selected was
row-offset-is [] height selected was begins is = is
row-offset-is (row ∷ rows) height None was begins is = is
row-offset-is (row ∷ rows) height (Some selected) was begins is =
    keeps-one (row ∷ rows) height selected was begins _ is (row-offset-made (row ∷ rows) height (Some selected) was)

within-twice : (count : ℕ) (o : Option ℕ) → within_count count (within_count count o) ≡ within_count count o
within-twice zero o = refl
within-twice (suc last) None = refl
within-twice (suc last) (Some n) = ap Some (let e : min (min n last) last ≡ min n last = omega arith in e)

-- the next state is its own next one
next-table-again : (t : TableData) (height : ℕ) (s u : TableState) → IsNextState t height s u → IsNextState t height u u
next-table-again t height s u is = record {
  selected = rw is.selected (sym (within-twice (length t.rows.items) s.selected));
  selected_column = rw is.selected_column (sym (within-twice (column_count t) s.selected_column));
  offset = row-offset-again t.rows.items height u.selected s.offset u.offset is.offset;
}

-- it is one state
next-table-is : (t : TableData) (height : ℕ) (s u : TableState) → IsNextState t height s u → u ≡ next_table_state t height s
next-table-is t height s u is =
    let selected = is.selected in
    let column = is.selected_column in
    let offset = rw selected at (row-offset-is t.rows.items height u.selected s.offset u.offset is.offset) in
    λ i. record { offset = offset i; selected = selected i; selected_column = column i }

next-table-made : (t : TableData) (height : ℕ) (s : TableState) → IsNextState t height s (next_table_state t height s)
next-table-made t height s = record {
  selected = refl;
  selected_column = refl;
  offset = row-offset-made t.rows.items height (within_count (length t.rows.items) s.selected) s.offset;
}

-- so a table leads on
pub table-leads : (t : TableData) → LeadsOn (ShowsTable t) (λ r. IsNextState t (rows_area t.header t.footer r).height)
    (λ r. next_table_state t (rows_area t.header t.footer r).height)
table-leads t = record {
  leads = λ s u r a b shows. shows.state;
  one = λ s u r is. next-table-is t (rows_area t.header t.footer r).height s u is;
  made = λ s r. next-table-made t (rows_area t.header t.footer r).height s;
  again = λ s u r is. next-table-again t (rows_area t.header t.footer r).height s u is;
  shown = λ s u r a b shows. record {
    state = next-table-again t (rows_area t.header t.footer r).height s u shows.state;
    columns = shows.columns;
    are_columns = shows.are_columns;
    parts = shows.parts;
  };
}
