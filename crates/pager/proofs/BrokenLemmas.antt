-- Broken lines lose nothing.
use Rattle.std.proofs.Common.{◌≡◌, ◌<◌, ◌≤◌, ℕ, zero, suc, ◌+◌, ◌-◌, ◌*◌, ◌/◌, ◌^◌, ◌&&◌, min, true, List, []}
use Rattle.std.proofs.Common.{◌∷◌, length, Contains, slice_index_or, nat_le, nat_lt, refl, ap, sym, ◌∙◌, subst, arith}
use Rattle.std.proofs.Common.{if◌then◌else◌}
use Rattle.std.proofs.Math.Nat.{div-mul-le_self, lt-div-mul-add, div-eq_of_lt-le, le-div_iff_mul-le, add-mul, one-mul}
use Rattle.std.proofs.lemmas.Bool.Decides.{nat_tests}
use Rattle.unicode_segmentation.specs.Grapheme.{graphemes}
use Rattle.pager.specs.declared.pager.Pager.{Pager}
use Rattle.pager.specs.declared.styles.Run.{Run}
use Rattle.pager.specs.declared.sought.Sought.{Sought}
use Rattle.pager.specs.declared.sought.Sought.TheVariants.{Plain}
use Rattle.pager.specs.Symbols.{LineSymbol, Reach, shown_columns, reach_after, symbols_from, line_symbols, line_front, is_in_view}
use Rattle.pager.specs.Places.{last_start, columns_for_line, stride}
use Rattle.pager.specs.Pages.{IsInOneRow, view_at, view_from}

-- columns don't depend on what is sought, and on styles
starts-same : (last : ℕ) (sought : Sought) (a b : Reach) (gs : List (List ℕ)) → a.column ≡ b.column
    → last_start last (symbols_from sought a gs) ≡ last_start last (symbols_from (Plain []) b gs)
unfolding symbols_from
starts-same last sought a b [] same = refl
starts-same last sought a b (g ∷ gs) same =
    starts-same a.column sought (reach_after sought a g gs) (reach_after (Plain []) b g gs) gs
    (ap (λ k. k + shown_columns k g) same)
    ∙ ap (λ k. last_start k (symbols_from (Plain []) (reach_after (Plain []) b g gs) gs)) same

starts-rise : (last : ℕ) (sought : Sought) (at : Reach) (gs : List (List ℕ)) → last ≤ at.column
    → last ≤ last_start last (symbols_from sought at gs)
unfolding symbols_from
starts-rise last sought at [] le = omega arith
starts-rise last sought at (g ∷ gs) le =
    let rest = starts-rise at.column sought (reach_after sought at g gs) gs (omega arith) in omega (arith, le, rest)

-- no symbol begins after the last one
starts-before : (last : ℕ) (sought : Sought) (at : Reach) (gs : List (List ℕ)) (k : ℕ) (s : LineSymbol) → last ≤ at.column
    → k < length (symbols_from sought at gs) → slice_index_or (symbols_from sought at gs) k s ≡ s
    → s.column ≤ last_start last (symbols_from sought at gs)
unfolding symbols_from
starts-before last sought at [] k s le l is = absurd (omega (arith, l))
starts-before last sought at (g ∷ gs) zero s le l is =
    let here : s.column ≡ at.column = ap (λ (t : LineSymbol). t.column) (sym is) in
    let rest = starts-rise at.column sought (reach_after sought at g gs) gs (omega arith) in omega (arith, here, rest)
starts-before last sought at (g ∷ gs) (suc k) s le l is =
    starts-before at.column sought (reach_after sought at g gs) gs k s (omega arith) (omega (arith, l)) is

-- rows of n columns, of which one column more is seen
module _ (n width : ℕ) (some : 0 < n) (wide : n + 1 ≡ width) where
  -- a column is seen in the row that it begins in
  in-row : (column columns : ℕ) → columns ≤ 2
      → (nat_le (column / n * n) column && nat_lt column (column / n * n + min n width)
      && nat_le (column + columns) (column / n * n + width)) ≡ true
  in-row column columns narrow =
      let begins = div-mul-le_self column n in
      let ends : column < column / n * n + n = lt-div-mul-add some in
      grind (arith, nat_tests, begins, ends, narrow, wide, some)

  -- and in no other one
  row-is : (k column columns : ℕ)
      → (nat_le (k * n) column && nat_lt column (k * n + min n width) && nat_le (column + columns) (k * n + width)) ≡ true
      → k ≡ column / n
  row-is k column columns is =
      let begins : k * n ≤ column = grind (arith, nat_tests, is) in
      let ends : column < k * n + n = grind (arith, nat_tests, is, wide) in
      sym (div-eq_of_lt-le n begins (subst (λ m. column < m) (sym (next k)) ends))
    where
      next : (k : ℕ) → (k + 1) * n ≡ k * n + n
      next k = add-mul k 1 n ∙ ap (λ m. k * n + m) (one-mul n)

  -- which is one of the rows up to the last column
  row-within : (column last : ℕ) → column ≤ last → column < 2 ^ 32
      → column / n < min last (2 ^ 32 - 1) / n + 1
  row-within column last le fits =
      let most : column ≤ min last (2 ^ 32 - 1) = omega (arith, le, fits) in
      let begins = div-mul-le_self column n in
      let fit : column / n * n ≤ min last (2 ^ 32 - 1) = omega (arith, begins, most) in
      let rows : column / n ≤ min last (2 ^ 32 - 1) / n = (le-div_iff_mul-le some).1 fit in
      omega (arith, rows)

pub in-one-row : (p : Pager) (sought : Sought) (line : List ℕ) (runs : List Run) (s : LineSymbol) → p.wraps ≡ true
    → 2 ≤ columns_for_line p → Contains (line_symbols sought runs line) s → s.columns ≤ 2 → s.column < 2 ^ 32
    → IsInOneRow p (columns_for_line p) line s
in-one-row p sought line runs s wraps wide (k, l, is) narrow fits =
    let n : ℕ = stride p in
    let width : ℕ = columns_for_line p in
    let some : 0 < n = omega arith in
    let more : n + 1 ≡ width = omega (arith, wide) in
    let seen : (k : ℕ) → is_in_view (view_at p k width) s
    ≡ (nat_le (k * n) s.column && nat_lt s.column (k * n + min n width) && nat_le (s.column + s.columns) (k * n + width)) =
    λ k. ap (λ b. is_in_view (if b then record { left = k * n; limit = k * n + min n width; width = width }
    else view_from p.left width) s) wraps in
    let last : ℕ = last_start 0 (line_symbols (Plain []) [] line) in
    let same : last_start 0 (line_symbols sought runs line) ≡ last =
    starts-same 0 sought (line_front runs line) (line_front [] line) (graphemes true line) refl in
    let before : s.column ≤ last_start 0 (line_symbols sought runs line) =
    starts-before 0 sought (line_front runs line) (graphemes true line) k s (omega arith) l is in
    let rows : s.column / n < min last (2 ^ 32 - 1) / n + 1 =
    row-within n width some more s.column last (subst (λ m. s.column ≤ m) same before) fits in
    record {
      row = s.column / n;
      within = subst (λ b. s.column / n < (if b then min last (2 ^ 32 - 1) / n + 1 else 1)) (sym wraps) rows;
      shown = seen (s.column / n) ∙ in-row n width some more s.column s.columns narrow;
      alone = λ k shown. row-is n width some more k s.column s.columns (sym (seen k) ∙ shown);
    }
