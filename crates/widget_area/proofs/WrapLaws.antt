-- The rows of a wrapped line, put together.
use Rattle.std.proofs.Common.{◌≡◌, ℕ, zero, suc, ◌+◌, ◌-◌, ◌/◌, ◌<◌, ◌≤◌, ◌==◌, true, false, List, [], ◌∷◌, refl, arith, ap, ⊎_elim, All}
use Rattle.std.proofs.lemmas.{Bool.cases_lt, Bool.Decides.nat_tests, Nat.le-div}
use Rattle.std.proofs.lemmas.List.Elements.{All-head, All-tail}
use Rattle.std.proofs.Math.Nat.{div-mul-le_self, div-le_self}
use Rattle.widget_area.specs.Columns.{columns_of_grapheme, past, column_past}
use Rattle.widget_area.specs.Wraps.{rows_of_columns, in_row, in_rows}

-- a later column has no earlier row
div-later : (stride a b : ℕ) → 0 < stride → a ≤ b → a / stride ≤ b / stride
div-later stride a b some le = le-div (a / stride) b stride some (omega (arith, le, div-mul-le_self a stride))

past-later : (column n : ℕ) → column ≤ 18446744073709551615 → column ≤ past column n
past-later column n most = omega (arith, most)

past-most : (column n : ℕ) → past column n ≤ 18446744073709551615
past-most column n = omega arith

past-row : (stride column n : ℕ) → 0 < stride → column ≤ 18446744073709551615 → column / stride ≤ past column n / stride
past-row stride column n some most = div-later stride column (past column n) some (past-later column n most)

-- no grapheme begins in a row above the first one's
none-above : (tab stride k column : ℕ) (gs : List (List ℕ)) → 0 < stride → column ≤ 18446744073709551615 → k < column / stride
    → in_row tab stride k column gs ≡ []
none-above tab stride k column [] some most lt = refl
none-above tab stride k column (g ∷ gs) some most lt =
    let test : (column / stride == k) ≡ false = grind (arith, nat_tests) in
    let row = past-row stride column (columns_of_grapheme tab column g) some most in
    let rest = none-above tab stride k (past column (columns_of_grapheme tab column g)) gs some
    (past-most column (columns_of_grapheme tab column g)) (omega (arith, lt, row)) in
    rw (test, rest) refl

-- what stands above begins in none of the rows below
rows-below : (tab stride k column : ℕ) (g : List ℕ) (gs : List (List ℕ)) (n : ℕ) → column / stride < k
    → in_rows tab stride k column (g ∷ gs) n ≡ in_rows tab stride k (past column (columns_of_grapheme tab column g)) gs n
rows-below tab stride k column g gs zero lt = refl
rows-below tab stride k column g gs (suc n) lt =
    let test : (column / stride == k) ≡ false = grind (arith, nat_tests) in
    let rest = rows-below tab stride (k + 1) column g gs n (omega (arith, lt)) in
    rw (test, rest) refl

rows-none : (tab stride k column n : ℕ) → in_rows tab stride k column [] n ≡ []
rows-none tab stride k column zero = refl
rows-none tab stride k column (suc n) = rows-none tab stride (k + 1) column n

-- the rows from one on that isn't below the first grapheme's, if there are enough, by what holds of the other graphemes
rows-first : (tab stride column : ℕ) (g : List ℕ) (gs : List (List ℕ)) → 0 < stride → column ≤ 18446744073709551615
    → ((m j : ℕ) → j ≤ past column (columns_of_grapheme tab column g) / stride
    → (column_past tab column (g ∷ gs) - 1) / stride < j + m
    → in_rows tab stride j (past column (columns_of_grapheme tab column g)) gs m ≡ gs)
    → column / stride ≤ (column_past tab column (g ∷ gs) - 1) / stride → (n k : ℕ) → k ≤ column / stride
    → (column_past tab column (g ∷ gs) - 1) / stride < k + n → in_rows tab stride k column (g ∷ gs) n ≡ g ∷ gs
rows-first tab stride column g gs some most all order zero k le lt = absurd (omega (arith, le, lt, order))
rows-first tab stride column g gs some most all order (suc n) k le lt =
    let row = past-row stride column (columns_of_grapheme tab column g) some most in
    ⊎_elim (λ (above : k < column / stride).
    rw (none-above tab stride k column (g ∷ gs) some most above)
    (rows-first tab stride column g gs some most all order n (k + 1) (omega (arith, above)) (omega (arith, lt))))
    (λ (other : column / stride ≤ k).
    let here : (column / stride == k) ≡ true = grind (arith, nat_tests) in
    let below = rows-below tab stride (k + 1) column g gs n (omega (arith, other)) in
    rw (here, below) (ap (λ rest. g ∷ rest) (all (suc n) k (omega (arith, le, row)) lt)))
    (cases_lt k (column / stride))

-- a line ends after its graphemes
end-later : (tab column : ℕ) (gs : List (List ℕ)) → column ≤ 18446744073709551615 → column ≤ column_past tab column gs
end-later tab column [] most = omega arith
end-later tab column (g ∷ gs) most =
    let n = columns_of_grapheme tab column g in
    omega (arith, past-later column n most, end-later tab (past column n) gs (past-most column n))

first-before : (tab column : ℕ) (g : List ℕ) (gs : List (List ℕ)) → 0 < columns_of_grapheme tab column g
    → column_past tab column (g ∷ gs) < 18446744073709551615 → column ≤ column_past tab column (g ∷ gs) - 1
first-before tab column g gs some lt =
    let n = columns_of_grapheme tab column g in
    omega (arith, some, lt, end-later tab (past column n) gs (past-most column n))

-- and so they are all graphemes
rows-all : (tab stride column : ℕ) (gs : List (List ℕ)) → 0 < stride → column ≤ 18446744073709551615
    → All (λ g. (at : ℕ) → 0 < columns_of_grapheme tab at g) gs → column_past tab column gs < 18446744073709551615
    → (n k : ℕ) → k ≤ column / stride → (column_past tab column gs - 1) / stride < k + n
    → in_rows tab stride k column gs n ≡ gs
rows-all tab stride column [] some most each fewer n k le lt = rows-none tab stride k column n
rows-all tab stride column (g ∷ gs) some most each fewer n k le lt =
    let before = first-before tab column g gs (All-head (λ h. (at : ℕ) → 0 < columns_of_grapheme tab at h) g gs each column) fewer in
    rows-first tab stride column g gs some most
    (λ m j. rows-all tab stride (past column (columns_of_grapheme tab column g)) gs some
    (past-most column (columns_of_grapheme tab column g)) (All-tail (λ h. (at : ℕ) → 0 < columns_of_grapheme tab at h) g gs each) fewer m j)
    (div-later stride column (column_past tab column (g ∷ gs) - 1) some before) n k le lt

pub rows-whole : (tab stride : ℕ) (gs : List (List ℕ)) → 0 < stride
    → All (λ g. (column : ℕ) → 0 < columns_of_grapheme tab column g) gs → column_past tab 0 gs < 18446744073709551615
    → in_rows tab stride 0 0 gs (rows_of_columns stride (column_past tab 0 gs)) ≡ gs
rows-whole tab stride gs some each most =
    rows-all tab stride 0 gs some (omega arith) each most (rows_of_columns stride (column_past tab 0 gs)) 0 (omega arith)
    (omega (arith, most, div-le_self (column_past tab 0 gs - 1) stride))
