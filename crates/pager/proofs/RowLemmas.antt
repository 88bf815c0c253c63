-- How many rows a line takes, and its bytes.
use Rattle.std.proofs.Common.{◌≡◌, ℕ, ◌+◌, ◌-◌, ◌/◌, ◌^◌, ◌≤◌, Bool, true, false, if◌then◌else◌, min, List, [], ◌∷◌, length, refl, ap, ◌∙◌, arith}
use Rattle.std.proofs.Common.{add-one}
use Rattle.std.proofs.Math.Nat.{div-le_self}
use Rattle.pager.specs.declared.pager.Pager.{Pager}
use Rattle.pager.specs.declared.sought.Sought.TheVariants.{Plain}
use Rattle.pager.specs.Symbols.{Reach, shown_columns, reach_after, symbols_from, line_symbols}
use Rattle.pager.specs.Search.{numbered_line}
use Rattle.pager.specs.Pages.{bytes_before}
use Rattle.pager.specs.Places.{last_start, breaking, stride}

-- a place by its column alone
abbrev pub reach_at : List ℕ → ℕ → Reach
reach_at line column = record { line = line; column = column; marked = 0; runs = [] }

-- columns don't depend on marks and runs
last-same : (last : ℕ) (a b : Reach) (gs : List (List ℕ)) → a.column ≡ b.column
    → last_start last (symbols_from (Plain []) a gs) ≡ last_start last (symbols_from (Plain []) b gs)
unfolding symbols_from
last-same last a b [] same = refl
last-same last a b (g ∷ gs) same =
    last-same a.column (reach_after (Plain []) a g gs) (reach_after (Plain []) b g gs) gs (ap (λ k. k + shown_columns k g) same)
    ∙ ap (λ k. last_start k (symbols_from (Plain []) (reach_after (Plain []) b g gs) gs)) same

pub last-turn : (last : ℕ) (line : List ℕ) (column : ℕ) (g : List ℕ) (all rest : List (List ℕ)) → all ≡ g ∷ rest
    → last_start last (symbols_from (Plain []) (reach_at line column) all)
    ≡ last_start column (symbols_from (Plain []) (reach_at line (column + shown_columns column g)) rest)
unfolding symbols_from
last-turn last line column g all rest is =
    ap (λ gs. last_start last (symbols_from (Plain []) (reach_at line column) gs)) is
    ∙ last-same column (reach_after (Plain []) (reach_at line column) g rest) (reach_at line (column + shown_columns column g)) rest refl

last-le : (last : ℕ) (line : List ℕ) (column : ℕ) (gs : List (List ℕ)) → last ≤ column
    → last ≤ last_start last (symbols_from (Plain []) (reach_at line column) gs)
unfolding symbols_from
last-le last line column [] le = omega arith
last-le last line column (g ∷ gs) le =
    let more = last-le column line (column + shown_columns column g) gs (omega arith) in
    let same = last-turn last line column g (g ∷ gs) gs refl in
    rw same (omega arith)

pub last-far : (last : ℕ) (line : List ℕ) (column : ℕ) (g : List ℕ) (all rest : List (List ℕ)) → all ≡ g ∷ rest
    → column ≤ last_start last (symbols_from (Plain []) (reach_at line column) all)
last-far last line column g all rest is = rw (last-turn last line column g all rest is)
    (last-le column line (column + shown_columns column g) rest (omega arith))

pub last-none : (last : ℕ) (line : List ℕ) (column : ℕ) (gs : List (List ℕ)) → gs ≡ []
    → last_start last (symbols_from (Plain []) (reach_at line column) gs) ≡ last
unfolding symbols_from
last-none last line column gs none = rw none refl

-- ---- bytes

pub bytes-none : (lines : List (List ℕ)) → bytes_before lines 0 ≡ 0
unfolding bytes_before
bytes-none lines = refl

pub bytes-next : (lines : List (List ℕ)) (k : ℕ)
    → bytes_before lines (k + 1) ≡ bytes_before lines k + length (numbered_line lines k) + 1
unfolding bytes_before
bytes-next lines k = rw add-one refl

-- ---- places

pub rows-most : (p : Pager) (line : ℕ) → breaking p line ≤ 2 ^ 32
rows-most p line = by p.wraps
  where
    last : ℕ
    last = min (last_start 0 (line_symbols (Plain []) [] (numbered_line p.document line))) (2 ^ 32 - 1)

    by : (b : Bool) → (if b then last / stride p + 1 else 1) ≤ 2 ^ 32
    by true = omega (arith, div-le_self last (stride p))
    by false = omega arith
