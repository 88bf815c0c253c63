-- Rows whose names have a text: where a text stands in a name, and which row has it.
use Rattle.std.proofs.Common.{◌≡◌, inl, inr, ℕ, zero, suc, subst, ◌+◌, ◌<◌, ◌≤◌, ⊎_elim, ◌==◌, if◌then◌else◌, Bool, true, false, Decides}
use Rattle.std.proofs.Common.{List, [], ◌∷◌, ◌++◌, drop, length, Option, Some, None, refl, sym, ap}
use Rattle.std.proofs.Common.{◌∙◌, arith, add-one}
use Rattle.std.specs.Prelude.{slice_get}
use Rattle.std.specs.Str.Iter.{HasSubslice}
use Rattle.std.specs.List.{position_from, starts_with}
use Rattle.std.specs.Option.{option_map_or, option_or}
use Rattle.std.proofs.lemmas.Bool.{cases_Bool, cases_lt, or_right}
use Rattle.std.proofs.lemmas.{Bool.Decides.Decides-eqb}
use Rattle.std.proofs.lemmas.Option.{slice_get_within}
use Rattle.std.proofs.lemmas.{Slice.Eq.starts_is, List.drop_more, List.drop_all}
use Rattle.files.specs.declared.list.Row.{Row}
use Rattle.files.specs.Finding.{has_upper, starts_as, stands_in, row_has, has_at, first_named, last_named, next_named, previous_named}
use Rattle.files.specs.Finding.{NoneBetween, IsNextNamed, IsPreviousNamed}

-- ---- where the case of letters counts

begins : (text name : List ℕ) → has_upper text ≡ true → starts_as text name ≡ true → name ≡ text ++ drop (length text) name
begins text name capital is = (starts_is {E = ◌==◌} (λ a b. Decides-eqb a b) name text (starts_with ◌==◌ name text) refl).0
    (rw capital at is)

begins-of : (text name rest : List ℕ) → has_upper text ≡ true → name ≡ text ++ rest → starts_as text name ≡ true
begins-of text name rest capital is =
    rw capital ((starts_is {E = ◌==◌} (λ a b. Decides-eqb a b) name text (starts_with ◌==◌ name text) refl).1 rest is)

here : (text name : List ℕ) → has_upper text ≡ true → starts_as text name ≡ true → HasSubslice name text
here text name capital is = ([], drop (length text) name, begins text name capital is)

stands : (text name : List ℕ) → has_upper text ≡ true → stands_in text name ≡ true → HasSubslice name text
unfolding stands_in
stands text [] capital is = here text [] capital is
stands text (b ∷ bs) capital is = ⊎_elim
    (λ (first : starts_as text (b ∷ bs) ≡ true). here text (b ∷ bs) capital first)
    (λ (later : starts_as text (b ∷ bs) ≡ false).
    let rest : stands_in text bs ≡ true = rw later at is in
    let found = stands text bs capital rest in
    (b ∷ found.0, found.1, ap (λ xs. b ∷ xs) found.2))
    (cases_Bool (starts_as text (b ∷ bs)))

first-stands : (text name : List ℕ) → starts_as text name ≡ true → stands_in text name ≡ true
unfolding stands_in
first-stands text [] is = is
first-stands text (b ∷ bs) is = rw is refl

later-stands : (text : List ℕ) (b : ℕ) (bs : List ℕ) → stands_in text bs ≡ true → stands_in text (b ∷ bs) ≡ true
unfolding stands_in
later-stands text b bs is = or_right (starts_as text (b ∷ bs)) (stands_in text bs) is

stands-after : (text before name rest : List ℕ) → has_upper text ≡ true → name ≡ before ++ (text ++ rest)
    → stands_in text name ≡ true
stands-after text [] name rest capital is = first-stands text name (begins-of text name rest capital is)
stands-after text (a ∷ before) [] rest capital is = let no : ⊥ = cc in absurd no
stands-after text (a ∷ before) (b ∷ bs) rest capital is =
    later-stands text b bs (stands-after text before bs rest capital (cc))

pub stands-decides : (text name : List ℕ) → has_upper text ≡ true → Decides (stands_in text name) (HasSubslice name text)
stands-decides text name capital = (stands text name capital, λ found. stands-after text found.0 name found.1 capital found.2)

-- ---- at a place of a name and after it

pub stands-here : (text name : List ℕ) (k : ℕ) → starts_as text (drop k name) ≡ true → stands_in text (drop k name) ≡ true
stands-here text name k is = first-stands text (drop k name) is

later-is : (text : List ℕ) (b : ℕ) (bs : List ℕ) → starts_as text (b ∷ bs) ≡ false → stands_in text (b ∷ bs) ≡ stands_in text bs
unfolding stands_in
later-is text b bs is = rw is refl

pub stands-later : (text name : List ℕ) (k : ℕ) → k < length name → starts_as text (drop k name) ≡ false
    → stands_in text (drop k name) ≡ stands_in text (drop (k + 1) name)
stands-later text name k lt is =
    let more = drop_more name k 0 lt in
    ap (stands_in text) more ∙ later-is text _ (drop (k + 1) name) (ap (starts_as text) (sym more) ∙ is)

-- ---- where the case of letters doesn't count

if-false : (b : Bool) → (if b then false else false) ≡ false
if-false true = refl
if-false false = refl

empty-not : (text : List ℕ) → 0 < length text → starts_as text [] ≡ false
empty-not [] some = absurd (omega arith)
empty-not (b ∷ bs) some = if-false (has_upper (b ∷ bs))

pub stands-none : (text name : List ℕ) (k : ℕ) → 0 < length text → length name ≤ k → stands_in text (drop k name) ≡ false
unfolding stands_in
stands-none text name k some le = ap (stands_in text) (drop_all k name le) ∙ empty-not text some

-- ---- rows

-- a row and what follows it
row-there : {X : Type 0} (xs : List X) (k : ℕ) → k < length xs → (x : X) × (slice_get xs k ≡ Some x) × (drop k xs ≡ x ∷ drop (suc k) xs)
row-there [] k less = absurd (omega arith)
row-there (x ∷ xs) zero less = (x, refl, refl)
row-there (x ∷ xs) (suc k) less =
    let it = row-there xs k (omega arith) in (it.0, it.1, it.2)

pub first-here : (text : List ℕ) (rows : List Row) (k : ℕ) → k < length rows → has_at text rows k ≡ true → first_named text rows k ≡ Some k
first-here text rows k lt is =
    let it = row-there rows k lt in
    let has : row_has text it.0 ≡ true = ap (λ o. option_map_or (row_has text) o false) (sym it.1) ∙ is in
    ap (position_from (row_has text) k) it.2 ∙ rw has refl

pub first-later : (text : List ℕ) (rows : List Row) (k : ℕ) → k < length rows → has_at text rows k ≡ false
    → first_named text rows k ≡ first_named text rows (k + 1)
first-later text rows k lt is =
    let it = row-there rows k lt in
    let not : row_has text it.0 ≡ false = ap (λ o. option_map_or (row_has text) o false) (sym it.1) ∙ is in
    ap (position_from (row_has text) k) it.2 ∙ rw not refl
    ∙ ap (λ n. position_from (row_has text) (k + 1) (drop n rows)) (sym (add-one k))

pub first-none : (text : List ℕ) (rows : List Row) (k : ℕ) → length rows ≤ k → first_named text rows k ≡ None
first-none text rows k le = ap (position_from (row_has text) k) (drop_all k rows le)

pub last-here : (text : List ℕ) (rows : List Row) (k n : ℕ) → n ≡ k + 1 → has_at text rows k ≡ true → last_named text rows n ≡ Some k
unfolding last_named
last-here text rows k n same is = ap (last_named text rows) (same ∙ (let e : k + 1 ≡ suc k = omega arith in e)) ∙ rw is refl

pub last-earlier : (text : List ℕ) (rows : List Row) (k n : ℕ) → n ≡ k + 1 → has_at text rows k ≡ false
    → last_named text rows n ≡ last_named text rows k
unfolding last_named
last-earlier text rows k n same is = ap (last_named text rows) (same ∙ (let e : k + 1 ≡ suc k = omega arith in e)) ∙ rw is refl

pub last-none : (text : List ℕ) (rows : List Row) (k : ℕ) → k ≡ 0 → last_named text rows k ≡ None
unfolding last_named
last-none text rows k none = ap (last_named text rows) none

if-none : (b : Bool) (x : ℕ) (o : Option ℕ) → (if b then Some x else o) ≡ None → o ≡ None
if-none true x o is = absurd (cc)
if-none false x o is = is

-- before fewer rows there are fewer
pub last-less : (text : List ℕ) (rows : List Row) (k n : ℕ) → k ≤ n → last_named text rows n ≡ None → last_named text rows k ≡ None
unfolding last_named
last-less text rows k zero le none = let same : k ≡ 0 = omega arith in ap (last_named text rows) same ∙ none
last-less text rows k (suc n) le none = ⊎_elim
    (λ (below : k < suc n). last-less text rows k n (omega arith) (if-none (has_at text rows n) n (last_named text rows n) none))
    (λ (above : suc n ≤ k). let same : k ≡ suc n = omega arith in ap (last_named text rows) same ∙ none)
    (cases_lt k (suc n))

-- ---- none that has the text is passed over

abbrev FirstOf : List ℕ → List Row → ℕ → Option ℕ → Type 0
FirstOf text rows from None = NoneBetween text rows from (length rows)
FirstOf text rows from (Some k) = (from ≤ k) × (has_at text rows k ≡ true) × NoneBetween text rows from k

none-more : (text : List ℕ) (rows : List Row) (from high : ℕ) → has_at text rows from ≡ false → NoneBetween text rows (from + 1) high
    → NoneBetween text rows from high
none-more text rows from high not more = λ j le below. ⊎_elim
    (λ (after : from < j). more j (omega arith) below)
    (λ (at : j ≤ from). let e : from ≡ j = omega arith in subst (λ i. has_at text rows i ≡ false) e not)
    (cases_lt from j)

first-more : (text : List ℕ) (rows : List Row) (from : ℕ) (o : Option ℕ) → has_at text rows from ≡ false → FirstOf text rows (from + 1) o
    → FirstOf text rows from o
first-more text rows from None not more = none-more text rows from (length rows) not more
first-more text rows from (Some k) not more = (omega (arith, more.0), more.1, none-more text rows from k not more.2)

first-from : (n : ℕ) (text : List ℕ) (rows : List Row) (from : ℕ) → length rows ≤ from + n → FirstOf text rows from (first_named text rows from)
first-from zero text rows from le = rw (first-none text rows from (omega arith)) (λ j low high. absurd (omega arith))
first-from (suc n) text rows from le = ⊎_elim
    (λ (lt : from < length rows). ⊎_elim
    (λ (is : has_at text rows from ≡ true). rw (first-here text rows from lt is)
    (let same : from ≤ from = omega arith in (same, is, λ j low high. absurd (omega arith))))
    (λ (not : has_at text rows from ≡ false). rw (first-later text rows from lt not)
    (first-more text rows from (first_named text rows (from + 1)) not (first-from n text rows (from + 1) (omega arith))))
    (cases_Bool (has_at text rows from)))
    (λ (ge : length rows ≤ from). rw (first-none text rows from ge) (λ j low high. absurd (omega arith)))
    (cases_lt from (length rows))

first-of : (text : List ℕ) (rows : List Row) (from : ℕ) → FirstOf text rows from (first_named text rows from)
first-of text rows from = first-from (length rows) text rows from (omega arith)

abbrev LastOf : List ℕ → List Row → ℕ → Option ℕ → Type 0
LastOf text rows before None = NoneBetween text rows 0 before
LastOf text rows before (Some k) = (k < before) × (has_at text rows k ≡ true) × NoneBetween text rows (k + 1) before

none-below : (text : List ℕ) (rows : List Row) (low b : ℕ) → has_at text rows b ≡ false → NoneBetween text rows low b
    → NoneBetween text rows low (suc b)
none-below text rows low b not more = λ j le below. ⊎_elim
    (λ (before : j < b). more j le before)
    (λ (at : b ≤ j). let e : b ≡ j = omega arith in subst (λ i. has_at text rows i ≡ false) e not)
    (cases_lt j b)

last-more : (text : List ℕ) (rows : List Row) (b : ℕ) (o : Option ℕ) → has_at text rows b ≡ false → LastOf text rows b o
    → LastOf text rows (suc b) o
last-more text rows b None not more = none-below text rows 0 b not more
last-more text rows b (Some k) not more = (omega (arith, more.0), more.1, none-below text rows (k + 1) b not more.2)

last-of : (text : List ℕ) (rows : List Row) (before : ℕ) → LastOf text rows before (last_named text rows before)
unfolding last_named
last-of text rows zero = λ j low high. absurd (omega arith)
last-of text rows (suc b) = ⊎_elim
    (λ (is : has_at text rows b ≡ true). rw is
    (let less : b < suc b = omega arith in (less, is, λ j low high. absurd (omega arith))))
    (λ (not : has_at text rows b ≡ false). rw not (last-more text rows b (last_named text rows b) not (last-of text rows b)))
    (cases_Bool (has_at text rows b))

row-by : (text : List ℕ) (o : Option Row) → option_map_or (row_has text) o false ≡ true → (row : Row) × (o ≡ Some row)
row-by text None is = absurd (cc)
row-by text (Some row) is = (row, refl)

-- what has the text is a row
has-there : (text : List ℕ) (rows : List Row) (k : ℕ) → has_at text rows k ≡ true → k < length rows
has-there text rows k has = let it = row-by text (slice_get rows k) has in slice_get_within rows k it.0 it.1

none-has : (text : List ℕ) (rows : List Row) (low high k : ℕ) → NoneBetween text rows low high → low ≤ k → k < high
    → has_at text rows k ≡ true → ⊥
none-has text rows low high k none le less has = let bad : true ≡ false = sym has ∙ none k le less in absurd (cc)

next-by : (text : List ℕ) (rows : List Row) (place : ℕ) (one two : Option ℕ) (found : ℕ) → FirstOf text rows (place + 1) one
    → FirstOf text rows 0 two → option_or one two ≡ Some found → IsNextNamed text rows place found
next-by text rows place (Some k) two found first second is =
    let e : k ≡ found = cc in
    subst (λ f. IsNextNamed text rows place f) e (record { has = first.1; way = inl (omega (arith, first.0), first.2) })
next-by text rows place None (Some k) found first second is =
    let e : k ≡ found = cc in
    subst (λ f. IsNextNamed text rows place f) e (⊎_elim
    (λ (above : place < k).
    absurd (none-has text rows (place + 1) (length rows) k first (omega arith) (has-there text rows k second.1) second.1))
    (λ (at : k ≤ place). record { has = second.1; way = inr (at, first, second.2) })
    (cases_lt place k))
next-by text rows place None None found first second is = absurd (cc)

pub next-named : (text : List ℕ) (rows : List Row) (place found : ℕ) → next_named text rows place ≡ Some found
    → IsNextNamed text rows place found
next-named text rows place found is =
    next-by text rows place (first_named text rows (place + 1)) (first_named text rows 0) found (first-of text rows (place + 1))
    (first-of text rows 0) is

-- where none is found no row has the text
none-by : (text : List ℕ) (rows : List Row) (one two : Option ℕ) → FirstOf text rows 0 two → option_or one two ≡ None
    → NoneBetween text rows 0 (length rows)
none-by text rows (Some k) two second is = absurd (cc)
none-by text rows None (Some k) second is = absurd (cc)
none-by text rows None None second is = second

pub next-none : (text : List ℕ) (rows : List Row) (place : ℕ) → next_named text rows place ≡ None
    → NoneBetween text rows 0 (length rows)
next-none text rows place is =
    none-by text rows (first_named text rows (place + 1)) (first_named text rows 0) (first-of text rows 0) is

previous-by : (text : List ℕ) (rows : List Row) (place : ℕ) (one two : Option ℕ) (found : ℕ) → LastOf text rows place one
    → LastOf text rows (length rows) two → option_or one two ≡ Some found → IsPreviousNamed text rows place found
previous-by text rows place (Some k) two found first second is =
    let e : k ≡ found = cc in
    subst (λ f. IsPreviousNamed text rows place f) e (record { has = first.1; way = inl (first.0, first.2) })
previous-by text rows place None (Some k) found first second is =
    let e : k ≡ found = cc in
    subst (λ f. IsPreviousNamed text rows place f) e (⊎_elim
    (λ (below : k < place). absurd (none-has text rows 0 place k first (omega arith) below second.1))
    (λ (at : place ≤ k). record { has = second.1; way = inr (at, first, second.2) })
    (cases_lt k place))
previous-by text rows place None None found first second is = absurd (cc)

pub previous-named : (text : List ℕ) (rows : List Row) (place found : ℕ) → previous_named text rows place ≡ Some found
    → IsPreviousNamed text rows place found
previous-named text rows place found is =
    previous-by text rows place (last_named text rows place) (last_named text rows (length rows)) found (last-of text rows place)
    (last-of text rows (length rows)) is

last-none-by : (text : List ℕ) (rows : List Row) (one two : Option ℕ) → LastOf text rows (length rows) two → option_or one two ≡ None
    → NoneBetween text rows 0 (length rows)
last-none-by text rows (Some k) two second is = absurd (cc)
last-none-by text rows None (Some k) second is = absurd (cc)
last-none-by text rows None None second is = second

pub previous-none : (text : List ℕ) (rows : List Row) (place : ℕ) → previous_named text rows place ≡ None
    → NoneBetween text rows 0 (length rows)
previous-none text rows place is =
    last-none-by text rows (last_named text rows place) (last_named text rows (length rows)) (last-of text rows (length rows)) is
