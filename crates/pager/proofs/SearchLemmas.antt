-- Where a text stands in another, and which line has it.
use Rattle.std.proofs.Common.{◌≡◌, ℕ, zero, suc, subst, ◌+◌, ◌<◌, ◌≤◌, ⊎_elim, ◌==◌, if◌then◌else◌, Bool, true, false, Decides}
use Rattle.std.proofs.Common.{List, [], ◌∷◌, ◌++◌, map, drop, length, Some, None, unwrap_or, slice_get, slice_index_or, refl, sym, ap}
use Rattle.std.proofs.Common.{◌∙◌, arith, length-append}
use Rattle.std.specs.Str.Iter.{HasSubslice}
use Rattle.std.specs.List.{position_from, starts_with}
use Rattle.std.specs.{Char.to_ascii_lowercase, Str.str_eq_ignore_ascii_case}
use Rattle.std.proofs.lemmas.Bool.{cases_Bool, cases_lt, or_right}
use Rattle.std.proofs.lemmas.{Bool.Decides.Decides-eqb}
use Rattle.std.proofs.lemmas.{Option.unwrap_or-slice_get, Slice.Eq.starts_is, Slice.Eq.bytes_eq-Decides, List.drop_more, List.drop_all}
use Rattle.pager.specs.declared.sought.Sought.{Sought}
use Rattle.pager.specs.Search.{has_capital, begins_with, occurs, has_match, numbered_line, next_match, last_match}
use Rattle.pager.specs.Search.{IsFirstMatch, IsLastMatch, matching}

-- ---- where the case of letters counts

begins : (pattern text : List ℕ) → has_capital pattern ≡ true → begins_with pattern text ≡ true
    → text ≡ pattern ++ drop (length pattern) text
begins pattern text capital is = (starts_is {E = ◌==◌} (λ a b. Decides-eqb a b) text pattern (starts_with ◌==◌ text pattern) refl).0
    (rw capital at is)

begins-of : (pattern text rest : List ℕ) → has_capital pattern ≡ true → text ≡ pattern ++ rest → begins_with pattern text ≡ true
begins-of pattern text rest capital is =
    rw capital ((starts_is {E = ◌==◌} (λ a b. Decides-eqb a b) text pattern (starts_with ◌==◌ text pattern) refl).1 rest is)

here : (pattern text : List ℕ) → has_capital pattern ≡ true → begins_with pattern text ≡ true → HasSubslice text pattern
here pattern text capital is = ([], drop (length pattern) text, begins pattern text capital is)

stands : (pattern text : List ℕ) → has_capital pattern ≡ true → occurs pattern text ≡ true → HasSubslice text pattern
unfolding occurs
stands pattern [] capital is = here pattern [] capital is
stands pattern (b ∷ bs) capital is = ⊎_elim
    (λ (first : begins_with pattern (b ∷ bs) ≡ true). here pattern (b ∷ bs) capital first)
    (λ (later : begins_with pattern (b ∷ bs) ≡ false).
    let rest : occurs pattern bs ≡ true = rw later at is in
    let found = stands pattern bs capital rest in
    (b ∷ found.0, found.1, ap (λ xs. b ∷ xs) found.2))
    (cases_Bool (begins_with pattern (b ∷ bs)))

first-occurs : (pattern text : List ℕ) → begins_with pattern text ≡ true → occurs pattern text ≡ true
unfolding occurs
first-occurs pattern [] is = is
first-occurs pattern (b ∷ bs) is = rw is refl

later-occurs : (pattern : List ℕ) (b : ℕ) (bs : List ℕ) → occurs pattern bs ≡ true → occurs pattern (b ∷ bs) ≡ true
unfolding occurs
later-occurs pattern b bs is = or_right (begins_with pattern (b ∷ bs)) (occurs pattern bs) is

stands-after : (pattern before text rest : List ℕ) → has_capital pattern ≡ true → text ≡ before ++ (pattern ++ rest)
    → occurs pattern text ≡ true
stands-after pattern [] text rest capital is = first-occurs pattern text (begins-of pattern text rest capital is)
stands-after pattern (a ∷ before) [] rest capital is = let no : ⊥ = cc in absurd no
stands-after pattern (a ∷ before) (b ∷ bs) rest capital is =
    later-occurs pattern b bs (stands-after pattern before bs rest capital (cc))

pub occurs-decides : (pattern text : List ℕ) → has_capital pattern ≡ true
    → Decides (occurs pattern text) (HasSubslice text pattern)
occurs-decides pattern text capital =
    (stands pattern text capital, λ found. stands-after pattern found.0 text found.1 capital found.2)

-- ---- at a place of a text and after it

pub occurs-here : (pattern text : List ℕ) (k : ℕ) → begins_with pattern (drop k text) ≡ true → occurs pattern (drop k text) ≡ true
occurs-here pattern text k is = first-occurs pattern (drop k text) is

later-is : (pattern : List ℕ) (b : ℕ) (bs : List ℕ) → begins_with pattern (b ∷ bs) ≡ false
    → occurs pattern (b ∷ bs) ≡ occurs pattern bs
unfolding occurs
later-is pattern b bs is = rw is refl

pub occurs-later : (pattern text : List ℕ) (k : ℕ) → k < length text → begins_with pattern (drop k text) ≡ false
    → occurs pattern (drop k text) ≡ occurs pattern (drop (k + 1) text)
occurs-later pattern text k lt is =
    let more = drop_more text k 0 lt in
    ap (occurs pattern) more ∙ later-is pattern _ (drop (k + 1) text) (ap (begins_with pattern) (sym more) ∙ is)

-- ---- where the case of letters doesn't count

pub same-case : (a b : List ℕ) → Decides (str_eq_ignore_ascii_case a b) (map to_ascii_lowercase a ≡ map to_ascii_lowercase b)
same-case a b = bytes_eq-Decides (map to_ascii_lowercase a) (map to_ascii_lowercase b)

if-false : (b : Bool) → (if b then false else false) ≡ false
if-false true = refl
if-false false = refl

empty-not : (pattern : List ℕ) → 0 < length pattern → begins_with pattern [] ≡ false
empty-not [] some = absurd (omega arith)
empty-not (b ∷ bs) some = if-false (has_capital (b ∷ bs))

pub occurs-none : (pattern text : List ℕ) (k : ℕ) → 0 < length pattern → length text ≤ k → occurs pattern (drop k text) ≡ false
unfolding occurs
occurs-none pattern text k some le = ap (occurs pattern) (drop_all k text le) ∙ empty-not pattern some

-- ---- lines

pub none-there : {X : Type 0} (xs : List X) (k : ℕ) (d : X) → slice_get xs k ≡ None → slice_index_or xs k d ≡ d
none-there xs k d none = sym (unwrap_or-slice_get xs k d) ∙ ap (λ o. unwrap_or o d) none

pub none-at : (lines : List (List ℕ)) (k : ℕ) → slice_get lines k ≡ None → numbered_line lines k ≡ []
none-at lines k none = sym (unwrap_or-slice_get lines k []) ∙ ap (λ o. unwrap_or o []) none

pub next-here : (sought : Sought) (lines : List (List ℕ)) (k : ℕ) → k < length lines
    → has_match sought (numbered_line lines k) ≡ true → position_from (has_match sought) k (drop k lines) ≡ Some k
next-here sought lines k lt is = ap (position_from (has_match sought) k) (drop_more lines k [] lt) ∙ rw is refl

pub next-later : (sought : Sought) (lines : List (List ℕ)) (k : ℕ) → k < length lines
    → has_match sought (numbered_line lines k) ≡ false
    → position_from (has_match sought) k (drop k lines) ≡ position_from (has_match sought) (k + 1) (drop (k + 1) lines)
next-later sought lines k lt is = ap (position_from (has_match sought) k) (drop_more lines k [] lt) ∙ rw is refl

pub next-none : (sought : Sought) (lines : List (List ℕ)) (k : ℕ) → length lines ≤ k
    → position_from (has_match sought) k (drop k lines) ≡ None
next-none sought lines k le = ap (position_from (has_match sought) k) (drop_all k lines le)

pub last-here : (sought : Sought) (lines : List (List ℕ)) (k n : ℕ) → n ≡ k + 1
    → has_match sought (numbered_line lines k) ≡ true → last_match sought lines n ≡ Some k
unfolding last_match
last-here sought lines k n same is = ap (last_match sought lines) (same ∙ (let e : k + 1 ≡ suc k = omega arith in e))
    ∙ rw is refl

pub last-earlier : (sought : Sought) (lines : List (List ℕ)) (k n : ℕ) → n ≡ k + 1
    → has_match sought (numbered_line lines k) ≡ false → last_match sought lines n ≡ last_match sought lines k
unfolding last_match
last-earlier sought lines k n same is = ap (last_match sought lines) (same ∙ (let e : k + 1 ≡ suc k = omega arith in e))
    ∙ rw is refl

pub last-none : (sought : Sought) (lines : List (List ℕ)) (k : ℕ) → k ≡ 0 → last_match sought lines k ≡ None
unfolding last_match
last-none sought lines k none = ap (last_match sought lines) none

-- ---- no match is passed over

first-from : (n : ℕ) (sought : Sought) (lines : List (List ℕ)) (from k : ℕ) → length lines ≤ from + n
    → next_match sought lines from ≡ Some k → IsFirstMatch sought lines from k
first-from zero sought lines from k le found =
    let none = next-none sought lines from (omega arith) in
    let no : ⊥ = cc in absurd no
first-from (suc n) sought lines from k le found = ⊎_elim
    (λ (lt : from < length lines). ⊎_elim
    (λ (is : has_match sought (numbered_line lines from) ≡ true).
    let here = next-here sought lines from lt is in
    let same : from ≡ k = cc in
    subst (λ m. IsFirstMatch sought lines from m) same
    (record { reached = omega arith; has = is; none = λ j le lt. absurd (omega arith) }))
    (λ (not : has_match sought (numbered_line lines from) ≡ false).
    let later = next-later sought lines from lt not in
    let more = first-from n sought lines (from + 1) k (omega arith) (sym later ∙ found) in
    record {
      reached = omega (arith, more.reached);
      has = more.has;
      none = λ j le below. ⊎_elim
          (λ (after : from < j). more.none j (omega arith) below)
          (λ (at : j ≤ from). let e : from ≡ j = omega arith in
          subst (λ i. has_match sought (numbered_line lines i) ≡ false) e not)
          (cases_lt from j);
    })
    (cases_Bool (has_match sought (numbered_line lines from))))
    (λ (ge : length lines ≤ from).
    let none = next-none sought lines from ge in
    let no : ⊥ = cc in absurd no)
    (cases_lt from (length lines))

pub first-match : (sought : Sought) (lines : List (List ℕ)) (from k : ℕ) → next_match sought lines from ≡ Some k
    → IsFirstMatch sought lines from k
first-match sought lines from k found = first-from (length lines) sought lines from k (omega arith) found

pub final-match : (sought : Sought) (lines : List (List ℕ)) (before k : ℕ) → last_match sought lines before ≡ Some k
    → IsLastMatch sought lines before k
unfolding last_match
final-match sought lines zero k found = let no : ⊥ = cc in absurd no
final-match sought lines (suc b) k found = ⊎_elim
    (λ (is : has_match sought (numbered_line lines b) ≡ true).
    let here : last_match sought lines (suc b) ≡ Some b = rw is refl in
    let same : b ≡ k = cc in
    subst (λ m. IsLastMatch sought lines (suc b) m) same
    (record { reached = omega arith; has = is; none = λ j lt below. absurd (omega arith) }))
    (λ (not : has_match sought (numbered_line lines b) ≡ false).
    let earlier : last_match sought lines (suc b) ≡ last_match sought lines b = rw not refl in
    let more = final-match sought lines b k (sym earlier ∙ found) in
    record {
      reached = omega (arith, more.reached);
      has = more.has;
      none = λ j lt below. ⊎_elim
          (λ (before : j < b). more.none j lt before)
          (λ (at : b ≤ j). let e : b ≡ j = omega arith in
          subst (λ i. has_match sought (numbered_line lines i) ≡ false) e not)
          (cases_lt j b);
    })
    (cases_Bool (has_match sought (numbered_line lines b)))

-- ---- the lines that have what is sought

pub matching-none : (sought : Sought) (lines : List (List ℕ)) → matching sought lines 0 ≡ []
unfolding matching
matching-none sought lines = refl

length-if : (b : Bool) (ks : List ℕ) (k : ℕ) → length ks ≤ k → length (if b then ks ++ k ∷ [] else ks) ≤ suc k
length-if true ks k le = omega (arith, length-append ks (k ∷ []))
length-if false ks k le = omega arith

pub length-matching : (sought : Sought) (lines : List (List ℕ)) (n : ℕ) → length (matching sought lines n) ≤ n
unfolding matching
length-matching sought lines zero = omega arith
length-matching sought lines (suc k) =
    length-if (has_match sought (numbered_line lines k)) (matching sought lines k) k (length-matching sought lines k)
