-- The columns under a symbol, and what is left of one of which it covers the first part.
use Rattle.std.proofs.Common.{◌≡◌, ℕ, ◌+◌, ◌-◌, ◌<◌, ◌≤◌, ◌==◌, ◌&&◌, ◌||◌, nat_lt, nat_eq, if◌then◌else◌, zero, suc, Bool, true}
use Rattle.std.proofs.Common.{false, inl, inr, refl, sym, ap, ap₂, ◌∙◌, arith}
use Rattle.std.proofs.lemmas.{Bool.or_right, Bool.cases_lt, Bool.Decides.nat_tests}
use Rattle.std.specs.List.{list_any, range_with_len}
use Rattle.ratatui_core.specs.Buffer.{Look, look_of, empty_look, width_of, Update, put}
use Rattle.ansi_model.specs.Columns.{Column, Columns, blank_column, look_in, is_continuation, is_met}
use Rattle.ansi_model.specs.{Columns.Column.Shows, Columns.Column.Unknown, Emulator.run, Symbols.printed_columns}
use Rattle.ansi_model.specs.Screens.{HasOwnWidth, HaveOwnWidths, IsWhole, IsWholeAt, IsBlankBeyond, put_columns}
use Rattle.ansi_model.proofs.PutLemmas.{none_between, apart-at, first-or-later, index-later, rest-same, shown-whole}
use Rattle.ansi_model.proofs.TextLemmas.{blank-sized}

-- the columns of a row from `from` up to `end` is a continuation column, and the column at `end` doesn't
pub record IsTail (from end y : ℕ) (c : Columns) : Type 0 where
  pub ordered : from ≤ end
  pub continuations : (k : ℕ) → from ≤ k → k < end → is_continuation (c k y) ≡ true
  pub ended : is_continuation (c end y) ≡ false

-- the columns once a symbol of n columns stands in column x of row y, and blanks after it up to column `end`
abbrev pub laid : ℕ → ℕ → ℕ → ℕ → Look → Columns → Columns
laid x y n end look c a b =
    if run x y n a b then Shows look (a - x) n
    else (if run (x + n) y (end - (x + n)) a b then blank_column else c a b)

-- a symbol of n columns stands in column x of row y, blanks after it up to column k, and from there up to column `end` nothing is
-- known
abbrev pub torn : ℕ → ℕ → ℕ → ℕ → ℕ → Look → Columns → Columns
torn x y n k end look c a b = if run k y (end - k) a b then Unknown else laid x y n k look c a b

some_between : (f : ℕ → Bool) (k n j : ℕ) → k ≤ j → j < k + n → f j ≡ true → list_any f (range_with_len k n) ≡ true
some_between f k zero j low high e = absurd (omega arith)
some_between f k (suc n) j low high e =
    elim (nat_eq k j) as (λ p. nat_eq k j ≡ p → (f k || list_any f (range_with_len (k + 1) n)) ≡ true) [
      | true ↦ λ same. let here : k ≡ j = grind (arith, nat_tests) in let at : f k ≡ true = ap f here ∙ e in rw at refl
      | false ↦ λ other.
          let above : k < j = grind (arith, nat_tests) in
          rw (some_between f (k + 1) n j (omega arith) (omega arith) e) (or_right (f k) true refl)
    ] refl

-- ---- the three parts of the columns

laid_cases : (x y n end : ℕ) (look : Look) (c : Columns) (a b : ℕ) (P : Column → Type 0)
    → (run x y n a b ≡ true → P (Shows look (a - x) n))
    → (run x y n a b ≡ false → run (x + n) y (end - (x + n)) a b ≡ true → P blank_column)
    → (run x y n a b ≡ false → run (x + n) y (end - (x + n)) a b ≡ false → P (c a b)) → P (laid x y n end look c a b)
laid_cases x y n end look c a b P inside blank out =
    elim (run x y n a b) as (λ p. run x y n a b ≡ p
    → P (if p then Shows look (a - x) n else (if run (x + n) y (end - (x + n)) a b then blank_column else c a b))) [
      | true ↦ inside
      | false ↦ λ f. elim (run (x + n) y (end - (x + n)) a b) as (λ q. run (x + n) y (end - (x + n)) a b ≡ q
          → P (if q then blank_column else c a b)) [
            | true ↦ λ g. blank f g
            | false ↦ λ g. out f g
          ] refl
    ] refl

outside : (x y n end a b : ℕ) → x + n ≤ end → run x y n a b ≡ false → run (x + n) y (end - (x + n)) a b ≡ false
    → run x y (end - x) a b ≡ false
outside x y n end a b ordered e f = grind (arith, nat_tests)

laid-outside : (x y n end : ℕ) (look : Look) (c : Columns) (a b : ℕ) → x + n ≤ end → run x y (end - x) a b ≡ false
    → laid x y n end look c a b ≡ c a b
laid-outside x y n end look c a b ordered e =
    let f : run x y n a b ≡ false = grind (arith, nat_tests) in
    let g : run (x + n) y (end - (x + n)) a b ≡ false = grind (arith, nat_tests) in
    rw (f, g) refl

-- a symbol outside the columns of the new one and the tail has none of its columns in them
apart_from : (x y n end a b : ℕ) (look : Look) (i m : ℕ) (c : Columns) → is_continuation (c x y) ≡ false → IsTail (x + n) end y c
    → IsWholeAt (λ k. c k b) a (Shows look i m)
    → run x y (end - x) a b ≡ false → (k : ℕ) → a - i ≤ k → k < (a - i) + m → run x y (end - x) k b ≡ false
apart_from x y n end a b look i m c left tail whole out =
    let ordered : x + n ≤ end = tail.ordered in
    let there : x + (end - x) ≡ end = omega arith in
    apart-at x y (end - x) a b i m look c whole left (ap (λ k. is_continuation (c k y)) there ∙ tail.ended) out

-- ---- what the columns are

pub laid-sized : (x y n end : ℕ) (look : Look) (c : Columns) → n ≡ printed_columns look.symbol → HaveOwnWidths c
    → HaveOwnWidths (laid x y n end look c)
laid-sized x y n end look c takes sized a b = laid_cases x y n end look c a b HasOwnWidth (λ e. takes) (λ e f. blank-sized)
    (λ e f. sized a b)

pub laid-beyond : (w x y n end : ℕ) (look : Look) (c : Columns) → x + n ≤ w → IsBlankBeyond w c
    → IsBlankBeyond w (laid x y n end look c)
laid-beyond w x y n end look c fits beyond a b far =
    laid_cases x y n end look c a b (λ d. d ≡ blank_column) (λ e. let near : a < x + n = grind (arith, nat_tests) in
    absurd (omega arith)) (λ e f. refl) (λ e f. beyond a b far)

pub laid-continuations : (x y n end : ℕ) (look : Look) (c : Columns) (a b : ℕ)
    → is_continuation (laid x y n end look c a b) ≡
    (if run x y n a b then nat_lt x a else (if run (x + n) y (end - (x + n)) a b then false else is_continuation (c a b)))
laid-continuations x y n end look c a b =
    laid_cases x y n end look c a b
    (λ d. is_continuation d ≡ (if run x y n a b then nat_lt x a else
    (if run (x + n) y (end - (x + n)) a b then false else is_continuation (c a b))))
    (λ e. rw e (index-later x a)) (λ e f. rw (e, f) refl) (λ e f. rw (e, f) refl)

whole_outside : (x y n end a b : ℕ) (look : Look) (c : Columns) (d : Column) → is_continuation (c x y) ≡ false
    → IsTail (x + n) end y c → run x y (end - x) a b ≡ false
    → IsWholeAt (λ k. c k b) a d → IsWholeAt (λ k. laid x y n end look c k b) a d
whole_outside x y n end a b look c Unknown left tail out whole = tt
whole_outside x y n end a b look c (Shows other i m) left tail out whole = (
  whole.0,
  whole.1,
  λ j below.
      laid-outside x y n end look c ((a - i) + j) b tail.ordered (apart_from x y n end a b other i m c left tail whole out
      ((a - i) + j) (omega arith) (omega arith)) ∙ whole.2 j below,
)

pub laid-whole : (x y n end : ℕ) (look : Look) (c : Columns) → IsWhole c → is_continuation (c x y) ≡ false
    → IsTail (x + n) end y c → IsWhole (laid x y n end look c)
laid-whole x y n end look c whole left tail a b =
    let ordered : x + n ≤ end = tail.ordered in
    laid_cases x y n end look c a b (IsWholeAt (λ k. laid x y n end look c k b) a)
    (λ e. shown-whole x y n a b look (laid x y n end look c) (λ k inside. rw inside refl) e)
    (λ e f. (
      omega arith,
      omega arith,
      λ j below.
          let first : j ≡ 0 = omega arith in
          let there : (a - 0) + j ≡ a = omega arith in
          ap (λ k. laid x y n end look c k b) there ∙ rw (e, f) (ap (λ k. Shows empty_look k 1) (sym first)),
    ))
    (λ e f. whole_outside x y n end a b look c (c a b) left tail (outside x y n end a b ordered e f) (whole a b))

-- after the first column of a symbol a column shows nothing of its own
pub continuation-empty : (d : Column) → is_continuation d ≡ true → look_in d ≡ empty_look
continuation-empty Unknown e = refl
continuation-empty (Shows look index count) e = grind (arith, nat_tests)

if_past : {A : Type 0} (p q : Bool) (r s : A) → (if p && false && q then r else s) ≡ s
if_past true q r s = refl
if_past false q r s = refl

-- columns and looks: the put of the cells' grids
pub laid-shown : (w h x y n end : ℕ) (u : Update) (c : Columns) → IsTail (x + n) end y c → u.x ≡ x → u.y ≡ y → width_of u.cell ≡ n
    → 0 < n → x + n ≤ w → y < h
    → (a b : ℕ) → look_in (laid x y n end (look_of u.cell) c a b) ≡ put w h u (λ i j. look_in (c i j)) a b
laid-shown w h x y n end u c tail ex ey en some fits y_in a b =
    let x_test : nat_lt x w ≡ true = grind (arith, nat_tests) in
    let y_test : nat_lt y h ≡ true = grind (arith, nat_tests) in
    rw (ex, ey, en, x_test, y_test)
    (laid_cases x y n end (look_of u.cell) c a b
    (λ d. look_in d ≡ (if nat_eq b y then (if nat_eq a x then look_of u.cell else
    (if nat_lt x a && nat_lt a (x + n) && nat_lt a w then empty_look else look_in (c a b))) else look_in (c a b)))
    (λ e.
    let row : nat_eq b y ≡ true = grind (arith, nat_tests) in
    let high : nat_lt a (x + n) ≡ true = grind (arith, nat_tests) in
    let wide : nat_lt a w ≡ true = grind (arith, nat_tests) in
    rw (row, high, wide) (first-or-later x a (look_of u.cell) (look_in (c a b)) (grind (arith, nat_tests))))
    (λ e f.
    let row : nat_eq b y ≡ true = grind (arith, nat_tests) in
    let same_row : b ≡ y = grind (arith, nat_tests) in
    let other : nat_eq a x ≡ false = grind (arith, nat_tests) in
    let past : nat_lt a (x + n) ≡ false = grind (arith, nat_tests) in
    let low : x + n ≤ a = grind (arith, nat_tests) in
    let high : a < end = grind (arith, nat_tests) in
    let continuations : is_continuation (c a b) ≡ true = ap (λ k. is_continuation (c a k)) same_row
    ∙ tail.continuations a low high in
    rw (row, other, past) (sym (if_past (nat_lt x a) (nat_lt a w) empty_look (look_in (c a b))
    ∙ continuation-empty (c a b) continuations)))
    (λ e f. rest-same (nat_eq b y) (nat_eq a x) (nat_lt x a && nat_lt a (x + n) && nat_lt a w) (look_of u.cell)
    (look_in (c a b)) empty_look
    (λ row. grind (arith, nat_tests)) (λ row. grind (arith, nat_tests))))

-- ---- the columns while the tail is emptied

later : (i : ℕ) → (if i == 0 then false else true) ≡ true → 0 < i
later i e = grind (arith, nat_tests)

-- the symbol of a column in the tail begins before the tail
before : (x y n end a b : ℕ) (look : Look) (i m : ℕ) (c : Columns) → IsWholeAt (λ k. c k b) a (Shows look i m) → 0 < i
    → IsTail (x + n) end y c → b ≡ y → a < end → a - i < x + n
before x y n end a b look i m c whole some tail row high =
    elim (cases_lt (a - i) (x + n)) [
      | inl e ↦ e
      | inr from ↦
          let index : i < m = whole.0 in
          let there : (a - i) + 0 ≡ a - i = omega arith in
          let shows : c (a - i) y ≡ Shows look 0 m = ap₂ (λ k j. c k j) (sym there) (sym row) ∙ whole.2 0 (omega arith) in
          let not : is_continuation (c (a - i) y) ≡ false = ap is_continuation shows in
          let is : is_continuation (c (a - i) y) ≡ true = tail.continuations (a - i) from (omega arith) in
          let h : ⊥ = cc in
          absurd h
    ]

tail-met : (x y n end a b : ℕ) (c : Columns) (d : Column) → IsWholeAt (λ k. c k b) a d → is_continuation d ≡ true
    → IsTail (x + n) end y c → 0 < n → b ≡ y → x + n ≤ a → a < end
    → is_met (run x y n) a b d ≡ true
tail-met x y n end a b c Unknown whole continuations tail some row low high = let h : ⊥ = cc in absurd h
tail-met x y n end a b c (Shows look i m) whole continuations tail some row low high =
    let index : i < m = whole.0 in
    let first : i ≤ a = whole.1 in
    let starts : a - i < x + n = before x y n end a b look i m c whole (later i continuations) tail row high in
    let inside : run x y n (x + n - 1) b ≡ true = grind (arith, nat_tests) in
    some_between (λ k. run x y n k b) (a - i) m (x + n - 1) (omega arith) (omega arith) inside

met-none : (x y n end a b : ℕ) (area : ℕ → ℕ → Bool) (c : Columns) (d : Column) → is_continuation (c x y) ≡ false
    → IsTail (x + n) end y c → run x y (end - x) a b ≡ false → IsWholeAt (λ k. c k b) a d
    → ((k : ℕ) → run x y (end - x) k b ≡ false → area k b ≡ false) → is_met area a b d ≡ false
met-none x y n end a b area c Unknown left tail out whole within = refl
met-none x y n end a b area c (Shows look i m) left tail out whole within =
    none_between (λ k. area k b) (a - i) m
    (λ k low high. within k (apart_from x y n end a b look i m c left tail whole out k low high))

-- the symbol alone: what it cut isn't known
pub put-torn : (x y n end : ℕ) (look : Look) (c : Columns) → IsWhole c → is_continuation (c x y) ≡ false → IsTail (x + n) end y c
    → 0 < n
    → (a b : ℕ) → put_columns x y n look c a b ≡ torn x y n (x + n) end look c a b
put-torn x y n end look c whole left tail some a b =
    let ordered : x + n ≤ end = tail.ordered in
    elim (run x y n a b) as (λ p. run x y n a b ≡ p → put_columns x y n look c a b ≡ torn x y n (x + n) end look c a b) [
      | true ↦ λ e.
          let f : run (x + n) y (end - (x + n)) a b ≡ false = grind (arith, nat_tests) in
          rw (e, f) refl
      | false ↦ λ e. elim (run (x + n) y (end - (x + n)) a b) as (λ q. run (x + n) y (end - (x + n)) a b ≡ q
          → put_columns x y n look c a b ≡ torn x y n (x + n) end look c a b) [
            | true ↦ λ f.
                let row : b ≡ y = grind (arith, nat_tests) in
                let low : x + n ≤ a = grind (arith, nat_tests) in
                let high : a < end = grind (arith, nat_tests) in
                let continuations : is_continuation (c a b) ≡ true = ap (λ k. is_continuation (c a k)) row
                ∙ tail.continuations a low high in
                let met : is_met (run x y n) a b (c a b) ≡ true = tail-met x y n end a b c (c a b)
                (whole a b) continuations tail some row low high in
                rw (e, f, met) refl
            | false ↦ λ f.
                let g : run (x + n) y (x + n - (x + n)) a b ≡ false = grind (arith, nat_tests) in
                let met : is_met (run x y n) a b (c a b) ≡ false = met-none x y n end a b (run x y n) c (c a b) left tail
                (outside x y n end a b ordered e f) (whole a b)
                (λ k out. grind (arith, nat_tests)) in
                rw (e, f, g, met) refl
          ] refl
    ] refl

laid-more : (x y n k : ℕ) (look : Look) (c : Columns) (a b : ℕ) → run k y 1 a b ≡ false → x + n ≤ k
    → laid x y n k look c a b ≡ laid x y n (k + 1) look c a b
laid-more x y n k look c a b other low =
    let same : run (x + n) y (k - (x + n)) a b ≡ run (x + n) y (k + 1 - (x + n)) a b = grind (arith, nat_tests) in
    rw same refl

laid-apart : (x y n k end a b : ℕ) (look : Look) (c : Columns) → IsWhole c → is_continuation (c x y) ≡ false
    → IsTail (x + n) end y c → x + n ≤ k → k < end → run k y (end - k) a b ≡ false
    → is_met (run k y 1) a b (laid x y n k look c a b) ≡ false
laid-apart x y n k end a b look c whole left tail low high out =
    laid_cases x y n k look c a b (λ d. is_met (run k y 1) a b d ≡ false)
    (λ e.
    let from : x ≤ a = grind (arith, nat_tests) in
    none_between (λ j. run k y 1 j b) (a - (a - x)) n (λ j from_j to_j. grind (arith, nat_tests)))
    (λ e f.
    let near : a < k = grind (arith, nat_tests) in
    none_between (λ j. run k y 1 j b) (a - 0) 1 (λ j from_j to_j. grind (arith, nat_tests)))
    (λ e f.
    let all_out : run x y (end - x) a b ≡ false = grind (arith, nat_tests) in
    met-none x y n end a b (run k y 1) c (c a b) left tail all_out (whole a b) (λ j out_j. grind (arith, nat_tests)))

-- one more blank
pub torn-more : (x y n k end : ℕ) (look : Look) (c d : Columns) → IsWhole c → is_continuation (c x y) ≡ false
    → IsTail (x + n) end y c → x + n ≤ k → k < end → ((a b : ℕ) → d a b ≡ torn x y n k end look c a b)
    → (a b : ℕ) → put_columns k y 1 empty_look d a b ≡ torn x y n (k + 1) end look c a b
torn-more x y n k end look c d whole left tail low high same a b =
    elim (run k y 1 a b) as (λ p. run k y 1 a b ≡ p → put_columns k y 1 empty_look d a b ≡ torn x y n (k + 1) end look c a b) [
      | true ↦ λ e.
          let f : run (k + 1) y (end - (k + 1)) a b ≡ false = grind (arith, nat_tests) in
          let g : run x y n a b ≡ false = grind (arith, nat_tests) in
          let i : run (x + n) y (k + 1 - (x + n)) a b ≡ true = grind (arith, nat_tests) in
          let here : a ≡ k = grind (arith, nat_tests) in
          let none : a - k ≡ 0 = omega arith in
          rw (e, f, g, i) (ap (λ j. Shows empty_look j 1) none)
      | false ↦ λ e. elim (run k y (end - k) a b) as (λ q. run k y (end - k) a b ≡ q
          → put_columns k y 1 empty_look d a b ≡ torn x y n (k + 1) end look c a b) [
            | true ↦ λ f.
                let g : run (k + 1) y (end - (k + 1)) a b ≡ true = grind (arith, nat_tests) in
                let unknown : d a b ≡ Unknown = same a b ∙ rw f refl in
                rw (e, g, unknown) refl
            | false ↦ λ f.
                let g : run (k + 1) y (end - (k + 1)) a b ≡ false = grind (arith, nat_tests) in
                let is : d a b ≡ laid x y n k look c a b = same a b ∙ rw f refl in
                let met : is_met (run k y 1) a b (d a b) ≡ false = ap (is_met (run k y 1) a b) is
                ∙ laid-apart x y n k end a b look c whole left tail low high f in
                rw (e, g, met) (is ∙ laid-more x y n k look c a b e low)
          ] refl
    ] refl

-- the tail is empty
pub torn-all : (x y n end : ℕ) (look : Look) (c : Columns) (a b : ℕ) → torn x y n end end look c a b ≡ laid x y n end look c a b
torn-all x y n end look c a b =
    let e : run end y (end - end) a b ≡ false = grind (arith, nat_tests) in
    rw e refl
