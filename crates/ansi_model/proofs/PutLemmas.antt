-- A printed symbol is a put, where it cuts no other.
use Rattle.std.proofs.Common.{◌≡◌, ℕ, ◌+◌, ◌-◌, ◌<◌, ◌≤◌, ◌==◌, ◌&&◌, ◌||◌, nat_lt, nat_le, nat_eq, if◌then◌else◌, zero, suc}
use Rattle.std.proofs.Common.{Bool, true, false, refl, sym, ap, ap₂, ◌∙◌, arith, subst}
use Rattle.std.proofs.lemmas.{Bool.false_from_ne_true, Bool.Decides.nat_tests}
use Rattle.std.specs.List.{list_any, range_with_len}
use Rattle.ratatui_core.specs.Buffer.{Look, look_of, empty_look, width_of, Update, put}
use Rattle.ansi_model.specs.Columns.{Column, Columns, look_in, is_continuation, is_met}
use Rattle.ansi_model.specs.{Columns.Column.Shows, Columns.Column.Unknown, Emulator.run, Symbols.printed_columns}
use Rattle.ansi_model.specs.Screens.{HasOwnWidth, HaveOwnWidths, IsWhole, IsWholeAt, IsBlankBeyond, IsUncut, put_columns}

pub none_between : (f : ℕ → Bool) (k n : ℕ) → ((j : ℕ) → k ≤ j → j < k + n → f j ≡ false)
    → list_any f (range_with_len k n) ≡ false
none_between f k zero e = refl
none_between f k (suc n) e = rw (
  e k (omega arith) (omega arith),
  none_between f (k + 1) n (λ j low high. e j (omega arith)
      (omega arith)),
) refl

-- a later column of a symbol lies after its first
pub later-continues : (look : Look) (j count : ℕ) (c : Column) → c ≡ Shows look j count → 0 < j → is_continuation c ≡ false → ⊥
later-continues look j count c e some not =
    let zero : (j == 0) ≡ false = grind (arith, nat_tests) in
    let shown : is_continuation c ≡ true = ap is_continuation e ∙ rw zero refl in
    cc

sides : (p q : Bool) → (p || q) ≡ true → (p ≡ true → ⊥) → (q ≡ true → ⊥) → ⊥
sides true q e f g = f refl
sides false q e f g = g e

-- a run that no symbol crosses at its ends has no column of a symbol outside it
pub apart-at : (x y n a b i m : ℕ) (look : Look) (c : Columns) → IsWholeAt (λ k. c k b) a (Shows look i m)
    → is_continuation (c x y) ≡ false → is_continuation (c (x + n) y) ≡ false → run x y n a b ≡ false
    → (k : ℕ) → a - i ≤ k → k < (a - i) + m → run x y n k b ≡ false
apart-at x y n a b i m look c whole left right out k low high = false_from_ne_true (run x y n k b) (λ inside.
    let index : i < m = whole.0 in
    let first : i ≤ a = whole.1 in
    let row : b ≡ y = grind (arith, nat_tests) in
    let k_low : x ≤ k = grind (arith, nat_tests) in
    let k_high : k < x + n = grind (arith, nat_tests) in
    let side : nat_lt a x || nat_le (x + n) a ≡ true = grind (arith, nat_tests) in
    sides (nat_lt a x) (nat_le (x + n) a) side
    (λ before.
    let before_x : a < x = grind (arith, nat_tests) in
    let there : (a - i) + (x - (a - i)) ≡ x = omega arith in
    later-continues look (x - (a - i)) m (c x y) (ap₂ (λ p q. c p q) (sym there) (sym row) ∙ whole.2 (x - (a - i)) (omega arith))
    (omega arith) left)
    (λ after.
    let after_x : x + n ≤ a = grind (arith, nat_tests) in
    let there : (a - i) + (x + n - (a - i)) ≡ x + n = omega arith in
    later-continues look (x + n - (a - i)) m (c (x + n) y) (ap₂ (λ p q. c p q) (sym there) (sym row) ∙ whole.2 (x + n - (a - i))
    (omega arith)) (omega arith) right))

apart : (x y n a b : ℕ) (c : Columns) (d : Column) → IsWholeAt (λ k. c k b) a d → is_continuation (c x y) ≡ false
    → is_continuation (c (x + n) y) ≡ false → run x y n a b ≡ false → is_met (run x y n) a b d ≡ false
apart x y n a b c Unknown whole left right out = refl
apart x y n a b c (Shows look i m) whole left right out = none_between (λ k. run x y n k b)
    (a - i) m (apart-at x y n a b i m look c whole left right out)

put-inside : (x y n : ℕ) (look : Look) (c : Columns) (a b : ℕ) → run x y n a b ≡ true
    → put_columns x y n look c a b ≡ Shows look (a - x) n
put-inside x y n look c a b e = rw e refl

put-outside : (x y n : ℕ) (look : Look) (c : Columns) (a b : ℕ) → IsWhole c → IsUncut x y n c → run x y n a b ≡ false
    → put_columns x y n look c a b ≡ c a b
put-outside x y n look c a b whole uncut e = rw (e, apart x y n a b c (c a b) (whole a b) uncut.left uncut.right e) refl

pub first-or-later : (x a : ℕ) (look old : Look) → x ≤ a
    → look_in (Shows look (a - x) 1) ≡ (if nat_eq a x then look else (if nat_lt x a && true && true then empty_look else old))
first-or-later x a look old low = grind (arith, nat_tests)

pub rest-same : {A : Type 0} (p q r : Bool) (look old : A) (e : A) → (p ≡ true → q ≡ false) → (p ≡ true → r ≡ false)
    → old ≡ (if p then (if q then look else (if r then e else old)) else old)
rest-same false q r look old e f g = refl
rest-same true q r look old e f g = rw (f refl, g refl) refl

-- columns and looks: the put of the cells' grids
pub put-shown : (w h x y n : ℕ) (u : Update) (c : Columns) → IsWhole c → IsUncut x y n c → u.x ≡ x → u.y ≡ y → width_of u.cell ≡ n
    → 0 < n → x + n ≤ w → y < h
    → (a b : ℕ) → look_in (put_columns x y n (look_of u.cell) c a b) ≡ put w h u (λ i j. look_in (c i j)) a b
put-shown w h x y n u c whole uncut ex ey en some fits y_in a b =
    let x_test : nat_lt x w ≡ true = grind (arith, nat_tests) in
    let y_test : nat_lt y h ≡ true = grind (arith, nat_tests) in
    rw (ex, ey, en, x_test, y_test) (
    elim (run x y n a b) as (λ p. run x y n a b ≡ p → look_in (put_columns x y n (look_of u.cell) c a b) ≡
    (if nat_eq b y then (if nat_eq a x then look_of u.cell else
    (if nat_lt x a && nat_lt a (x + n) && nat_lt a w then empty_look else look_in (c a b))) else look_in (c a b))) [
      | true ↦ λ e.
          let row : nat_eq b y ≡ true = grind (arith, nat_tests) in
          let high : nat_lt a (x + n) ≡ true = grind (arith, nat_tests) in
          let wide : nat_lt a w ≡ true = grind (arith, nat_tests) in
          ap look_in (put-inside x y n (look_of u.cell) c a b e) ∙ rw (row, high, wide)
          (first-or-later x a (look_of u.cell) (look_in (c a b)) (grind (arith, nat_tests)))
      | false ↦ λ e. ap look_in (put-outside x y n (look_of u.cell) c a b whole uncut e) ∙ rest-same (nat_eq b y) (nat_eq a x)
          (nat_lt x a && nat_lt a (x + n) && nat_lt a w) (look_of u.cell) (look_in (c a b)) empty_look
          (λ row. grind (arith, nat_tests)) (λ row. grind (arith, nat_tests))
    ] refl)

-- the columns stay sized and whole
pub put-sized : (x y n : ℕ) (look : Look) (c : Columns) → IsWhole c → IsUncut x y n c → n ≡ printed_columns look.symbol
    → HaveOwnWidths c → HaveOwnWidths (put_columns x y n look c)
put-sized x y n look c whole uncut takes sized a b =
    elim (run x y n a b) as (λ p. run x y n a b ≡ p → HasOwnWidth (put_columns x y n look c a b)) [
      | true ↦ λ e. subst HasOwnWidth (sym (put-inside x y n look c a b e)) takes
      | false ↦ λ e. subst HasOwnWidth (sym (put-outside x y n look c a b whole uncut e)) (sized a b)
    ] refl

-- a symbol that stands in all its columns stands there whole
pub shown-whole : (x y n a b : ℕ) (look : Look) (c : Columns)
    → ((k : ℕ) → run x y n k b ≡ true → c k b ≡ Shows look (k - x) n) → run x y n a b ≡ true
    → IsWholeAt (λ k. c k b) a (Shows look (a - x) n)
shown-whole x y n a b look c stands e =
    let row : b ≡ y = grind (arith, nat_tests) in
    let low : x ≤ a = grind (arith, nat_tests) in
    let high : a < x + n = grind (arith, nat_tests) in
    let index : a - x < n = omega arith in
    let first : a - x ≤ a = omega arith in (
      index,
      first,
      λ j below.
          let there : (a - (a - x)) + j ≡ x + j = omega arith in
          let inside : run x y n (x + j) b ≡ true = grind (arith, nat_tests) in
          let part : x + j - x ≡ j = omega arith in
          ap (λ k. c k b) there ∙ stands (x + j) inside ∙ ap (λ k. Shows look k n) part,
    )

whole-outside : (x y n a b : ℕ) (look : Look) (c : Columns) (d : Column) → IsWhole c → IsUncut x y n c → run x y n a b ≡ false
    → IsWholeAt (λ k. c k b) a d → IsWholeAt (λ k. put_columns x y n look c k b) a d
whole-outside x y n a b look c Unknown whole uncut e at_a = tt
whole-outside x y n a b look c (Shows other i m) whole uncut e at_a = (
  at_a.0,
  at_a.1,
  λ j below.
      put-outside x y n look c ((a - i) + j) b whole uncut (apart-at x y n a b i m other c at_a uncut.left uncut.right e
      ((a - i) + j) (omega arith) (omega arith)) ∙ at_a.2 j below,
)

pub put-whole : (x y n : ℕ) (look : Look) (c : Columns) → IsWhole c → IsUncut x y n c → IsWhole (put_columns x y n look c)
put-whole x y n look c whole uncut a b =
    elim (run x y n a b) as (λ p. run x y n a b ≡ p → IsWholeAt (λ k. put_columns x y n look c k b) a
    (put_columns x y n look c a b)) [
      | true ↦ λ e. subst (IsWholeAt (λ k. put_columns x y n look c k b) a) (sym (put-inside x y n look c a b e))
          (shown-whole x y n a b look (put_columns x y n look c) (λ k. put-inside x y n look c k b) e)
      | false ↦ λ e. subst (IsWholeAt (λ k. put_columns x y n look c k b) a) (sym (put-outside x y n look c a b whole uncut e))
          (whole-outside x y n a b look c (c a b) whole uncut e (whole a b))
    ] refl

pub put-beyond : (w x y n : ℕ) (look : Look) (c : Columns) → IsWhole c → IsUncut x y n c → x + n ≤ w → IsBlankBeyond w c
    → IsBlankBeyond w (put_columns x y n look c)
put-beyond w x y n look c whole uncut fits beyond a b out =
    let e : run x y n a b ≡ false = grind (arith, nat_tests) in
    put-outside x y n look c a b whole uncut e ∙ beyond a b out

-- whether a column lies after the first one of its symbol
pub index-later : (x a : ℕ) → (if a - x == 0 then false else true) ≡ nat_lt x a
index-later x a = grind (arith, nat_tests)

-- which columns lie after the first of their symbol
pub put-continuations : (x y n : ℕ) (look : Look) (c : Columns) → IsWhole c → IsUncut x y n c → (a b : ℕ)
    → is_continuation (put_columns x y n look c a b) ≡ (if run x y n a b then nat_lt x a else is_continuation (c a b))
put-continuations x y n look c whole uncut a b =
    elim (run x y n a b) as (λ p. run x y n a b ≡ p → is_continuation (put_columns x y n look c a b) ≡
    (if p then nat_lt x a else is_continuation (c a b))) [
      | true ↦ λ e. ap is_continuation (put-inside x y n look c a b e) ∙ index-later x a
      | false ↦ λ e. ap is_continuation (put-outside x y n look c a b whole uncut e)
    ] refl
