-- The first row of a screen takes what stands in a row below it, column by column.
use Rattle.std.proofs.Common.{◌≡◌, ℕ, ◌+◌, ◌<◌, List, ◌∷◌, [], length, get_or, map, refl, sym, ap, ◌∙◌, arith, inl, inr}
use Rattle.std.proofs.lemmas.{List.get_or-map, List.FromFn.get_or-map-range_with_len}
use Rattle.std.proofs.lemmas.{Bool.cases_lt, Bool.Decides.nat_tests}
use Rattle.rtui_cell.specs.{declared.cell.Cell.Cell, Look.look_of, Grid.Update, Grid.put}
use Rattle.rtui_backend.specs.Screen.{Screen, Draws, seen, row_of, upper_part, cursor_of}
use Rattle.printed_backend.specs.Inner.{RaisesRow}

-- its first x columns have taken it, and all else is as before but for the count of drawn items
pub record HasRaised (from end x : ℕ) (s t : Screen) : Type 0 where
  pub history : t.history ≡ s.history
  pub width : t.width ≡ s.width
  pub height : t.height ≡ s.height
  pub visible : t.visible ≡ s.visible
  pub cursor : cursor_of t ≡ cursor_of s
  pub first : (a : ℕ) → a < x → t.grid a 0 ≡ seen (upper_part end s) a from
  pub below : (a b : ℕ) → 0 < b → t.grid a b ≡ s.grid a b

pub raised-none : (from end : ℕ) (s : Screen) → HasRaised from end 0 s s
raised-none from end s = record {
  history = refl;
  width = refl;
  height = refl;
  visible = refl;
  cursor = refl;
  first = λ a before. absurd (omega (arith, before));
  below = λ a b low. refl;
}

module _ (from end x : ℕ) (s t new : Screen) (u : Update) (low : 0 < from) (column : x < s.width) (some : 0 < s.height)
    (is : HasRaised from end x s t) where
  same_seen : (a : ℕ) → seen (upper_part end t) a from ≡ seen (upper_part end s) a from
  same_seen a = rw (is.height, is.below a from low) refl

  put_below : (a b : ℕ) → u.y ≡ 0 → 0 < b → put t.width t.height u t.grid a b ≡ t.grid a b
  put_below a b row down = grind (arith, nat_tests)

  put_before : (a : ℕ) → u.x ≡ x → a < x → put t.width t.height u t.grid a 0 ≡ t.grid a 0
  put_before a at before = grind (arith, nat_tests)

  put_here : (a : ℕ) → u.x ≡ x → u.y ≡ 0 → a ≡ x → put t.width t.height u t.grid a 0 ≡ look_of u.cell
  put_here a at row here =
      let wide : x < t.width = omega (arith, is.width) in
      let high : 0 < t.height = omega (arith, is.height) in
      grind (arith, nat_tests)

  -- one column more
  pub raised-more : u.x ≡ x → u.y ≡ 0 → look_of u.cell ≡ seen (upper_part end t) x from → Draws t (u ∷ []) new
      → cursor_of new ≡ cursor_of t → HasRaised from end (x + 1) s new
  raised-more at row look draws cursor = record {
    history = draws.history ∙ is.history;
    width = draws.width ∙ is.width;
    height = draws.height ∙ is.height;
    visible = draws.visible ∙ is.visible;
    cursor = cursor ∙ is.cursor;
    first = λ a before. elim (cases_lt a x) [
      | inl left ↦ draws.grid a 0 ∙ put_before a at left ∙ is.first a left
      | inr right ↦ let here : a ≡ x = omega arith in
          draws.grid a 0 ∙ put_here a at row here ∙ look ∙ same_seen x ∙ ap (λ c. seen (upper_part end s) c from) (sym here)
    ];
    below = λ a b down. draws.grid a b ∙ put_below a b row down ∙ is.below a b down;
  }

-- the whole row was taken, and the count is as before
pub raised-all : (from end : ℕ) (s t : Screen) → HasRaised from end s.width s t
    → RaisesRow from end s (record t { written = s.written })
raised-all from end s t is =
    let x : t.cursor_x ≡ s.cursor_x = ap (λ p. p.x) is.cursor in
    let y : t.cursor_y ≡ s.cursor_y = ap (λ p. p.y) is.cursor in
    record {
      rest = rw (is.history, is.width, is.height, is.visible, x, y) refl;
      first = is.first;
      below = is.below;
    }

-- a cell of a row of the screen
pub at_column : (s : Screen) (cells : List Cell) (c d : Cell) (x y : ℕ) → map look_of cells ≡ row_of s y
    → c ≡ get_or cells x d → x < length cells → x < s.width → look_of c ≡ seen s x y
at_column s cells c d x y row is fits column =
    ap look_of is ∙ sym (get_or-map look_of cells x d (look_of d) fits) ∙ ap (λ looks. get_or looks x (look_of d)) row
    ∙ get_or-map-range_with_len (λ a. seen s a y) 0 s.width x x (look_of d) column (omega arith)
