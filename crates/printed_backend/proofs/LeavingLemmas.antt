-- Rows that leave the screen, and how it scrolls.
use Rattle.std.proofs.Common.{◌≡◌, ◌⊎◌, Bool, ℕ, ◌+◌, ◌-◌, ◌<◌, ◌≤◌, min, List, [], ◌∷◌, ◌++◌, map}
use Rattle.std.proofs.Common.{nat_lt, true, false, ◌==◌, if◌then◌else◌, refl, sym, ap, subst, ◌∙◌, arith, append_assoc, inl, inr}
use Rattle.std.specs.List.{flat_map, range_with_len}
use Rattle.std.proofs.lemmas.{List.append-nil, List.map-append, List.FromFn.map-range_with_len_more, Grind.flat_map-append}
use Rattle.std.proofs.lemmas.{Bool.cases_lt, Bool.Decides.nat_tests}
use Rattle.rtui_cell.specs.{declared.cell.Cell.Cell, Look.Look, Look.look_of, Look.empty_look}
use Rattle.rtui_backend.specs.Screen.{Screen, Motion, ScrollsRegion, ScrollsUp, Scrolls, Appends, cursor_of, with_cursor}
use Rattle.rtui_backend.specs.Screen.{row_of, upper_part, rows_above, scrolling_up, moved_by, lines_past, IsOnGrid}
use Rattle.printed_backend.specs.Inner.{RaisesRow, ScrollsFront, rows_leaving}
use Rattle.printed_backend.proofs.DrawingLemmas.{below}

-- rows of a screen's first ones
pub row_within : (s : Screen) (end b : ℕ) → end ≤ s.height → b < end → row_of (upper_part end s) b ≡ row_of s b
row_within s end b fits within =
    let here : nat_lt b (min end s.height) ≡ true = grind (arith, nat_tests) in
    let there : nat_lt b s.height ≡ true = grind (arith, nat_tests) in
    rw (here, there) refl

pub row_past : (s : Screen) (end b : ℕ) → end ≤ b
    → row_of (upper_part end s) b ≡ map (λ a. empty_look) (range_with_len 0 s.width)
row_past s end b past =
    let here : nat_lt b (min end s.height) ≡ false = grind (arith, nat_tests) in
    rw here refl

-- one row more leaves
pub leaving_more : (end b : ℕ) (s : Screen)
    → rows_leaving end (b + 1) s ≡ rows_leaving end b s ++ row_of (upper_part end s) b ∷ []
leaving_more end b s = map-range_with_len_more (row_of (upper_part end s)) 0 b b (omega arith)

pub text_more : (print : List Look → List ℕ) (old text : List ℕ) (rows : List (List Look)) (row : List Look)
    → text ≡ old ++ flat_map print rows → text ++ print row ≡ old ++ flat_map print (rows ++ row ∷ [])
text_more print old text rows row is =
    let last : flat_map print (row ∷ []) ≡ print row = append-nil (print row) in
    rw (is, flat_map-append print rows (row ∷ []), last) (append_assoc old (flat_map print rows) (print row))

pub looks_more : (cells : List (List Cell)) (row : List Cell) (olds news : List (List Look))
    → map (map look_of) cells ≡ olds ++ news
    → map (map look_of) (cells ++ row ∷ []) ≡ olds ++ (news ++ map look_of row ∷ [])
looks_more cells row olds news is =
    map-append (map look_of) cells (row ∷ []) ∙ ap (λ xs. xs ++ map look_of row ∷ []) is
    ∙ append_assoc olds news (map look_of row ∷ [])

-- what stands on the screen after both
front_grid : (end n : ℕ) (s r : Screen) → 0 < end → end ≤ s.height → r.height ≡ s.height → RaisesRow n end s r → (x y : ℕ)
    → x < s.width → moved_by (scrolling_up 1 (min end r.height) n) empty_look r.grid x y
    ≡ moved_by (scrolling_up 0 (min end s.height) n) empty_look s.grid x y
front_grid end n s r some fits high raises x y x_in = elim (cases_lt 0 y) [
  | inl down ↦
      let here = raises.below x y down in
      let there = raises.below x (y + n) (omega arith) in
      grind (arith, nat_tests)
  | inr top ↦
      let zero_row : y ≡ 0 = omega arith in
      let more : 0 + n ≡ n = omega arith in
      let here = raises.first x x_in in
      rw (zero_row, more) (grind (arith, nat_tests))
]

-- the first row was raised, and then the rows below it scrolled
pub front_scrolled : (end n : ℕ) (s r t : Screen) → 0 < end → end ≤ s.height → RaisesRow n end s r
    → ((x y : ℕ) → x < r.width → y < r.height
    → t.grid x y ≡ moved_by (scrolling_up 1 (min end r.height) n) empty_look r.grid x y)
    → t.history ≡ rows_above (upper_part end s) n → t.width ≡ r.width → t.height ≡ r.height → t.visible ≡ r.visible
    → t.written ≡ r.written → cursor_of t ≡ cursor_of r → ScrollsFront end n s t
front_scrolled end n s r t some fits raises moved history width height visible written cursor =
    let rest = raises.rest in
    let w : r.width ≡ s.width = ap (λ (z : Screen). z.width) rest in
    let h : r.height ≡ s.height = ap (λ (z : Screen). z.height) rest in
    record {
      scrolled = record {
        history = history;
        width = width ∙ w;
        height = height ∙ h;
        visible = visible ∙ ap (λ (z : Screen). z.visible) rest;
        written = written ∙ ap (λ (z : Screen). z.written) rest;
        no_rows = λ none. absurd (omega (arith, none));
        grid = λ x y x_in y_in. moved x y (omega (arith, w)) (omega (arith, h))
            ∙ front_grid end n s r some fits h raises x y x_in;
      };
      cursor = cursor ∙ ap cursor_of rest;
    }

module _ (s : Screen) where
  kept_rows : (c : Bool) → s.history ≡ (if c then s.history ++ [] else s.history)
  kept_rows true = sym (append-nil s.history)
  kept_rows false = refl

  kept_grid : (e x y : ℕ) → s.grid x y ≡ moved_by (scrolling_up 0 e 0) empty_look s.grid x y
  kept_grid e x y =
      let more : y + 0 ≡ y = omega arith in
      elim (cases_lt y e) [
        | inl within ↦ grind (arith, nat_tests)
        | inr past ↦ grind (arith, nat_tests)
      ]

  pub none_scrolled : Scrolls s 0 s
  none_scrolled = record {
    history = sym (append-nil s.history);
    width = refl;
    height = refl;
    visible = refl;
    written = refl;
    grid = λ a b a_in b_in. grind (arith, nat_tests);
  }

  -- all rows scrolled
  pub all_scrolled : (n : ℕ) (t : Screen) → ScrollsFront s.height n s t → Scrolls s n t
  all_scrolled n t front =
      let whole : min s.height s.height ≡ s.height = omega arith in
      let is = front.scrolled in
      record {
        history = rw whole at is.history;
        width = is.width;
        height = is.height;
        visible = is.visible;
        written = is.written;
        grid = λ a b a_in b_in. is.grid a b a_in b_in ∙ grind (arith, nat_tests);
      }

  moved_then : (k x y : ℕ) (t : Screen) → Scrolls s k t → Scrolls s k (with_cursor x y t)
  moved_then k x y t is = record {
    history = is.history;
    width = is.width;
    height = is.height;
    visible = is.visible;
    written = is.written;
    grid = is.grid;
  }

  -- and then the cursor went to its row
  pub appended : (n k x y : ℕ) (t : Screen) → k ≡ lines_past s n → Scrolls s k t
      → min y (t.height - 1) ≡ min (s.cursor_y + n) (s.height - 1) → 0 < s.height → Appends s n (with_cursor x y t)
  appended n k x y t past is row some = record {
    scrolled = subst (λ m. Scrolls s m (with_cursor x y t)) past (moved_then k x y t is);
    row = row;
    no_rows = λ none. absurd (omega (arith, none));
  }

  -- a screen without rows
  pub appended-none : (n : ℕ) → s.height ≡ 0 → IsOnGrid s → Appends s n s
  appended-none n none on =
      let past : lines_past s n ≡ 0 = grind (arith, nat_tests) in
      record {
        scrolled = rw past none_scrolled;
        row = omega (arith, on.cursor_y, none);
        no_rows = λ _. refl;
      }

  -- a region at the top scrolled
  pub region_scrolled : (b n : ℕ) (t : Screen) → 0 < min b s.height → ScrollsFront (min b s.height) n s t → ScrollsUp 0 b n s t
  region_scrolled b n t some front =
      let same : min (min b s.height) s.height ≡ min b s.height = omega arith in
      let test : nat_lt 0 (min b s.height) ≡ true = grind (arith, nat_tests) in
      let is = front.scrolled in
      record {
        history = rw test (rw same at is.history);
        width = is.width;
        height = is.height;
        visible = is.visible;
        written = is.written;
        grid = rw same at is.grid;
        no_rows = λ none. absurd (omega (arith, none));
      }

  -- nothing scrolled
  pub region_kept : (b n : ℕ) → (min b s.height ≡ 0) ⊎ (n ≡ 0) → ScrollsUp 0 b n s s
  region_kept b n (inl none) =
      let test : nat_lt 0 (min b s.height) ≡ false = grind (arith, nat_tests) in
      record {
        history = rw test refl;
        width = refl;
        height = refl;
        visible = refl;
        written = refl;
        grid = λ x y x_in y_in. grind (arith, nat_tests);
        no_rows = λ _. refl;
      }
  region_kept b n (inr still) = rw still (record {
    history = kept_rows (nat_lt 0 (min b s.height));
    width = refl;
    height = refl;
    visible = refl;
    written = refl;
    grid = λ x y x_in y_in. kept_grid (min b s.height) x y;
    no_rows = λ _. refl;
  })

-- regions below the first row, or that go down, keep the rows that scrolled off
pub region_below : (motion : ℕ → ℕ → ℕ → Motion) (a b n : ℕ) (above : List (List Look)) (count : ℕ) (s t : Screen)
    → ScrollsRegion motion a b n s.history s t → ScrollsRegion motion a b n above (below above count s) (below above count t)
region_below motion a b n above count s t is = record {
  history = refl;
  width = is.width;
  height = is.height;
  visible = is.visible;
  written = refl;
  grid = is.grid;
  no_rows = λ none. ap (below above count) (is.no_rows none);
}

pub lower_scrolled : (a b n : ℕ) (above : List (List Look)) (count : ℕ) (s t : Screen) → 0 < a → ScrollsUp a b n s t
    → ScrollsUp a b n (below above count s) (below above count t)
lower_scrolled a b n above count s t low is =
    let test : (a == 0) ≡ false = grind (arith, nat_tests) in
    rw test (region_below scrolling_up a b n above count s t (rw test at is))

-- where the cursor's row goes, and how many rows that scrolls
module _ (s : Screen) (n h y : ℕ) (high : h ≡ s.height) (at : y ≡ s.cursor_y) (some : h ≡ 0 → ⊥) (on : IsOnGrid s) where
  pub past_some : h - 1 - y < n → n - (h - 1 - y) ≡ lines_past s n
  past_some past =
      let inside = on.cursor_y in
      let test : nat_lt 0 s.height ≡ true = grind (arith, nat_tests) in
      rw test (omega arith)

  pub past_none : n ≤ h - 1 - y → 0 ≡ lines_past s n
  past_none room =
      let inside = on.cursor_y in
      let test : nat_lt 0 s.height ≡ true = grind (arith, nat_tests) in
      rw test (omega arith)

  pub row_moved : (t : Screen) → t.height ≡ s.height
      → min (y + min n (h - 1 - y)) (t.height - 1) ≡ min (s.cursor_y + n) (s.height - 1)
  row_moved t same = let inside = on.cursor_y in omega arith
