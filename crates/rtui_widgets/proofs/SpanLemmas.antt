-- How rendering goes on, a grapheme at a time.
use Rattle.std.proofs.Common.{◌≡◌, ◌≢◌, ℕ, suc, zero, ◌+◌, ◌-◌, ◌<◌, ◌≤◌, ◌⊎◌, ⊎_elim, inl, inr, Bool, true, false, cond, List}
use Rattle.std.proofs.Common.{[], ◌∷◌, ◌++◌, length, map, take, drop, get_or, set, refl, sym, ap, subst, ◌∙◌, arith, append_assoc}
use Rattle.std.proofs.Common.{take-append-drop, ◌||◌, ◌&&◌, nat_lt, Some, if◌then◌else◌}
use Rattle.std.specs.Prelude.{unwrap_or}
use Rattle.std.specs.List.{concat}
use Rattle.std.proofs.lemmas.{Bool.cases_lt, Bool.cases_eq, Bool.cond_both, Bool.Decides.nat_tests}
use borrow.Rule.Slice.PartMut.{put_mid}
use Rattle.std.proofs.lemmas.List.{append-nil, get_or-set_other, get_or-set_same, length-set, ext_get_or}
use Rattle.unicode_segmentation.specs.Grapheme.{graphemes}
use Rattle.rtui_cell.specs.{declared.cell.Cell.Cell, Cell.empty_cell, Cell.IsUnmarked, Cell.styled, Symbol.appended}
use Rattle.rtui_cell.specs.{Symbol.IsShort, Width.text_width}
use Rattle.rtui_diff.specs.Cells.{cell}
use Rattle.rtui_style.specs.declared.Style.{Style}
use Rattle.rtui_text.specs.Graphemes.{has_control}
use Rattle.rtui_buffer.specs.Painting.{fitting, KeepsUnmarked}
use Rattle.rtui_buffer.specs.Painted.{emptied}
use Rattle.rtui_widgets.specs.Span.{showing, goes_to, those_at, is_behind, column_with, columns_from, graphemes_rendered}
use Rattle.rtui_widgets.specs.Span.{span_rendered, IsShortSpan}
use Rattle.rtui_widgets.specs.Refused.{HasFrontOfSpan}
use Rattle.rtui_widgets.specs.Inner.{with_appended, with_grapheme, with_next, next_symbol}
use Rattle.rtui_widgets.proofs.ColumnLemmas.{end_of_those, end-append, those_at-far, is_behind-far, reached, first_reached}
use Rattle.rtui_widgets.proofs.ColumnLemmas.{front-no_longer, symbol-here, column-behind, column-other, column-set, column-append}
use Rattle.rtui_buffer.proofs.{PaintedLemmas.emptied-inside, PaintedLemmas.emptied-outside, PaintLemmas.unmarked-refl}
use Rattle.rtui_buffer.proofs.{PaintLemmas.unmarked-set, PaintLemmas.unmarked-emptied}

pub rendered-nothing : (s : Style) (text : List ℕ) (row : List Cell) → length row ≡ 0 → row ≡ span_rendered s text row
unfolding span_rendered columns_from
rendered-nothing s text [] e = refl
rendered-nothing s text (c ∷ cs) e = absurd (omega arith)

-- ---- the graphemes that are showing

pub showing-nil : (room : ℕ) → showing room [] ≡ []
unfolding showing fitting
showing-nil room = refl

pub showing-skip : (room : ℕ) (g : List ℕ) (gs : List (List ℕ)) → has_control g ≡ true → showing room (g ∷ gs) ≡ showing room gs
unfolding showing
showing-skip room g gs h = rw h

pub showing-take : (room : ℕ) (g : List ℕ) (gs : List (List ℕ)) → has_control g ≡ false → text_width g ≤ room
    → showing room (g ∷ gs) ≡ g ∷ showing (room - text_width g) gs
unfolding showing fitting
showing-take room g gs h le = rw h (grind (arith, nat_tests))

pub showing-full : (room : ℕ) (g : List ℕ) (gs : List (List ℕ)) → has_control g ≡ false → room < text_width g
    → showing room (g ∷ gs) ≡ []
unfolding showing fitting
showing-full room g gs h lt = rw h (grind (arith, nat_tests))

-- ---- the row as a whole

-- the row with these graphemes, column by column
pub record IsRowWith (style : Style) (gs : List (List ℕ)) (old new : List Cell) : Type 0 where
  pub count : length new ≡ length old
  pub columns : (k : ℕ) → k < length old → cell new k ≡ column_with style gs k (cell old k)

length-columns_from : (f : ℕ → Cell → Cell) (j : ℕ) (row : List Cell) → length (columns_from f j row) ≡ length row
unfolding columns_from
length-columns_from f j [] = refl
length-columns_from f j (c ∷ cs) = ap suc (length-columns_from f (j + 1) cs)

get_or-columns_from : (f : ℕ → Cell → Cell) (j k : ℕ) (row : List Cell) → k < length row
    → get_or (columns_from f j row) k empty_cell ≡ f (j + k) (get_or row k empty_cell)
unfolding columns_from
get_or-columns_from f j k [] lt = absurd (omega arith)
get_or-columns_from f j zero (c ∷ cs) lt = let e : j + 0 ≡ j = omega arith in rw e
get_or-columns_from f j (suc k) (c ∷ cs) lt =
    let e : j + 1 + k ≡ j + suc k = omega arith in
    get_or-columns_from f (j + 1) k cs (omega arith) ∙ ap (λ n. f n (get_or cs k empty_cell)) e

-- a span fills no more than its row
pub length-span_rendered : (s : Style) (text : List ℕ) (row : List Cell) → length (span_rendered s text row) ≡ length row
unfolding span_rendered
length-span_rendered s text row = length-columns_from (column_with s (showing (length row) (graphemes true text))) 0 row

IsRowWith-row : (s : Style) (gs : List (List ℕ)) (old new : List Cell) → IsRowWith s gs old new
    → new ≡ columns_from (column_with s gs) 0 old
IsRowWith-row s gs old new h =
    ext_get_or empty_cell new (columns_from (column_with s gs) 0 old)
    (h.count ∙ sym (length-columns_from (column_with s gs) 0 old))
    (λ k lt.
    let lt2 : k < length old = omega (arith, h.count) in
    h.columns k lt2 ∙ sym (get_or-columns_from (column_with s gs) 0 k old lt2
    ∙ ap (λ n. column_with s gs n (get_or old k empty_cell)) (let e : 0 + k ≡ k = omega arith in e)))

-- ---- a turn of the loop

set-cases : (b : Bool) (x w : ℕ) → (b || (nat_lt 0 x && nat_lt 0 w)) ≡ true → (b ≡ true) ⊎ ((0 < x) × (0 < w))
set-cases true x w e = inl refl
set-cases false x w e = inr (grind (arith, nat_tests), grind (arith, nat_tests))

append-cases : (b : Bool) (x w : ℕ) → (b || (nat_lt 0 x && nat_lt 0 w)) ≡ false → (b ≡ false) × ((x ≡ 0) ⊎ ((0 < x) × (w ≡ 0)))
append-cases true x w e = cc
append-cases false x w e =
    (refl, ⊎_elim (λ (a : 0 < x). inr (a, grind (arith, nat_tests))) (λ (a : x ≤ 0). inl (omega arith)) (cases_lt 0 x))

symbol-cases : (s : Style) (g : List ℕ) (c : Cell) (b : Bool)
    → (cond b (with_grapheme s g c) (with_appended s g c)).symbol ≡ Some (cond b g (appended c.symbol g))
symbol-cases s g c true = refl
symbol-cases s g c false = refl

append-some : (gs : List (List ℕ)) (g : List ℕ) → gs ++ g ∷ [] ≢ []
append-some [] g e = cc
append-some (h ∷ gs) g e = cc

-- these graphemes stand in a row, and the others of the text are left for the columns from x on
pub record HasShown (s : Style) (text : List ℕ) (x : ℕ) (is_first : Bool) (left : List (List ℕ))
    (old row : List Cell) : Type 0 where
  pub gs : List (List ℕ)
  pub ends : x ≡ end_of_those 0 gs
  pub first : is_first ≡ true → gs ≡ []
  pub later : is_first ≡ false → gs ≢ []
  pub front : gs ++ showing (length row - x) left ≡ showing (length old) (graphemes true text)
  pub columns : IsRowWith s gs old row

pub shown-none : (s : Style) (text : List ℕ) (row : List Cell) → HasShown s text 0 true (graphemes true text) row row
unfolding those_at is_behind end_of_those
shown-none s text row = record {
  gs = [];
  ends = refl;
  first = λ _. refl;
  later = λ (e : true ≡ false). cc;
  front = ap (λ n. showing n (graphemes true text)) (omega arith);
  columns = record { count = refl; columns = λ k lt. refl };
}

module _ (s : Style) (text : List ℕ) (x : ℕ) (is_first : Bool) (left : List (List ℕ)) (old row : List Cell)
    (h : HasShown s text x is_first left old row) where
  rendered : row ≡ graphemes_rendered s h.gs old
  rendered = IsRowWith-row s h.gs old row h.columns

  pub shown-first : is_first ≡ true → x ≡ 0
  unfolding end_of_those
  shown-first f = h.ends ∙ rw (h.first f) refl

  -- no more of the text shows
  shown-whole : showing (length row - x) left ≡ [] → row ≡ span_rendered s text old
  unfolding span_rendered
  shown-whole none = rendered ∙ ap (λ gs. graphemes_rendered s gs old) (sym (append-nil h.gs) ∙ ap (λ gs. h.gs ++ gs) (sym none)
      ∙ h.front)

  pub shown-end : left ≡ [] → row ≡ span_rendered s text old
  shown-end none = shown-whole (rw (none, showing-nil) refl)

  -- memory was refused
  pub shown-refused : HasFrontOfSpan s text old row
  shown-refused = record { front = h.gs; is = record { others = _; is = sym h.front }; row = rendered }

  -- the next grapheme: it isn't shown
  module _ (g : List ℕ) (rest : List (List ℕ)) (is : left ≡ g ∷ rest) where
    pub shown-skip : has_control g ≡ true → HasShown s text x is_first rest old row
    shown-skip control = record {
      gs = h.gs;
      ends = h.ends;
      first = h.first;
      later = h.later;
      front = ap (λ gs. h.gs ++ gs) (sym (ap (showing _) is ∙ showing-skip _ g rest control)) ∙ h.front;
      columns = h.columns;
    }

    -- it doesn't fit
    pub shown-full : has_control g ≡ false → length row - x < text_width g → row ≡ span_rendered s text old
    shown-full plain lt = shown-whole (ap (showing _) is ∙ showing-full _ g rest plain lt)

    -- it goes to its column
    module _ (plain : has_control g ≡ false) (fits : text_width g ≤ length row - x) (within : x ≤ length row)
        (some : 0 < length row) where
      abbrev is_set : Bool
      is_set = is_first || (nat_lt 0 x && nat_lt 0 (text_width g))

      abbrev place : ℕ
      place = goes_to x g

      abbrev former : Cell
      former = get_or row place empty_cell

      abbrev put : Bool → Cell
      put b = cond b (with_grapheme s g former) (with_appended s g former)

      count : length row ≡ length old
      count = h.columns.count

      ends : x ≡ end_of_those 0 h.gs
      ends = h.ends

      place-le : place ≤ x
      place-le = grind (arith, nat_tests)

      place-lt : place < length old
      place-lt = grind (arith, nat_tests, count)

      far : (0 < x) × (0 < text_width g) → (end_of_those 0 h.gs ≤ place) × (0 < place)
      far w = (grind (arith, nat_tests, ends, w.0, w.1), grind (arith, nat_tests, w.0, w.1))

      near : (0 < x) × (text_width g ≡ 0) → place < end_of_those 0 h.gs
      near w = grind (arith, nat_tests, ends, w.0, w.1)

      start : x ≡ 0 → place ≡ 0
      start z = grind (arith, nat_tests, z)

      -- the column that it goes to
      own : (b : Bool) → is_set ≡ b → put b ≡ column_with s (h.gs ++ g ∷ []) place (get_or old place empty_cell)
      unfolding those_at is_behind
      own true e =
          let fresh = λ (none : those_at place 0 h.gs ≡ []) (open_ : is_behind place 0 h.gs ≡ false).
          ap (with_grapheme s g) (h.columns.columns place place-lt)
          ∙ sym (column-set s h.gs g x place (get_or old place empty_cell) h.ends refl none open_) in
          elim (set-cases is_first x (text_width g) e) [
            | inl f ↦ fresh (rw (h.first f)) (rw (h.first f))
            | inr w ↦ fresh (those_at-far place 0 h.gs (far w).0 (far w).1) (is_behind-far place 0 h.gs (far w).0)
          ]
      own false e =
          let at = append-cases is_first x (text_width g) e in
          ap (with_appended s g) (h.columns.columns place place-lt)
          ∙ sym (column-append s h.gs g x place (get_or old place empty_cell) h.ends refl (λ open_. elim at.1 [
            | inl z ↦ rw (start z) (first_reached h.gs (h.later at.0))
            | inr w ↦ reached place 0 h.gs (omega arith) (near w) open_
          ]))

      -- each column of the row
      turned : IsRowWith s (h.gs ++ g ∷ []) old (with_next is_first x s g row)
      unfolding with_next
      turned =
          let cells : List Cell = set row place (put is_set) in
          let outside = emptied-outside (x + 1) (text_width g - 1) cells in
          let len : length cells ≡ length row = length-set row place (put is_set) in
          let place_lt = place-lt in let place_le = place-le in let same = count in
          record {
            count = outside.count ∙ len ∙ same;
            columns = λ k lt.
                let clear : (k ≤ x) ⊎ (x + text_width g ≤ k)
                → cell (emptied (x + 1) (text_width g - 1) cells) k ≡ column_with s (h.gs ++ g ∷ []) k (cell old k) = λ out.
                elim (cases_lt x k) [ inl after ↦ outside.behind k (omega arith) | inr upto ↦ outside.before k (omega arith) ]
                ∙ elim (cases_eq k place) [
                  | inl here ↦ rw here (get_or-set_same row place (put is_set) empty_cell (omega arith) ∙ own is_set refl)
                  | inr ne ↦
                      get_or-set_other row place k (put is_set) empty_cell ne ∙ h.columns.columns k lt
                      ∙ sym (column-other s h.gs g x k (get_or old k empty_cell) h.ends ne out)
                ] in
                elim (cases_lt x k) [
                  | inl after ↦ elim (cases_lt k (x + text_width g)) [
                    | inl hidden ↦
                        emptied-inside (x + 1) (text_width g - 1) k cells (omega arith) (omega arith) (omega arith)
                        ∙ sym (column-behind s h.gs g x k (get_or old k empty_cell) h.ends after hidden)
                    | inr past ↦ clear (inr past)
                  ]
                  | inr upto ↦ clear (inl upto)
                ];
          }

      front-more : (h.gs ++ g ∷ []) ++ showing (length row - (x + text_width g)) rest ≡ showing (length old) (graphemes true text)
      front-more =
          let less : length row - (x + text_width g) ≡ length row - x - text_width g = omega arith in
          rw less (append_assoc h.gs (g ∷ []) _ ∙ ap (λ gs. h.gs ++ gs)
          (sym (ap (showing _) is ∙ showing-take _ g rest plain fits)) ∙ h.front)

      pub shown-turn : HasShown s text (x + text_width g) false rest old (with_next is_first x s g row)
      shown-turn = record {
        gs = h.gs ++ g ∷ [];
        ends = sym (end-append 0 h.gs g ∙ ap (λ n. n + text_width g) (sym h.ends));
        first = λ (e : false ≡ true). cc;
        later = λ _. append-some h.gs g;
        front = rw (turned.count ∙ sym count) front-more;
        columns = turned;
      }

      -- its column's symbol is what goes there, joined; so it is short if each column's join is
      pub shown-short : IsShortSpan (length old) text → IsShort (next_symbol is_first x g row)
      shown-short short =
          let joined : next_symbol is_first x g row ≡ concat (those_at place 0 (h.gs ++ g ∷ [])) =
          ap (λ t. unwrap_or t []) (sym (symbol-cases s g former is_set) ∙ ap (λ (c : Cell). c.symbol) (own is_set refl)
          ∙ symbol-here s h.gs g x place (get_or old place empty_cell) h.ends refl) in
          let le = front-no_longer place (h.gs ++ g ∷ []) _ _ front-more in
          let all = short place place-lt in
          rw joined (omega arith)

pub ruleset span_steps = (rendered-nothing)

-- ---- no cell gets an option or the flag

next-keeps : (b : Bool) (style : Style) (g : List ℕ) (c : Cell) → IsUnmarked c
    → IsUnmarked (if b then with_grapheme style g c else with_appended style g c)
next-keeps b style g c w = cond_both b _ _ IsUnmarked (λ _. record { option = w.option; flag = w.flag })
    (λ _. record { option = w.option; flag = w.flag })

pub unmarked-next : (is_first : Bool) (x : ℕ) (style : Style) (g : List ℕ) (old new : List Cell) → KeepsUnmarked old new
    → KeepsUnmarked old (with_next is_first x style g new)
unfolding with_next
unmarked-next is_first x style g old new h =
    unmarked-emptied (x + 1) (text_width g - 1) old _
    (record {
      at = λ k u. unmarked-set new (goes_to x g) _
          (next-keeps (is_first || (nat_lt 0 x && nat_lt 0 (text_width g))) style g _) k (h.at k u);
    })

styled-keeps : (s : Style) (cells : List Cell) (k : ℕ) → IsUnmarked (cell cells k) → IsUnmarked (cell (map (styled s) cells) k)
styled-keeps s [] k u = u
styled-keeps s (x ∷ xs) zero u = record { option = u.option; flag = u.flag }
styled-keeps s (x ∷ xs) (suc k) u = styled-keeps s xs k u

pub unmarked-styled : (s : Style) (cells : List Cell) → KeepsUnmarked cells (map (styled s) cells)
unmarked-styled s cells = record { at = styled-keeps s cells }

-- lists of one length and what follows them
unmarked-append : (xs ys zs ws : List Cell) → length ys ≡ length xs → KeepsUnmarked xs ys → KeepsUnmarked zs ws → (k : ℕ)
    → IsUnmarked (cell (xs ++ zs) k) → IsUnmarked (cell (ys ++ ws) k)
unmarked-append [] [] zs ws e h g k u = g.at k u
unmarked-append [] (y ∷ ys) zs ws e h g k u = absurd (omega arith)
unmarked-append (x ∷ xs) [] zs ws e h g k u = absurd (omega arith)
unmarked-append (x ∷ xs) (y ∷ ys) zs ws e h g zero u = h.at zero u
unmarked-append (x ∷ xs) (y ∷ ys) zs ws e h g (suc k) u = unmarked-append xs ys zs ws (omega arith)
    (record { at = λ j v. h.at (suc j) v }) g k u

pub unmarked-written : (at n : ℕ) (cells part : List Cell) → KeepsUnmarked (take n (drop at cells)) part
    → length part ≡ length (take n (drop at cells)) → KeepsUnmarked cells (put_mid at n cells part)
unmarked-written at n cells part h e =
    let front = take at cells in let mid = take n (drop at cells) in let rest = drop n (drop at cells) in
    let whole : front ++ (mid ++ rest) ≡ cells = ap (λ xs. front ++ xs) (take-append-drop n (drop at cells))
    ∙ take-append-drop at cells in
    subst (λ xs. KeepsUnmarked xs (put_mid at n cells part)) whole
    (record {
      at = unmarked-append front front (mid ++ rest) (part ++ rest) refl (unmarked-refl front)
          (record { at = unmarked-append mid part rest rest e h (unmarked-refl rest) });
    })
