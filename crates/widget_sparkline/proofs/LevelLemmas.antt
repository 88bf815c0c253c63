-- The symbols of levels, and what holds of each of them.
use Rattle.std.proofs.Common.{◌≡◌, ℕ, zero, suc, ◌+◌, ◌-◌, ◌%◌, ◌<◌, ◌≤◌, List, [], ◌∷◌, All, slice_index_or, lit<}
use Rattle.std.proofs.Common.{⊎_elim, sym, ap, ◌∙◌, arith}
use Rattle.std.proofs.lemmas.{List.Elements.All-head, List.Elements.All-tail, Bool.cases_lt, Bool.Decides.nat_tests}
use Rattle.ratatui_core.specs.{Layout.Rect}
use Rattle.ratatui_core.specs.{Symbols.bar_texts, declared.symbols.bar.Set.Set as BarSet}
use Rattle.widget_sparkline.specs.{Levels.left_at, Levels.row_from_below, Levels.level_text, Levels.level_in, declared.fill.Block.Block}
use Rattle.widget_sparkline.specs.Inner.{text_of_row, level_row, full_row}

-- what holds of each element and of another one holds of the one at a place
nth-any : (P : List ℕ → Type 0) (ts : List (List ℕ)) (n : ℕ) (d : List ℕ) → All P ts → P d → P (slice_index_or ts n d)
nth-any P [] n d all e = e
nth-any P (t ∷ ts) zero d all e = All-head P t ts all
nth-any P (t ∷ ts) (suc n) d all e = nth-any P ts n d (All-tail P t ts all) e

-- what holds of each symbol of a set holds of a level's
pub level-any : (P : List ℕ → Type 0) (set : BarSet) (n : ℕ) → All P (bar_texts set) → P (level_text set n)
level-any P set n all = nth-any P (bar_texts set) (8 - n) set.full.now all (all 0 [] (lit< tt))

-- the texts of rows by two rows
text-above : (m n : ℕ) (above within below : List ℕ) (b : ℕ) → b < m → text_of_row m n above within below b ≡ above
text-above m n above within below b lt = grind (arith, nat_tests)

text-within : (m n : ℕ) (above within below : List ℕ) (b : ℕ) → m ≤ b → b < n → text_of_row m n above within below b ≡ within
text-within m n above within below b from to = grind (arith, nat_tests)

text-below : (m n : ℕ) (above within below : List ℕ) (b : ℕ) → m ≤ b → n ≤ b → text_of_row m n above within below b ≡ below
text-below m n above within below b from past = grind (arith, nat_tests)

-- the text of a row among those of a level, by the rows that the bar fills
module _ (set : BarSet) (eighths : ℕ) (r : Rect) (first : ℕ) (k : Block) (y : ℕ) (shown_first : first ≤ y)
    (shown_top : k.top ≤ y - first) (shown_bottom : y - first < k.bottom) (area_top : r.y ≤ y)
    (area_bottom : y < r.y + r.height) where
  abbrev m : ℕ
  m = level_row eighths r first k

  abbrev n : ℕ
  n = full_row eighths r first k

  pub level-of-row : text_of_row m n set.empty.now (level_text set (eighths % 8)) set.full.now (y - first)
      ≡ level_in set r eighths y
  level-of-row = ⊎_elim
      (λ (up : y - first < m).
      let none : left_at eighths (row_from_below r y) ≡ 0 = omega arith in
      text-above m n _ _ _ (y - first) up ∙ sym (ap (level_text set) none))
      (λ (from : m ≤ y - first).
      ⊎_elim
      (λ (at : y - first < n).
      let some : left_at eighths (row_from_below r y) ≡ eighths % 8 = omega arith in
      text-within m n _ _ _ (y - first) from at ∙ sym (ap (level_text set) some))
      (λ (past : n ≤ y - first).
      let all : left_at eighths (row_from_below r y) ≡ 8 = omega arith in
      text-below m n _ _ _ (y - first) from past ∙ sym (ap (level_text set) all))
      (cases_lt (y - first) n))
      (cases_lt (y - first) m)
