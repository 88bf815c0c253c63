-- Letters one beside the other, and lines one below the other.
use Rattle.std.proofs.Common.{◌≡◌, ℕ, suc, ◌+◌, ◌-◌, ◌*◌, ◌/◌, ◌%◌, ◌<◌, ◌≤◌, nat_lt, true, false, List, [], ◌∷◌}
use Rattle.std.proofs.Common.{Option, length, drop, Some, slice_get, refl, sym, ap, ◌∙◌, arith}
use Rattle.std.proofs.Math.ListN.{get_or}
use Rattle.std.proofs.lemmas.{Bool.Decides.nat_tests, List.drop_more}
use Rattle.std.proofs.Math.Nat.{div-eq_of_lt, mod-eq_of_lt, add-div_right, add-mod_right}
use Rattle.ratatui_core.specs.Layout.{Rect}
use Rattle.ratatui_core.specs.Text.{LineData, GraphemeData}
use Rattle.ratatui_core.specs.Buffer.{BufferData, ChangesEach}
use Rattle.rtui_drawing.specs.Cuts.{cut_from}
use Rattle.rtui_drawing.specs.declared.cut.Cut.TheVariants.{First, After, Rows, Below}
use Rattle.widget_big_text.specs.declared.big_text.BigText.{BigText}
use Rattle.widget_big_text.specs.declared.pixel_size.PixelSize.{PixelSize}
use Rattle.widget_big_text.specs.declared.pixel_size.PixelSize.TheVariants.{Full, HalfHeight, HalfWidth, Quadrant}
use Rattle.widget_big_text.specs.Glyphs.{glyph_of, letter_columns, letter_rows}
use Rattle.widget_big_text.specs.BigTexts.{big_letter_cell, cell_of_letter, letters_of, line_start, cell_of_line, lines_cell}
use Rattle.widget_big_text.specs.Inner.{letters_over, line_over}
use Rattle.widget_big_text.proofs.ChangeLemmas.{Changes-as, Changes-kept, Changes-beside, Changes-below, Changes-after}

-- a letter has columns and rows
some-columns : (size : PixelSize) → 0 < letter_columns size
some-columns Full = omega arith
some-columns HalfHeight = omega arith
some-columns HalfWidth = omega arith
some-columns Quadrant = omega arith

some-rows : (size : PixelSize) → 0 < letter_rows size
some-rows Full = omega arith
some-rows HalfHeight = omega arith
some-rows HalfWidth = omega arith
some-rows Quadrant = omega arith

-- of things one after the other, n places each, the first has the first n places, and the others those after it
module _ {A B : Type 0} (f : Option A → ℕ → B) (n : ℕ) (x : A) (xs : List A) where
  at-first : (k : ℕ) → k < n → f (slice_get (x ∷ xs) (k / n)) (k % n) ≡ f (Some x) k
  at-first k lt = rw (div-eq_of_lt lt, mod-eq_of_lt lt) refl

  at-others : (k : ℕ) → 0 < n → f (slice_get (x ∷ xs) ((k + n) / n)) ((k + n) % n) ≡ f (slice_get xs (k / n)) (k % n)
  at-others k some = let next : k / n + 1 ≡ suc (k / n) = omega arith in
      rw (add-div_right k some, add-mod_right k n, next) refl

-- a letter, and those after it
pub letters-next : (size : PixelSize) (g : GraphemeData) (gs : List GraphemeData) (r : Rect) (old mid new : BufferData)
    → let n = letter_columns size in let first = cut_from (First n) r in let rest = cut_from (After n) r in
    ChangesEach first (big_letter_cell size (glyph_of g.symbol) g.style first) old mid
    → ChangesEach rest (letters_over size gs rest) mid new → ChangesEach r (letters_over size (g ∷ gs) r) old new
letters-next size g gs r old mid new one others =
    let n = letter_columns size in
    let first = cut_from (First n) r in
    let rest = cut_from (After n) r in
    Changes-beside n r (letters_over size (g ∷ gs) r) old mid new
    (Changes-as first (big_letter_cell size (glyph_of g.symbol) g.style first) (letters_over size (g ∷ gs) r) old mid (λ p c here.
    let l = here.left in let e = here.right in
    sym (at-first (λ o x. cell_of_letter size o x (p.y - r.y) c) n g gs (p.x - r.x) (omega arith))) one)
    (Changes-as rest (letters_over size gs rest) (letters_over size (g ∷ gs) r) mid new (λ p c here.
    let l = here.left in let e = here.right in
    let at : p.x - r.x ≡ (p.x - rest.x) + n = omega arith in
    rw at (sym (at-others (λ o x. cell_of_letter size o x (p.y - r.y) c) n g gs (p.x - rest.x) (some-columns size)))) others)

-- the same, where the parts and the number of columns have names
pub letters-step : (size : PixelSize) (g : GraphemeData) (gs : List GraphemeData) (n : ℕ) (r first rest : Rect)
    (old mid new : BufferData) → n ≡ letter_columns size → first ≡ cut_from (First n) r → rest ≡ cut_from (After n) r
    → ChangesEach first (big_letter_cell size (glyph_of g.symbol) g.style first) old mid
    → ChangesEach rest (letters_over size gs rest) mid new → ChangesEach r (letters_over size (g ∷ gs) r) old new
letters-step size g gs n r first rest old mid new columns one two drawn others =
    letters-next size g gs r old mid new (rw (one, columns) at drawn) (rw (two, columns) at others)

-- no letters
pub letters-end : (size : PixelSize) (r : Rect) (s : BufferData) → ChangesEach r (letters_over size [] r) s s
letters-end size r s = Changes-kept r (letters_over size [] r) s (λ p c here. refl)

-- the letters of a line, from where they begin
pub line-placed : (t : BigText) (line : LineData) (r : Rect) (old new : BufferData)
    → let rest = cut_from (After (line_start t line r.width)) r in
    ChangesEach rest (letters_over t.pixel_size (letters_of t line) rest) old new → ChangesEach r (line_over t line r) old new
line-placed t line r old new is =
    let start = line_start t line r.width in
    let rest = cut_from (After start) r in
    let f = letters_over t.pixel_size (letters_of t line) rest in
    Changes-after start r (line_over t line r) old new (λ p c here.
    let l = here.left in let e = here.right in
    let test : nat_lt (p.x - r.x) start ≡ true = (let lt : p.x - r.x < start = omega arith in grind (arith, nat_tests)) in
    rw test refl)
    (Changes-as rest f (line_over t line r) old new (λ p c here.
    let l = here.left in let e = here.right in
    let ge : start ≤ p.x - r.x = omega arith in
    let test : nat_lt (p.x - r.x) start ≡ false = grind (arith, nat_tests) in
    let at : p.x - rest.x ≡ p.x - r.x - start = omega arith in
    rw (test, at) refl) is)

pub line-at : (t : BigText) (line : LineData) (n : ℕ) (r rest : Rect) (old new : BufferData) → n ≡ line_start t line r.width
    → rest ≡ cut_from (After n) r → ChangesEach rest (letters_over t.pixel_size (letters_of t line) rest) old new
    → ChangesEach r (line_over t line r) old new
line-at t line n r rest old new start at is = line-placed t line r old new (rw (at, start) at is)

-- a line, and those below it
pub lines-next : (t : BigText) (line : LineData) (lines : List LineData) (r : Rect) (old mid new : BufferData)
    → let n = letter_rows t.pixel_size in let first = cut_from (Rows 0 n) r in let rest = cut_from (Below n) r in
    ChangesEach first (line_over t line first) old mid → ChangesEach rest (lines_cell t lines rest) mid new
    → ChangesEach r (lines_cell t (line ∷ lines) r) old new
lines-next t line lines r old mid new one others =
    let n = letter_rows t.pixel_size in
    let first = cut_from (Rows 0 n) r in
    let rest = cut_from (Below n) r in
    Changes-below n r (lines_cell t (line ∷ lines) r) old mid new
    (Changes-as first (line_over t line first) (lines_cell t (line ∷ lines) r) old mid (λ p c here.
    let l = here.top in let e = here.bottom in
    let at : p.y - first.y ≡ p.y - r.y = omega arith in
    rw at (sym (at-first (λ o y. cell_of_line t o r.width (p.x - r.x) y c) n line lines (p.y - r.y) (omega arith)))) one)
    (Changes-as rest (lines_cell t lines rest) (lines_cell t (line ∷ lines) r) mid new (λ p c here.
    let l = here.top in let e = here.bottom in
    let at : p.y - r.y ≡ (p.y - rest.y) + n = omega arith in
    rw at (sym (at-others (λ o y. cell_of_line t o r.width (p.x - r.x) y c) n line lines (p.y - rest.y)
    (some-rows t.pixel_size)))) others)

pub lines-step : (t : BigText) (k n : ℕ) (line : LineData) (r first rest : Rect) (old mid new : BufferData)
    → k < length t.lines.items → line ≡ get_or t.lines.items k line → n ≡ letter_rows t.pixel_size
    → first ≡ cut_from (Rows 0 n) r → rest ≡ cut_from (Below n) r → ChangesEach first (line_over t line first) old mid
    → ChangesEach rest (lines_cell t (drop (k + 1) t.lines.items) rest) mid new
    → ChangesEach r (lines_cell t (drop k t.lines.items) r) old new
lines-step t k n line r first rest old mid new lt is rows one two drawn others =
    let lines = drop_more t.lines.items k line lt ∙ ap (λ l. l ∷ drop (k + 1) t.lines.items) (sym is) in
    rw lines (lines-next t line (drop (k + 1) t.lines.items) r old mid new (rw (one, rows) at drawn)
    (rw (two, rows) at others))

-- no lines
pub lines-end : (t : BigText) (r : Rect) (s : BufferData) → ChangesEach r (lines_cell t [] r) s s
lines-end t r s = Changes-kept r (lines_cell t [] r) s (λ p c here. refl)
