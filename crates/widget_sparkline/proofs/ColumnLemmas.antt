-- Changes of the columns of an area, and styles under symbols.
use Rattle.std.proofs.Common.{◌≡◌, ℕ, ◌-◌, ◌<◌, List, [], ◌∷◌, length, refl, sym, ap, ◌∙◌, arith}
use Rattle.std.proofs.Common.{Option, Some, None, slice_get, Result, Ok, Err, true, false, Bool, min, zero, suc, ◌||◌, not, is_some}
use Rattle.std.specs.declared.alloc.AllocError.{AllocError}
use Rattle.std.specs.List.{list_any}
use Rattle.ratatui_core.specs.Layout.{Rect, Position, HasPosition}
use Rattle.ratatui_core.specs.Style.{Style, patch, new_style}
use Rattle.ratatui_core.specs.Buffer.{BufferData, Cell, cell_in, ChangesEach, IsStyled, styled, with_symbol}
use Rattle.rtui_drawing.specs.{Cuts.cut_from, Drawings.IsDone, Drawings.put_change}
use Rattle.widget_sparkline.specs.declared.{sparkline.Sparkline.Sparkline, sparkline.SparklineBar.SparklineBar}
use Rattle.widget_sparkline.specs.declared.sparkline.RenderDirection.{RenderDirection}
use Rattle.widget_sparkline.specs.declared.sparkline.RenderDirection.TheVariants.{LeftToRight, RightToLeft}
use Rattle.widget_sparkline.specs.Levels.{eighths_of_value, level_mark}
use Rattle.widget_sparkline.specs.Sparklines.{number_of_column, bars_cut, bars_width, style_of_bar}
use Rattle.widget_sparkline.specs.Inner.{column_of, style_over, bar_style_at, bar_mark, has_own_style}

-- the first columns of an area, up to one
abbrev pub before : Rect → ℕ → Rect
before r x = record r { width = x - r.x }

-- the same change, said in another way at the positions of the area
pub changes-by : (r : Rect) (f g : Position → Cell → Cell) (old new : BufferData)
    → ((p : Position) → HasPosition r p → (c : Cell) → f p c ≡ g p c) → ChangesEach r f old new → ChangesEach r g old new
changes-by r f g old new by is = record {
  area = is.area;
  room = is.room;
  inside = λ p in_own here. is.inside p in_own here ∙ by p here (cell_in old p);
  outside = is.outside;
}

pub done-by : {A : Type 0} (result : Result A AllocError) (r : Rect) (f g : Position → Cell → Cell) (P Q : Type 0)
    (old new : BufferData) → ((p : Position) → HasPosition r p → (c : Cell) → f p c ≡ g p c) → (Q → P)
    → IsDone (put_change f (λ _ _. P)) r result old new → IsDone (put_change g (λ _ _. Q)) r result old new
done-by (Ok x) r f g P Q old new by lighter done = record { ok = changes-by r f g old new by done.ok; err = tt }
done-by (Err e) r f g P Q old new by lighter done = record {
  ok = tt;
  err = record {
    within = done.err.within;
    left = tt;
    long = λ all. done.err.long (λ p c. lighter (all p c));
  };
}

-- one change over another one
pub done-over : {A : Type 0} (result : Result A AllocError) (r : Rect) (f g h : Position → Cell → Cell) (P : Type 0)
    (old mid new : BufferData) → ((p : Position) (c : Cell) → g p (f p c) ≡ h p c) → ChangesEach r f old mid
    → IsDone (put_change g (λ _ _. P)) r result mid new → IsDone (put_change h (λ _ _. P)) r result old new
done-over (Ok x) r f g h P old mid new by first done =
    let second = done.ok in
    record {
      ok = record {
        area = second.area ∙ first.area;
        room = second.room ∙ first.room;
        inside = λ p in_own here. second.inside p (rw first.area in_own) here ∙ ap (g p) (first.inside p in_own here)
            ∙ by p (cell_in old p);
        outside = λ p in_own off. second.outside p (rw first.area in_own) off ∙ first.outside p in_own off;
      };
      err = tt;
    }
done-over (Err e) r f g h P old mid new by first done =
    let second = done.err.within in
    record {
      ok = tt;
      err = record {
        within = record {
          same_area = second.same_area ∙ first.area;
          same_room = second.same_room ∙ first.room;
          outside = λ p in_own off. second.outside p (rw first.area in_own) off ∙ first.outside p in_own off;
        };
        left = tt;
        long = done.err.long;
      };
    }

pub changes-styled : (r : Rect) (style : Style) (old new : BufferData) → IsStyled r style old new
    → ChangesEach r (λ _. styled style) old new
changes-styled r style old new is = record { area = is.area; room = is.room; inside = is.inside; outside = is.outside }

-- ---- the bars of a sparkline

module _ (s : Sparkline) (r : Rect) (x : ℕ) where
  -- what a value's symbols, or those of an absent one, are to its bar
  pub value-marks : (greatest : ℕ) (bar : SparklineBar) (v e : ℕ) (column : Rect) → bar.value ≡ Some v → column ≡ column_of r x
      → e ≡ eighths_of_value v greatest column.height → (p : Position) (c : Cell)
      → level_mark s.bar_set column e p c ≡ bar_mark s greatest r bar p c
  value-marks greatest bar v e column is at high p c = rw (is, high, at) refl

  pub absent-marks : (greatest : ℕ) (bar : SparklineBar) → bar.value ≡ None → (p : Position) (c : Cell)
      → with_symbol s.absent_value_symbol.now c ≡ bar_mark s greatest r bar p c
  absent-marks greatest bar is p c = rw is refl

-- without styles of their own the bars have the sparkline's; each column of their part has one
bar-there : (bars : List SparklineBar) (n : ℕ) → n < length bars → list_any has_own_style bars ≡ false
    → (bar : SparklineBar) × (slice_get bars n ≡ Some bar) × (has_own_style bar ≡ false)
bar-there [] n lt none = absurd (omega arith)
bar-there (bar ∷ bars) zero lt none = (bar, refl, first-plain (has_own_style bar) (list_any has_own_style bars) none)
  where
    first-plain : (a b : Bool) → (a || b) ≡ false → a ≡ false
    first-plain true b e = e
    first-plain false b e = refl
bar-there (bar ∷ bars) (suc n) lt none = bar-there bars n (omega arith) (others-plain (has_own_style bar) (list_any has_own_style bars) none)
  where
    others-plain : (a b : Bool) → (a || b) ≡ false → b ≡ false
    others-plain true b e = absurd (cc)
    others-plain false b e = e

number-there : (d : RenderDirection) (count : ℕ) (r : Rect) (p : Position)
    → HasPosition (cut_from (bars_cut d (min count r.width)) r) p → number_of_column d r p.x < count
number-there LeftToRight count r p here = let l = here.left in let e = here.right in omega arith
number-there RightToLeft count r p here = let l = here.left in let e = here.right in omega arith

plain-style : (s : Sparkline) (bar : SparklineBar) (c : Cell) → patch s.style new_style ≡ s.style → has_own_style bar ≡ false
    → styled s.style c ≡ style_over s (Some bar) c
plain-style s bar c same plain = by bar.value bar.style plain
  where
    by : (value : Option ℕ) (style : Option Style)
        → (not (is_some value) || is_some style) ≡ false → styled s.style c ≡ styled (patch s.style (style_of_bar s value style)) c
    by None style e = absurd (cc)
    by (Some v) None e = ap (λ q. styled q c) (sym same)
    by (Some v) (Some q) e = absurd (cc)

pub styled-at-once : (s : Sparkline) (r : Rect) (old new : BufferData) → patch s.style new_style ≡ s.style
    → list_any has_own_style s.bars.items ≡ false
    → IsStyled (cut_from (bars_cut s.direction (bars_width s r)) r) s.style old new
    → ChangesEach (cut_from (bars_cut s.direction (bars_width s r)) r) (bar_style_at s r) old new
styled-at-once s r old new same plain done =
    let area = cut_from (bars_cut s.direction (bars_width s r)) r in
    changes-by area (λ _. styled s.style) (bar_style_at s r) old new
    (λ p here c.
    let there = bar-there s.bars.items (number_of_column s.direction r p.x)
    (number-there s.direction (length s.bars.items) r p here) plain in
    plain-style s there.0 c same there.2 ∙ sym (ap (λ b. style_over s b c) there.1))
    (changes-styled area s.style old new done)
