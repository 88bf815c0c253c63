-- Columns that move, whatever the motion.
use Rattle.std.proofs.Common.{◌≡◌, ℕ, zero, suc, ◌+◌, ◌-◌, ◌<◌, nat_eq, if◌then◌else◌, Bool, true, false, refl, sym, ap, ◌∙◌}
use Rattle.std.proofs.Common.{arith, subst}
use Rattle.std.proofs.lemmas.Bool.Decides.{nat_tests}
use Rattle.ratatui_core.specs.Buffer.{empty_look}
use Rattle.ratatui_core.specs.Backend.{Motion, moved_by, is_in_region, scrolling_up, scrolling_down}
use Rattle.ansi_model.specs.Columns.{Column, Columns, Area, blank_column, is_known_column, is_met, overwritten}
use Rattle.ansi_model.specs.Beginnings.{AreKnown}
use Rattle.ansi_model.specs.{Columns.Column.Shows, Columns.Column.Unknown, Emulator.columns_moved}
use Rattle.ansi_model.specs.Screens.{HasOwnWidth, HaveOwnWidths, IsWhole, IsWholeAt, IsBlankBeyond, IsTidy}
use Rattle.ansi_model.proofs.{TextLemmas.blank-sized, PutLemmas.none_between}

module _ {A : Type 0} (m : Motion) (nothing : A) (was : ℕ → ℕ → A) (x y : ℕ) where
  -- what holds of all that may come to a place holds of what does
  pub moved-holds : (Holds : A → Type 0) → Holds nothing → ((b : ℕ) → Holds (was x b)) → Holds (moved_by m nothing was x y)
  moved-holds Holds none all = either (m.part x y) (m.has_source y)
    where
      either : (p q : Bool) → Holds (if p then (if q then was x (m.source y) else nothing) else was x y)
      either true true = all (m.source y)
      either true false = none
      either false q = all y

  -- where each place of the part is its own source nothing moves
  pub moved-still : (m.part x y ≡ true → (m.has_source y ≡ true) × (m.source y ≡ y)) → was x y ≡ moved_by m nothing was x y
  moved-still own = elim (m.part x y) as (λ p. m.part x y ≡ p
      → was x y ≡ (if p then (if m.has_source y then was x (m.source y) else nothing) else was x y))
      [ true ↦ λ e. rw ((own e).0, (own e).1) refl | false ↦ λ e. refl ] refl

-- ---- tidy columns stay tidy

pub moved-sized : (m : Motion) (c : Columns) → HaveOwnWidths c → HaveOwnWidths (columns_moved m c)
moved-sized m c sized a b = moved-holds m blank_column c a b HasOwnWidth blank-sized (sized a)

pub moved-known : (m : Motion) (c : Columns) → AreKnown c → AreKnown (columns_moved m c)
moved-known m c known a b = moved-holds m blank_column c a b (λ d. is_known_column d ≡ true) refl (known a)

pub moved-beyond : (w : ℕ) (m : Motion) (c : Columns) → IsBlankBeyond w c → IsBlankBeyond w (columns_moved m c)
moved-beyond w m c beyond a b out = moved-holds m blank_column c a b (λ d. d ≡ blank_column) refl (λ r. beyond a r out)

pub blank-whole : (a : ℕ) → IsWholeAt (λ k. blank_column) a blank_column
blank-whole a = (omega arith, omega arith, λ j below. let e : 0 ≡ j = omega arith in ap (λ i. Shows empty_look i 1) e)

parts_along : (f g : ℕ → Column) (a : ℕ) → ((k : ℕ) → f k ≡ g k) → (c : Column) → IsWholeAt f a c → IsWholeAt g a c
parts_along f g a e (Shows look index count) whole = (whole.0, whole.1, λ j below. sym (e ((a - index) + j)) ∙ whole.2 j below)
parts_along f g a e Unknown whole = tt

whole_along : (f g : ℕ → Column) (a : ℕ) → ((k : ℕ) → f k ≡ g k) → IsWholeAt f a (f a) → IsWholeAt g a (g a)
whole_along f g a e whole = subst (IsWholeAt g a) (e a) (parts_along f g a e (f a) whole)

-- whole rows move
abbrev pub IsOfRows : Motion → Type 0
IsOfRows m = (k a b : ℕ) → m.part k b ≡ m.part a b

moved-whole : (m : Motion) (c : Columns) → IsOfRows m → IsWhole c → IsWhole (columns_moved m c)
moved-whole m c rows whole a b = whole_along (by (m.part a b) (m.has_source b)) (λ k. columns_moved m c k b) a
    (λ k. ap (λ p. by p (m.has_source b) k) (rows a k b)) (either (m.part a b) (m.has_source b))
  where
    by : Bool → Bool → ℕ → Column
    by p q k = if p then (if q then c k (m.source b) else blank_column) else c k b

    either : (p q : Bool) → IsWholeAt (by p q) a (by p q a)
    either true true = whole a (m.source b)
    either true false = blank-whole a
    either false q = whole a b

pub moved-tidy : (w : ℕ) (m : Motion) (c : Columns) → IsOfRows m → IsTidy w c → IsTidy w (columns_moved m c)
moved-tidy w m c rows tidy = record {
  sized = moved-sized m c tidy.sized;
  whole = moved-whole m c rows tidy.whole;
  beyond = moved-beyond w m c tidy.beyond;
}

-- columns that are the same are as tidy
pub tidy-along : (w : ℕ) (c d : Columns) → ((a b : ℕ) → d a b ≡ c a b) → IsTidy w c → IsTidy w d
tidy-along w c d same tidy = record {
  sized = λ a b. subst HasOwnWidth (sym (same a b)) (tidy.sized a b);
  whole = λ a b. whole_along (λ k. c k b) (λ k. d k b) a (λ k. sym (same k b)) (tidy.whole a b);
  beyond = λ a b out. same a b ∙ tidy.beyond a b out;
}

-- ---- one row emptied

-- no symbol of a row is met by an area that has nothing of the row
pub not_met : (area : Area) (a b : ℕ) (c : Column) → ((k : ℕ) → area k b ≡ false) → is_met area a b c ≡ false
not_met area a b (Shows look index count) e = none_between (λ k. area k b) (a - index) count (λ k low high. e k)
not_met area a b Unknown e = refl

-- a region of one row to which nothing comes is emptied
pub row-emptied : (m : Motion) (r : ℕ) (c : Columns) (a b : ℕ) → m.part a b ≡ is_in_region r (r + 1) b → m.has_source r ≡ false
    → overwritten (λ k j. nat_eq j r) (λ i j. blank_column) c a b ≡ columns_moved m c a b
row-emptied m r c a b part none =
    elim (nat_eq b r) as (λ v. nat_eq b r ≡ v
    → (if v then blank_column else (if is_met (λ k j. nat_eq j r) a b (c a b) then Unknown else c a b)) ≡ columns_moved m c a
    b) [
      | true ↦ λ e. let here : is_in_region r (r + 1) b ≡ true = grind (arith, nat_tests) in
          let row : b ≡ r = grind (arith, nat_tests) in let gone : m.has_source b ≡ false = ap m.has_source row ∙ none in
          rw (part, here, gone) refl
      | false ↦ λ e. let here : is_in_region r (r + 1) b ≡ false = grind (arith, nat_tests) in
          rw (part, here, not_met (λ k j. nat_eq j r) a b (c a b) (λ k. e)) refl
    ] refl

-- ---- regions of which no row moves

pub up-still : (from to n : ℕ) {A : Type 0} (nothing : A) (was : ℕ → ℕ → A) (x y : ℕ) → (from < to → n ≡ 0)
    → was x y ≡ moved_by (scrolling_up from to n) nothing was x y
up-still from to n nothing was x y none = moved-still (scrolling_up from to n) nothing was x y
    (λ e. let z : n ≡ 0 = none (grind (arith, nat_tests)) in (grind (arith, nat_tests), omega arith))

pub down-still : (from to n : ℕ) {A : Type 0} (nothing : A) (was : ℕ → ℕ → A) (x y : ℕ) → (from < to → n ≡ 0)
    → was x y ≡ moved_by (scrolling_down from to n) nothing was x y
down-still from to n nothing was x y none = moved-still (scrolling_down from to n) nothing was x y
    (λ e. let z : n ≡ 0 = none (grind (arith, nat_tests)) in (grind (arith, nat_tests), omega arith))

-- ---- rows that move up again and again

pub up-again : (to n : ℕ) (c : Columns) (a b : ℕ)
    → columns_moved (scrolling_up 0 to n) (columns_moved (scrolling_up 0 to 1) c) a b ≡ columns_moved
    (scrolling_up 0 to (suc n)) c a b
up-again to n c a b =
    let e : b + n + 1 ≡ b + suc n = omega arith in
    rw (← e) (grind (arith, nat_tests))

pub up-and-down : (c : Columns) (a b : ℕ)
    → columns_moved (scrolling_down 0 2 1) (columns_moved (scrolling_up 0 2 1) c) a b ≡ columns_moved (scrolling_up 0 1 1) c a b
up-and-down c a zero = refl
up-and-down c a (suc zero) = refl
up-and-down c a (suc (suc b)) = grind (arith, nat_tests)
