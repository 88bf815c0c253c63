-- Parts of a screen that are erased, and cut no symbol.
use Rattle.std.proofs.Common.{◌≡◌, ℕ, ◌+◌, ◌-◌, ◌<◌, ◌≤◌, nat_lt, if◌then◌else◌, Bool, List, true, false, refl, sym, ap, ◌∙◌}
use Rattle.std.proofs.Common.{arith, inl, inr}
use Rattle.std.proofs.lemmas.{Bool.cases_lt, Bool.Decides.nat_tests}
use Rattle.ratatui_core.specs.Buffer.{Look, empty_look}
use Rattle.ratatui_core.specs.Backend.{ClearType, All, AfterCursor, BeforeCursor, CurrentLine, UntilNewLine, is_cleared, Motion}
use Rattle.ratatui_core.specs.Backend.{clearing}
use Rattle.ansi_model.specs.Columns.{Column, Columns, Area, is_continuation, is_met, blank_column, overwritten}
use Rattle.ansi_model.specs.{Columns.Column.Shows, Columns.Column.Unknown, Emulator.columns_moved, Flags.AreContinuations}
use Rattle.ansi_model.specs.{Flags.is_cut}
use Rattle.ansi_model.specs.Screens.{IsTidy, IsWhole, IsWholeAt, IsBlankBeyond}
use Rattle.ansi_model.proofs.{MotionLemmas.moved-sized, MotionLemmas.moved-beyond, PutLemmas.none_between}
use Rattle.ansi_model.proofs.{PutLemmas.later-continues}

-- a symbol that begins left of a column that isn't after ends there, and one that has a column right of such an end begins after
-- it
ends-before : (row : ℕ → Column) (x a i m k : ℕ) (look : Look) → IsWholeAt row a (Shows look i m)
    → is_continuation (row x) ≡ false → a < x → k < (a - i) + m → k < x
ends-before row x a i m k look whole not left high = elim (cases_lt k x) [
  | inl done ↦ done
  | inr past ↦
      let index : i < m = whole.0 in
      let first : i ≤ a = whole.1 in
      let there : (a - i) + (x - (a - i)) ≡ x = omega arith in
      absurd (later-continues look (x - (a - i)) m (row x) (ap row (sym there) ∙ whole.2 (x - (a - i)) (omega arith))
      (omega arith) not)
]

begins-after : (row : ℕ → Column) (x a i m k : ℕ) (look : Look) → IsWholeAt row a (Shows look i m)
    → is_continuation (row (x + 1)) ≡ false → x < a → a - i ≤ k → x < k
begins-after row x a i m k look whole not right low = elim (cases_lt x k) [
  | inl done ↦ done
  | inr past ↦
      let index : i < m = whole.0 in
      let first : i ≤ a = whole.1 in
      let there : (a - i) + (x + 1 - (a - i)) ≡ x + 1 = omega arith in
      absurd (later-continues look (x + 1 - (a - i)) m (row (x + 1)) (ap row (sym there) ∙ whole.2 (x + 1 - (a - i))
      (omega arith)) (omega arith) not)
]

-- what isn't in an area has no column of its symbol there
abbrev pub IsApart : Area → Columns → Type 0
IsApart area c = (a b i m k : ℕ) (look : Look) → IsWholeAt (λ j. c j b) a (Shows look i m) → area a b ≡ false → a - i ≤ k
    → k < (a - i) + m → area k b ≡ false

-- whether a symbol is cut at the end of a part
abbrev cuts : ClearType → ℕ → ℕ → Columns → Bool
cuts All x y c = false
cuts AfterCursor x y c = is_continuation (c x y)
cuts BeforeCursor x y c = is_continuation (c (x + 1) y)
cuts CurrentLine x y c = false
cuts UntilNewLine x y c = is_continuation (c x y)

part-apart : (part : ClearType) (x y : ℕ) (c : Columns) → cuts part x y c ≡ false → IsApart (is_cleared part x y) c
part-apart All x y c uncut a b i m k look whole out low high = out
part-apart AfterCursor x y c uncut a b i m k look whole out low high = elim (cases_lt b y) [
  | inl above ↦ grind (arith, nat_tests)
  | inr other ↦
      let row : b ≡ y = grind (arith, nat_tests) in
      let left : a < x = grind (arith, nat_tests) in
      let e : k < x = ends-before (λ j. c j b) x a i m k look whole (ap (λ r. is_continuation (c x r)) row ∙ uncut) left high in
      grind (arith, nat_tests)
]
part-apart BeforeCursor x y c uncut a b i m k look whole out low high = elim (cases_lt y b) [
  | inl below ↦ grind (arith, nat_tests)
  | inr other ↦
      let row : b ≡ y = grind (arith, nat_tests) in
      let right : x < a = grind (arith, nat_tests) in
      let e : x < k = begins-after (λ j. c j b) x a i m k look whole (ap (λ r. is_continuation (c (x + 1) r)) row
      ∙ uncut) right low in
      grind (arith, nat_tests)
]
part-apart CurrentLine x y c uncut a b i m k look whole out low high = out
part-apart UntilNewLine x y c uncut a b i m k look whole out low high = elim (cases_lt b y) [
  | inl above ↦ grind (arith, nat_tests)
  | inr other ↦ elim (cases_lt y b) [
    | inl below ↦ grind (arith, nat_tests)
    | inr here ↦
        let row : b ≡ y = omega arith in
        let left : a < x = grind (arith, nat_tests) in
        let e : k < x = ends-before (λ j. c j b) x a i m k look whole (ap (λ r. is_continuation (c x r)) row ∙ uncut) left high in
        grind (arith, nat_tests)
  ]
]

module _ (area : Area) (c : Columns) (apart : IsApart area c) where
  not_met : (a b : ℕ) (d : Column) → IsWholeAt (λ j. c j b) a d → area a b ≡ false → is_met area a b d ≡ false
  not_met a b Unknown whole out = refl
  not_met a b (Shows look i m) whole out = none_between (λ k. area k b)
      (a - i) m (λ k low high. apart a b i m k look whole out low high)

  area-erased : IsWhole c → (a b : ℕ) → overwritten area (λ i j. blank_column) c a b ≡ (if area a b then blank_column else c a b)
  area-erased whole a b = elim (area a b) as (λ p. area a b ≡ p
      → (if p then blank_column else (if is_met area a b (c a b) then Unknown else c a b)) ≡ (if p then blank_column else c a b))
      [ true ↦ λ e. refl | false ↦ λ e. rw (not_met a b (c a b) (whole a b) e) refl ] refl

  whole-outside : (a b : ℕ) (d : Column) → area a b ≡ false → IsWholeAt (λ k. c k b) a d
      → IsWholeAt (λ k. if area k b then blank_column else c k b) a d
  whole-outside a b Unknown e at_a = tt
  whole-outside a b (Shows look i m) e at_a = (
    at_a.0,
    at_a.1,
    λ j below. rw (apart a b i m ((a - i) + j) look at_a e (omega arith) (omega arith)) (at_a.2 j below),
  )

  area-whole : IsWhole c → IsWhole (λ a b. if area a b then blank_column else c a b)
  area-whole whole a b = elim (area a b) as (λ p. area a b ≡ p → IsWholeAt (λ k. if area k b then blank_column else c k b) a
      (if p then blank_column else c a b)) [
        | true ↦ λ e. blank-there a b e
        | false ↦ λ e. whole-outside a b (c a b) e (whole a b)
      ] refl
    where
      blank-there : (a b : ℕ) → area a b ≡ true → IsWholeAt (λ k. if area k b then blank_column else c k b) a blank_column
      blank-there a b e = (
        omega arith,
        omega arith,
        λ j below.
            let z : 0 ≡ j = omega arith in
            let there : (a - 0) + j ≡ a = omega arith in
            rw (there, e) (ap (λ i. Shows empty_look i 1) z),
      )

-- the flags tell whether a part cuts
flags-tell : (part : ClearType) (w h x y : ℕ) (flags : List Bool) (c : Columns) → x < w → y < h → IsBlankBeyond w c
    → AreContinuations w h flags c → is_cut part w x y flags ≡ false → cuts part x y c ≡ false
flags-tell All w h x y flags c x_in y_in beyond continuations uncut = refl
flags-tell AfterCursor w h x y flags c x_in y_in beyond continuations uncut = sym (continuations.each x y x_in y_in) ∙ uncut
flags-tell BeforeCursor w h x y flags c x_in y_in beyond continuations uncut = elim (cases_lt (x + 1) w) [
  | inl inside ↦
      let test : nat_lt (x + 1) w ≡ true = grind (arith, nat_tests) in
      sym (continuations.each (x + 1) y inside y_in) ∙ (rw test at uncut)
  | inr past ↦ ap is_continuation (beyond (x + 1) y past)
]
flags-tell CurrentLine w h x y flags c x_in y_in beyond continuations uncut = refl
flags-tell UntilNewLine w h x y flags c x_in y_in beyond continuations uncut = sym (continuations.each x y x_in y_in) ∙ uncut

-- the motion that empties a part
abbrev pub erasing : ClearType → ℕ → ℕ → Motion
erasing part x y = clearing (is_cleared part x y)

module _ (part : ClearType) (w h x y : ℕ) (flags : List Bool) (c : Columns) (x_in : x < w) (y_in : y < h)
    (beyond : IsBlankBeyond w c) (continuations : AreContinuations w h flags c) (uncut : is_cut part w x y flags ≡ false) where
  apart : IsApart (is_cleared part x y) c
  apart = part-apart part x y c (flags-tell part w h x y flags c x_in y_in beyond continuations uncut)

  pub part-erased : IsWhole c → (a b : ℕ) → overwritten (is_cleared part x y) (λ i j. blank_column) c a b ≡ columns_moved
      (erasing part x y) c a b
  part-erased whole = area-erased (is_cleared part x y) c apart whole

  -- and what is left is tidy
  pub part-tidy : IsTidy w c → IsTidy w (columns_moved (erasing part x y) c)
  part-tidy tidy = record {
    sized = moved-sized (erasing part x y) c tidy.sized;
    whole = area-whole (is_cleared part x y) c apart tidy.whole;
    beyond = moved-beyond w (erasing part x y) c tidy.beyond;
  }
